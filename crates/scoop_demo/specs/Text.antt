-- The printed text of an error, and the exit status of the program.
use Rattle.std.specs.Prelude.{ℕ, List, ◌++◌, codes}
use Rattle.std.specs.Fmt.{decimal}
use Rattle.scoop_keeper.specs.Text.{error_text as keeper_text}
use Rattle.scoop_lines.specs.SourceText.{source_text}
use Rattle.scoop_demo.specs.declared.fault.InputFault.{InputFault}
use Rattle.scoop_demo.specs.declared.fault.InputFault.TheVariants.{Source, NotHex, OddDigits}
use Rattle.scoop_demo.specs.declared.fault.InputFault.TheVariants.{UnknownLine, WrongNumberOfWords, NotANumber, NoSuchClass, TooLateForParty, CannotOpen}
use Rattle.scoop_demo.specs.declared.fault.InputFault.TheVariants.{TooManyArguments, TooManyHandlers, NoSuchKind, Refused}
use Rattle.scoop_demo.specs.OpenErrorText.{open_error_name}
use Rattle.scoop_demo.specs.declared.fault.RunError.{RunError}
use Rattle.scoop_demo.specs.declared.fault.RunError.TheVariants.{Input, Write, OutOfMemory, Store, WrongClass, NodeFailed, HistoryFull}

abbrev pub fault_text : InputFault → List ℕ
fault_text (Source fault) = source_text fault
fault_text NotHex = codes "not hex"
fault_text OddDigits = codes "odd digits"
fault_text UnknownLine = codes "unknown line"
fault_text WrongNumberOfWords = codes "wrong number of words"
fault_text NotANumber = codes "not a number"
fault_text NoSuchClass = codes "no such class"
fault_text TooLateForParty = codes "too late for a party"
fault_text (CannotOpen error) = codes "cannot open the world: " ++ open_error_name error
fault_text TooManyArguments = codes "too many arguments"
fault_text TooManyHandlers = codes "too many handlers"
fault_text NoSuchKind = codes "no such kind"
fault_text Refused = codes "refused"

abbrev pub error_text : RunError → List ℕ
error_text (Input line fault) = codes "line " ++ decimal line ++ codes ": " ++ fault_text fault
error_text Write = codes "write fault"
error_text OutOfMemory = codes "out of memory"
error_text (Store why) = codes "store: " ++ keeper_text why
error_text (WrongClass handler) = codes "store: WrongClass " ++ decimal handler.0
error_text NodeFailed = codes "store: NodeFailed"
error_text HistoryFull = codes "store: HistoryFull"

-- 1 for a fault of the input, 3 if output, memory or the store failed
abbrev pub status_of : RunError → ℕ
status_of (Input _ _) = 1
status_of Write = 3
status_of OutOfMemory = 3
status_of (Store _) = 3
status_of (WrongClass _) = 3
status_of NodeFailed = 3
status_of HistoryFull = 3
