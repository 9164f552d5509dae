-- Advice on errors of a run over the lines of an input.
use Rattle.std.specs.Prelude.{ℕ, List, ◌++◌, codes}
use Rattle.std.specs.Fmt.{decimal}
use Rattle.scoop_message.specs.declared.limits.TheConstants.{MAX_HANDLERS, MAX_CLIENTS, MAX_ARGS, MAX_BLOCK_HANDLERS, MAX_HISTORY}
use Rattle.scoop_keeper.specs.Advice.{memory_advice, keeper_advice}
use Rattle.scoop_lines.specs.SourceText.{source_advice}
use Rattle.scoop_world.specs.declared.error.WorldOpenError.{WorldOpenError}
use Rattle.scoop_world.specs.declared.error.WorldOpenError.TheVariants as world
use Rattle.scoop_demo.specs.declared.fault.InputFault.{InputFault}
use Rattle.scoop_demo.specs.declared.fault.InputFault.TheVariants as fault
use Rattle.scoop_demo.specs.declared.fault.RunError.{RunError}
use Rattle.scoop_demo.specs.declared.fault.RunError.TheVariants.{Input, Write, OutOfMemory, Store, WrongClass, NodeFailed, HistoryFull}

-- on an error that no run returns
abbrev pub never_advice : List ℕ
never_advice = codes "this can't happen: report the command and its input to the authors"

abbrev pub open_advice : WorldOpenError → List ℕ
open_advice world.NoHandlers = codes "write a line such as handler 1 1 cell 0 before the first event: scoop world --help lists all lines"
open_advice world.TooManyHandlers = codes "a world has at most " ++ (decimal MAX_HANDLERS ++ codes " handlers: place fewer")
open_advice (world.Repeated h) = codes "give each handler its own number"
open_advice (world.WrongClass h) = never_advice
open_advice world.TooManyClients = codes "a world has at most " ++ (decimal MAX_CLIENTS ++ codes " clients: let fewer join")
open_advice (world.RepeatedClient c) = codes "give each client its own number"
open_advice world.IncarnationsSpent = codes "a client has used up its incarnations: take another number"
open_advice world.OutOfMemory = memory_advice

abbrev pub fault_advice : InputFault → List ℕ
fault_advice (fault.Source mistake) = source_advice mistake
fault_advice fault.NotHex =
    codes "write two hex digits for each byte of the datagram. Spaces are skipped; tabs and carriage returns are not. To make a datagram from words, use scoop frame, for example scoop frame Lock 1 7.1.1"
fault_advice fault.OddDigits = codes "write two hex digits for each byte of the datagram, 0a for ten"
fault_advice fault.UnknownLine = codes "scoop world --help lists all lines"
fault_advice fault.WrongNumberOfWords = codes "scoop world --help lists the words of each line, and scoop frame --help those of each message"
fault_advice fault.NotANumber =
    codes "write a decimal number: an operation below 65536; an argument, answer, word or place below 18446744073709551616; client entries 1 to 4; any other below 4294967296. Only scoop client takes operations by name; scoop frame takes no leading zeros"
fault_advice fault.NoSuchClass = codes "the classes are cell, counter, account and exchange"
fault_advice fault.TooLateForParty = codes "handlers and clients come before the first event: move the line up"
fault_advice (fault.CannotOpen error) = open_advice error
fault_advice fault.TooManyArguments = codes "a request has at most " ++ (decimal MAX_ARGS ++ codes " arguments: give fewer")
fault_advice fault.TooManyHandlers = codes "a block has at most " ++ (decimal MAX_BLOCK_HANDLERS ++ codes " handlers: reserve fewer")
fault_advice fault.NoSuchKind = codes "scoop frame --help lists the kinds of messages and entries"
fault_advice fault.Refused = codes "the last line of the output says why; without --strict a refused event is no fault"

abbrev pub run_advice : RunError → List ℕ
run_advice (Input line mistake) = fault_advice mistake
run_advice Write = codes "check that the output has room and its reader still runs"
run_advice OutOfMemory = memory_advice
run_advice (Store refusal) = keeper_advice refusal
run_advice (WrongClass handler) = codes "give --class the class that the store was made with"
run_advice NodeFailed = codes "an earlier state could not be stored: check that the disk has room, and resume with --store, which has all that was answered"
run_advice HistoryFull =
    codes "a run has at most " ++ (decimal MAX_HISTORY ++ codes " entries: with a store, start another run with --store, and repeat the lines without an answer")

-- for a run over a store, which can go on with it
abbrev pub store_run_advice : RunError → List ℕ
store_run_advice Write =
    codes "check that the output has room and its reader still runs; resume with --store, and repeat the lines without an answer"
store_run_advice error = run_advice error
