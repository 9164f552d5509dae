-- The texts of faults.
use Rattle.std.specs.Prelude.{ℕ, List, codes}
use Rattle.scoop_journal.specs.declared.fault.LineFault.{LineFault}
use Rattle.scoop_journal.specs.declared.fault.LineFault.TheVariants.{UnknownLine, UnknownVersion, WordCount, NotANumber, NotHex, NoFrame, TooMany}

abbrev pub fault_text : LineFault → List ℕ
fault_text UnknownLine = codes "no line of a journal"
fault_text UnknownVersion = codes "a journal of another version"
fault_text WordCount = codes "too few or too many words"
fault_text NotANumber = codes "not a number"
fault_text NotHex = codes "not hex"
fault_text NoFrame = codes "not a frame"
fault_text TooMany = codes "too many handlers or arguments"
