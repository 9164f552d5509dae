-- Why a line of a party isn't read.
use Rattle.std.specs.Prelude.{⊤}
use Rattle.scoop_demo.specs.declared.fault.InputFault.{InputFault}
use Rattle.scoop_demo.specs.declared.script.party.LineError.{LineError}
use Rattle.scoop_demo.specs.declared.script.party.LineError.TheVariants.{Fault, OutOfMemory}

-- if it is a fault, this holds of it
abbrev pub IfFault : LineError → (InputFault → Type 0) → Type 0
IfFault (Fault fault) P = P fault
IfFault OutOfMemory P = ⊤
