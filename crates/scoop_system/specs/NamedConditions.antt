-- The value of an unused cell of a line's conditions.
use Rattle.std.specs.Prelude.{[]}
use Rattle.scoop_system.specs.declared.condition.NamedCondition.{NamedCondition}
use Rattle.scoop_system.specs.declared.condition.Test.TheVariants.{Is}

abbrev pub blank : NamedCondition
blank = record { asked = record { 0 = 0 }; request = record { op = 0; args = [] }; test = Is 0 }
