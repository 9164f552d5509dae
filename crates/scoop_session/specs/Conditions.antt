-- The conditions of a line, as a driver asks them, and the queries of a body.
use Rattle.std.specs.Prelude.{Bool, true, false}
use Rattle.scoop_driver.specs.declared.condition.BodyEntry.{BodyEntry}
use Rattle.scoop_driver.specs.declared.condition.BodyEntry.TheVariants.{Call, Query}
use Rattle.scoop_driver.specs.declared.condition.ConditionPart.{ConditionPart}
use Rattle.scoop_driver.specs.declared.condition.Test.{Test}
use Rattle.scoop_driver.specs.declared.condition.Test.TheVariants.{Least, Most, Is}
use Rattle.scoop_system.specs.declared.condition.NamedCondition.{NamedCondition}
use Rattle.scoop_system.specs.declared.condition.Test.{Test as NamedTest}
use Rattle.scoop_system.specs.declared.condition.Test.TheVariants as named

abbrev pub test_of : NamedTest → Test
test_of (named.Least n) = Least n
test_of (named.Most n) = Most n
test_of (named.Is n) = Is n

abbrev pub part_of : NamedCondition → ConditionPart
part_of x = record { handler = x.asked; request = x.request; test = test_of x.test }

abbrev pub is_query : BodyEntry → Bool
is_query (Call h r) = false
is_query (Query h r) = true
