use Rattle.std.proofs.Common.{codes}
use Rattle.std.specs.Fmt.{decimal}
use Rattle.std.proofs.Output.{has_written_of_eq}
use Rattle.scoop_system.proofs.TextLemmas.{of_class}
use Rattle.scoop_system.proofs.error.PlaceDisplay.fmt.Goals as goal

pub returns-in-Operation-clause-writes : goal.returns-in-Operation-clause-writes
returns-in-Operation-clause-writes g c plain ok =
    rw c.in-Operation.is (has_written_of_eq _ _ _ _ _ (of_class (codes "operation ") (decimal c.in-Operation.number) c.in-Operation.class)
    (c.write-in-Operation.ensures.writes plain ok))

pub returns-in-NamelessOperation-clause-writes : goal.returns-in-NamelessOperation-clause-writes
returns-in-NamelessOperation-clause-writes g c plain ok =
    rw c.in-NamelessOperation.is
    (has_written_of_eq _ _ _ _ _ (of_class (codes "[[class.operation]] ") (decimal c.in-NamelessOperation.count) c.in-NamelessOperation.class)
    (c.write-in-NamelessOperation.ensures.writes plain ok))
