use Rattle.std.proofs.Common.{take}
use Rattle.scoop_system.proofs.NameLemmas.{printable-utf8}
use Rattle.scoop_system.proofs.name.Name.as_str.Goals as goal

pub unreachable-requires : goal.unreachable-requires
unreachable-requires c = c.in-Err.ensures.cases.0 (printable-utf8 (take c.self.inside.count c.self.inside.cells) c.self.invariant.0)
