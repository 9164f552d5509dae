use Rattle.std.proofs.Common.{sym, ◌∙◌}
use Rattle.scoop_demo.proofs.HexLemmas.{fault_odd}
use Rattle.scoop_demo.proofs.datagram.fault_of.Goals as goal

pub returns-then-are_digits : goal.returns-then-are_digits
returns-then-are_digits c = fault_odd c.args.digits.now c.requires (sym c.are_digits.ensures ∙ c.if-are_digits.true)
