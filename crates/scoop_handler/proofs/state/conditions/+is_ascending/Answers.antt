use Rattle.std.proofs.Common.{refl}
use Rattle.scoop_handler.proofs.MarkLists.{IsAscending-single}
use Rattle.scoop_handler.proofs.state.conditions.+is_ascending.Goals as goal

pub returns-in-len1 : goal.returns-in-len1
returns-in-len1 t c = ((λ e. IsAscending-single c.args.marks.now c.in-len1.len_below), (λ up. refl))
