use Rattle.std.proofs.Common.{sym, ap, ◌∙◌}
use Rattle.std.proofs.lemmas.Option.{same_Some}
use Rattle.scoop_queue.specs.Kept.{queue_at}
use Rattle.scoop_queue.proofs.OneChange.{agree-within, kept-copied}
use Rattle.scoop_queue.proofs.copying.copy_at.Goals as goal

pub index-requires : goal.index-requires
index-requires g c = (agree-within c.args.place c.args.table.now.entries c.args.other.now.entries c.requires).1

pub index_mut-requires : goal.index_mut-requires
index_mut-requires g c = (agree-within c.args.place c.args.table.now.entries c.args.other.now.entries c.requires).0

pub returns-clause-ok : goal.returns-clause-ok
returns-clause-ok g c =
    kept-copied c.in_ok-pending.pending c.args.table.now.entries c.args.other.now.entries c.args.place c.requires
    (λ p at d. c.in_ok-pending.ensures d ∙ ap (queue_at d) (same_Some _ _ (sym c.index.ensures ∙ at)))
