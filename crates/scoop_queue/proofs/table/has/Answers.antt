use Rattle.std.proofs.Common.{◌∙◌}
use Rattle.scoop_queue.specs.Kept.{queues_kept}
use Rattle.scoop_queue.proofs.Kept.{has-place}
use Rattle.scoop_queue.proofs.table.has.Goals as goal

pub returns : goal.returns
returns g c =
    c.is_some.ensures ∙ has-place c.args.block (queues_kept c.args.table.now.entries) c.place_of.result c.place_of.ensures.place
