use Rattle.std.proofs.Common.{◌≡◌, false, MatchOption, subst}
use Rattle.scoop_message.specs.declared.name.Block.{Block}
use Rattle.scoop_queue.specs.Queue.{has_queue}
use Rattle.scoop_queue.specs.Kept.{queues_kept, IsPlaceOf}
use Rattle.scoop_queue.proofs.Kept.{place-found}
use Rattle.scoop_queue.proofs.table.place_of.Goals as goal

pub returns-clause-place : goal.returns-clause-place
returns-clause-place g c =
    let es = c.args.table.now.entries in
    let P : Block → Type 0 = λ b. MatchOption c.get_index_of.result (has_queue b (queues_kept es) ≡ false) (IsPlaceOf b (queues_kept es)) in
    subst P c.of.ensures (place-found c.of.result es c.get_index_of.result c.get_index_of.ensures.index)
