use Rattle.std.proofs.Common.{◌++◌, ◌∷◌, [], map, take, sym, ap, ◌∙◌}
use Rattle.scoop_status.specs.Shown.{head_view, queue_view}
use Rattle.scoop_status.proofs.OnePart.{queues_more}
use Rattle.scoop_status.proofs.gathering.queues_of.Goals as goal

pub loop-place-preserved : goal.loop-place-preserved
loop-place-preserved c =
    let i = c.loop-place.place in
    let queues = c.args.queues.now in
    c.in-Ok.ensures.items
    ∙ ap (λ vs. vs ++ c.queue_of.result ∷ []) c.loop-place.invariant
    ∙ ap (λ v. map (queue_view queues) (take i queues) ++ v ∷ []) (c.queue_of.ensures ∙ ap (head_view c.in-Some.head) c.pending_len.ensures)
    ∙ sym (queues_more queues queues i c.in-Some.head (sym c.in-Some.ensures))
