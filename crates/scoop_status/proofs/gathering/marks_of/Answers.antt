use Rattle.std.proofs.Common.{◌++◌, ◌∷◌, [], map, take, sym, ap, ◌∙◌}
use Rattle.scoop_status.specs.Shown.{mark_view}
use Rattle.scoop_status.proofs.OnePart.{mapped_more}
use Rattle.scoop_status.proofs.gathering.marks_of.Goals as goal

pub loop-place-preserved : goal.loop-place-preserved
loop-place-preserved c =
    let i = c.loop-place.place in
    let marks = c.args.state.now.marks in
    c.in-Ok.ensures.items
    ∙ ap (λ vs. vs ++ c.mark_of.result ∷ []) c.loop-place.invariant
    ∙ ap (λ v. map mark_view (take i marks) ++ v ∷ []) c.mark_of.ensures
    ∙ sym (mapped_more mark_view marks i c.in-Some.mark (sym c.in-Some.ensures))
