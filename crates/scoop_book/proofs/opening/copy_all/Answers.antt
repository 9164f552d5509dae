use Rattle.std.proofs.Common.{◌++◌, ◌∷◌, [], take, sym, ap, ◌∙◌}
use Rattle.std.proofs.lemmas.List.{take_more}
use Rattle.scoop_book.proofs.opening.copy_all.Goals as goal

pub loop-opening-preserved : goal.loop-opening-preserved
loop-opening-preserved g c =
    let i = c.loop-opening.opening-index in
    let os = c.args.openings.now in
    c.in_ok-push.ensures.items
    ∙ ap (λ xs. xs ++ c.in_ok-copy.copy ∷ []) c.loop-opening.invariant
    ∙ ap (λ x. take i os ++ x ∷ []) (c.in_ok-copy.ensures ∙ c.opening-item.is)
    ∙ sym (take_more os i c.opening-item.result c.loop-opening-test.true)
