use Rattle.std.proofs.Common.{◌++◌, ◌∷◌, [], take, get_or, sym, ap, ◌∙◌, arith}
use Rattle.std.proofs.lemmas.List.{take_more}
use Rattle.scoop_book.proofs.opening.first_difference.Goals as goal

pub loop-i-preserved : goal.loop-i-preserved
loop-i-preserved g c =
    let i = c.loop-i.i in
    let x = c.index-left-i.result in
    let y = c.index-right-i.result in
    take_more c.args.left.now i x (omega (arith, c.loop-i-test.true))
    ∙ ap (λ a. take i c.args.left.now ++ a ∷ []) (sym c.index-left-i.is ∙ c.same.ensures.0 c.if-not-same.false ∙ c.index-right-i.is)
    ∙ ap (λ zs. zs ++ get_or c.args.right.now i y ∷ []) c.loop-i.invariant
    ∙ sym (take_more c.args.right.now i y (omega (arith, c.loop-i-test.true, c.if-count-right.false)))
