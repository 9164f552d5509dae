use Rattle.std.proofs.Common.{ap, sym, ◌∙◌}
use Rattle.std.proofs.lemmas.Slice.Eq.{slice_eq-Decides}
use Rattle.scoop_object.specs.Class.{ClassTable}
use Rattle.scoop_object.proofs.Same.{row_decides, class_same}
use Rattle.scoop_object.proofs.class.Class.is.Goals as goal

pub returns-then-self-words : goal.returns-then-self-words
returns-then-self-words g c =
    let h = slice_eq-Decides row_decides c.as_slice.result.now c.args.rows.now c.eq.result c.eq.ensures in (
      (λ t. sym c.self.view_is ∙ class_same _ _ c.if-self-words.true (sym c.as_slice.ensures.value ∙ h.0 t)),
      (λ e. h.1 (c.as_slice.ensures.value ∙ ap (λ (t : ClassTable). t.rows) (c.self.view_is ∙ e))),
    )
