use Rattle.std.proofs.Common.{◌==◌, find, ap, sym, ◌∙◌}
use Rattle.std.specs.Option.{option_copied}
use Rattle.scoop_object.specs.declared.row.OpRow.{OpRow}
use Rattle.scoop_object.specs.Effect.{effect_of_row}
use Rattle.scoop_object.proofs.effect.effect.Goals as goal

pub returns-in-Some : goal.returns-in-Some
returns-in-Some g c =
    c.row_effect.ensures ∙ sym (ap (λ row. effect_of_row row c.args.words.now c.args.request.now.args)
    (ap (find (λ (row : OpRow). row.op == c.args.request.now.op)) (sym c.rows.ensures.value) ∙ sym c.row_of.ensures ∙ ap option_copied c.in-Some.is))
