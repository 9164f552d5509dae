use Rattle.std.proofs.Common.{get_or, set, arith, ap, sym, ◌∙◌, refl}
use Rattle.std.specs.Option.{option_copied}
use Rattle.scoop_object.specs.Effect.{word_after}
use Rattle.scoop_object.proofs.SoFar.{so_far_none, so_far_more, so_far_same, so_far_all}
use Rattle.scoop_object.proofs.effect.words_after.Goals as goal
use Rattle.scoop_object.proofs.effect.words_after.Goals.{in-Some, in_default}

pub loop-i-init : goal.loop-i-init
loop-i-init c = so_far_none _ c.args.words.now c.args.words.now refl

pub loop-i-preserved : goal.loop-i-preserved
loop-i-preserved c =
    let words = c.args.words.now in
    let old = get_or words c.loop-i.i 0 in
    so_far_more _ words c.loop-i.new c.match-write_of.new c.loop-i.i (omega arith) c.loop-i.invariant
    (elim c.match-write_of.branch [
      | in-Some w ↦
          w.new-is ∙ w.set.ensures ∙ ap (set c.loop-i.new c.loop-i.i)
          (w.written_value-value.ensures ∙ sym (ap (λ o. word_after words c.args.args.now o old) (sym c.write_of.ensures ∙ ap option_copied w.in-Some.is)))
      | in_default w ↦
          so_far_same _ words c.loop-i.new c.match-write_of.new c.loop-i.i c.loop-i.invariant
          (ap (λ o. word_after words c.args.args.now o old) (sym c.write_of.ensures ∙ ap option_copied w.in_default.is))
          w.new-is
    ])

pub returns : goal.returns
returns c = so_far_all _ c.args.words.now c.loop-i.new c.loop-i.i (omega arith) c.loop-i.invariant
