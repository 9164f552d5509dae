use Rattle.std.proofs.Common.{sym, ◌∙◌}
use Rattle.scoop_message.specs.Message.{same_client}
use Rattle.scoop_handler.specs.declared.mark.Mark.{Mark}
use Rattle.scoop_calm.proofs.Firsts.{found_here, not_here}
use Rattle.scoop_calm.proofs.asking.mark_of.Goals as goal

pub returns-then-eq : goal.returns-then-eq
returns-then-eq g c =
    sym (found_here (λ (k : Mark). same_client k.client c.args.client) c.args.state.now.marks c.loop-place.place c.in-Some.mark
    (sym c.in-Some.ensures) c.loop-place.invariant (sym c.eq.ensures ∙ c.if-eq.true))

pub loop-place-preserved : goal.loop-place-preserved
loop-place-preserved g c =
    not_here (λ (k : Mark). same_client k.client c.args.client) c.args.state.now.marks c.loop-place.place c.in-Some.mark
    (sym c.in-Some.ensures) c.loop-place.invariant (sym c.eq.ensures ∙ c.if-eq.false)
