use Rattle.std.proofs.Common.{◌≡◌, false, Option, IfSome, sym, subst, ◌∙◌, add-one}
use Rattle.scoop_message.specs.Message.{same_block}
use Rattle.scoop_queue.specs.declared.state.Head.{Head}
use Rattle.scoop_handler.proofs.QueuePlaces.{none-next, has_open-next}
use Rattle.scoop_handler.proofs.state.conditions.has_open.Goals.{in-Some+else-eq, in_default}
use Rattle.scoop_handler.proofs.state.conditions.has_open.Goals as goal

pub returns-then-eq : goal.returns-then-eq
returns-then-eq g c =
    c.takes_more.ensures
    ∙ sym (has_open-next c.args.block c.args.queues.now c.loop-i.i c.in-Some.head c.loop-i.invariant (sym c.head.ensures ∙ c.in-Some.is)
    (sym c.eq.ensures ∙ c.if-eq.true))

pub loop-i-preserved : goal.loop-i-preserved
loop-i-preserved g c =
    rw add-one (none-next c.args.block c.args.queues.now c.loop-i.i c.loop-i.invariant
    (elim c.match-head.branch [
      | in-Some+else-eq w ↦
          subst (λ (o : Option Head). IfSome o (λ h. same_block c.args.block h.block ≡ false)) (sym w.in-Some.is ∙ c.head.ensures)
          (sym w.eq.ensures ∙ w.if-eq.false)
      | in_default w ↦ subst (λ (o : Option Head). IfSome o (λ h. same_block c.args.block h.block ≡ false)) (sym w.in_default.is ∙ c.head.ensures) tt
    ]))
