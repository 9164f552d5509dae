use Rattle.std.proofs.Common.{sym, ap, ◌∙◌, subst}
use Rattle.scoop_message.specs.declared.name.Block.{Block}
use Rattle.scoop_queue.specs.Queue.{cut}
use Rattle.scoop_handler.specs.declared.mark.Mark.{Mark}
use Rattle.scoop_handler.specs.Hearing.{holder_without, with_incarnation}
use Rattle.scoop_handler.specs.Marks.{set_mark}
use Rattle.scoop_handler.specs.State.{HandlerState, IsState, state_of}
use Rattle.scoop_handler.proofs.Taking.{written-marks}
use Rattle.scoop_handler.proofs.state.HandlerState.renew.Goals as goal

pub invariant_of-self : goal.invariant_of-self
invariant_of-self g c =
    let h = c.self.inside in
    let was : HandlerState = state_of h.number h.holder h.marks.items h.queues h.words in
    let given : IsState (with_incarnation was c.args.client c.args.inc c.args.mark) =
    subst (λ (x : HandlerState). IsState (with_incarnation x c.args.client c.args.inc c.args.mark)) (sym c.self.view_is) c.requires.state in
    let marks = written-marks h.marks.len c.greeting.result h.marks.items c.deref_mut.result.now c.set_mark_in.new.marks
    c.deref_mut.ensures.len c.deref_mut.ensures.value c.set_mark_in.ensures ∙ ap (λ (k : Mark). set_mark k h.marks.items) c.greeting.ensures in
    let queues = c.cut.ensures.cut ∙ ap (λ (b : Block). cut b h.queues) c.block.ensures in
    let holder = c.holder_without-holder.ensures ∙ ap (λ (x : HandlerState). holder_without c.args.client x.holder) (sym c.self.view_is) in
    rw (marks, queues, holder) given
