use Rattle.std.proofs.Common.{sym, ap, ◌∙◌, subst}
use Rattle.scoop_queue.specs.Queue.{opened}
use Rattle.scoop_queue.specs.Sound.{IsQueues}
use Rattle.scoop_handler.specs.declared.mark.Mark.{Mark}
use Rattle.scoop_handler.specs.Hearing.{with_queue}
use Rattle.scoop_handler.specs.Marks.{set_mark}
use Rattle.scoop_handler.specs.State.{HandlerState, IsState, state_of}
use Rattle.scoop_handler.proofs.Taking.{written-marks}
use Rattle.scoop_handler.proofs.States.{opening_fits}
use Rattle.scoop_handler.proofs.state.HandlerState.open.Goals as goal

pub open_in-requires : goal.open_in-requires
open_in-requires g c =
    opening_fits c.args.block c.self.inside.queues (subst (λ (x : HandlerState). IsQueues (opened c.args.block x.queues)) (sym c.self.view_is) c.requires.state.queues)

pub invariant_of-self-2 : goal.invariant_of-self-2
invariant_of-self-2 g c =
    let h = c.self.inside in
    let was : HandlerState = state_of h.number h.holder h.marks.items h.queues h.words in
    let given : IsState (with_queue was c.args.block c.args.mark) =
    subst (λ (x : HandlerState). IsState (with_queue x c.args.block c.args.mark)) (sym c.self.view_is) c.requires.state in
    let marks = written-marks h.marks.len c.opened.result h.marks.items c.deref_mut.result.now c.set_mark_in.new.marks
    c.deref_mut.ensures.len c.deref_mut.ensures.value c.set_mark_in.ensures ∙ ap (λ (k : Mark). set_mark k h.marks.items) c.opened.ensures in
    rw (marks, c.in_ok-open_in.ensures.ok) given
