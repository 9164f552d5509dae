use Rattle.std.proofs.Common.{subst, sym}
use Rattle.scoop_handler.specs.State.{HandlerState, IsState, state_of}
use Rattle.scoop_handler.specs.Running.{after_ran}
use Rattle.scoop_handler.proofs.After.{IsState-after_ran}
use Rattle.scoop_handler.proofs.state.HandlerState.run_first.Goals as goal

pub invariant_of-self : goal.invariant_of-self
invariant_of-self g c =
    let h = c.self.inside in
    let was : HandlerState = state_of h.number h.holder h.marks.items h.queues h.words in
    let given : IsState (after_ran c.args.ran.now c.args.words c.args.self.now) = IsState-after_ran c.args.ran.now c.args.words c.args.self.now
    c.requires.first c.requires.words (subst IsState c.self.view_is c.self.invariant) in
    let sound : IsState (after_ran c.args.ran.now c.args.words was) =
    subst (λ (s : HandlerState). IsState (after_ran c.args.ran.now c.args.words s)) (sym c.self.view_is) given in
    rw (c.keep_answer_in.ensures, c.advance.ensures.left) sound
