use Rattle.std.proofs.Common.{◌≡◌, sym, ap, ◌∙◌}
use Rattle.scoop_object.specs.Play.{entry_effect}
use Rattle.scoop_queue.specs.Queue.{front}
use Rattle.scoop_handler.proofs.After.{IsCore-ran, MarksGrow-after}
use Rattle.scoop_handler.proofs.Fronts.{MarksGrow-refl}
use Rattle.scoop_handler.proofs.handler.Handler.run.Goals as goal

pub returns-in_default-clause-grows : goal.returns-in_default-clause-grows
returns-in_default-clause-grows g c = rw (← c.self.view_is) (MarksGrow-refl c.self.inside.state.marks)

pub returns-in_err-block-clause-grows : goal.returns-in_err-block-clause-grows
returns-in_err-block-clause-grows g c = rw (← c.self.view_is) (MarksGrow-refl c.self.inside.state.marks)

pub invariant_of-self-2 : goal.invariant_of-self-2
invariant_of-self-2 g c =
    let before = rw c.in-Some.is at c.self.invariant in
    let first = sym (ap front c.queues.ensures) ∙ (sym c.front.ensures ∙ c.in_ok-block.was) in
    let effect : g.B.Behaviour.words c.run_entry-answer.new.object
    ≡ (entry_effect c.self.inside.class c.self.inside.state.words c.in_ok-block.entry).0 = rw (before.1.0, before.1.1) at c.run_entry-answer.ensures.words in (
      rw c.run_first.ensures (IsCore-ran _ _ _ before.0 first (c.words-words.ensures.words ∙ effect)),
      (c.run_entry-answer.ensures.class ∙ before.1.0, rw c.run_first.ensures (sym c.words-words.ensures.words)),
    )

pub returns-clause-sound : goal.returns-clause-sound
returns-clause-sound g c = (invariant_of-self-2 g c).0

pub returns-clause-grows : goal.returns-clause-grows
returns-clause-grows g c = rw (← c.self.view_is, c.run_first.ensures) (MarksGrow-after _ c.self.inside.state.marks)
