use Rattle.std.proofs.Common.{◌≡◌, length, Some, sym, ap, ◌∙◌, subst}
use Rattle.std.specs.Prelude.{is_none}
use Rattle.scoop_handler.specs.Core.{Core, IsCore, core_of}
use Rattle.scoop_handler.specs.Running.{finished, job_out}
use Rattle.scoop_handler.proofs.After.{IsCore-finished, MarksGrow-after, job-class, job-first, words-after}
use Rattle.scoop_handler.proofs.handler.Handler.take_back.Goals as goal

abbrev old : (g : _) → goal.After-words g → Core
old g c = core_of c.self.inside.class c.self.inside.state (is_none c.self.inside.object)

out : (g : _) (c : goal.After-words g) → job_out (old g c) ≡ Some c.args.done
out g c = subst (λ (x : Core). job_out x ≡ Some c.args.done) (sym c.self.view_is) c.requires

pub run_first-requires-clause-words : goal.run_first-requires-clause-words
run_first-requires-clause-words g c = ap length c.words.ensures ∙ words-after (old g c) c.args.done (job-first (old g c) c.args.done (out g c))

pub invariant_of-self : goal.invariant_of-self
invariant_of-self g c =
    let was : Core = core_of c.self.inside.class c.self.inside.state (is_none c.self.inside.object) in
    let is : job_out was ≡ Some c.args.done = subst (λ (x : Core). job_out x ≡ Some c.args.done) (sym c.self.view_is) c.requires in
    let sound : IsCore (finished c.args.done was) = IsCore-finished was c.args.done (job-first was c.args.done is) c.self.invariant.0 in (
      rw (c.run_first.ensures, c.ran-ran.ensures, c.words.ensures) sound,
      (c.into_object.ensures.class ∙ job-class was c.args.done is, rw (c.run_first.ensures, c.words.ensures) c.into_object.ensures.words),
    )

pub returns-clause-sound : goal.returns-clause-sound
returns-clause-sound g c = (invariant_of-self g c).0

pub returns-clause-grows : goal.returns-clause-grows
returns-clause-grows g c = rw (← c.self.view_is, c.run_first.ensures) (MarksGrow-after _ c.self.inside.state.marks)
