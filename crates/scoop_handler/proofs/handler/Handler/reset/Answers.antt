use Rattle.std.proofs.Common.{Bool, refl, sym, ap, ◌∙◌, subst}
use Rattle.std.specs.Prelude.{is_none}
use Rattle.scoop_handler.specs.Core.{Core, IsCore, core_of, with_state}
use Rattle.scoop_handler.specs.State.{HandlerState, IsState}
use Rattle.scoop_handler.specs.Running.{MayReset}
use Rattle.scoop_handler.proofs.Taking.{IsCore-reset}
use Rattle.scoop_handler.proofs.handler.Handler.reset.Goals as goal
use Rattle.scoop_handler.proofs.handler.Handler.reset.Goals.{in-Some, in_default}

pub invariant_of-self : goal.invariant_of-self
invariant_of-self g c =
    let old : Core = core_of c.self.inside.class c.self.inside.state (is_none c.self.inside.object) in
    let may : MayReset c.args.state old = subst (MayReset c.args.state) (sym c.self.view_is) (c.if-not-may_reset.ensures.may.0 refl) in
    let sound : IsCore (with_state c.args.state old) =
    IsCore-reset old c.args.state c.self.invariant.0 (subst IsState c.state.view_is c.state.invariant) may in
    elim c.match-self.branch [
      | in-Some w ↦
          let here = rw w.in-Some.is at c.self.invariant.1 in
          rw w.self-inside-is (
            subst (λ (out : Bool). IsCore (core_of old.class c.args.state out)) (ap is_none w.in-Some.is) sound,
            (w.set_words.ensures.class ∙ here.0, w.set_words.ensures.words ∙ ap (λ (s : HandlerState). s.words) c.state.view_is),
          )
      | in_default w ↦
          rw w.self-inside-is (sound, rw w.in_default.is tt)
    ]

pub returns-clause-sound : goal.returns-clause-sound
returns-clause-sound g c = (invariant_of-self g c).0
