use Rattle.std.proofs.Common.{◌≡◌, true≢false, ℕ, inl, inr, refl, sym, ◌∙◌, subst}
use Rattle.std.specs.Prelude.{◌≤◌}
use Rattle.std.specs.List.{Any}
use Rattle.scoop_book.specs.Closing.{Agrees}
use Rattle.scoop_book.specs.Moves.{Entry}
use Rattle.scoop_book.specs.Passes.{PassValue}
use Rattle.scoop_book.proofs.closing.refusal.Goals as goal

pub returns-then-not-is_complete-clause-missing : goal.returns-then-not-is_complete-clause-missing
returns-then-not-is_complete-clause-missing g c = (
  (λ is complete. true≢false (sym (c.is_complete.ensures.1 complete) ∙ c.if-not-is_complete.true)),
  (λ no. refl),
)

pub returns-in-Some-clause-missing : goal.returns-in-Some-clause-missing
returns-in-Some-clause-missing g c = ((λ is. absurd (cc)), (λ no. absurd (no (c.is_complete.ensures.0 c.if-not-is_complete.false))))

pub returns-in-Some-stranger-clause-missing : goal.returns-in-Some-stranger-clause-missing
returns-in-Some-stranger-clause-missing g c = ((λ is. absurd (cc)), (λ no. absurd (no (c.is_complete.ensures.0 c.if-not-is_complete.false))))

pub returns-clause-complete : goal.returns-clause-complete
returns-clause-complete g c = c.is_complete.ensures.0 c.if-not-is_complete.false

pub returns-in-Some-clause-differs : goal.returns-in-Some-clause-differs
returns-in-Some-clause-differs g c n is =
    let same : c.in-Some.number ≡ n = cc in
    inl (subst (λ (k : ℕ). Any (λ (p : PassValue). (p.number ≡ k) × (Agrees c.args.opening.now c.args.history.now.entries p → ⊥)) c.args.passes.now) same
    c.in-Some.ensures.some)

pub returns-in-Some-stranger-clause-differs : goal.returns-in-Some-stranger-clause-differs
returns-in-Some-stranger-clause-differs g c n is =
    let same : c.in-Some-stranger.number ≡ n = cc in
    inr (subst (λ (k : ℕ). Any (λ (e : Entry). (e.0 ≡ k) × (c.args.count ≤ k)) c.args.history.now.entries) same c.in-Some-stranger.ensures.some)
