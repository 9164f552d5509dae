-- A loop that gives each word of a list its new value, place by place.
use Rattle.std.proofs.Common.{◌≡◌, ◌∙◌, ◌+◌, ◌<◌, ◌≤◌, ℕ, List, length, map, get_or, set, arith, ap, sym, inl, inr, zero-add}
use Rattle.std.specs.List.{enumerate_from}
use Rattle.std.proofs.lemmas.List.{get_or-map, get_or_default, get_or-set_same, get_or-set_other, set-get_or, same_lists, length-map, length-set}
use Rattle.std.proofs.lemmas.Bool.{cases_lt}
use Rattle.std.proofs.lemmas.List.FromFn.{length-enumerate_from, get_or-enumerate_from}

-- the words before place i have their new values, the others still the old ones
pub record SoFar (value : ℕ → ℕ → ℕ) (words new : List ℕ) (i : ℕ) : Type 0 where
  pub len : length new ≡ length words
  pub done : (k : ℕ) → k < i → get_or new k 0 ≡ value k (get_or words k 0)
  pub rest : (k : ℕ) → i ≤ k → get_or new k 0 ≡ get_or words k 0

pub so_far_none : (value : ℕ → ℕ → ℕ) (words new : List ℕ) → new ≡ words → SoFar value words new 0
so_far_none value words new e = record {
  len = ap length e;
  done = λ k h. absurd (omega arith);
  rest = λ k h. ap (λ ws. get_or ws k 0) e;
}

pub so_far_more : (value : ℕ → ℕ → ℕ) (words new next : List ℕ) (i : ℕ) → i < length words → SoFar value words new i
    → next ≡ set new i (value i (get_or words i 0)) → SoFar value words next (i + 1)
so_far_more value words new next i h so e =
    let within : i < length new = omega (arith, so.len) in
    record {
      len = ap length e ∙ length-set new i _ ∙ so.len;
      done = λ k below. ap (λ ws. get_or ws k 0) e ∙
          elim (cases_lt k i) as (λ _. get_or (set new i (value i (get_or words i 0))) k 0 ≡ value k (get_or words k 0)) [
            | inl less ↦ get_or-set_other new i k _ 0 (λ same. absurd (omega arith)) ∙ so.done k less
            | inr more ↦ let same : k ≡ i = omega arith in rw same (get_or-set_same new i _ 0 within)
          ];
      rest = λ k above. ap (λ ws. get_or ws k 0) e ∙ get_or-set_other new i k _ 0 (λ same. absurd (omega arith)) ∙ so.rest k (omega arith);
    }

-- if a word keeps its value, the words stay
pub so_far_same : (value : ℕ → ℕ → ℕ) (words new next : List ℕ) (i : ℕ) → SoFar value words new i → value i (get_or words i 0) ≡ get_or words i 0 → next ≡ new
    → next ≡ set new i (value i (get_or words i 0))
so_far_same value words new next i so e f =
    f ∙ sym (set-get_or new i 0) ∙ ap (set new i) (so.rest i (omega arith) ∙ sym e)

pub so_far_all : (value : ℕ → ℕ → ℕ) (words new : List ℕ) (n : ℕ) → length words ≤ n → SoFar value words new n
    → new ≡ map (λ (place : ℕ × ℕ). value place.0 place.1) (enumerate_from 0 words)
so_far_all value words new n h so =
    let f : ℕ × ℕ → ℕ = λ place. value place.0 place.1 in
    same_lists new (map f (enumerate_from 0 words)) (so.len ∙ sym (length-map (enumerate_from 0 words) f ∙ length-enumerate_from 0 words)) (λ k d below.
    let inside : k < length words = omega (arith, so.len) in
    let listed : k < length (enumerate_from 0 words) = rw (length-enumerate_from 0 words) inside in
    get_or_default new k d 0 below ∙ so.done k (omega arith)
    ∙ sym (get_or-map f (enumerate_from 0 words) k (0, 0) d listed ∙ ap f (get_or-enumerate_from 0 words k (0, 0) inside)
    ∙ ap (λ j. value j (get_or words k 0)) (zero-add k)))
