-- The datagrams that a tape records.
use Rattle.std.proofs.Common.{◌≡◌, ℕ, ◌-◌, ◌^◌, List, ◌++◌, Bool, true, false, ◌==◌, Option, Some, None, Ok, if◌then◌else◌, refl, sym, ◌∙◌, subst, arith}
use Rattle.std.proofs.lemmas.Bool.Decides.{nat_tests}
use Rattle.scoop_link.specs.Datagram.{TakesFirst}
use Rattle.scoop_link.specs.Link.{Datagrams, Told, Exchanged, Exchanges, taken_by}
use Rattle.scoop_link.proofs.Exchanges.{exchanges-untold}

told_then : (silent still : Bool) (was now : Told) (taken : List (List ℕ)) (gone : Datagrams) → (silent ≡ true → still ≡ true) → Exchanged was now taken gone
    → Exchanges (if silent then None else Some was) (if still then None else Some now) taken gone
told_then silent true was now taken gone keeps lists = exchanges-untold _ taken gone
told_then true false was now taken gone keeps lists = absurd (let e = keeps refl in cc)
told_then false false was now taken gone keeps lists = record {
  telling = λ t is.
      let same : now ≡ t = cc in
      let P : Told → Type 0 = λ x. Exchanged was x taken gone in
      (was, refl, subst P same lists);
}

-- A tape records until its count of faults is full, and then no more.
pub tape_exchanges : (faults after : ℕ) (was now : Told) (taken : List (List ℕ)) (gone : Datagrams)
    → (faults ≡ 2 ^ 64 - 1 → after ≡ 2 ^ 64 - 1) → Exchanged was now taken gone
    → Exchanges (if faults == 2 ^ 64 - 1 then None else Some was) (if after == 2 ^ 64 - 1 then None else Some now) taken gone
tape_exchanges faults after was now taken gone keeps lists =
    told_then (faults == 2 ^ 64 - 1) (after == 2 ^ 64 - 1) was now taken gone (λ e. grind (arith, nat_tests)) lists

-- the datagrams taken first stood before those that are left
pub taken_by-first : (got : Option ℕ) (old new : List (List ℕ)) (before after : List ℕ) → TakesFirst got old new before after
    → old ≡ taken_by (Ok got) after ++ new
taken_by-first None old new before after (was, is, same) = was ∙ sym is
taken_by-first (Some n) old new before after (fits, was, others) = was
