-- The first place of a message that was sent is one at which it was sent.
use Rattle.scoop_weave.proofs.Names.{◌≡◌, ℕ, zero, suc, ◌+◌, ◌<◌, false, true≢false, List, [], ◌∷◌, length, slice_get, Some, refl, sym, ap, ◌∙◌, arith}
use Rattle.scoop_weave.proofs.Names.{if◌then◌else◌, Contains, Decides-eqb, Message, message_decides, World, sent_at, by_test, place_in}
use Rattle.std.proofs.Common.{get_or}
use Rattle.scoop_message.specs.contracts.message.MessagePartialEq.TheImpl as on_message

record IsAt (xs : List Message) (m : Message) (p : ℕ) : Type 0 where
  place : ℕ
  next : p ≡ suc place
  found : slice_get xs place ≡ Some m

later : (x : Message) (xs : List Message) (m : Message) (p : ℕ) → IsAt xs m p → IsAt (x ∷ xs) m (p + 1)
later x xs m p at = record { place = suc at.place; next = (let e = at.next in omega arith); found = at.found }

in_rest : (x : Message) (xs : List Message) (m : Message) (k : ℕ) → k < length (x ∷ xs) → get_or (x ∷ xs) k m ≡ m → on_message.eq-value.it x m ≡ false
    → Contains xs m
in_rest x xs m zero within is other = absurd (true≢false (sym ((message_decides x m).1 is) ∙ other))
in_rest x xs m (suc k) within is other = (k, omega arith, is)

none_in : (m : Message) (k : ℕ) → k < length {A = Message} [] → ⊥
none_in m k within = omega arith

placed : (xs : List Message) (m : Message) → Contains xs m → IsAt xs m (place_in xs m)
placed [] m c = absurd (none_in m c.0 c.1)
placed (x ∷ xs) m c =
    by_test (λ t. IsAt (x ∷ xs) m (if t then 1 else place_in xs m + 1)) (on_message.eq-value.it x m)
    (λ here. record { place = 0; next = refl; found = ap Some ((message_decides x m).0 here) })
    (λ other. later x xs m (place_in xs m) (placed xs m (in_rest x xs m c.0 c.1 c.2 other)))

not_zero : (k : ℕ) → suc k ≡ 0 → ⊥
not_zero k e = omega arith

at_place : (w : World) (k : ℕ) → sent_at (suc k) w ≡ slice_get w.sent k
at_place w k = grind (arith, slice_get, not_zero, Decides-eqb)

pub sent_there : (w : World) (m : Message) → Contains w.sent m → sent_at (place_in w.sent m) w ≡ Some m
sent_there w m c =
    let p = placed w.sent m c in
    ap (λ i. sent_at i w) p.next ∙ at_place w p.place ∙ p.found
