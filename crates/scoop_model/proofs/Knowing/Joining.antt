-- The handlers that each client of a world knows, by the clients that join. No client joins twice, so each knows its own. All of
-- them are placed.
use Rattle.scoop_model.proofs.Names.{◌≡◌, ℕ, suc, List, [], ◌∷◌, map, Some, ap, sym, true, true≢false, refl, slice_get, if◌then◌else◌, AllByRecursion, NoRepeats, arith}
use Rattle.scoop_model.proofs.Names.{ClientId, HandlerId, same_client, client_decides, by_test, has, KnowsPlaced, Newcomer}
use Rattle.scoop_model.proofs.Knowing.Facts.{Known}

-- none, if no such client joins
abbrev pub known_by : List Newcomer → Known
known_by [] c = []
known_by (n ∷ ns) c = if same_client n.id c then n.handlers else known_by ns c

abbrev ids : List Newcomer → List ClientId
ids ns = map (λ (n : Newcomer). n.id) ns

rest_once : (n : Newcomer) (ns : List Newcomer) → NoRepeats (ids (n ∷ ns)) → NoRepeats (ids ns)
rest_once n ns once i j x e f = let same : suc i ≡ suc j = once (suc i) (suc j) x e f in omega (arith, same)

none_later : (n : Newcomer) (ns : List Newcomer) → NoRepeats (ids (n ∷ ns)) → (j : ℕ) → slice_get (ids ns) j ≡ Some n.id → ⊥
none_later n ns once j e = let same : 0 ≡ suc j = once 0 (suc j) n.id refl e in omega (arith, same)

-- one more client that joins first, and is none of the others
still_known : (n : Newcomer) (all ns : List Newcomer) → ((j : ℕ) → slice_get (ids ns) j ≡ Some n.id → ⊥)
    → AllByRecursion (λ (m : Newcomer). known_by all m.id ≡ m.handlers) ns → AllByRecursion (λ (m : Newcomer). known_by (n ∷ all) m.id ≡ m.handlers) ns
still_known n all [] none own = tt
still_known n all (m ∷ ms) none own = (
  by_test (λ t. (if t then n.handlers else known_by all m.id) ≡ m.handlers) (same_client n.id m.id)
      (λ is. absurd (none 0 (ap Some (sym ((client_decides n.id m.id).0 is)))))
      (λ is. own.0),
  still_known n all ms (λ j e. none (suc j) e) own.1,
)

pub each_knows : (ns : List Newcomer) → NoRepeats (ids ns) → AllByRecursion (λ (n : Newcomer). known_by ns n.id ≡ n.handlers) ns
each_knows [] once = tt
each_knows (n ∷ ns) once = (
  ap (λ t. if t then n.handlers else known_by ns n.id) ((client_decides n.id n.id).1 refl),
  still_known n ns ns (none_later n ns once) (each_knows ns (rest_once n ns once)),
)

pub known_placed : (placed : List HandlerId) (ns : List Newcomer) → AllByRecursion (KnowsPlaced placed) ns → (c : ClientId) (h : HandlerId)
    → has (known_by ns c) h ≡ true → has placed h ≡ true
known_placed placed [] all c h e = absurd (true≢false (sym e))
known_placed placed (n ∷ ns) all c h e =
    by_test (λ t. has (if t then n.handlers else known_by ns c) h ≡ true → has placed h ≡ true) (same_client n.id c)
    (λ is f. all.0.among h f)
    (λ is f. known_placed placed ns all.1 c h f) e
