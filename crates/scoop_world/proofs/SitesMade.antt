-- Facts of the handlers so far, as they are placed and as their states are stored one by one.
use Rattle.std.proofs.Common.{◌≡◌, ℕ, zero, suc, ◌+◌, ◌<◌, List, [], ◌∷◌, ◌++◌, map, length, take, get_or, slice_get, Option, Some, None, refl, sym, ap, ◌∙◌}
use Rattle.std.proofs.Common.{subst, arith, append-nil}
use Rattle.std.specs.List.{AllByRecursion}
use Rattle.std.proofs.lemmas.Option.{slice_get-map}
use Rattle.std.proofs.lemmas.List.{take_more}
use Rattle.scoop_message.specs.declared.name.HandlerId.{HandlerId}
use Rattle.scoop_keeper.specs.Keeper.{stored_of, Holds, Keeps}
use Rattle.scoop_keeper.specs.Memory.{Has, MemoryRecord, state_at}
use Rattle.scoop_model.specs.World.{Site, number_of}
use Rattle.scoop_model.specs.Step.{Placement, new_site}
use Rattle.scoop_message.specs.Lists.{NoRepeats}
use Rattle.scoop_world.specs.Kept.{HasState}
use Rattle.scoop_world.proofs.KeptPlaces.{holds_is}
use Rattle.scoop_keeper.proofs.Keyed.{item_at}
use Rattle.scoop_model.proofs.Order.Facts.{all_at}

-- ---- the states that are stored one by one

-- a new handler has its own state
pub new_own : (ps : List Placement) → AllByRecursion (λ s. s.stored.number ≡ number_of s) (map new_site ps)
new_own [] = tt
new_own (p ∷ ps) = (refl, new_own ps)

-- another handler's state stays
other_stays : (k l : MemoryRecord) (x s : Site) → ((number_of x).0 ≡ s.stored.number.0 → ⊥) → Keeps (Has k) (Has l) s.stored → HasState k x → HasState l x
other_stays k l x s off stores has =
    let n : ℕ = (number_of x).0 in
    record { state = holds_is (state_at l n) x.stored ((stores.others n off (Holds x.stored)).0 (ap stored_of has.state)) }

-- the states of the handlers before it stay, and its own is there
more_states :
    (k l : MemoryRecord) (sites : List Site) (i : ℕ) (s : Site) → slice_get sites i ≡ Some s → NoRepeats (map number_of sites) → s.stored.number ≡ number_of s
    → Keeps (Has k) (Has l) s.stored → AllByRecursion (HasState k) (take i sites)
    → AllByRecursion (HasState l) (take i sites ++ s ∷ [])
more_states k l [] i s at apart own stores all = absurd (cc)
more_states k l (x ∷ xs) zero s at apart own stores all =
    (record { state = ap (λ (h : HandlerId). state_at l h.0) (sym own) ∙ holds_is (state_at l s.stored.number.0) s.stored stores.there }, tt)
more_states k l (x ∷ xs) (suc i) s at apart own stores all =
    let named : slice_get (map number_of xs) i ≡ Some (number_of s) =
    slice_get-map number_of xs i ∙ ap (λ o. elim o as (λ _. Option HandlerId) [ None ↦ None | Some y ↦ Some (number_of y) ]) at in
    let off : (number_of x).0 ≡ s.stored.number.0 → ⊥ = λ e.
    let same : number_of x ≡ number_of s = ap (λ (n : ℕ). record { 0 = n }) (e ∙ ap (λ (h : HandlerId). h.0) own) in
    let zs = apart zero (suc i) (number_of s) (ap Some same) named in omega (arith, zs) in (
      other_stays k l x s off stores all.0,
      more_states k l xs i s at (λ a b y p q. let ss = apart (suc a) (suc b) y p q in omega (arith, ss)) own stores all.1,
    )

-- the next handler's state is stored
pub states_more :
    (k l : MemoryRecord) (sites : List Site) (i : ℕ) (s : Site) → i < length sites → s ≡ get_or sites i s → NoRepeats (map number_of sites)
    → AllByRecursion (λ x. x.stored.number ≡ number_of x) sites → Keeps (Has k) (Has l) s.stored
    → AllByRecursion (HasState k) (take i sites) → AllByRecursion (HasState l) (take (i + 1) sites)
states_more k l sites i s within is apart own stores all =
    let at = item_at sites i s within is in
    let more : take (i + 1) sites ≡ take i sites ++ s ∷ [] = take_more sites i s within ∙ ap (λ (y : Site). take i sites ++ y ∷ []) (sym is) in
    subst (AllByRecursion (HasState l)) (sym more) (more_states k l sites i s at apart
    (all_at (λ (x : Site). x.stored.number ≡ number_of x) sites i s at own) stores all)
