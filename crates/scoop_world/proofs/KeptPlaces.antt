-- The place of a handler or a client among all, and the keeper once one of them changes. A write at the place is a
-- replacement by key, and the keeper's other records stay.
use Rattle.std.proofs.Common.{◌≡◌, ℕ, zero, suc, ◌<◌, List, [], ◌∷◌, map, length, get_or, set, slice_get, Option, Some, None, refl, sym, ap, ◌∙◌, subst, arith}
use Rattle.std.specs.List.{AllByRecursion}
use Rattle.std.proofs.lemmas.Bool.{eqb-false}
use Rattle.scoop_message.specs.declared.name.HandlerId.{HandlerId}
use Rattle.scoop_message.specs.declared.name.ClientId.{ClientId}
use Rattle.scoop_message.specs.Message.{same_client, same_handler}
use Rattle.scoop_message.proofs.Same.{handler_decides, client_decides}
use Rattle.scoop_handler.specs.State.{HandlerState}
use Rattle.scoop_keeper.specs.Keeper.{Holds, IsSame, Sets, Stays, stored_of}
use Rattle.scoop_keeper.specs.Memory.{Has, MemoryRecord, state_at, incarnation_at}
use Rattle.scoop_keeper.proofs.Keyed.{set_newer, all_newer, key_at, all_set_at}
use Rattle.scoop_model.specs.World.{Site, Party, number_of, id_of, set_site, set_party}
use Rattle.scoop_message.specs.Lists.{NoRepeats}
use Rattle.scoop_world.specs.Kept.{Stores, KeepsAll, HasState, HasIncarnation, HasAll}
use Rattle.scoop_model.proofs.Order.Facts.{all_at}

-- ---- the sites and the parties

-- the site in place of the one with its number, and the party in place of the one with its client
pub site_set :
    (sites : List Site) (i : ℕ) (old s : Site) → NoRepeats (map number_of sites) → slice_get sites i ≡ Some old → number_of s ≡ number_of old
    → set sites i s ≡ set_site s sites
site_set sites i old s apart at same =
    set_newer number_of same_handler handler_decides s sites i apart (key_at number_of same_handler handler_decides sites i old s at same)

pub party_set :
    (parties : List Party) (i : ℕ) (old p : Party) → NoRepeats (map id_of parties) → slice_get parties i ≡ Some old → id_of p ≡ id_of old
    → set parties i p ≡ set_party p parties
party_set parties i old p apart at same =
    set_newer id_of same_client client_decides p parties i apart (key_at id_of same_client client_decides parties i old p at same)

-- ---- the keeper's records

-- a client that keeps its number and its incarnation
pub has_party :
    (k : MemoryRecord) (sites : List Site) (parties : List Party) (i : ℕ) (old p : Party) → HasAll k sites parties → slice_get parties i ≡ Some old
    → id_of p ≡ id_of old → p.stored ≡ old.stored → HasAll k sites (set parties i p)
has_party k sites parties i old p all at same stored =
    let was = all_at (HasIncarnation k) parties i old at all.incarnations in
    record {
      states = all.states;
      incarnations = all_set_at (HasIncarnation k) parties i p all.incarnations
          (record { incarnation = ap (λ (c : ClientId). incarnation_at k c.0) same ∙ was.incarnation ∙ ap Some (sym stored) });
    }

-- a handler that keeps its number and its state
pub has_same_site :
    (k : MemoryRecord) (sites : List Site) (parties : List Party) (i : ℕ) (old s : Site) → HasAll k sites parties → slice_get sites i ≡ Some old
    → number_of s ≡ number_of old → s.stored ≡ old.stored → HasAll k (set sites i s) parties
has_same_site k sites parties i old s all at same stored =
    let was = all_at (HasState k) sites i old at all.states in
    record {
      states = all_set_at (HasState k) sites i s all.states (record { state = ap (λ (h : HandlerId). state_at k h.0) same ∙ was.state ∙ ap Some (sym stored) });
      incarnations = all.incarnations;
    }

-- a stored record is there
pub holds_is : (o : Option HandlerState) (s : HandlerState) → stored_of o ≡ Holds s → o ≡ Some s
holds_is None s e = absurd (cc)
holds_is (Some t) s e = let same : t ≡ s = cc in ap Some same

stored_is : (o q : Option HandlerState) → stored_of o ≡ stored_of q → o ≡ q
stored_is o None e = none o e
  where
    none : (r : Option HandlerState) → stored_of r ≡ stored_of None → r ≡ None
    none None f = refl
    none (Some t) f = absurd (cc)
stored_is o (Some s) e = holds_is o s e

pub incarnations_stay :
    (k l : MemoryRecord) (parties : List Party) → IsSame (incarnation_at k) (incarnation_at l) → AllByRecursion (HasIncarnation k) parties
    → AllByRecursion (HasIncarnation l) parties
incarnations_stay k l [] same all = tt
incarnations_stay k l (p ∷ ps) same all = (record { incarnation = same.each (id_of p).0 ∙ all.0.incarnation }, incarnations_stay k l ps same all.1)

states_stay : (k l : MemoryRecord) (sites : List Site) → Stays (Has k) (Has l) → AllByRecursion (HasState k) sites → AllByRecursion (HasState l) sites
states_stay k l [] same all = tt
states_stay k l (s ∷ ss) same all =
    let n : ℕ = (number_of s).0 in
    (record { state = stored_is (state_at l n) (state_at k n) ((same.each n (stored_of (state_at k n))).0 refl) ∙ all.0.state }, states_stay k l ss same all.1)

-- the states of a keeper that has the same list of them
same_states : (k l : MemoryRecord) → l.states ≡ k.states → Stays (Has k) (Has l)
same_states k l same = record {
  each = λ h v.
      let at : state_at l h ≡ state_at k h = ap (λ (xs : List (ℕ × HandlerState)). state_at (record { states = xs; incarnations = [] }) h) same in
      (λ has. ap stored_of at ∙ has, λ has. ap stored_of (sym at) ∙ has);
}

-- the incarnations of a keeper that has the same list of them
pub same_incarnations : (k l : MemoryRecord) → l.incarnations ≡ k.incarnations → IsSame (incarnation_at k) (incarnation_at l)
same_incarnations k l same = record { each = λ c. ap (λ (is : List (ℕ × ℕ)). incarnation_at (record { states = []; incarnations = is }) c) same }

-- a kept record is still there
pub has_kept : (k l : MemoryRecord) (sites : List Site) (parties : List Party) → HasAll k sites parties → KeepsAll k l → HasAll l sites parties
has_kept k l sites parties all kept =
    record { states = states_stay k l sites kept.states all.states; incarnations = incarnations_stay k l parties kept.incarnations all.incarnations }

-- a handler whose new state is stored
pub has_site :
    (k l : MemoryRecord) (sites : List Site) (parties : List Party) (i : ℕ) (old s : Site) → HasAll k sites parties → NoRepeats (map number_of sites)
    → slice_get sites i ≡ Some old → number_of s ≡ number_of old → s.stored.number ≡ number_of s → Stores k l s.stored → HasAll l (set sites i s) parties
has_site k l sites parties i old s all apart at same own stores =
    let there : state_at l s.stored.number.0 ≡ Some s.stored = holds_is (state_at l s.stored.number.0) s.stored stores.states.there in
    let new : HasState l s = record { state = ap (λ (h : HandlerId). state_at l h.0) (sym own) ∙ there } in
    record {
      states = subst (AllByRecursion (HasState l)) (sym (site_set sites i old s apart at same))
          (all_newer number_of same_handler handler_decides (HasState k) (HasState l) s sites new
          (λ x other has.
          let n : ℕ = (number_of x).0 in
          let off : n ≡ s.stored.number.0 → ⊥ = λ e. eqb-false n (number_of s).0 other (e ∙ ap (λ (h : HandlerId). h.0) own) in
          let stays = stores.states.others n off in
          record { state = stored_is (state_at l n) (state_at k n) ((stays (stored_of (state_at k n))).0 refl) ∙ has.state })
          all.states);
      incarnations = incarnations_stay k l parties stores.incarnations all.incarnations;
    }

-- a client whose new incarnation is stored
pub has_incarnation :
    (k l : MemoryRecord) (sites : List Site) (parties : List Party) (i : ℕ) (old p : Party) → HasAll k sites parties → NoRepeats (map id_of parties)
    → slice_get parties i ≡ Some old → id_of p ≡ id_of old
    → Sets (incarnation_at k) (incarnation_at l) (id_of old).0 p.stored → l.states ≡ k.states → HasAll l sites (set parties i p)
has_incarnation k l sites parties i old p all apart at same sets states = record {
  states = states_stay k l sites (same_states k l states) all.states;
  incarnations = subst (AllByRecursion (HasIncarnation l)) (sym (party_set parties i old p apart at same))
      (all_newer id_of same_client client_decides (HasIncarnation k) (HasIncarnation l) p parties
      (record { incarnation = ap (λ (c : ClientId). incarnation_at l c.0) same ∙ sets.there })
      (λ x other has.
      let n : ℕ = (id_of x).0 in
      let off : n ≡ (id_of old).0 → ⊥ = λ e. eqb-false n (id_of p).0 other (e ∙ ap (λ (c : ClientId). c.0) (sym same)) in
      record { incarnation = sets.others n off ∙ has.incarnation })
      all.incarnations);
}

-- ---- all items, place by place

pub all_by_place : {A : Type 0} (P : A → Type 0) (xs : List A) → AllByRecursion P xs → (k : ℕ) (d : A) → k < length xs → P (get_or xs k d)
all_by_place P [] all k d within = absurd (omega arith)
all_by_place P (x ∷ xs) all zero d within = all.0
all_by_place P (x ∷ xs) all (suc k) d within = all_by_place P xs all.1 k d (omega arith)

-- the item at a place
pub read_at : {A : Type 0} (xs : List A) (i : ℕ) → i < length xs → (x : A) × (x ≡ get_or xs i x)
read_at [] i within = absurd (omega arith)
read_at (x ∷ xs) zero within = (x, refl)
read_at (x ∷ xs) (suc i) within = read_at xs i (omega arith)
