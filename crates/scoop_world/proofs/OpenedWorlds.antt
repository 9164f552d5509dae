-- The world made of handlers and clients that may be placed is the world that opens.
use Rattle.std.proofs.Common.{◌≡◌, ◌⊎◌, ◌≤◌, ℕ, List, [], ◌∷◌, map, length, Option, Some, refl, sym, ap, ◌∙◌, subst, ⊎_elim}
use Rattle.std.specs.List.{AllByRecursion, Any}
use Rattle.std.proofs.lemmas.List.{length-map}
use Rattle.scoop_message.specs.declared.name.HandlerId.{HandlerId}
use Rattle.scoop_message.specs.declared.name.ClientId.{ClientId}
use Rattle.scoop_message.specs.declared.limits.TheConstants.{MAX_HANDLERS, MAX_CLIENTS}
use Rattle.scoop_object.specs.Class.{ClassTable}
use Rattle.scoop_reserve.specs.Handlers.{has}
use Rattle.scoop_model.proofs.Basics.{all_made}
use Rattle.scoop_keeper.specs.Keeper.{last_incarnation}
use Rattle.scoop_keeper.specs.Memory.{MemoryRecord}
use Rattle.scoop_world.specs.declared.error.WorldOpenError.{WorldOpenError}
use Rattle.scoop_world.specs.declared.error.WorldOpenError.TheVariants.{IncarnationsSpent, OutOfMemory}
use Rattle.scoop_world.specs.declared.placing.Placement.{Placement as Placed}
use Rattle.scoop_model.specs.World.{Site, Party, number_of}
use Rattle.scoop_model.specs.Step.{Placement, Newcomer, new_site, new_party, opening}
use Rattle.scoop_message.specs.Lists.{NoRepeats}
use Rattle.scoop_model.specs.Opening.{IsPlaced, IsJoining, KnowsPlaced, MayOpen}
use Rattle.scoop_world.specs.Placing.{placement_of, placements_of, newcomer_of, newcomers_of}
use Rattle.scoop_world.specs.OpenRefusal.{MayPlace, IsUnopened, handlers_of, clients_of}
use Rattle.scoop_world.specs.Kept.{world_kept, HasIncarnation, HasState, HasAll}
use Rattle.scoop_world.proofs.KeptPlaces.{incarnations_stay, same_incarnations}

module _ {B : Type 0} (words : B → List ℕ) where
  same_handlers : (ps : List (Placed B)) → map (λ (p : Placement). p.handler) (placements_of words ps) ≡ handlers_of ps
  same_handlers [] = refl
  same_handlers (p ∷ ps) = ap (λ hs. p.handler ∷ hs) (same_handlers ps)

  same_numbers : (ps : List (Placed B)) → map number_of (map new_site (placements_of words ps)) ≡ handlers_of ps
  same_numbers [] = refl
  same_numbers (p ∷ ps) = ap (λ hs. p.handler ∷ hs) (same_numbers ps)

  own_states : (ps : List (Placed B)) → AllByRecursion (λ (s : Site). s.stored.number ≡ number_of s) (map new_site (placements_of words ps))
  own_states [] = tt
  own_states (p ∷ ps) = (refl, own_states ps)

  pub numbers_apart :
      (ps : List (Placed B)) (sites : List Site) → sites ≡ map new_site (placements_of words ps) → NoRepeats (handlers_of ps)
      → NoRepeats (map number_of sites)
  numbers_apart ps sites made apart = subst NoRepeats (sym (ap (map number_of) made ∙ same_numbers ps)) apart

  pub states_own :
      (ps : List (Placed B)) (sites : List Site) → sites ≡ map new_site (placements_of words ps)
      → AllByRecursion (λ (s : Site). s.stored.number ≡ number_of s) sites
  states_own ps sites made = subst (AllByRecursion (λ (s : Site). s.stored.number ≡ number_of s)) (sym made) (own_states ps)

  same_clients : (hs : List HandlerId) (stored : ℕ → Option ℕ) (cs : List (ClientId × ℕ))
      → map (λ (n : Newcomer). n.id) (newcomers_of hs stored cs) ≡ clients_of cs
  same_clients hs stored [] = refl
  same_clients hs stored (c ∷ cs) = ap (λ is. c.0 ∷ is) (same_clients hs stored cs)

  -- each client knows all handlers
  all_known : (ps : List (Placed B)) → 1 ≤ length ps → NoRepeats (handlers_of ps) → (stored : ℕ → Option ℕ) (c : ClientId × ℕ)
      → KnowsPlaced (map (λ (p : Placement). p.handler) (placements_of words ps)) (newcomer_of (handlers_of ps) stored c)
  all_known ps some apart stored c = record {
    some = subst (λ n. 1 ≤ n) (sym (length-map ps (λ (p : Placed B). p.handler))) some;
    once = apart;
    among = λ h e. ap (λ hs. has hs h) (same_handlers ps) ∙ e;
  }

  pub may_open :
      (class : B → ClassTable) (ps : List (Placed B)) (cs : List (ClientId × ℕ)) (stored : ℕ → Option ℕ)
      → MayPlace class ps cs → AllByRecursion IsPlaced (placements_of words ps) → AllByRecursion IsJoining (newcomers_of (handlers_of ps) stored cs)
      → MayOpen (placements_of words ps) (newcomers_of (handlers_of ps) stored cs)
  may_open class ps cs stored may placed joining =
      let many : length (placements_of words ps) ≡ length ps = length-map ps (placement_of words) in
      let joined : length (newcomers_of (handlers_of ps) stored cs) ≡ length cs = length-map cs (newcomer_of (handlers_of ps) stored) in
      record {
        some = subst (λ n. 1 ≤ n) (sym many) may.some;
        few = subst (λ n. n ≤ MAX_HANDLERS) (sym many) may.few;
        apart = subst NoRepeats (sym (same_handlers ps)) may.apart;
        placed = placed;
        few_clients = subst (λ n. n ≤ MAX_CLIENTS) (sym joined) may.few_clients;
        clients_apart = subst NoRepeats (sym (same_clients (handlers_of ps) stored cs)) may.clients_apart;
        joining = joining;
        knowing = all_made (newcomer_of (handlers_of ps) stored) (KnowsPlaced (map (λ (p : Placement). p.handler) (placements_of words ps)))
            (all_known ps may.some may.apart stored) cs;
      }

  pub opened_is :
      (ps : List (Placed B)) (cs : List (ClientId × ℕ)) (stored : ℕ → Option ℕ) (sites : List Site) (hs : List HandlerId) (parties : List Party)
      → sites ≡ map new_site (placements_of words ps) → hs ≡ handlers_of ps → parties ≡ map new_party (newcomers_of hs stored cs)
      → world_kept sites parties [] [] [] ≡ opening (placements_of words ps) (newcomers_of (handlers_of ps) stored cs)
  opened_is ps cs stored sites hs parties placed named joined =
      let all : parties ≡ map new_party (newcomers_of (handlers_of ps) stored cs) = joined ∙ ap (λ ks. map new_party (newcomers_of ks stored cs)) named in
      λ i. world_kept (placed i) (all i) [] [] []

-- no world opens because of a stored incarnation, or because memory ran out
pub unopened :
    {B : Type 0} (class : B → ClassTable) (ps : List (Placed B)) (cs : List (ClientId × ℕ)) (stored : ℕ → Option ℕ) (e : WorldOpenError)
    → MayPlace class ps cs → (e ≡ OutOfMemory) ⊎ ((e ≡ IncarnationsSpent) × Any (λ (c : ClientId × ℕ). stored c.0.0 ≡ Some last_incarnation) cs)
    → IsUnopened class ps cs stored e
unopened class ps cs stored e may why =
    ⊎_elim
    (λ (p : e ≡ OutOfMemory). subst (IsUnopened class ps cs stored) (sym p) may)
    (λ (p : (e ≡ IncarnationsSpent) × Any (λ (c : ClientId × ℕ). stored c.0.0 ≡ Some last_incarnation) cs). subst (IsUnopened class ps cs stored) (sym p.0)
    (may, p.1))
    why

-- the states are stored after the incarnations, which stay
pub all_stored :
    (k l : MemoryRecord) (sites : List Site) (parties : List Party) → AllByRecursion (HasState l) sites → l.incarnations ≡ k.incarnations
    → AllByRecursion (HasIncarnation k) parties → HasAll l sites parties
all_stored k l sites parties states same incarnations = record {
  states = states;
  incarnations =
      incarnations_stay k l parties (same_incarnations k l same) incarnations;
}
