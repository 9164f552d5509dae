-- The handlers and clients that may be placed, and the reasons to refuse others.
use Rattle.std.specs.Prelude.{◌≡◌, ◌≢◌, ℕ, ◌≤◌, ◌<◌, List, [], length, map, take, slice_get, Option, Some, Contains}
use Rattle.std.specs.List.{AllByRecursion, Any}
use Rattle.scoop_message.specs.declared.limits.TheConstants.{MAX_HANDLERS, MAX_CLIENTS}
use Rattle.scoop_message.specs.declared.name.HandlerId.{HandlerId}
use Rattle.scoop_message.specs.declared.name.ClientId.{ClientId}
use Rattle.scoop_object.specs.Class.{ClassTable}
use Rattle.scoop_keeper.specs.Keeper.{last_incarnation}
use Rattle.scoop_keeper.specs.Keyed.{IsFirstRepeat}
use Rattle.scoop_world.specs.declared.error.WorldOpenError.{WorldOpenError}
use Rattle.scoop_world.specs.declared.error.WorldOpenError.TheVariants.{NoHandlers, TooManyHandlers, Repeated, WrongClass, TooManyClients, RepeatedClient}
use Rattle.scoop_world.specs.declared.error.WorldOpenError.TheVariants.{IncarnationsSpent, OutOfMemory}
use Rattle.scoop_world.specs.declared.placing.Placement.{Placement}
use Rattle.scoop_message.specs.Lists.{NoRepeats}

-- the placed handlers, and the clients that join, in their order
abbrev pub handlers_of : {B : Type 0} → List (Placement B) → List HandlerId
handlers_of ps = map (λ p. p.handler) ps

abbrev pub clients_of : List (ClientId × ℕ) → List ClientId
clients_of cs = map (λ c. c.0) cs

-- the object is of the class placed with it
abbrev pub IsOfClass : {B : Type 0} → (B → ClassTable) → Placement B → Type 0
IsOfClass class p = class p.object ≡ p.class

-- the handler is the first whose object isn't of the class placed with it
pub record IsFirstWrong {B : Type 0} (class : B → ClassTable) (ps : List (Placement B)) (h : HandlerId) : Type 0 where
  pub place : ℕ
  pub placement : Placement B
  pub there : slice_get ps place ≡ Some placement
  pub named : placement.handler ≡ h
  pub wrong : class placement.object ≢ placement.class
  pub right : AllByRecursion (IsOfClass class) (take place ps)

-- one to MAX_HANDLERS handlers
pub record IsCounted {B : Type 0} (ps : List (Placement B)) : Type 0 where
  pub some : 1 ≤ length ps
  pub few : length ps ≤ MAX_HANDLERS

-- one to MAX_HANDLERS handlers, each once and with an object of its class, and at most MAX_CLIENTS clients, each once
pub record MayPlace {B : Type 0} (class : B → ClassTable) (ps : List (Placement B)) (cs : List (ClientId × ℕ)) : Type 0 where
  pub some : 1 ≤ length ps
  pub few : length ps ≤ MAX_HANDLERS
  pub apart : NoRepeats (handlers_of ps)
  pub classes : AllByRecursion (IsOfClass class) ps
  pub few_clients : length cs ≤ MAX_CLIENTS
  pub clients_apart : NoRepeats (clients_of cs)

-- The first reason to refuse the handlers and clients, of those that don't depend on stored records. Each reason
-- includes that those before it don't apply.
abbrev pub IsOpenRefusal : {B : Type 0} → (B → ClassTable) → List (Placement B) → List (ClientId × ℕ) → WorldOpenError → Type 0
IsOpenRefusal class ps cs NoHandlers = ps ≡ []
IsOpenRefusal class ps cs TooManyHandlers = MAX_HANDLERS < length ps
IsOpenRefusal class ps cs (Repeated h) = IsCounted ps × IsFirstRepeat (handlers_of ps) h
IsOpenRefusal class ps cs (WrongClass h) = IsCounted ps × NoRepeats (handlers_of ps) × IsFirstWrong class ps h
IsOpenRefusal class ps cs TooManyClients = MayPlace class ps [] × (MAX_CLIENTS < length cs)
IsOpenRefusal class ps cs (RepeatedClient c) = MayPlace class ps [] × (length cs ≤ MAX_CLIENTS) × IsFirstRepeat (clients_of cs) c
IsOpenRefusal class ps cs IncarnationsSpent = ⊥
IsOpenRefusal class ps cs OutOfMemory = ⊥

-- The reasons why no world opens. Stored records count only if nothing else is refused, and memory too.
abbrev pub IsUnopened : {B : Type 0} → (B → ClassTable) → List (Placement B) → List (ClientId × ℕ) → (ℕ → Option ℕ) → WorldOpenError → Type 0
IsUnopened class ps cs stored NoHandlers = IsOpenRefusal class ps cs NoHandlers
IsUnopened class ps cs stored TooManyHandlers = IsOpenRefusal class ps cs TooManyHandlers
IsUnopened class ps cs stored (Repeated h) = IsOpenRefusal class ps cs (Repeated h)
IsUnopened class ps cs stored (WrongClass h) = IsOpenRefusal class ps cs (WrongClass h)
IsUnopened class ps cs stored TooManyClients = IsOpenRefusal class ps cs TooManyClients
IsUnopened class ps cs stored (RepeatedClient c) = IsOpenRefusal class ps cs (RepeatedClient c)
IsUnopened class ps cs stored IncarnationsSpent = MayPlace class ps cs × Any (λ c. stored c.0.0 ≡ Some last_incarnation) cs
IsUnopened class ps cs stored OutOfMemory = MayPlace class ps cs
