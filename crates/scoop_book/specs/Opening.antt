-- The handlers with which a book opens, and why it doesn't.
use Rattle.std.specs.Prelude.{◌≡◌, ◌≢◌, ◌⊎◌, ⊤, ℕ, List, map, take, slice_get, Some, IfSome}
use Rattle.std.specs.List.{AllByRecursion, AllZip, Any}
use Rattle.scoop_message.specs.declared.name.HandlerId.{HandlerId}
use Rattle.scoop_object.specs.Class.{ClassTable}
use Rattle.scoop_handler.specs.State.{HandlerState}
use Rattle.scoop_handler.specs.Running.{FitsClass}
use Rattle.scoop_keeper.specs.Keeper.{Stored, Holds, Damaged, stored_of, IsTheOne}
use Rattle.scoop_keeper.specs.declared.keeper.KeeperError.TheVariants as keeper
use Rattle.scoop_book.specs.declared.error.OpenError.{OpenError}
use Rattle.scoop_book.specs.declared.error.OpenError.TheVariants.{NoPasses, WrongClass, Repeated, Keeper, OutOfMemory}
use Rattle.scoop_message.specs.Lists.{NoRepeats}
use Rattle.scoop_keeper.specs.Keyed.{IsFirstRepeat}
use Rattle.scoop_handler.specs.Local.{LocalHandler}
pub use Rattle.scoop_handler.specs.Local.{opening_state, opening_handler}

-- a handler as the caller passes it: its number, and its object with the object's class
abbrev pub Handed : Type 0 → Type 0
Handed B = HandlerId × ClassTable × B

-- the handler opens with what is stored of it, which is what an honest keeper has
pub record OpensAs {B : Type 0} (words : B → List ℕ) (has : ℕ → Stored → Type 0) (honest : Type 0) (p : Handed B) (s : LocalHandler) : Type 0 where
  pub loaded : honest → IsTheOne (has p.0.0) (stored_of s.stored)
  pub own : IfSome s.stored (λ t. t.number ≡ p.0)
  pub fits : IfSome s.stored (FitsClass p.1)
  pub opens : s ≡ opening_handler p.0 p.1 (words p.2) s.stored

-- so does each, place by place
abbrev pub AllOpen : {B : Type 0} → (B → List ℕ) → (ℕ → Stored → Type 0) → Type 0 → List (Handed B) → List LocalHandler → Type 0
AllOpen words has honest ps hs = AllZip (OpensAs words has honest) ps hs

-- ---- refusals, each of which excludes those before it

abbrev pub numbers_of : {B : Type 0} → List (Handed B) → List HandlerId
numbers_of ps = map (λ p. p.0) ps

-- the object has the class that comes with it
abbrev pub IsOfClass : {B : Type 0} → (B → ClassTable) → Handed B → Type 0
IsOfClass class p = class p.2 ≡ p.1

-- the handler is the first whose object hasn't the class
pub record IsFirstWrong {B : Type 0} (class : B → ClassTable) (ps : List (Handed B)) (h : HandlerId) : Type 0 where
  pub place : ℕ
  pub handed : Handed B
  pub there : slice_get ps place ≡ Some handed
  pub named : handed.0 ≡ h
  pub wrong : class handed.2 ≢ handed.1
  pub right : AllByRecursion (IsOfClass class) (take place ps)

-- each object has its class, and each handler is there once
pub record MayOpen {B : Type 0} (class : B → ClassTable) (ps : List (Handed B)) : Type 0 where
  pub classes : AllByRecursion (IsOfClass class) ps
  pub apart : NoRepeats (numbers_of ps)

-- a state whose words don't fit the class is stored of the handler
pub record HasMisfit (has : ℕ → Stored → Type 0) (h : HandlerId) (class : ClassTable) : Type 0 where
  pub state : HandlerState
  pub is : IsTheOne (has h.0) (Holds state)
  pub misfits : FitsClass class state → ⊥

-- why a handler doesn't open: out of memory, the keeper's medium, or what an honest keeper has of it
abbrev pub IsLoadRefusal : (ℕ → Stored → Type 0) → (honest : Type 0) → HandlerId → ClassTable → OpenError → Type 0
IsLoadRefusal has honest h class NoPasses = ⊥
IsLoadRefusal has honest h class (WrongClass k) = (k ≡ h) × (honest → HasMisfit has h class)
IsLoadRefusal has honest h class (Repeated k) = ⊥
IsLoadRefusal has honest h class (Keeper keeper.OutOfMemory) = ⊥
IsLoadRefusal has honest h class (Keeper keeper.Refused) = ⊤
IsLoadRefusal has honest h class (Keeper (keeper.BadImage k)) = (k ≡ h) × (honest → IsTheOne (has h.0) Damaged)
IsLoadRefusal has honest h class (Keeper keeper.IncarnationsSpent) = ⊥
IsLoadRefusal has honest h class (Keeper keeper.WrongSchema) = ⊥
IsLoadRefusal has honest h class OutOfMemory = ⊤

-- why these handlers open no book, whatever is stored
abbrev pub IsHandedWrongly : {B : Type 0} → (B → ClassTable) → List (Handed B) → OpenError → Type 0
IsHandedWrongly class ps NoPasses = ⊥
IsHandedWrongly class ps (WrongClass h) = IsFirstWrong class ps h
IsHandedWrongly class ps (Repeated h) = AllByRecursion (IsOfClass class) ps × IsFirstRepeat (numbers_of ps) h
IsHandedWrongly class ps (Keeper e) = ⊥
IsHandedWrongly class ps OutOfMemory = ⊥

-- why one of them doesn't open, if nothing else is wrong; out of memory is the last reason
pub record IsUnloaded {B : Type 0} (class : B → ClassTable) (has : ℕ → Stored → Type 0) (honest : Type 0) (ps : List (Handed B)) (e : OpenError) : Type 0 where
  pub may : MayOpen class ps
  pub refused : (e ≡ OutOfMemory) ⊎ Any (λ p. IsLoadRefusal has honest p.0 p.1 e) ps

-- why no book opens
abbrev pub IsUnopened : {B : Type 0} → (B → ClassTable) → (ℕ → Stored → Type 0) → Type 0 → List (Handed B) → OpenError → Type 0
IsUnopened class has honest ps e = IsHandedWrongly class ps e ⊎ IsUnloaded class has honest ps e
