-- The lives of a node of a system: the states with which its handlers opened, its histories, and the states that its
-- keeper has at the end.
use Rattle.std.specs.Prelude.{◌≡◌, ◌⊎◌, ◌≤◌, ℕ, List, length, map, slice_get, Some}
use Rattle.std.specs.List.{AllByRecursion, AllZip}
use Rattle.scoop_message.specs.Lists.{NoRepeats}
use Rattle.scoop_handler.specs.State.{new_state}
use Rattle.scoop_handler.specs.Local.{LocalHandler, opening_handler}
use Rattle.scoop_keeper.specs.Keeper.{Stored, Missing, Holds, IsTheOne, Keeps, Stays, StaysAt, stored_of}
use Rattle.scoop_book.specs.Moves.{Entry, Replays}
use Rattle.scoop_book.specs.Books.{HasStored}
use Rattle.scoop_book.specs.Opening.{Handed}
use Rattle.scoop_book.specs.Passes.{PassValue, fresh_pass}
use Rattle.scoop_book.specs.Reopening.{AllOpenAgain, Lives, Reopens}
use Rattle.scoop_runtime.specs.declared.plan.Member.{Member}

-- the object is the member's, with its number, its class and its words
pub record IsMemberObject {B : Type 0} (words : B → List ℕ) (m : Member) (p : Handed B) : Type 0 where
  pub number : p.0 ≡ m.handler
  pub class : p.1 ≡ m.class
  pub words_are : words p.2 ≡ m.words

-- ---- the first opening

-- the keeper has of a handler what it had; or it had nothing, and now has the state of a new one
pub data Gained (old new : ℕ → Stored → Type 0) (m : Member) : Type 0 where
  it_stays : Stays old new → Gained old new m
  it_is_new : IsTheOne (old m.handler.0) Missing → Keeps old new (new_state m.handler m.words) → Gained old new m

-- so it has at this number, after some of these members
pub data GainedAt (old new : ℕ → Stored → Type 0) (members : List Member) (h : ℕ) : Type 0 where
  stays_at : StaysAt old new h → GainedAt old new members h
  new_at : (m : Member) (i : ℕ) → slice_get members i ≡ Some m → m.handler.0 ≡ h → IsTheOne (old h) Missing
      → new h (Holds (new_state m.handler m.words)) → GainedAt old new members h

-- the handler opens with its stored state, which is what an honest keeper had; if that had nothing, the state of a new one
pub record OpensFrom (has : ℕ → Stored → Type 0) (honest : Type 0) (m : Member) (s : LocalHandler) : Type 0 where
  pub opens : s ≡ opening_handler m.handler m.class m.words s.stored
  pub stored : honest → IsTheOne (has m.handler.0) (stored_of s.stored)
      ⊎ (IsTheOne (has m.handler.0) Missing × (s.stored ≡ Some (new_state m.handler m.words)))

-- ---- the histories

-- while the keeper is honest, it has of each handler what is stored of it
abbrev pub IsKept : {K : Type 0} → (K → ℕ → Stored → Type 0) → (K → Type 0) → List LocalHandler → K → Type 0
IsKept has is_honest hs k = is_honest k → AllByRecursion (HasStored (has k)) hs

-- a history replays from these handlers, and the keeper has what is stored of them at its end
pub record RunsFrom {K : Type 0} (has : K → ℕ → Stored → Type 0) (is_honest : K → Type 0) (opening stand : List LocalHandler) (now : K) : Type 0 where
  pub history : List Entry
  pub replays : Replays opening history stand
  pub kept : IsKept has is_honest stand now

-- handlers that stood so have opened again, as the first of these passes has them
pub record OpenedFrom (stood : List LocalHandler) (passes : List PassValue) : Type 0 where
  pub opening : List LocalHandler
  pub again : AllOpenAgain stood opening
  pub first : slice_get passes 0 ≡ Some (fresh_pass opening 0)

-- handlers that stood so over a keeper have opened again, as often as there are histories; now they stand so over that keeper
pub record GoesOn {K : Type 0} (has : K → ℕ → Stored → Type 0) (is_honest : K → Type 0) (stood : List LocalHandler) (before : K) (stand : List LocalHandler) (now : K)
    : Type 0 where
  pub histories : List (List Entry)
  pub reopens : Reopens stood histories stand
  pub kept : IsKept has is_honest stood before → IsKept has is_honest stand now

-- and at least once
pub record GoesFurther {K : Type 0} (has : K → ℕ → Stored → Type 0) (is_honest : K → Type 0) (stood : List LocalHandler) (before : K) (stand : List LocalHandler)
    (now : K) : Type 0 where
  pub goes : GoesOn has is_honest stood before stand now
  pub some : 1 ≤ length goes.histories

-- The members opened with what the keeper had, while it was honest, or as new handlers. Each history replays, each but the first
-- from what the last one stored. The node was ready with a keeper that is honest only if the given one was.
pub record RanTo {K : Type 0} (has : K → ℕ → Stored → Type 0) (is_honest : K → Type 0) (members : List Member) (keeper ready : K) (stand : List LocalHandler)
    : Type 0 where
  pub apart : NoRepeats (map (λ (m : Member). m.handler) members)
  pub honest : is_honest ready → is_honest keeper
  pub opening : List LocalHandler
  pub opens : AllZip (OpensFrom (has keeper) (is_honest ready)) members opening
  pub first : List Entry
  pub more : List (List Entry)
  pub lives : Lives opening first more stand

-- A node ran so and opened again at least once. The returned keeper, while it is honest, has what is stored of the
-- handlers at the end.
pub record NodeRan {K : Type 0} (has : K → ℕ → Stored → Type 0) (is_honest : K → Type 0) (members : List Member) (keeper now : K) : Type 0 where
  pub ready : K
  pub stand : List LocalHandler
  pub ran : RanTo has is_honest members keeper ready stand
  pub some : 1 ≤ length ran.more
  pub kept : IsKept has is_honest stand now
