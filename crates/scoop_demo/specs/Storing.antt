-- A keeper after a run, and the errors of a run for refusals.
use Rattle.std.specs.Prelude.{◌≡◌, ◌≢◌, ⊤, ℕ, List, Option, None}
use Rattle.scoop_message.specs.declared.name.HandlerId.{HandlerId}
use Rattle.scoop_object.specs.Class.{ClassTable}
use Rattle.scoop_keeper.specs.declared.keeper.KeeperError.{KeeperError}
use Rattle.scoop_keeper.specs.declared.keeper.KeeperError.TheVariants as keeper
use Rattle.scoop_keeper.specs.Keeper.{Stored, Damaged, IsTheOne, StaysAt, IsSame}
use Rattle.scoop_book.specs.declared.error.BookError.{BookError}
use Rattle.scoop_book.specs.declared.error.BookError.TheVariants as book
use Rattle.scoop_book.specs.declared.error.OpenError.{OpenError}
use Rattle.scoop_book.specs.declared.error.OpenError.TheVariants as unopened
use Rattle.scoop_book.specs.Moves.{LocalHandler, handler_in}
use Rattle.scoop_book.specs.Opening.{HasMisfit}
use Rattle.scoop_demo.specs.declared.fault.RunError.{RunError}
use Rattle.scoop_demo.specs.declared.fault.RunError.TheVariants.{OutOfMemory, Store, WrongClass, NodeFailed, HistoryFull}

-- An honest keeper was honest before. It has the same state of every handler that isn't among these, and the same
-- incarnation of every client.
pub record KeepsElsewhere {K : Type 0} (has : K → ℕ → Stored → Type 0) (incarnations : K → ℕ → Option ℕ) (is_honest : K → Type 0) (hs : List LocalHandler)
    (old new : K) : Type 0 where
  pub honest : is_honest new → is_honest old
  pub handlers : is_honest new → (h : HandlerId) → handler_in h hs ≡ None → StaysAt (has old) (has new) h.0
  pub clients : is_honest new → IsSame (incarnations old) (incarnations new)

-- ---- the errors of a run for refusals

-- for a keeper's refusal
abbrev pub error_of : KeeperError → RunError
error_of keeper.OutOfMemory = OutOfMemory
error_of keeper.Refused = Store keeper.Refused
error_of (keeper.BadImage handler) = Store (keeper.BadImage handler)
error_of keeper.IncarnationsSpent = Store keeper.IncarnationsSpent
error_of keeper.WrongSchema = Store keeper.WrongSchema

-- for a book's refusal; an unknown handler is none
abbrev pub TellsRefusal : BookError → RunError → Type 0
TellsRefusal book.NodeFailed e = e ≡ NodeFailed
TellsRefusal book.HistoryFull e = e ≡ HistoryFull
TellsRefusal book.UnknownHandler e = ⊥
TellsRefusal book.StoreRefused e = e ≡ Store keeper.Refused
TellsRefusal book.OutOfMemory e = e ≡ OutOfMemory

-- for a refusal to open a book of one handler
abbrev pub TellsUnopened : OpenError → RunError → Type 0
TellsUnopened unopened.NoPasses e = ⊥
TellsUnopened (unopened.WrongClass handler) e = e ≡ WrongClass handler
TellsUnopened (unopened.Repeated handler) e = ⊥
TellsUnopened (unopened.Keeper refusal) e = e ≡ error_of refusal
TellsUnopened unopened.OutOfMemory e = e ≡ OutOfMemory

-- one handler isn't repeated, and a book needs no pass
abbrev pub OpensOne : OpenError → Type 0
OpensOne unopened.NoPasses = ⊥
OpensOne (unopened.WrongClass _) = ⊤
OpensOne (unopened.Repeated _) = ⊥
OpensOne (unopened.Keeper _) = ⊤
OpensOne unopened.OutOfMemory = ⊤

-- why a handler of a class doesn't open with an object of its own class: the two differ; the keeper refuses to load it;
-- the stored words are not as many as the class has; or memory ran out
pub data FailsToOpen (has : ℕ → Stored → Type 0) (honest : Type 0) (number : HandlerId) (class own : ClassTable) : RunError → Type 0 where
  wrong_class : own ≢ class → FailsToOpen has honest number class own (WrongClass number)
  refused : own ≡ class → FailsToOpen has honest number class own (Store keeper.Refused)
  bad_image : own ≡ class → (honest → IsTheOne (has number.0) Damaged) → FailsToOpen has honest number class own (Store (keeper.BadImage number))
  wrong_words : own ≡ class → (honest → HasMisfit has number class) → FailsToOpen has honest number class own (WrongClass number)
  no_memory : FailsToOpen has honest number class own OutOfMemory
