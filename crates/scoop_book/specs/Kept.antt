-- The handlers of a book, with what is stored of them.
use Rattle.std.specs.Prelude.{ℕ, Bool, if◌then◌else◌, List, map, Option, Some, None}
use Rattle.std.specs.List.{AllByRecursion}
use Rattle.scoop_handler.specs.State.{HandlerState}
use Rattle.scoop_handler.specs.Core.{Core}
use Rattle.scoop_keeper.specs.Keeper.{Stored}
use Rattle.scoop_message.specs.Lists.{NoRepeats}
use Rattle.scoop_book.specs.Moves.{LocalHandler, Entry, local_handler, number_in}
use Rattle.scoop_book.specs.Books.{BookValue, HasStored}

-- the stored state of a handler: its state as it is, or none
abbrev pub stored_state : HandlerState → Bool → Option HandlerState
stored_state s is_stored = if is_stored then Some s else None

abbrev pub local_kept : Core → Bool → LocalHandler
local_kept core is_stored = local_handler core (stored_state core.state is_stored)

-- the handlers of a book, and the keeper of their states
pub record HandlersValue (K : Type 0) : Type 0 where
  pub handlers : List LocalHandler
  pub keeper : K

abbrev pub handlers_kept : {K : Type 0} → List LocalHandler → K → HandlersValue K
handlers_kept handlers keeper = record { handlers = handlers; keeper = keeper }

-- they are apart, and the keeper, while it is honest, has of each what is stored of it
pub record IsHeld {K : Type 0} (has : K → ℕ → Stored → Type 0) (is_honest : K → Type 0) (h : HandlersValue K) : Type 0 where
  pub apart : NoRepeats (map number_in h.handlers)
  pub kept : is_honest h.keeper → AllByRecursion (HasStored (has h.keeper)) h.handlers

-- all parts of a book
abbrev pub book_kept : {K : Type 0} → List LocalHandler → List LocalHandler → List Entry → ℕ → Bool → K → BookValue K
book_kept opening handlers history limit failed keeper =
    record { opening = opening; handlers = handlers; history = history; limit = limit; failed = failed; keeper = keeper }
