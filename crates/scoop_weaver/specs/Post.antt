-- The messages of a run, each with its number: its place, counted from 1.
use Rattle.std.specs.Prelude.{◌≡◌, ℕ, ◌++◌, List, slice_get, Option, Some, None}
use Rattle.std.proofs.Common.{zero, suc}
use Rattle.scoop_message.specs.declared.message.Message.{Message}

-- the message of this number; 0 is the number of none
abbrev pub message_at : List Message → ℕ → Option Message
message_at post zero = None
message_at post (suc n) = slice_get post n

-- the number is that of the message
abbrev pub NamesIt : List Message → Message → ℕ → Type 0
NamesIt post m n = message_at post n ≡ Some m

-- each number stays that of its message
pub record Grows (old new : List Message) : Type 0 where
  pub more : List Message
  pub is : new ≡ old ++ more
