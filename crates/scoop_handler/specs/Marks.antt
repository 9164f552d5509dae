-- A handler's marks: one for each client that has greeted it.
use Rattle.std.specs.Prelude.{◌≡◌, ◌<◌, ℕ, Bool, true, false, nat_lt, if◌then◌else◌, List, [], ◌∷◌, Option, Some, None, find, map, length, take_while}
use Rattle.std.specs.Prelude.{slice_index_or, slice_set}
use Rattle.scoop_message.specs.declared.name.Block.{Block}
use Rattle.scoop_message.specs.declared.name.ClientId.{ClientId}
use Rattle.scoop_message.specs.Message.{same_client}
use Rattle.scoop_handler.specs.declared.mark.Mark.{Mark}
use Rattle.scoop_handler.specs.declared.mark.Stage.{Stage}
use Rattle.scoop_handler.specs.declared.mark.Stage.TheVariants.{Held, Open, Shut}

abbrev pub is_held : Stage → Bool
is_held Held = true
is_held Open = false
is_held Shut = false

abbrev pub is_open : Stage → Bool
is_open Held = false
is_open Open = true
is_open Shut = false

abbrev pub is_shut : Stage → Bool
is_shut Held = false
is_shut Open = false
is_shut Shut = true

-- the mark's block
abbrev pub block_of : Mark → Block
block_of k = record { client = k.client; inc = k.inc; num = k.num }

-- a mark that has just come to this block and stage
abbrev pub fresh_mark : Block → Stage → Mark
fresh_mark b stage = record { client = b.client; inc = b.inc; num = b.num; stage = stage; received = 0; ended = false; kept = None }

abbrev pub with_stage : Stage → Mark → Mark
with_stage stage k = record k { stage = stage }

-- the mark once a private queue is opened for its block
abbrev pub opened_mark : Mark → Mark
opened_mark k = with_stage Open k

-- the mark once entries up to this number were received; `ended` says whether the last is an End
abbrev pub with_received : ℕ → Bool → Mark → Mark
with_received last ended k = record k { received = last; ended = ended }

-- a held mark that is freed is shut
abbrev pub without_hold : Mark → Mark
without_hold k = with_stage (if is_held k.stage then Shut else k.stage) k

abbrev pub mark_of : ClientId → List Mark → Option Mark
mark_of c marks = find (λ k. same_client k.client c) marks

abbrev pub newer_mark : Mark → Mark → Mark
newer_mark k x = if same_client x.client k.client then k else x

-- the mark in place of its client's
abbrev pub set_mark : Mark → List Mark → List Mark
set_mark k marks = map (newer_mark k) marks

-- one more mark, in the order of the clients
abbrev pub add_mark : Mark → List Mark → List Mark
add_mark k [] = k ∷ []
add_mark k (x ∷ xs) = if nat_lt x.client.0 k.client.0 then x ∷ add_mark k xs else k ∷ x ∷ xs

-- how many marks come before one of this client
abbrev pub place_of : ClientId → List Mark → ℕ
place_of c marks = length (take_while (λ k. nat_lt k.client.0 c.0) marks)

-- the place of the client's mark: lookups find the mark there, and it is set there
pub record IsPlaceOf (c : ClientId) (marks : List Mark) (i : ℕ) : Type 0 where
  pub within : i < length marks
  pub found : (d : Mark) → mark_of c marks ≡ Some (slice_index_or marks i d)
  pub change : (k : Mark) → k.client ≡ c → set_mark k marks ≡ slice_set marks i k

-- a client without a mark
pub record IsNowhere (c : ClientId) (marks : List Mark) : Type 0 where
  pub found : mark_of c marks ≡ None
  pub change : (k : Mark) → k.client ≡ c → set_mark k marks ≡ marks
