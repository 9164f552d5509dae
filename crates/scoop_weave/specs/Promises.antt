-- The promises of a weave, said of its histories alone.
use Rattle.std.specs.Prelude.{◌≡◌, ◌≢◌, ◌⊎◌, ℕ, Bool, IsTrue, List, [], ◌∷◌, ◌++◌, length, map, take, find, flat_map, filter, slice_get, Some, unwrap_or}
use Rattle.std.specs.List.{AllByRecursion, list_any}
use Rattle.std.specs.Option.{option_map}
use Rattle.scoop_message.specs.declared.name.Block.{Block}
use Rattle.scoop_message.specs.declared.name.ClientId.{ClientId}
use Rattle.scoop_message.specs.declared.name.HandlerId.{HandlerId}
use Rattle.scoop_message.specs.declared.request.Entry.{Entry}
use Rattle.scoop_message.specs.Entries.{ends}
use Rattle.scoop_message.specs.Message.{same_block}
use Rattle.scoop_object.specs.Play.{entry_effect, play}
use Rattle.scoop_handler.specs.declared.ran.Ran.{Ran}
use Rattle.scoop_model.specs.World.{Accepted, is_share_of, shares_of, is_newer_welcome, greatest_count}
use Rattle.scoop_message.specs.Lists.{NoRepeats}
use Rattle.scoop_model.specs.Safe.{IsSubsequence, HasRun, entries_of, untold, numbered, query_of}
use Rattle.scoop_weave.specs.System.{PlacedHandler, LocalClient, System, IsStored, placed_in, client_in}
use Rattle.scoop_weave.specs.Moves.{LocalMove, sent_by}
use Rattle.scoop_weave.specs.Histories.{opened_by, ran_by, accepted_by, joint_by, logs_by}

-- ---- one block at one handler

-- the entries that the block's client logged for the handler
abbrev pub logged_by : Block → HandlerId → List LocalMove → List Entry
logged_by b h ms = unwrap_or (option_map (λ l. l.entries) (find (is_share_of h) (shares_of b (logs_by ms)))) []

-- the entries of the block that ran there
abbrev pub part_by : Block → HandlerId → List LocalMove → List Ran
part_by b h ms = filter (λ r. same_block r.block b) (ran_by h ms)

-- the handler has welcomed a newer incarnation of the block's client
abbrev pub succeeded_by : Block → HandlerId → List LocalMove → Bool
succeeded_by b h ms = list_any (is_newer_welcome h b) (sent_by ms)

-- how many entries of the block the handler told to have received
abbrev pub received_by : Block → HandlerId → List LocalMove → ℕ
received_by b h ms = greatest_count h b (sent_by ms)

-- the entries of the block that ran are the first ones that its client logged, in order and each once
abbrev pub IsBegun : List LocalMove → HandlerId → Block → Type 0
IsBegun ms h b = map untold (part_by b h ms) ≡ numbered b 1 (take (length (part_by b h ms)) (logged_by b h ms))

-- the block has run to its End; or the handler welcomed a newer incarnation, and the block has run to the last entry received
abbrev pub IsDone : List LocalMove → HandlerId → Block → Type 0
IsDone ms h b =
    IsTrue (ends (entries_of (part_by b h ms)))
    ⊎ (IsTrue (succeeded_by b h ms) × (entries_of (part_by b h ms) ≡ take (received_by b h ms) (logged_by b h ms)))

-- a block runs something only once each block that opened before it is done
abbrev pub OneAfterAnother : List LocalMove → HandlerId → Type 0
OneAfterAnother ms h =
    (front between back : List Block) (b later : Block) →
    opened_by h ms ≡ front ++ b ∷ between ++ later ∷ back → part_by later h ms ≢ [] → IsDone ms h b

-- the answer is the object's, after exactly the entries that ran before
abbrev pub IsRightAt : PlacedHandler → List Ran → ℕ → Ran → Type 0
IsRightAt s ran k r = r.answer ≡ (entry_effect s.local.core.class (play s.local.core.class s.placed (entries_of (take k ran))) r.entry).1

-- ---- all handlers and clients

-- A handler opens its blocks in the order of the common list, runs of each, one after another, a beginning of what was
-- logged, and answers right. Its state is stored, with the words of its object after exactly what ran there.
pub record HandlerPromise (ms : List LocalMove) (h : HandlerId) (s : PlacedHandler) : Type 0 where
  pub in_order : IsSubsequence (opened_by h ms) (joint_by ms)
  pub in_turn : ran_by h ms ≡ flat_map (λ b. part_by b h ms) (opened_by h ms)
  pub beginnings : AllByRecursion (IsBegun ms h) (opened_by h ms)
  pub whole : OneAfterAnother ms h
  pub answers : (k : ℕ) (r : Ran) → slice_get (ran_by h ms) k ≡ Some r → IsRightAt s (ran_by h ms) k r
  pub stored : IsStored s
  pub words : s.local.core.state.words ≡ play s.local.core.class s.placed (entries_of (ran_by h ms))

-- the block is the client's, and its query has run with the answer that was accepted
pub record IsTrulyAnswered (ms : List LocalMove) (c : ClientId) (a : Accepted) : Type 0 where
  pub own : a.1.client ≡ c
  pub ran : HasRun (ran_by a.0 ms) a.1 a.2 a.3

-- a client accepted the answer that a query's run gave, once
pub record ClientPromise (ms : List LocalMove) (c : ClientId) : Type 0 where
  pub accepted : AllByRecursion (IsTrulyAnswered ms c) (accepted_by c ms)
  pub once : NoRepeats (map query_of (accepted_by c ms))

pub record Promises (ms : List LocalMove) (now : System) : Type 0 where
  pub once : NoRepeats (joint_by ms)
  pub handlers : (h : HandlerId) (s : PlacedHandler) → placed_in h now ≡ Some s → HandlerPromise ms h s
  pub clients : (c : ClientId) (d : LocalClient) → client_in c now ≡ Some d → ClientPromise ms c
