-- The representation of a world: its parts, and the records of a keeper.
use Rattle.std.specs.Prelude.{◌≡◌, ℕ, zero, suc, ◌<◌, ◌==◌, Bool, true, false, if◌then◌else◌, List, [], ◌∷◌, map, find, length, slice_get, Option, Some, None}
use Rattle.std.specs.Prelude.{Vec, vec_len, vec_capacity}
use Rattle.std.specs.List.{AllByRecursion, list_any}
use Rattle.std.specs.Option.{option_map}
use Rattle.scoop_message.specs.declared.name.Block.{Block}
use Rattle.scoop_message.specs.declared.name.HandlerId.{HandlerId}
use Rattle.scoop_message.specs.declared.request.Entry.{Entry}
use Rattle.scoop_message.specs.declared.request.Entry.TheVariants.{End as EndEntry, Call as CallEntry, Query as QueryEntry}
use Rattle.scoop_message.specs.declared.message.Message.{Message}
use Rattle.scoop_handler.specs.declared.ran.Ran.{Ran}
use Rattle.scoop_handler.specs.State.{HandlerState}
use Rattle.scoop_handler.specs.Core.{Core}
use Rattle.scoop_handler.specs.Running.{Task}
use Rattle.scoop_client.specs.State.{ClientState}
use Rattle.scoop_keeper.specs.Keeper.{IsSame, Keeps, Stays}
use Rattle.scoop_keeper.specs.Memory.{MemoryRecord, Has, state_at, incarnation_at}
use Rattle.scoop_client.specs.declared.command.Command.{Command}
use Rattle.scoop_client.specs.declared.command.Command.TheVariants.{Reserve, Call, Query, End, GiveUp}
use Rattle.scoop_world.specs.declared.logs.LoggedAt.{LoggedAt}
use Rattle.scoop_model.specs.World.{World, Site, Party, Accepted, HandlerLog, BlockLog, number_of, id_of, is_log_of, is_share_of}
use Rattle.scoop_model.specs.Step.{with_entry, finished_site}

-- all parts of a world
abbrev pub world_kept : List Site → List Party → List Message → List Block → List BlockLog → World
world_kept sites parties sent joint logs = record { sites = sites; parties = parties; sent = sent; joint = joint; logs = logs }

-- ---- handlers and clients

-- a handler, with its own state stored
abbrev pub site_kept : ℕ → List ℕ → Core → List Block → List Ran → Site
site_kept node placed core opened ran = record { node = node; placed = placed; core = core; stored = core.state; opened = opened; ran = ran }

-- the handler stands on the node
abbrev pub on_node : ℕ → Site → Bool
on_node n s = s.node == n

-- its stored state, if it stands on the node
abbrev pub stored_on : ℕ → Site → Option HandlerState
stored_on n s = if on_node n s then Some s.stored else None

-- with what its job did, if one was out
abbrev pub after_job : Site → Option Task → Site
after_job s None = s
after_job s (Some t) = finished_site s t

-- an entry that has left, by its block and number
abbrev pub began : Task → Block × ℕ
began t = (t.block, t.number)

-- a client with its newest block; the stored incarnation is the block's
abbrev pub party_kept : Block → ClientState → List Accepted → Party
party_kept newest client accepted = record { client = client; stored = newest.inc; accepted = accepted }

-- ---- logs

abbrev pub logged_kept : {A : Type 0} → LoggedAt A → HandlerLog
logged_kept l = record { handler = l.handler; entries = l.entries.items }

abbrev pub block_log : {A : Type 0} → Block → List (LoggedAt A) → BlockLog
block_log b ls = record { block = b; shares = map logged_kept ls }

abbrev pub log_kept : {A : Type 0} → Block × Vec (LoggedAt A) A → BlockLog
log_kept e = block_log e.0 e.1.items

abbrev pub logs_kept : {A : Type 0} → List (Block × Vec (LoggedAt A) A) → List BlockLog
logs_kept es = map log_kept es

-- a block has its log
abbrev pub has_log : Block → List BlockLog → Bool
has_log b logs = list_any (is_log_of b) logs

-- the log at this place is the block's, and no earlier one is
abbrev pub IsPlaceOf : Block → List BlockLog → ℕ → Type 0
IsPlaceOf b [] i = ⊥
IsPlaceOf b (l ∷ ls) zero = is_log_of b l ≡ true
IsPlaceOf b (l ∷ ls) (suc i) = (is_log_of b l ≡ false) × IsPlaceOf b ls i

-- the entries logged for a handler
abbrev pub entries_in : HandlerId → List HandlerLog → Option (List Entry)
entries_in h ls = option_map (λ l. l.entries) (find (is_share_of h) ls)

-- the share has room for an entry
pub record HasRoom {A : Type 0} (l : LoggedAt A) : Type 0 where
  pub room : vec_len l.entries < vec_capacity l.entries

-- an entry is meant for one handler, or for all
abbrev pub is_meant : Option HandlerId → HandlerLog → Bool
is_meant None l = true
is_meant (Some h) l = is_share_of h l

abbrev pub with_entry_for : Option HandlerId → Entry → HandlerLog → HandlerLog
with_entry_for only e l = if is_meant only l then with_entry e l else l

-- the entries that a command logs, for one handler or for all
abbrev pub logged_by : Command → Option (Option HandlerId × Entry)
logged_by (Reserve hs) = None
logged_by (Call h r) = Some (Some h, CallEntry r)
logged_by (Query h r) = Some (Some h, QueryEntry r)
logged_by End = Some (None, EndEntry)
logged_by GiveUp = None

-- ---- the keeper

-- the keeper has stored the state, and its other records stay
pub record Stores (old new : MemoryRecord) (s : HandlerState) : Type 0 where
  pub states : Keeps (Has old) (Has new) s
  pub incarnations : IsSame (incarnation_at old) (incarnation_at new)

-- its records stay
pub record KeepsAll (old new : MemoryRecord) : Type 0 where
  pub states : Stays (Has old) (Has new)
  pub incarnations : IsSame (incarnation_at old) (incarnation_at new)

-- the state is stored if a job was out
abbrev pub StoresJob : Option Task → MemoryRecord → MemoryRecord → HandlerState → Type 0
StoresJob None old new s = KeepsAll old new
StoresJob (Some t) old new s = Stores old new s

pub record HasState (k : MemoryRecord) (s : Site) : Type 0 where
  pub state : state_at k (number_of s).0 ≡ Some s.stored

pub record HasIncarnation (k : MemoryRecord) (p : Party) : Type 0 where
  pub incarnation : incarnation_at k (id_of p).0 ≡ Some p.stored

-- the keeper has the state of each handler and the incarnation of each client
pub record HasAll (k : MemoryRecord) (sites : List Site) (parties : List Party) : Type 0 where
  pub states : AllByRecursion (HasState k) sites
  pub incarnations : AllByRecursion (HasIncarnation k) parties
