-- One handler alone, its stored state, and what happens at it.
use Rattle.std.specs.Prelude.{◌≡◌, ℕ, false, Bool, if◌then◌else◌, List, find, map, Option, Some, None}
use Rattle.std.specs.Option.{option_map}
use Rattle.scoop_message.specs.declared.name.Block.{Block}
use Rattle.scoop_message.specs.declared.name.HandlerId.{HandlerId}
use Rattle.scoop_message.specs.declared.message.Message.{Message}
use Rattle.scoop_message.specs.Message.{same_handler}
use Rattle.scoop_object.specs.Class.{ClassTable}
use Rattle.scoop_handler.specs.declared.note.Heard.{Heard}
use Rattle.scoop_handler.specs.declared.ran.Ran.{Ran}
use Rattle.scoop_handler.specs.State.{HandlerState, new_state}
use Rattle.scoop_handler.specs.Core.{Core, core_of, with_state}
use Rattle.scoop_handler.specs.Hearing.{hear}
use Rattle.scoop_handler.specs.Running.{Task, ready, job_out, ran_of, begun, finished}

-- a handler, and the state that is stored of it, if one is
pub record LocalHandler : Type 0 where
  pub core : Core
  pub stored : Option HandlerState

abbrev pub local_handler : Core → Option HandlerState → LocalHandler
local_handler core stored = record { core = core; stored = stored }

-- ---- by number

abbrev pub number_in : LocalHandler → HandlerId
number_in s = s.core.state.number

abbrev pub is_handler : HandlerId → LocalHandler → Bool
is_handler h s = same_handler (number_in s) h

abbrev pub handler_in : HandlerId → List LocalHandler → Option LocalHandler
handler_in h hs = find (is_handler h) hs

-- the handler in place of the one with its number
abbrev pub newer_handler : LocalHandler → LocalHandler → LocalHandler
newer_handler s x = if is_handler (number_in s) x then s else x

abbrev pub with_handler : LocalHandler → List LocalHandler → List LocalHandler
with_handler s hs = map (newer_handler s) hs

-- ---- how it opens

-- the stored state, or one that no client has greeted yet, with these words
abbrev pub opening_state : HandlerId → List ℕ → Option HandlerState → HandlerState
opening_state h words None = new_state h words
opening_state h words (Some s) = s

-- in its opening state, with no job out
abbrev pub opening_handler : HandlerId → ClassTable → List ℕ → Option HandlerState → LocalHandler
opening_handler h class words stored = local_handler (core_of class (opening_state h words stored) false) stored

-- ---- what happens at it

-- it has heard a message, and its new state is stored
abbrev pub after_hearing : HandlerState → LocalHandler → LocalHandler
after_hearing t s = local_handler (with_state t s.core) (Some t)

-- its next entry, if it has one, has left, and what is stored stays
abbrev pub after_begin : LocalHandler → LocalHandler
after_begin s = local_handler (begun s.core) s.stored

-- the job that was out has run, and its new state is stored
abbrev pub after_finish : Task → LocalHandler → LocalHandler
after_finish t s = local_handler (finished t s.core) (Some (finished t s.core).state)

pub record Hears (m : Message) (told : Heard) (s t : LocalHandler) : Type 0 where
  pub tells : told ≡ (hear s.core.state m).1
  pub after : t ≡ after_hearing (hear s.core.state m).0 s

-- an entry that leaves, by its block and number
abbrev pub leaves : Task → Block × ℕ
leaves t = (t.block, t.number)

pub record Begins (told : Option (Block × ℕ)) (s t : LocalHandler) : Type 0 where
  pub tells : told ≡ option_map leaves (ready s.core)
  pub after : t ≡ after_begin s

pub record Finishes (ran : Ran) (s t : LocalHandler) : Type 0 where
  pub task : Task
  pub out : job_out s.core ≡ Some task
  pub tells : ran ≡ ran_of task
  pub after : t ≡ after_finish task s
