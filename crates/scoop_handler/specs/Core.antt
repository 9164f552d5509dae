-- A handler with the class of its object, and whether a job is out.
use Rattle.std.specs.Prelude.{◌≡◌, Bool, IsTrue, length, is_some}
use Rattle.scoop_object.specs.Class.{ClassTable}
use Rattle.scoop_queue.specs.Queue.{front}
use Rattle.scoop_handler.specs.State.{HandlerState, IsState}

-- a job that is out is that of the first entry of the first private queue, which is still pending
pub record Core : Type 0 where
  pub class : ClassTable
  pub state : HandlerState
  pub out : Bool

abbrev pub core_of : ClassTable → HandlerState → Bool → Core
core_of class state out = record { class = class; state = state; out = out }

-- the same handler with another state
abbrev pub with_state : HandlerState → Core → Core
with_state s c = core_of c.class s c.out

-- facts of every handler
pub record IsCore (c : Core) : Type 0 where
  pub state : IsState c.state
  pub words : length c.state.words ≡ c.class.words
  pub job : IsTrue c.out → IsTrue (is_some (front c.state.queues))
