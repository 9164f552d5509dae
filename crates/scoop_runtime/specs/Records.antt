-- The record of a node's handlers before the node opens.
use Rattle.std.specs.Prelude.{ℕ}
use Rattle.scoop_message.specs.declared.name.HandlerId.{HandlerId}
use Rattle.scoop_handler.specs.State.{HandlerState}
use Rattle.scoop_keeper.specs.Keeper.{Stored, Missing, Holds}

-- there is a state of the handler
pub record HasState (has : ℕ → Stored → Type 0) (h : HandlerId) : Type 0 where
  pub state : HandlerState
  pub there : has h.0 (Holds state)

-- there is nothing of the handler
pub record LacksState (has : ℕ → Stored → Type 0) (h : HandlerId) : Type 0 where
  pub there : has h.0 Missing
