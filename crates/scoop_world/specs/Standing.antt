-- Handlers and clients as a reader sees them.
use Rattle.std.specs.Prelude.{Bool}
use Rattle.scoop_message.specs.declared.name.ClientId.{ClientId}
use Rattle.scoop_handler.specs.State.{HandlerState}
use Rattle.scoop_client.specs.State.{ClientState}
use Rattle.scoop_model.specs.World.{Site, Party, id_of}

-- a handler's state, and whether a job of it is out
pub record Standing : Type 0 where
  pub state : HandlerState
  pub is_out : Bool

abbrev pub standing : Site → Standing
standing s = record { state = s.core.state; is_out = s.core.out }

-- a client with its number
abbrev pub numbered : Party → ClientId × ClientState
numbered p = (id_of p, p.client)
