-- A driver's steps as moves of its client: the commands, the due messages with their receivers, and the messages heard.
-- A driver's own steps also have the versions and bytes that were sent and received.
use Rattle.std.specs.Prelude.{◌≡◌, ◌+◌, ⊤, List, [], ◌∷◌, ◌++◌, take, Option, Ok}
use Rattle.scoop_message.specs.declared.name.HandlerId.{HandlerId}
use Rattle.scoop_message.specs.declared.message.Message.{Message}
use Rattle.scoop_client.specs.State.{ClientState}
use Rattle.scoop_client.specs.declared.command.Command.{Command}
use Rattle.scoop_client.specs.Commands.{command}
use Rattle.scoop_driver.specs.declared.step.Step.{Step}
use Rattle.scoop_driver.specs.declared.step.Step.TheVariants.{Gave, Turned, Broke}
use Rattle.scoop_driver.specs.Steps as driver

-- A command that the client takes, with its outcome; a turn, in which every due message is sent and one is heard, if
-- one came; or a turn that broke off after the sends to these handlers, the last of which failed.
pub data DriverStep : Type 0 where
  Gives : Command → ClientState → DriverStep
  Turns : Option Message → DriverStep
  Breaks : List HandlerId → DriverStep

abbrev pub CanStep : ClientState → DriverStep → Type 0
CanStep c (Gives x d) = command c x ≡ Ok d
CanStep c (Turns got) = ⊤
CanStep c (Breaks hs) = (rest : List HandlerId) × (hs ++ rest ≡ c.handlers)

abbrev pub client_after : ClientState → DriverStep → ClientState
client_after c (Gives x d) = d
client_after c (Turns got) = driver.after_message c got
client_after c (Breaks hs) = c

-- ---- one after another

abbrev pub AllCan : ClientState → List DriverStep → Type 0
AllCan c [] = ⊤
AllCan c (s ∷ ss) = CanStep c s × AllCan (client_after c s) ss

abbrev pub walk : ClientState → List DriverStep → ClientState
walk c [] = c
walk c (s ∷ ss) = walk (client_after c s) ss

-- ---- a driver's own steps

abbrev pub move_of : ClientState → Step → DriverStep
move_of c (Gave x) = Gives x (driver.after c (Gave x))
move_of c (Turned got) = Turns (driver.message_in got)
move_of c (Broke place) = Breaks (take (place + 1) c.handlers)

abbrev pub moves_of : ClientState → List Step → List DriverStep
moves_of c [] = []
moves_of c (s ∷ ss) = move_of c s ∷ moves_of (driver.after c s) ss

-- steps that can be made are moves that can be made, to the same client
pub record AreMoves (c : ClientState) (steps : List Step) : Type 0 where
  pub can : AllCan c (moves_of c steps)
  pub client : walk c (moves_of c steps) ≡ driver.walk c steps
