-- A client's drivers as moves: their steps, one driver after another, with a restart between.
use Rattle.std.specs.Prelude.{◌≡◌, ◌+◌, ◌-◌, ◌^◌, ◌==◌, false, List, [], ◌∷◌, ◌++◌, map, take, Option, Some, None}
use Rattle.scoop_message.specs.declared.name.HandlerId.{HandlerId}
use Rattle.scoop_message.specs.declared.message.Message.{Message}
use Rattle.scoop_client.specs.State.{ClientState}
use Rattle.scoop_client.specs.Due.{due}
use Rattle.scoop_client.specs.Hearing.{heard}
use Rattle.scoop_model.specs.Step.{newest_block}
use Rattle.scoop_driver.specs.declared.step.Step.{Step}
use Rattle.scoop_driver.specs.declared.step.Step.TheVariants.{Gave, Turned, Broke}
use Rattle.scoop_driver.specs.Steps.{AllCan, after, message_in, walk}
use Rattle.scoop_weave.specs.System.{LocalClient, id_in, after_step, after_restart}
use Rattle.scoop_weave.specs.Moves.{LocalMove, Commanded, Sent, ClientHeard, ClientRestarted}

-- ---- a step

-- the sends to these handlers, each of what is due
abbrev pub sends_to : ClientState → List HandlerId → List LocalMove
sends_to c hs = map (λ h. Sent c.id h (due c h)) hs

abbrev pub hears : ClientState → Option Message → List LocalMove
hears c None = []
hears c (Some m) = ClientHeard c.id m (heard c m).1 ∷ []

-- a send that failed may have been sent
abbrev pub moves_at : ClientState → Step → List LocalMove
moves_at c (Gave x) = Commanded c.id x (newest_block (after c (Gave x))) ∷ []
moves_at c (Turned got) = sends_to c c.handlers ++ hears c (message_in got)
moves_at c (Broke place) = sends_to c (take (place + 1) c.handlers)

abbrev pub moves_by : ClientState → List Step → List LocalMove
moves_by c [] = []
moves_by c (s ∷ ss) = moves_at c s ++ moves_by (after c s) ss

-- ---- all drivers of a client

-- where the steps lead the client, while its stored incarnation stays
abbrev pub driven : LocalClient → List Step → LocalClient
driven c steps = after_step (walk c.client steps) c

abbrev pub moves_of : LocalClient → List Step → List (List Step) → List LocalMove
moves_of c first [] = moves_by c.client first
moves_of c first (steps ∷ more) =
    moves_by c.client first ++ ClientRestarted (id_in c) ∷ moves_of (after_restart (driven c first)) steps more

-- each driver's steps can be made, the first's from this client, each further one's from the client as it restarts with
-- its next incarnation
abbrev pub Lives : LocalClient → List Step → List (List Step) → LocalClient → Type 0
Lives c first [] now = AllCan c.client first × (driven c first ≡ now)
Lives c first (steps ∷ more) now =
    AllCan c.client first × ((c.stored == 2 ^ 32 - 1) ≡ false) × Lives (after_restart (driven c first)) steps more now
