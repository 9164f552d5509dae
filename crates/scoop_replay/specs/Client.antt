-- A client whose lives are replayed: the steps of its drivers so far, and its traffic.
use Rattle.std.specs.Prelude.{◌≡◌, ◌-◌, ◌^◌, ◌==◌, ℕ, false, List, [], ◌∷◌, ◌++◌}
use Rattle.scoop_message.specs.declared.message.Message.{Message}
use Rattle.scoop_client.specs.State.{ClientState}
use Rattle.scoop_driver.specs.declared.step.Step.{Step}
use Rattle.scoop_driver.specs.Steps.{AllCan}
use Rattle.scoop_weave.specs.System.{LocalClient, after_restart}
use Rattle.scoop_weave.specs.ClientSteps.{driven}
use Rattle.scoop_weaver.specs.declared.traffic.Traffic.{Traffic}
use Rattle.scoop_weaver.specs.declared.trail.Passage.{Passage}
use Rattle.scoop_weaver.specs.Passing.{by_client}
use Rattle.scoop_weaver.specs.Trails.{HasTraffic}

-- Each driver's steps can be made: the first's from this client, each further one's from the client as it restarts. The
-- newest one's lead to the client as it is.
abbrev pub ToldBy : LocalClient → (done : List (List Step)) → (newest : List Step) → LocalClient → Type 0
ToldBy c [] newest now = AllCan c.client newest × (driven c newest ≡ now)
ToldBy c (ss ∷ done) newest now =
    AllCan c.client ss × ((c.stored == 2 ^ 32 - 1) ≡ false) × ToldBy (after_restart (driven c ss)) done newest now

-- the traffic of these drivers
abbrev pub passed_of : LocalClient → List (List Step) → List Step → List Traffic
passed_of c [] newest = by_client c newest []
passed_of c (ss ∷ done) newest = by_client c ss (done ++ newest ∷ [])

-- the steps of the drivers that are over, those of the newest one, and the client as it is
pub record ClientTale : Type 0 where
  pub done : List (List Step)
  pub newest : List Step
  pub now : LocalClient

abbrev pub new_client_tale : LocalClient → ClientTale
new_client_tale c = record { done = []; newest = []; now = c }

-- one more step
abbrev pub after_one_step : Step → ClientTale → ClientTale
after_one_step s t = record { done = t.done; newest = t.newest ++ s ∷ []; now = driven t.now (s ∷ []) }

-- the client restarts
abbrev pub after_one_restart : ClientTale → ClientTale
after_one_restart t = record { done = t.done ++ t.newest ∷ []; newest = []; now = after_restart t.now }

-- the tale is that of lives which begin with this client, and the trail has its traffic
pub record IsClientTale (joined : LocalClient) (t : ClientTale) (post : List Message) (trail : List Passage) : Type 0 where
  pub told : ToldBy joined t.done t.newest t.now
  pub passed : HasTraffic post trail (passed_of joined t.done t.newest)

-- ---- the steps of a replay

-- a client with its moves; its incarnation is stored
pub record ClientValue : Type 0 where
  pub client : ClientState
  pub trail : List Passage

abbrev pub client_value : ClientState → List Passage → ClientValue
client_value client trail = record { client = client; trail = trail }

abbrev pub local_client : ClientState → LocalClient
local_client c = record { client = c; stored = c.inc }

-- from each tale of the client it leads to the one with this step more
abbrev pub StepsOn : Step → (old new : ClientValue) → (post more : List Message) → Type 0
StepsOn s old new post more =
    (joined : LocalClient) (t : ClientTale) → t.now ≡ local_client old.client → IsClientTale joined t post old.trail
    → IsClientTale joined (after_one_step s t) more new.trail × (local_client new.client ≡ driven t.now (s ∷ []))

-- from each tale of the client it leads to the one in which it restarts
abbrev pub RestartsOn : (old new : ClientValue) → (post more : List Message) → Type 0
RestartsOn old new post more =
    (joined : LocalClient) (t : ClientTale) → t.now ≡ local_client old.client → IsClientTale joined t post old.trail
    → IsClientTale joined (after_one_restart t) more new.trail × (local_client new.client ≡ after_restart t.now)
