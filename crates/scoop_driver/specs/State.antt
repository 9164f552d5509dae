-- A driver's state, and the steps from one state to another.
use Rattle.std.specs.Prelude.{◌≡◌, ℕ, ◌+◌, List, Option}
use Rattle.scoop_link.specs.Link.{Told, Exchanges}
use Rattle.scoop_client.specs.State.{ClientState}
use Rattle.scoop_driver.specs.declared.step.Step.{Step}
use Rattle.scoop_driver.specs.Steps.{walk, AllCan, sent_by, taken_by, faults_in, noted}

-- The visible state of a driver: its client, its link's datagrams if the link records them, the number of the link's
-- calls that failed, and the steps in its diary if it keeps them.
pub record Seen : Type 0 where
  pub client : ClientState
  pub told : Option Told
  pub faults : ℕ
  pub diary : Option (List Step)

-- that, its link and its diary, and the most turns that one call may take
pub record DriverState (L D : Type 0) : Type 0 where
  pub seen : Seen
  pub link : L
  pub diary : D
  pub turns : ℕ

abbrev pub seen_of : {L D : Type 0} → (L → Option Told) → (L → ℕ) → (D → Option (List Step)) → ClientState → L → D → Seen
seen_of told faults steps client link diary = record { client = client; told = told link; faults = faults link; diary = steps diary }

abbrev pub state_of : {L D : Type 0} → (L → Option Told) → (L → ℕ) → (D → Option (List Step)) → ClientState → L → D → ℕ → DriverState L D
state_of told faults steps client link diary turns =
    record { seen = seen_of told faults steps client link diary; link = link; diary = diary; turns = turns }

-- The steps lead from one state to the other. They can be made, one after another, and lead the client there. The link
-- gave and took their datagrams in order, if it records them, and as many of its calls failed. The diary gained them.
pub record Goes (steps : List Step) (old new : Seen) : Type 0 where
  pub client : new.client ≡ walk old.client steps
  pub can : AllCan old.client steps
  pub link : Exchanges old.told new.told (taken_by steps) (sent_by old.client steps)
  pub faults : new.faults ≡ old.faults + faults_in steps
  pub diary : new.diary ≡ noted old.diary steps
