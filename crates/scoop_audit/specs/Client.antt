-- The lives that the journal of a client tells, step by step.
use Rattle.std.specs.Prelude.{◌≡◌, ◌<◌, ℕ, List, [], ◌∷◌, ◌++◌, Option, Some, None}
use Rattle.scoop_message.specs.declared.name.ClientId.{ClientId}
use Rattle.scoop_message.specs.declared.message.Message.{Message}
use Rattle.scoop_driver.specs.declared.step.Received.{Received}
use Rattle.scoop_driver.specs.declared.step.Received.TheVariants as received
use Rattle.scoop_driver.specs.declared.step.Step.{Step}
use Rattle.scoop_driver.specs.declared.step.Step.TheVariants as step
use Rattle.scoop_journal.specs.declared.line.Arrival.{Arrival}
use Rattle.scoop_journal.specs.declared.line.Arrival.TheVariants.{Nothing, Frame, NoFrame, Fault}
use Rattle.scoop_journal.specs.declared.line.Line.{Line}
use Rattle.scoop_journal.specs.declared.line.Line.TheVariants.{NodeLife, ClientLife, Open, Hear, Begin, Finish, Do, Turn, Broke}
use Rattle.scoop_weave.specs.System.{LocalClient}
use Rattle.scoop_replay.specs.Client.{ClientTale, ClientValue, IsClientTale, StepsOn, after_one_restart, after_one_step, local_client}
use Rattle.scoop_audit.specs.Lines.{IsJournalOf, text_of_all}

-- only a frame is heard: the client does nothing with what else came
abbrev pub received_as : Arrival → Received
received_as Nothing = received.Nothing
received_as (Frame v m) = received.Frame v m
received_as NoFrame = received.Nothing
received_as Fault = received.Nothing

-- the step that a line tells
abbrev pub step_of : Line → Option Step
step_of (NodeLife n) = None
step_of (ClientLife c inc batch) = None
step_of (Open h image pending) = None
step_of (Hear m reply) = None
step_of (Begin h) = None
step_of (Finish h) = None
step_of (Do x) = Some (step.Gave x)
step_of (Turn a) = Some (step.Turned (received_as a))
step_of (Broke place) = Some (step.Broke place)

-- a turn in which nothing came, which is supposed at the end of each life: a client that was killed may have sent what was due
abbrev pub last_turn : Step
last_turn = step.Turned received.Nothing

-- From this tale these lines lead to that one, and the last life that they begin has this incarnation, or 0. A life of which no
-- line is there is supposed, and so is the last turn of each life.
pub data TellsClient (id : ClientId) (batch : ℕ) (start : ClientTale) : ℕ → List Line → ClientTale → Type 0 where
  tells_nothing : TellsClient id batch start 0 [] start
  tells_life : (last inc : ℕ) (lines : List Line) (t : ClientTale) → TellsClient id batch start last lines t → last < inc → t.now.stored ≡ inc →
      TellsClient id batch start inc (lines ++ ClientLife id inc batch ∷ []) t
  tells_step : (last : ℕ) (lines : List Line) (t : ClientTale) (l : Line) (s : Step) → TellsClient id batch start last lines t → t.now.stored ≡ last →
      step_of l ≡ Some s → TellsClient id batch start last (lines ++ l ∷ []) (after_one_step s t)
  ends_life : (last : ℕ) (lines : List Line) (t : ClientTale) → TellsClient id batch start last lines t →
      TellsClient id batch start last lines (after_one_restart (after_one_step last_turn t))

-- ---- the steps of a replay

-- the line's step leads from each tale of the client to the one with this step more
abbrev pub StepsBy : Line → (old new : ClientValue) → (post more : List Message) → Type 0
StepsBy (NodeLife n) old new post more = ⊥
StepsBy (ClientLife c inc batch) old new post more = ⊥
StepsBy (Open h image pending) old new post more = ⊥
StepsBy (Hear m reply) old new post more = ⊥
StepsBy (Begin h) old new post more = ⊥
StepsBy (Finish h) old new post more = ⊥
StepsBy (Do x) old new post more = StepsOn (step.Gave x) old new post more
StepsBy (Turn a) old new post more = StepsOn (step.Turned (received_as a)) old new post more
StepsBy (Broke place) old new post more = StepsOn (step.Broke place) old new post more

-- a tale of the client, to which these lines led from that one
pub record ToldClient
    (id : ClientId) (batch : ℕ) (joined : LocalClient) (t : ClientTale) (last : ℕ) (lines : List Line) (now : ClientValue) (post : List Message)
    : Type 0 where
  pub tale : ClientTale
  pub now_is : tale.now ≡ local_client now.client
  pub is_tale : IsClientTale joined tale post now.trail
  pub tells : TellsClient id batch t last lines tale

-- from each tale of the client the lines lead to such a one
abbrev pub ReadsClient : ClientId → ℕ → ℕ → List Line → (old new : ClientValue) → (post more : List Message) → Type 0
ReadsClient id batch last lines old new post more =
    (joined : LocalClient) (t : ClientTale) → t.now ≡ local_client old.client → IsClientTale joined t post old.trail
    → ToldClient id batch joined t last lines new more

-- the lines up to this rest of the journal were read
pub record ClientUpTo (id : ClientId) (batch last : ℕ) (bytes rest : List ℕ) (old new : ClientValue) (post more : List Message) : Type 0 where
  pub lines : List Line
  pub bytes_are : bytes ≡ text_of_all lines ++ rest
  pub reads : ReadsClient id batch last lines old new post more

-- the journal was read to its end, and the last turn of its last life is supposed
pub record ClientRead (id : ClientId) (batch : ℕ) (bytes : List ℕ) (old new : ClientValue) (post more : List Message) : Type 0 where
  pub last : ℕ
  pub lines : List Line
  pub journal : IsJournalOf bytes lines
  pub between : ClientValue
  pub sent : List Message
  pub reads : ReadsClient id batch last lines old between post sent
  pub turned : StepsOn last_turn between new sent more
