-- Lines of a journal that tell something impossible, and where in the journal they stand.
use Rattle.std.specs.Prelude.{◌≡◌, ◌≢◌, ⊤, ℕ, List, ◌++◌, map, slice_get, Option, Some, Err}
use Rattle.scoop_message.specs.declared.name.ClientId.{ClientId}
use Rattle.scoop_message.specs.declared.name.HandlerId.{HandlerId}
use Rattle.scoop_message.specs.declared.message.Message.{Message}
use Rattle.scoop_handler.specs.Local.{LocalHandler, number_in}
use Rattle.scoop_client.specs.State.{ClientState}
use Rattle.scoop_client.specs.declared.command.Command.{Command}
use Rattle.scoop_client.specs.Commands.{command}
use Rattle.scoop_model.specs.Step.{Newcomer}
use Rattle.scoop_driver.specs.Steps.{IsDueAt}
use Rattle.scoop_book.specs.declared.event.Event.{Event}
use Rattle.scoop_book.specs.declared.event.Event.TheVariants as event
use Rattle.scoop_journal.specs.declared.line.Line.{Line}
use Rattle.scoop_journal.specs.declared.line.Line.TheVariants.{NodeLife, ClientLife, Open, Hear, Begin, Finish, Do, Turn, Broke}
use Rattle.scoop_journal.specs.Journal.{ended}
use Rattle.scoop_weave.specs.System.{new_client}
use Rattle.scoop_replay.specs.declared.node.Placed.{Placed}
use Rattle.scoop_replay.specs.Node.{IsStoredAs, NodeTale, NodeValue, Told, new_tale, placed_local}
use Rattle.scoop_replay.specs.Client.{ClientTale, ClientValue, ToldBy, new_client_tale}
use Rattle.scoop_replay.specs.Refusals.{HasNothingOut, RepliesSo}
use Rattle.scoop_audit.specs.declared.error.Trouble.{Trouble}
use Rattle.scoop_audit.specs.declared.error.Trouble.TheVariants.{OutOfMemory, Fault, Wrong as IsWrong}
use Rattle.scoop_audit.specs.declared.error.Wrong.{Wrong}
use Rattle.scoop_audit.specs.declared.error.Wrong.TheVariants.{Reply, NothingOut, Opens, Refused, NothingDue, Unsent}
use Rattle.scoop_audit.specs.Lines.{text_of_all}
use Rattle.scoop_audit.specs.Node.{BeginsLife, NodeUpTo, OpensFrom, TellsNode}
use Rattle.scoop_audit.specs.Client.{ClientUpTo, TellsClient}

-- ---- a line

-- the handler of this number opens with blobs that aren't those of its state
pub record OpensOtherwise (hs : List LocalHandler) (h : HandlerId) (image pending : List ℕ) : Type 0 where
  pub place : ℕ
  pub handler : LocalHandler
  pub here : slice_get hs place ≡ Some handler
  pub number : number_in handler ≡ h
  pub other : IsStoredAs handler image pending → ⊥

-- the line opens the handler with such blobs
abbrev pub IsOpenedOtherwise : List LocalHandler → HandlerId → Line → Type 0
IsOpenedOtherwise hs h (NodeLife n) = ⊥
IsOpenedOtherwise hs h (ClientLife c inc batch) = ⊥
IsOpenedOtherwise hs h (Open g image pending) = (g ≡ h) × OpensOtherwise hs h image.now pending.now
IsOpenedOtherwise hs h (Hear m reply) = ⊥
IsOpenedOtherwise hs h (Begin g) = ⊥
IsOpenedOtherwise hs h (Finish g) = ⊥
IsOpenedOtherwise hs h (Do x) = ⊥
IsOpenedOtherwise hs h (Turn a) = ⊥
IsOpenedOtherwise hs h (Broke place) = ⊥

-- the line tells an event that is impossible at these handlers, for this reason
abbrev pub IsWrongAt : List LocalHandler → Line → Wrong → Type 0
IsWrongAt hs l (Reply ours told) = (m : Message) × (l ≡ Hear m told) × RepliesSo hs m ours × (ours ≢ told)
IsWrongAt hs l (NothingOut h) = (l ≡ Finish h) × HasNothingOut hs h
IsWrongAt hs l (Opens h) = IsOpenedOtherwise hs h l
IsWrongAt hs l (Refused e) = ⊥
IsWrongAt hs l (NothingDue place) = ⊥
IsWrongAt hs l (Unsent m party) = ⊥

-- the line tells a step that is impossible at this client, for this reason
abbrev pub IsWrongOf : ClientState → Line → Wrong → Type 0
IsWrongOf c l (Reply ours told) = ⊥
IsWrongOf c l (NothingOut h) = ⊥
IsWrongOf c l (Opens h) = ⊥
IsWrongOf c l (Refused e) = (x : Command) × (l ≡ Do x) × (command c x ≡ Err e)
IsWrongOf c l (NothingDue place) = (l ≡ Broke place) × (IsDueAt c place → ⊥)
IsWrongOf c l (Unsent m party) = ⊥

-- the line of an event with its reply
abbrev pub line_of : Event → Option Message → Line
line_of (event.Hear m) r = Hear m r
line_of (event.Begin h) r = Begin h
line_of (event.Finish h) r = Finish h

-- if the trouble is a wrong line, this holds of it
abbrev pub IfWrong : (Wrong → Type 0) → Trouble → Type 0
IfWrong P OutOfMemory = ⊤
IfWrong P (Fault number fault) = ⊤
IfWrong P (IsWrong w) = P w

-- the trouble isn't a wrong line
abbrev pub IsNotWrong : Trouble → Type 0
IsNotWrong t = IfWrong (λ w. ⊥) t

-- ---- while a journal is read

-- the lines before this one were read, and it is wrong at the handlers as they are then
pub record NodeStops (bytes : List ℕ) (old : NodeValue) (post : List Message) (w : Wrong) : Type 0 where
  pub line : Line
  pub rest : List ℕ
  pub now : NodeValue
  pub sent : List Message
  pub up_to : NodeUpTo bytes (ended line ++ rest) old now post sent
  pub wrong : IsWrongAt now.handlers line w

-- the first of these lines open handlers, and the next one is wrong
pub record OpeningStops (bytes : List ℕ) (hs : List LocalHandler) (w : Wrong) : Type 0 where
  pub line : Line
  pub rest : List ℕ
  pub opened : OpensFrom bytes (ended line ++ rest) hs
  pub wrong : IsWrongAt hs line w

-- a life begins, and one of its first lines is wrong
pub record LifeStops (number : ℕ) (bytes : List ℕ) (old : NodeValue) (post : List Message) (w : Wrong) : Type 0 where
  pub line : Line
  pub rest : List ℕ
  pub now : NodeValue
  pub sent : List Message
  pub begins : BeginsLife number bytes (ended line ++ rest) old now post sent
  pub wrong : IsWrongAt now.handlers line w

-- the lines before this one were read, and it is wrong at the client as it is then
pub record ClientStops (id : ClientId) (batch : ℕ) (bytes : List ℕ) (old : ClientValue) (post : List Message) (w : Wrong) : Type 0 where
  pub last : ℕ
  pub line : Line
  pub rest : List ℕ
  pub now : ClientValue
  pub sent : List Message
  pub up_to : ClientUpTo id batch last bytes (ended line ++ rest) old now post sent
  pub wrong : IsWrongOf now.client line w

-- ---- a journal

-- The first lines of the node's journal lead from new handlers to a tale whose histories replay. The next line is wrong at the
-- handlers as they are then.
pub record StopsNode (words : HandlerId → List ℕ) (n : ℕ) (ps : List Placed) (journal : List ℕ) (w : Wrong) : Type 0 where
  pub tale : NodeTale
  pub lines : List Line
  pub line : Line
  pub rest : List ℕ
  pub journal_is : journal ≡ text_of_all lines ++ (ended line ++ rest)
  pub tells : TellsNode words n (new_tale (map placed_local ps)) lines tale
  pub replays : Told words (map placed_local ps) tale.done tale.newest tale.handlers
  pub wrong : IsWrongAt tale.handlers line w

-- The first lines of the client's journal lead from the new client to a tale whose steps can be made. The next line is wrong at
-- the client as it is then.
pub record StopsClient (n : Newcomer) (journal : List ℕ) (w : Wrong) : Type 0 where
  pub tale : ClientTale
  pub last : ℕ
  pub lines : List Line
  pub line : Line
  pub rest : List ℕ
  pub journal_is : journal ≡ text_of_all lines ++ (ended line ++ rest)
  pub tells : TellsClient n.id n.batch (new_client_tale (new_client n)) last lines tale
  pub replays : ToldBy (new_client n) tale.done tale.newest tale.now
  pub wrong : IsWrongOf tale.now.client line w
