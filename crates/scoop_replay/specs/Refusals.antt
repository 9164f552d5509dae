-- Why a replay is refused: what is so of the node's handlers, or of the client, as they are.
use Rattle.std.specs.Prelude.{◌≡◌, ◌≢◌, ◌-◌, ◌^◌, ⊤, List, Option, Some, None, Err}
use Rattle.scoop_message.specs.declared.name.HandlerId.{HandlerId}
use Rattle.scoop_message.specs.declared.message.Message.{Message}
use Rattle.scoop_message.specs.Message.{handler_of}
use Rattle.scoop_frame.specs.declared.version.Version.{Version}
use Rattle.scoop_frame.specs.Frame.{frame, IsFrame}
use Rattle.scoop_handler.specs.Hearing.{hear}
use Rattle.scoop_handler.specs.Local.{LocalHandler, handler_in}
use Rattle.scoop_handler.specs.Running.{job_out}
use Rattle.scoop_client.specs.State.{ClientState}
use Rattle.scoop_client.specs.declared.command.Command.{Command}
use Rattle.scoop_client.specs.Commands.{command}
use Rattle.scoop_driver.specs.declared.step.Received.TheVariants.{Frame}
use Rattle.scoop_driver.specs.declared.step.Step.{Step}
use Rattle.scoop_driver.specs.declared.step.Step.TheVariants.{Broke, Gave, Turned}
use Rattle.scoop_driver.specs.Steps.{IsDueAt}
use Rattle.scoop_book.specs.declared.event.Event.{Event}
use Rattle.scoop_book.specs.declared.event.Event.TheVariants.{Finish, Hear}
use Rattle.scoop_book.specs.Moves.{handler_at}
use Rattle.scoop_replay.specs.declared.error.ReplayError.{ReplayError}
use Rattle.scoop_replay.specs.declared.error.ReplayError.TheVariants.{OutOfMemory, NoHandler, Reply, NothingOut, Refused, NothingDue, NoFrame, Spent}

-- ---- a node

-- by the rules of its handler, the message gets this reply
pub record RepliesSo (hs : List LocalHandler) (m : Message) (r : Option Message) : Type 0 where
  pub handler : LocalHandler
  pub here : handler_in (handler_of m) hs ≡ Some handler
  pub reply : (hear handler.core.state m).1.reply ≡ r

-- no entry of the handler has left to be run
pub record HasNothingOut (hs : List LocalHandler) (h : HandlerId) : Type 0 where
  pub handler : LocalHandler
  pub here : handler_in h hs ≡ Some handler
  pub none : job_out handler.core ≡ None

-- the handlers refuse an event that was reported with this reply
abbrev pub IsNodeRefusal : List LocalHandler → Event → Option Message → ReplayError → Type 0
IsNodeRefusal hs e told OutOfMemory = ⊤
IsNodeRefusal hs e told (NoHandler h) = (h ≡ handler_at e) × (handler_in h hs ≡ None)
IsNodeRefusal hs e told (Reply ours) = (m : Message) × (e ≡ Hear m) × RepliesSo hs m ours × (ours ≢ told)
IsNodeRefusal hs e told (NothingOut h) = (e ≡ Finish h) × HasNothingOut hs h
IsNodeRefusal hs e told (Refused error) = ⊥
IsNodeRefusal hs e told (NothingDue place) = ⊥
IsNodeRefusal hs e told NoFrame = ⊥
IsNodeRefusal hs e told Spent = ⊥

-- ---- a client

-- the message has no frame of the version
abbrev pub HasNoFrame : Version → Message → Type 0
HasNoFrame v m = IsFrame v m (frame v m) → ⊥

-- the client refuses the step
abbrev pub IsClientRefusal : ClientState → Step → ReplayError → Type 0
IsClientRefusal c s OutOfMemory = ⊤
IsClientRefusal c s (NoHandler h) = ⊥
IsClientRefusal c s (Reply ours) = ⊥
IsClientRefusal c s (NothingOut h) = ⊥
IsClientRefusal c s (Refused e) = (x : Command) × (s ≡ Gave x) × (command c x ≡ Err e)
IsClientRefusal c s (NothingDue place) = (s ≡ Broke place) × (IsDueAt c place → ⊥)
IsClientRefusal c s NoFrame = (v : Version) × (m : Message) × (s ≡ Turned (Frame v m)) × HasNoFrame v m
IsClientRefusal c s Spent = ⊥

-- the client refuses to restart
abbrev pub IsRestartRefusal : ClientState → ReplayError → Type 0
IsRestartRefusal c OutOfMemory = ⊤
IsRestartRefusal c (NoHandler h) = ⊥
IsRestartRefusal c (Reply ours) = ⊥
IsRestartRefusal c (NothingOut h) = ⊥
IsRestartRefusal c (Refused e) = ⊥
IsRestartRefusal c (NothingDue place) = ⊥
IsRestartRefusal c NoFrame = ⊥
IsRestartRefusal c Spent = c.inc ≡ 2 ^ 32 - 1
