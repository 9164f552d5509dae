-- Answers of a book to datagrams.
use Rattle.std.specs.Prelude.{◌≡◌, ◌||◌, ℕ, if◌then◌else◌, List, ◌++◌, take, codes, Option, Some, None}
use Rattle.hex.specs.Hex.{encode_lower}
use Rattle.scoop_message.specs.declared.name.HandlerId.{HandlerId}
use Rattle.scoop_message.specs.declared.message.Message.{Message}
use Rattle.scoop_message.specs.Message.{handler_of, is_for_handler}
use Rattle.scoop_frame.specs.declared.error.FrameError.{FrameError}
use Rattle.scoop_frame.specs.declared.version.Version.{Version}
use Rattle.scoop_frame.specs.Fault.{IsFirstFault}
use Rattle.scoop_frame.specs.Frame.{frame, IsFrame}
use Rattle.scoop_frame.specs.Text.{error_text}
use Rattle.scoop_handler.specs.declared.note.Heard.{Heard}
use Rattle.scoop_handler.specs.declared.note.Note.{Note}
use Rattle.scoop_handler.specs.declared.note.Note.TheVariants.{Dropped}
use Rattle.scoop_handler.specs.declared.note.Reason.TheVariants.{NotForHandlers, WrongHandler}
use Rattle.scoop_handler.specs.Text.{note_text}
use Rattle.scoop_book.specs.declared.error.BookError.{BookError}
use Rattle.scoop_book.specs.declared.event.Event.TheVariants.{Hear}
use Rattle.scoop_book.specs.declared.event.Reply.TheVariants as reply
use Rattle.scoop_book.specs.Moves.{LocalHandler, handler_in}
use Rattle.scoop_book.specs.Books.{BookValue, Gains, Stays, fails}
use Rattle.scoop_netloop.specs.declared.answer.Answered.{Answered}
use Rattle.scoop_netloop.specs.declared.answer.Answered.TheVariants.{Reply, Silent, RefusedFrame}
use Rattle.scoop_netloop.specs.Answering.{IsUnheard, runs_after}
use Rattle.scoop_netloop.specs.RunningOut.{BreaksOff, RunsSome}
use Rattle.scoop_demo.specs.declared.fault.RunError.{RunError}
use Rattle.scoop_demo.specs.Storing.{TellsRefusal}

-- ---- texts

abbrev pub line_of : Answered → List ℕ → List ℕ
line_of (Reply n note) out = encode_lower (take n out)
line_of (Silent note) out = codes "none " ++ note_text note
line_of (RefusedFrame e) out = codes "refused " ++ error_text e

-- a reply in lower-case hex digits, or `none` and the note
abbrev pub text_of : Version → Option Message → Note → List ℕ
text_of v None note = codes "none " ++ note_text note
text_of v (Some answer) note = encode_lower (frame v answer)

-- the note of every other handler on a message
abbrev pub note_elsewhere : Message → Note
note_elsewhere m = Dropped (if is_for_handler m then WrongHandler else NotForHandlers)

-- ---- a datagram

-- only the keeper changes
pub record Rests {K : Type 0} (old new : BookValue K) : Type 0 where
  pub stays : Stays old new
  pub failed : new.failed ≡ old.failed

-- the handler of a message may have something to run after this note
abbrev pub runs_by : Note → HandlerId → Option HandlerId
runs_by note h = if runs_after note then Some h else None

-- bytes that are no frame change nothing
pub record PrintsRefused {K : Type 0} (datagram : List ℕ) (old new : BookValue K) (next : Option HandlerId) (text : List ℕ) : Type 0 where
  pub error : FrameError
  pub first_fault : IsFirstFault error datagram
  pub rests : Rests old new
  pub nothing : next ≡ None
  pub is : text ≡ codes "refused " ++ error_text error

-- a message that its handler has heard is one more entry of the history
pub record PrintsHeard {K : Type 0} (datagram : List ℕ) (old new : BookValue K) (next : Option HandlerId) (text : List ℕ) : Type 0 where
  pub version : Version
  pub message : Message
  pub carried : IsFrame version message datagram
  pub heard : Heard
  pub gains : Gains 0 (Hear message) (reply.Heard heard) old new
  pub runs : next ≡ runs_by heard.note (handler_of message)
  pub is : text ≡ text_of version heard.reply heard.note

-- a message whose handler isn't here changes nothing
pub record PrintsElsewhere {K : Type 0} (datagram : List ℕ) (old new : BookValue K) (next : Option HandlerId) (text : List ℕ) : Type 0 where
  pub version : Version
  pub message : Message
  pub carried : IsFrame version message datagram
  pub away : handler_in (handler_of message) old.handlers ≡ None
  pub rests : Rests old new
  pub nothing : next ≡ None
  pub is : text ≡ codes "none " ++ note_text (note_elsewhere message)

-- the book after a datagram, the handler that may have something to run then, and the text of the answer
pub data Prints {K : Type 0} (datagram : List ℕ) (old new : BookValue K) (next : Option HandlerId) (text : List ℕ) : Type 0 where
  refused : PrintsRefused datagram old new next text → Prints datagram old new next text
  heard : PrintsHeard datagram old new next text → Prints datagram old new next text
  elsewhere : PrintsElsewhere datagram old new next text → Prints datagram old new next text

-- ---- refusals of the book

-- the datagram is the frame of a message to a handler that is here, which the book refuses
pub record Unheard {K : Type 0} (datagram : List ℕ) (old new : BookValue K) (e : RunError) : Type 0 where
  pub refusal : BookError
  pub told : TellsRefusal refusal e
  pub unheard : IsUnheard datagram old refusal
  pub stays : Stays old new
  pub failed : new.failed ≡ (old.failed || fails refusal)

pub record IsHere (hs : List LocalHandler) (h : HandlerId) : Type 0 where
  pub handler : LocalHandler
  pub here : handler_in h hs ≡ Some handler

-- some entries of the handler run, and then the book refuses
pub record StopsRunning {K : Type 0} (h : HandlerId) (old new : BookValue K) (e : RunError) : Type 0 where
  pub refusal : BookError
  pub told : TellsRefusal refusal e
  pub breaks : BreaksOff h old new refusal
  pub some : RunsSome 0 h old new
