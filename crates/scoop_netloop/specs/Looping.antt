-- A link with a book inside.
use Rattle.std.specs.Prelude.{◌≡◌, ◌⊎◌, ◌++◌, ◌∷◌, ℕ, Bool, true, false, List, [], Option, Some, None}
use Rattle.scoop_message.specs.declared.name.HandlerId.{HandlerId}
use Rattle.scoop_message.specs.declared.message.Message.{Message}
use Rattle.scoop_message.specs.Message.{handler_of}
use Rattle.scoop_frame.specs.declared.error.FrameError.{FrameError}
use Rattle.scoop_frame.specs.declared.version.Version.{Version}
use Rattle.scoop_frame.specs.Fault.{IsFirstFault}
use Rattle.scoop_frame.specs.Frame.{frame}
use Rattle.scoop_link.specs.Datagram.{kept}
use Rattle.scoop_book.specs.Books.{BookValue, Stays}
use Rattle.scoop_book.specs.declared.error.BookError.{BookError}
use Rattle.scoop_netloop.specs.declared.answer.Answered.{Answered}
use Rattle.scoop_netloop.specs.Answering.{AnswersFrame, IsUnheard, runs_after}
use Rattle.scoop_netloop.specs.RunningOut.{RunsDry, RunsSome}

-- the book, the pass for which it is used, and the replies that haven't been received yet, oldest first
pub record LoopValue (K : Type 0) : Type 0 where
  pub book : BookValue K
  pub pass : ℕ
  pub replies : List (List ℕ)

abbrev pub loop_value : {K : Type 0} → BookValue K → ℕ → List (List ℕ) → LoopValue K
loop_value book pass replies = record { book = book; pass = pass; replies = replies }

-- ---- what a send does

-- the frame of the reply, if there is one, goes after the other replies, or is lost for lack of memory
abbrev pub QueuesReply : Version → Option Message → (old new : List (List ℕ)) → Type 0
QueuesReply v None old new = new ≡ old
QueuesReply v (Some reply) old new = (new ≡ old ++ kept (frame v reply) ∷ []) ⊎ (new ≡ old)

-- if something may be ready now, the handler runs until it has nothing to run or the book refuses
abbrev pub RunsThen : {K : Type 0} → (ready : Bool) → ℕ → HandlerId → (old new : BookValue K) → Type 0
RunsThen true pass h old new = RunsDry pass h old new ⊎ RunsSome pass h old new
RunsThen false pass h old new = new ≡ old

-- the bytes are a frame, which the book answers as a datagram; the reply waits to be received, and the handler runs
pub record LoopsBack {K : Type 0} (pass : ℕ) (datagram : List ℕ) (old : BookValue K) (was : List (List ℕ)) (new : BookValue K)
    (now : List (List ℕ)) : Type 0 where
  pub between : BookValue K
  pub answered : Answered
  pub buffer : List ℕ
  pub out : List ℕ
  pub answers : AnswersFrame pass datagram old between answered buffer out
  pub queues : QueuesReply answers.version answers.heard.reply was now
  pub runs : RunsThen (runs_after answers.heard.note) pass (handler_of answers.message) between new

-- the book and the replies after some bytes are sent
pub data Loops {K : Type 0} (pass : ℕ) (datagram : List ℕ) (old : BookValue K) (was : List (List ℕ)) (new : BookValue K) (now : List (List ℕ)) : Type 0 where
  no_frame : (e : FrameError) → IsFirstFault e datagram → new ≡ old → now ≡ was → Loops pass datagram old was new now
  unheard : (e : BookError) → IsUnheard datagram old e → Stays old new → now ≡ was → Loops pass datagram old was new now
  loops_back : LoopsBack pass datagram old was new now → Loops pass datagram old was new now
