-- The printed line of a datagram.
use Rattle.std.specs.Prelude.{ℕ, List, [], ◌∷◌, ◌++◌, ◌⊎◌, codes, Option}
use Rattle.std.specs.Io.KnownBytes.{Appends}
use Rattle.scoop_message.specs.declared.message.Message.{Message}
use Rattle.scoop_frame.specs.declared.version.Version.{Version}
use Rattle.scoop_frame.specs.declared.error.FrameError.{FrameError}
use Rattle.scoop_frame.specs.Fault.{IsFirstFault}
use Rattle.scoop_frame.specs.Frame.{IsFrame}
use Rattle.scoop_frame.specs.Text.{error_text}
use Rattle.scoop_demo.specs.FrameWords.{frame_words}

-- its message
pub record TellsMessage (datagram : List ℕ) (old new : Option (List ℕ)) : Type 0 where
  pub version : Version
  pub message : Message
  pub is : IsFrame version message datagram
  pub told : Appends old new (frame_words version message ++ 10 ∷ [])

-- or the first reason why it is none
pub record TellsFault (datagram : List ℕ) (old new : Option (List ℕ)) : Type 0 where
  pub error : FrameError
  pub is : IsFirstFault error datagram
  pub told : Appends old new (codes "refused " ++ error_text error ++ 10 ∷ [])

abbrev pub TellsFrame : List ℕ → (old new : Option (List ℕ)) → Type 0
TellsFrame datagram old new = TellsMessage datagram old new ⊎ TellsFault datagram old new
