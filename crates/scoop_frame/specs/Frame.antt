-- The frame of a message: 26 bytes and a body.
use Rattle.std.specs.Prelude.{◌≡◌, ℕ, List, [], ◌∷◌, ◌++◌, length}
use Rattle.std.specs.Int.{w16, w32, to_be_bytes}
use Rattle.scoop_message.specs.declared.name.HandlerId.{HandlerId}
use Rattle.scoop_message.specs.declared.name.ClientId.{ClientId}
use Rattle.scoop_message.specs.declared.name.Block.{Block}
use Rattle.scoop_message.specs.declared.message.Message.{Message}
use Rattle.scoop_message.specs.declared.message.Message.TheVariants.{Hello, Welcome, Lock, Locked, Busy, Open, Opened, Unlock, Unlocked, Log, Logged, Answer}
use Rattle.scoop_message.specs.Message.{Fits}
use Rattle.scoop_message.specs.Range.{IsMessage}
use Rattle.scoop_frame.specs.declared.kind.Kind.TheVariants as of_kind
use Rattle.scoop_frame.specs.declared.version.Version.{Version}
use Rattle.scoop_frame.specs.Kind.{code}
use Rattle.scoop_frame.specs.Version.{version_byte, Carries}
use Rattle.scoop_frame.specs.Body.{log_bytes, answer_bytes}

-- "SQ", the version, the kind, the names and numbers, and the body's length
unfoldable pub header : Version → ℕ → HandlerId → Block → ℕ → ℕ → List ℕ
header version kind handler block number body_len =
    0x53 ∷ 0x51 ∷ version_byte version ∷ kind ∷ to_be_bytes w32 handler.0 ++ to_be_bytes w32 block.client.0
    ++ to_be_bytes w32 block.inc ++ to_be_bytes w32 block.num ++ to_be_bytes w32 number ++ to_be_bytes w16 body_len

abbrev pub layout : Version → ℕ → HandlerId → Block → ℕ → List ℕ → List ℕ
layout version kind handler block number body = header version kind handler block number (length body) ++ body

-- a greeting names no block
abbrev pub no_block : ClientId → ℕ → Block
no_block c inc = record { client = c; inc = inc; num = 0 }

-- each kind with the fields that it uses and its body; the other fields are 0
abbrev pub frame : Version → Message → List ℕ
frame v (Hello h c inc) = layout v (code of_kind.Hello) h (no_block c inc) 0 []
frame v (Welcome h c inc) = layout v (code of_kind.Welcome) h (no_block c inc) 0 []
frame v (Lock h b) = layout v (code of_kind.Lock) h b 0 []
frame v (Locked h b) = layout v (code of_kind.Locked) h b 0 []
frame v (Busy h b) = layout v (code of_kind.Busy) h b 0 []
frame v (Open h b) = layout v (code of_kind.Open) h b 0 []
frame v (Opened h b) = layout v (code of_kind.Opened) h b 0 []
frame v (Unlock h b) = layout v (code of_kind.Unlock) h b 0 []
frame v (Unlocked h b) = layout v (code of_kind.Unlocked) h b 0 []
frame v (Log h b n es) = layout v (code of_kind.Log) h b n (log_bytes v es)
frame v (Logged h b n) = layout v (code of_kind.Logged) h b n []
frame v (Answer h b n a) = layout v (code of_kind.Answer) h b n (answer_bytes a)

-- the body of a message's frame, which is empty but for two kinds
abbrev pub body_of : Version → Message → List ℕ
body_of v (Log h b n es) = log_bytes v es
body_of v (Answer h b n a) = answer_bytes a
body_of v m = []

-- the bytes are the frame of a message that fits, in a version that carries it
pub record IsFrame (v : Version) (m : Message) (bytes : List ℕ) : Type 0 where
  pub carries : Carries v m
  pub fits : Fits m
  pub range : IsMessage m
  pub bytes_are : bytes ≡ frame v m

-- a message with its version, as it is read
abbrev pub both : Version → Message → Version × Message
both v m = (v, m)
