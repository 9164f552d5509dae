-- Headers: the beginnings of bytes, and the message that a header and a body are.
use Rattle.std.specs.Prelude.{◌≡◌, ◌<◌, ◌≤◌, ◌^◌, ℕ, List, length, drop, ⊤}
use Rattle.scoop_message.specs.declared.message.Message.{Message}
use Rattle.scoop_message.specs.declared.message.Message.TheVariants as m
use Rattle.scoop_message.specs.Message.{Fits}
use Rattle.scoop_message.specs.Range.{IsMessage, IsNumberOf, IsEntries, IsAnswer}
use Rattle.scoop_frame.specs.declared.header.Header.{Header}
use Rattle.scoop_frame.specs.Version.{version_byte, Carries}
use Rattle.scoop_frame.specs.Kind.{code}
use Rattle.scoop_frame.specs.Frame.{layout, frame}
use Rattle.scoop_frame.specs.Fault.{HasUnused, LacksNumber, HasBody}

-- the bytes of a header and a body
abbrev pub framed : Header → List ℕ → List ℕ
framed h body = layout h.version (code h.kind) h.handler h.block h.number body

-- the bytes are these fields and a body, whose length they say
pub record IsHeader (b : List ℕ) (h : Header) : Type 0 where
  pub long : 26 ≤ length b
  pub bytes : b ≡ framed h (drop 26 b)
  pub body : length (drop 26 b) < 2 ^ 16
  pub numbers : IsNumberOf h.handler h.block h.number

-- the numbers that the kind uses aren't 0, and the others are
pub record IsSound (h : Header) : Type 0 where
  pub numbers : IsNumberOf h.handler h.block h.number
  pub unused : ¬ HasUnused (code h.kind) h.block.num h.number
  pub lacking : ¬ LacksNumber (code h.kind) h.block.inc h.block.num h.number

-- the header and the body are the frame of this message
pub record IsMessageOf (h : Header) (body : List ℕ) (m : Message) : Type 0 where
  pub carries : Carries h.version m
  pub fits : Fits m
  pub range : IsMessage m
  pub bytes : frame h.version m ≡ framed h body

-- the values in a message's body are in range
abbrev pub IsBodyOf : Message → Type 0
IsBodyOf (m.Log h b n es) = IsEntries es
IsBodyOf (m.Answer h b n a) = IsAnswer a
IsBodyOf x = ⊤

-- the kind has such a body
abbrev pub HasItsBody : Header → List ℕ → Type 0
HasItsBody h body = HasBody (version_byte h.version) (code h.kind) h.number body
