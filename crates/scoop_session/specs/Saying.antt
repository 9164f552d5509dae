-- The messages of a client that are new.
use Rattle.std.specs.Prelude.{◌≡◌, ◌⊎◌, ⊤, List, [], ◌∷◌, Option, Some, None}
use Rattle.scoop_message.specs.declared.name.HandlerId.{HandlerId}
use Rattle.scoop_message.specs.declared.message.Message.{Message}
use Rattle.scoop_client.specs.State.{ClientState}
use Rattle.scoop_client.specs.Due.{due}

abbrev pub with_due : Option Message → List Message → List Message
with_due None ms = ms
with_due (Some m) ms = m ∷ ms

-- the messages that are due to these handlers
abbrev pub due_to : ClientState → List HandlerId → List Message
due_to c [] = []
due_to c (h ∷ hs) = with_due (due c h) (due_to c hs)

-- the message is one of these
abbrev pub IsAmong : List Message → Message → Type 0
IsAmong [] m = ⊥
IsAmong (s ∷ ss) m = (s ≡ m) ⊎ IsAmong ss m

-- each of these messages was said before
abbrev pub AreAmong : List Message → List Message → Type 0
AreAmong said [] = ⊤
AreAmong said (m ∷ ms) = IsAmong said m × AreAmong said ms

-- each message that is due to these handlers was said before
abbrev pub SaysNothingNew : List Message → ClientState → List HandlerId → Type 0
SaysNothingNew said c hs = AreAmong said (due_to c hs)
