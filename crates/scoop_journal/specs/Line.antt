-- The words of a journal's line, and its text.
use Rattle.std.specs.Prelude.{◌≡◌, ℕ, ◌%◌, ◌==◌, ◌&&◌, ◌||◌, nat_le, Bool, true, List, [], ◌∷◌, ◌++◌, length, map, Option, Some, None, IfSome, codes, ⊤}
use Rattle.std.specs.List.{flat_map, list_all}
use Rattle.std.specs.Fmt.{decimal}
use Rattle.hex.specs.Hex.{encode_lower}
use Rattle.scoop_message.specs.declared.name.HandlerId.{HandlerId}
use Rattle.scoop_message.specs.declared.request.Request.{Request}
use Rattle.scoop_message.specs.declared.message.Message.{Message}
use Rattle.scoop_message.specs.Message.{Fits}
use Rattle.scoop_frame.specs.declared.version.Version.{Version}
use Rattle.scoop_frame.specs.declared.version.Version.TheVariants.{Two}
use Rattle.scoop_frame.specs.Version.{Carries}
use Rattle.scoop_frame.specs.Frame.{frame}
use Rattle.scoop_client.specs.declared.command.Command.{Command}
use Rattle.scoop_client.specs.declared.command.Command.TheVariants as command
use Rattle.scoop_lines.specs.Words.{Word}
use Rattle.scoop_journal.specs.declared.line.Arrival.{Arrival}
use Rattle.scoop_journal.specs.declared.line.Arrival.TheVariants.{Nothing, Frame, NoFrame, Fault}
use Rattle.scoop_journal.specs.declared.line.Line.{Line}
use Rattle.scoop_journal.specs.declared.line.Line.TheVariants.{NodeLife, ClientLife, Open, Hear, Begin, Finish, Do, Turn, Broke}

-- ---- words

abbrev pub handler_word : HandlerId → Word
handler_word h = decimal h.0

-- the frame of a message, in lower-case hex digits
abbrev pub frame_word : Version → Message → Word
frame_word v m = encode_lower (frame v m)

abbrev pub reply_word : Option Message → Word
reply_word None = codes "none"
reply_word (Some m) = frame_word Two m

-- hex digits, or a dash for none
abbrev pub blob_word : List ℕ → Word
blob_word [] = codes "-"
blob_word (digit ∷ digits) = digit ∷ digits

abbrev pub arrival_word : Arrival → Word
arrival_word Nothing = codes "none"
arrival_word (Frame v m) = frame_word v m
arrival_word NoFrame = codes "noframe"
arrival_word Fault = codes "fault"

abbrev pub request_words : HandlerId → Request → List Word
request_words h r = handler_word h ∷ decimal r.op ∷ map decimal r.args

abbrev pub command_words : Command → List Word
command_words (command.Reserve hs) = codes "reserve" ∷ map handler_word hs
command_words (command.Call h r) = codes "call" ∷ request_words h r
command_words (command.Query h r) = codes "query" ∷ request_words h r
command_words command.End = codes "end" ∷ []
command_words command.GiveUp = codes "giveup" ∷ []

-- words, each after a space
abbrev pub spaced : List Word → List ℕ
spaced words = flat_map (λ word. 32 ∷ word) words

-- ---- lines

-- the first word of a line
abbrev pub name_of : Line → Word
name_of (NodeLife n) = codes "scoop"
name_of (ClientLife c inc batch) = codes "scoop"
name_of (Open h image pending) = codes "open"
name_of (Hear m reply) = codes "hear"
name_of (Begin h) = codes "begin"
name_of (Finish h) = codes "finish"
name_of (Do x) = codes "do"
name_of (Turn a) = codes "turn"
name_of (Broke place) = codes "broke"

-- the further words of a line
abbrev pub words_of : Line → List Word
words_of (NodeLife n) = codes "journal" ∷ codes "1" ∷ codes "node" ∷ decimal n ∷ []
words_of (ClientLife c inc batch) = codes "journal" ∷ codes "1" ∷ codes "client" ∷ decimal c.0 ∷ decimal inc ∷ decimal batch ∷ []
words_of (Open h image pending) = handler_word h ∷ blob_word image.now ∷ blob_word pending.now ∷ []
words_of (Hear m reply) = frame_word Two m ∷ reply_word reply ∷ []
words_of (Begin h) = handler_word h ∷ []
words_of (Finish h) = handler_word h ∷ []
words_of (Do x) = command_words x
words_of (Turn a) = arrival_word a ∷ []
words_of (Broke place) = decimal place ∷ []

-- the first word, and each further one after a space
abbrev pub text_of : Line → List ℕ
text_of l = name_of l ++ spaced (words_of l)

-- ---- lines that can be written

abbrev pub is_lower_digit : ℕ → Bool
is_lower_digit byte = (nat_le 48 byte && nat_le byte 57) || (nat_le 97 byte && nat_le byte 102)

-- lower-case hex digits, two for each byte
abbrev pub is_hex : List ℕ → Bool
is_hex digits = (length digits % 2 == 0) && list_all is_lower_digit digits

-- a frame's message fits, and its version carries it
abbrev pub FitsArrival : Arrival → Type 0
FitsArrival Nothing = ⊤
FitsArrival (Frame v m) = Fits m × Carries v m
FitsArrival NoFrame = ⊤
FitsArrival Fault = ⊤

-- the messages fit, and the blobs are hex digits
abbrev pub FitsLine : Line → Type 0
FitsLine (NodeLife n) = ⊤
FitsLine (ClientLife c inc batch) = ⊤
FitsLine (Open h image pending) = (is_hex image.now ≡ true) × (is_hex pending.now ≡ true)
FitsLine (Hear m reply) = Fits m × IfSome reply Fits
FitsLine (Begin h) = ⊤
FitsLine (Finish h) = ⊤
FitsLine (Do x) = ⊤
FitsLine (Turn a) = FitsArrival a
FitsLine (Broke place) = ⊤
