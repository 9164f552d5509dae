-- A message and its frame's version in words.
use Rattle.std.specs.Prelude.{ℕ, List, [], ◌∷◌, ◌++◌, codes}
use Rattle.std.specs.Fmt.{decimal}
use Rattle.scoop_message.specs.declared.name.HandlerId.{HandlerId}
use Rattle.scoop_message.specs.declared.name.ClientId.{ClientId}
use Rattle.scoop_message.specs.declared.name.Block.{Block}
use Rattle.scoop_message.specs.declared.request.Request.{Request}
use Rattle.scoop_message.specs.declared.request.Answer.{Answer}
use Rattle.scoop_message.specs.declared.request.Entry.{Entry}
use Rattle.scoop_message.specs.declared.request.Entry.TheVariants as entry
use Rattle.scoop_message.specs.declared.message.Message.{Message}
use Rattle.scoop_message.specs.declared.message.Message.TheVariants as message
use Rattle.scoop_message.specs.Text.{block_text, answer_text}
use Rattle.scoop_frame.specs.declared.version.Version.{Version}
use Rattle.scoop_frame.specs.declared.version.Version.TheVariants.{One, Two}
use Rattle.scoop_demo.specs.NoteText.{kind_text}

-- numbers, with a colon before each
abbrev pub arguments_text : List ℕ → List ℕ
arguments_text [] = []
arguments_text (x ∷ xs) = codes ":" ++ decimal x ++ arguments_text xs

abbrev pub request_text : Request → List ℕ
request_text r = codes ":" ++ decimal r.op ++ arguments_text r.args

-- an entry is one word
abbrev pub entry_text : Entry → List ℕ
entry_text (entry.Call r) = codes "call" ++ request_text r
entry_text (entry.Query r) = codes "query" ++ request_text r
entry_text entry.End = codes "end"

-- entries, with a space before each
abbrev pub entries_text : List Entry → List ℕ
entries_text [] = []
entries_text (e ∷ es) = codes " " ++ entry_text e ++ entries_text es

abbrev pub greeting_text : HandlerId → ClientId → ℕ → List ℕ
greeting_text h c inc = codes " " ++ decimal h.0 ++ codes " " ++ decimal c.0 ++ codes " " ++ decimal inc

abbrev pub block_words : HandlerId → Block → List ℕ
block_words h b = codes " " ++ decimal h.0 ++ codes " " ++ block_text b

abbrev pub answer_words : ℕ → Answer → List ℕ
answer_words n a = codes " " ++ decimal n ++ codes " " ++ answer_text a

-- the words after the name of the message's kind
abbrev pub fields_text : Message → List ℕ
fields_text (message.Hello h c inc) = greeting_text h c inc
fields_text (message.Welcome h c inc) = greeting_text h c inc
fields_text (message.Lock h b) = block_words h b
fields_text (message.Locked h b) = block_words h b
fields_text (message.Busy h b) = block_words h b
fields_text (message.Open h b) = block_words h b
fields_text (message.Opened h b) = block_words h b
fields_text (message.Unlock h b) = block_words h b
fields_text (message.Unlocked h b) = block_words h b
fields_text (message.Log h b n es) = block_words h b ++ codes " " ++ decimal n ++ entries_text es
fields_text (message.Logged h b n) = block_words h b ++ codes " " ++ decimal n
fields_text (message.Answer h b n a) = block_words h b ++ answer_words n a

-- version 1 has no word
abbrev pub version_text : Version → List ℕ
version_text One = []
version_text Two = codes "v2 "

abbrev pub frame_words : Version → Message → List ℕ
frame_words v m = version_text v ++ kind_text m ++ fields_text m
