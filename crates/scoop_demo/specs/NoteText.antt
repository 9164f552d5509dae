-- Printed notes of the events of a world.
use Rattle.std.specs.Prelude.{ℕ, List, ◌++◌, codes, Option, Some, None}
use Rattle.std.specs.Fmt.{decimal}
use Rattle.scoop_message.specs.Text.{block_text, answer_text}
use Rattle.scoop_message.specs.declared.message.Message.{Message}
use Rattle.scoop_message.specs.declared.message.Message.TheVariants as message
use Rattle.scoop_message.specs.declared.request.Answer.{Answer}
use Rattle.scoop_handler.specs.declared.ran.Ran.{Ran}
use Rattle.scoop_handler.specs.Text as handler
use Rattle.scoop_client.specs.declared.phase.ClientNote.{ClientNote}
use Rattle.scoop_client.specs.declared.phase.ClientNote.TheVariants as client
use Rattle.scoop_model.specs.declared.note.WorldNote.{WorldNote}
use Rattle.scoop_model.specs.declared.note.WorldNote.TheVariants as note

-- the name of a message's kind
abbrev pub kind_text : Message → List ℕ
kind_text (message.Hello h c inc) = codes "Hello"
kind_text (message.Welcome h c inc) = codes "Welcome"
kind_text (message.Lock h b) = codes "Lock"
kind_text (message.Locked h b) = codes "Locked"
kind_text (message.Busy h b) = codes "Busy"
kind_text (message.Open h b) = codes "Open"
kind_text (message.Opened h b) = codes "Opened"
kind_text (message.Unlock h b) = codes "Unlock"
kind_text (message.Unlocked h b) = codes "Unlocked"
kind_text (message.Log h b n es) = codes "Log"
kind_text (message.Logged h b n) = codes "Logged"
kind_text (message.Answer h b n a) = codes "Answer"

-- a message that was sent, by its place and its kind
abbrev pub sent_text : ℕ → Option Message → List ℕ
sent_text i None = codes "sent " ++ decimal i
sent_text i (Some m) = codes "sent " ++ decimal i ++ codes " " ++ kind_text m

abbrev pub client_note_text : ClientNote → List ℕ
client_note_text (client.Welcomed h) = codes "Welcomed " ++ decimal h.0
client_note_text (client.Locked h) = codes "Locked " ++ decimal h.0
client_note_text (client.Busy h) = codes "Busy " ++ decimal h.0
client_note_text (client.Opened h) = codes "Opened " ++ decimal h.0
client_note_text (client.Unlocked h) = codes "Unlocked " ++ decimal h.0
client_note_text (client.Acknowledged h n) = codes "Acknowledged " ++ decimal h.0 ++ codes " " ++ decimal n
client_note_text (client.Accepted h n a) = codes "Accepted " ++ decimal h.0 ++ codes " " ++ decimal n ++ codes " " ++ answer_text a
client_note_text client.Ignored = codes "Ignored"

-- an End has no answer
abbrev pub ran_answer_text : Option Answer → List ℕ
ran_answer_text None = codes "end"
ran_answer_text (Some a) = answer_text a

abbrev pub ran_text : Ran → List ℕ
ran_text r = codes "ran " ++ block_text r.block ++ codes " " ++ decimal r.number ++ codes " " ++ ran_answer_text r.answer

abbrev pub note_text : WorldNote → Option Message → List ℕ
note_text note.Done m = codes "done"
note_text note.Silent m = codes "silent"
note_text (note.Sent i) m = sent_text i m
note_text (note.Handler n None) m = handler.note_text n
note_text (note.Handler n (Some i)) m = handler.note_text n ++ codes " sent " ++ decimal i
note_text (note.Client n) m = client_note_text n
note_text (note.Began b n) m = codes "began " ++ block_text b ++ codes " " ++ decimal n
note_text (note.Ran r) m = ran_text r
note_text (note.Restarted i) m = codes "restarted " ++ decimal i
note_text note.Reopened m = codes "reopened"
