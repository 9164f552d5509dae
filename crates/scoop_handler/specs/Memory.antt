-- Which messages make a handler take memory: those that add a mark, a private queue or entries.
use Rattle.std.specs.Prelude.{Bool, true, false, IsTrue, Option, is_none}
use Rattle.scoop_message.specs.declared.message.Message.{Message}
use Rattle.scoop_message.specs.Message.{client_of}
use Rattle.scoop_handler.specs.declared.mark.Mark.{Mark}
use Rattle.scoop_handler.specs.declared.note.Note.{Note}
use Rattle.scoop_handler.specs.declared.note.Note.TheVariants.{Greeted, Granted, Held, Opened, Freed, Took, Known, Dropped}
use Rattle.scoop_handler.specs.Marks.{mark_of}
use Rattle.scoop_handler.specs.State.{HandlerState}
use Rattle.scoop_handler.specs.Hearing.{hear}

-- a message with this note has taken memory, if its client's mark was this
abbrev pub adds : Option Mark → Note → Bool
adds k Greeted = is_none k
adds k Granted = false
adds k Held = false
adds k (Opened b) = true
adds k Freed = false
adds k (Took n) = true
adds k Known = false
adds k (Dropped why) = false

abbrev pub TakesMemory : HandlerState → Message → Type 0
TakesMemory s m = IsTrue (adds (mark_of (client_of m) s.marks) (hear s m).1.note)
