-- The printed forms of notes.
use Rattle.std.specs.Prelude.{ℕ, List, ◌++◌, codes}
use Rattle.std.specs.Fmt.{decimal}
use Rattle.scoop_handler.specs.declared.note.Reason.{Reason}
use Rattle.scoop_handler.specs.declared.note.Reason.TheVariants.{NotForHandlers, WrongHandler, TooManyClients, Stale, Ungreeted, NotHolder, QueueFull}
use Rattle.scoop_handler.specs.declared.note.Reason.TheVariants.{NotOpen, Gap, PendingFull}
use Rattle.scoop_handler.specs.declared.note.Note.{Note}
use Rattle.scoop_handler.specs.declared.note.Note.TheVariants.{Greeted, Granted, Held, Opened, Freed, Took, Known, Dropped}

abbrev pub reason_text : Reason → List ℕ
reason_text NotForHandlers = codes "NotForHandlers"
reason_text WrongHandler = codes "WrongHandler"
reason_text TooManyClients = codes "TooManyClients"
reason_text Stale = codes "Stale"
reason_text Ungreeted = codes "Ungreeted"
reason_text NotHolder = codes "NotHolder"
reason_text QueueFull = codes "QueueFull"
reason_text NotOpen = codes "NotOpen"
reason_text Gap = codes "Gap"
reason_text PendingFull = codes "PendingFull"

-- the number of entries, or the reason of a drop, follows the name
abbrev pub note_text : Note → List ℕ
note_text Greeted = codes "Greeted"
note_text Granted = codes "Granted"
note_text Held = codes "Held"
note_text (Opened b) = codes "Opened"
note_text Freed = codes "Freed"
note_text (Took n) = codes "Took " ++ decimal n
note_text Known = codes "Known"
note_text (Dropped why) = codes "Dropped " ++ reason_text why
