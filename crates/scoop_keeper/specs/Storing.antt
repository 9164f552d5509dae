-- The notes after which a handler's state is as it was stored.
use Rattle.std.specs.Prelude.{Bool, true, false}
use Rattle.scoop_handler.specs.declared.note.Note.{Note}
use Rattle.scoop_handler.specs.declared.note.Note.TheVariants.{Greeted, Granted, Held, Opened, Freed, Took, Known, Dropped}

-- a message with this note leaves the handler's state
abbrev pub leaves : Note → Bool
leaves Greeted = false
leaves Granted = false
leaves Held = true
leaves (Opened b) = false
leaves Freed = false
leaves (Took n) = false
leaves Known = true
leaves (Dropped why) = true
