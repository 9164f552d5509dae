-- The growth of a handler's marks: what a handler keeps of a client only goes on.
use Rattle.std.specs.Prelude.{◌≡◌, ◌<◌, ◌≤◌, ◌⊎◌, IsTrue, List, Some}
use Rattle.scoop_message.specs.declared.name.ClientId.{ClientId}
use Rattle.scoop_handler.specs.declared.mark.Mark.{Mark}
use Rattle.scoop_handler.specs.declared.mark.Stage.TheVariants.{Held}
use Rattle.scoop_handler.specs.Marks.{mark_of}

-- a newer incarnation, or a newer block of the same one
abbrev pub IsNewer : Mark → Mark → Type 0
IsNewer k x = (k.inc < x.inc) ⊎ ((k.inc ≡ x.inc) × (k.num < x.num))

-- the same block: it may have left the lock, has no fewer entries received, and stays ended
pub record IsFurther (k x : Mark) : Type 0 where
  pub inc : k.inc ≡ x.inc
  pub num : k.num ≡ x.num
  pub stage : (k.stage ≡ x.stage) ⊎ (k.stage ≡ Held)
  pub received : k.received ≤ x.received
  pub ended : IsTrue k.ended → IsTrue x.ended

abbrev pub Grows : Mark → Mark → Type 0
Grows k x = IsNewer k x ⊎ IsFurther k x

-- no client's mark goes, and each only grows
abbrev pub MarksGrow : List Mark → List Mark → Type 0
MarksGrow old new = (c : ClientId) (k : Mark) → mark_of c old ≡ Some k → (x : Mark) × (mark_of c new ≡ Some x) × Grows k x
