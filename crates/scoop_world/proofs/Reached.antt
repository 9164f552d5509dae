-- A world stays reached, whatever the result of an event.
use Rattle.std.proofs.Common.{sym, subst}
use Rattle.std.specs.Prelude.{Result, Ok, Err}
use Rattle.scoop_model.specs.declared.event.Event.{Event}
use Rattle.scoop_model.specs.declared.note.WorldNote.{WorldNote}
use Rattle.scoop_model.specs.declared.error.WorldError.{WorldError}
use Rattle.scoop_model.specs.World.{World}
use Rattle.scoop_model.specs.Step.{step}
use Rattle.scoop_model.specs.Reach.{IsReached}
use Rattle.scoop_model.proofs.Reaching.{reached_more}
use Rattle.scoop_world.specs.Answers.{Takes}

pub reached_takes : (v w : World) (e : Event) (r : Result WorldNote WorldError) → IsReached v → Takes (step v e) r v w → IsReached w
reached_takes v w e (Ok note) reached taken = reached_more v e (w, note) reached taken
reached_takes v w e (Err x) reached taken = subst IsReached (sym taken.1) reached
