-- The messages that a reservation owes its handlers.
use Rattle.std.specs.Prelude.{if◌then◌else◌, Option, Some, None}
use Rattle.scoop_message.specs.declared.name.HandlerId.{HandlerId}
use Rattle.scoop_message.specs.declared.message.Message.{Message}
use Rattle.scoop_message.specs.declared.message.Message.TheVariants.{Lock, Open, Unlock}
use Rattle.scoop_reserve.specs.declared.stage.Stage.{Stage}
use Rattle.scoop_reserve.specs.declared.stage.Stage.TheVariants.{Locking, Opening, Unlocking, GivingUp}
use Rattle.scoop_reserve.specs.Handlers.{has, is_lowest}
use Rattle.scoop_reserve.specs.State.{ReservationState}

-- the lowest handler that isn't locked gets a Lock, any that isn't opened an Open, and any that isn't unlocked an
-- Unlock
abbrev pub due_in : ReservationState → HandlerId → Stage → Option Message
due_in r h Locking = if is_lowest h r.left then Some (Lock h r.block) else None
due_in r h Opening = if has r.left h then Some (Open h r.block) else None
due_in r h Unlocking = if has r.left h then Some (Unlock h r.block) else None
due_in r h GivingUp = if has r.left h then Some (Unlock h r.block) else None

-- the one message owed to this handler now
abbrev pub due : ReservationState → HandlerId → Option Message
due r h = due_in r h r.stage
