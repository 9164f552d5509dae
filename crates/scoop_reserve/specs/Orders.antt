-- The order in which a reservation's messages are due, whatever it hears and whenever it is given up.
use Rattle.std.specs.Prelude.{◌≡◌, ◌⊎◌, true, List, [], ◌∷◌, Some, Result, Ok, Err, Contains}
use Rattle.scoop_message.specs.declared.name.HandlerId.{HandlerId}
use Rattle.scoop_message.specs.declared.name.Block.{Block}
use Rattle.scoop_message.specs.declared.message.Message.{Message}
use Rattle.scoop_message.specs.declared.message.Message.TheVariants.{Locked, Open, Opened, Unlock}
use Rattle.scoop_reserve.specs.declared.error.TooLate.{TooLate}
use Rattle.scoop_reserve.specs.declared.stage.Stage.TheVariants.{GivingUp}
use Rattle.scoop_reserve.specs.Handlers.{has}
use Rattle.scoop_reserve.specs.State.{ReservationState}
use Rattle.scoop_reserve.specs.Due.{due}
use Rattle.scoop_reserve.specs.Hearing.{heard, given_up}

pub data Event : Type 0 where
  Hears : Message → Event
  GivesUp : Event

abbrev pub given_up_or : ReservationState → Result ReservationState TooLate → ReservationState
given_up_or r (Ok s) = s
given_up_or r (Err e) = r

abbrev pub after_one : ReservationState → Event → ReservationState
after_one r (Hears m) = (heard r m).0
after_one r GivesUp = given_up_or r (given_up r)

abbrev pub after : ReservationState → List Event → ReservationState
after r [] = r
after r (e ∷ es) = after (after_one r e) es

-- each of the block's handlers has sent this
abbrev pub AllTold : (HandlerId → Block → Message) → ReservationState → List Event → Type 0
AllTold told r es = (x : HandlerId) → has r.handlers x ≡ true → Contains es (Hears (told x r.block))

-- an Open is due only once all are locked; an Unlock only once all are opened, or after giving up
pub record KeepsOrder (r : ReservationState) : Type 0 where
  pub opens : (es : List Event) (h : HandlerId) → due (after r es) h ≡ Some (Open h r.block) → AllTold Locked r es
  pub unlocks : (es : List Event) (h : HandlerId) → due (after r es) h ≡ Some (Unlock h r.block) → AllTold Opened r es ⊎ ((after r es).stage ≡ GivingUp)
