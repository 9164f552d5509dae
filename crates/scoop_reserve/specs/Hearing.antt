-- The effect of a message on a reservation, and of giving it up.
use Rattle.std.specs.Prelude.{◌≡◌, Bool, true, false, not, ◌&&◌, ◌||◌, if◌then◌else◌, List, Result, Ok, Err}
use Rattle.scoop_message.specs.declared.name.HandlerId.{HandlerId}
use Rattle.scoop_message.specs.declared.name.Block.{Block}
use Rattle.scoop_message.specs.declared.message.Message.{Message}
use Rattle.scoop_message.specs.declared.message.Message.TheVariants.{Hello, Welcome, Lock, Locked, Busy, Open, Opened, Unlock, Unlocked, Log, Logged, Answer}
use Rattle.scoop_message.specs.Message.{same_block}
use Rattle.scoop_reserve.specs.declared.stage.Stage.{Stage}
use Rattle.scoop_reserve.specs.declared.stage.Stage.TheVariants.{Locking, Opening, Unlocking, GivingUp}
use Rattle.scoop_reserve.specs.declared.stage.Step.{Step}
use Rattle.scoop_reserve.specs.declared.stage.Step.TheVariants.{Locked as LockedStep, Busy as BusyStep, Opened as OpenedStep, Unlocked as UnlockedStep, Ignored}
use Rattle.scoop_reserve.specs.declared.error.TooLate.{TooLate}
use Rattle.scoop_reserve.specs.Handlers.{has, without, is_lowest, is_empty, asked}
use Rattle.scoop_reserve.specs.State.{ReservationState, at_stage}

abbrev pub Notice : Type 0
Notice = ReservationState × Step

-- a message that the tables don't name changes nothing
abbrev pub ignored : ReservationState → Notice
ignored r = (r, Ignored)

-- one more handler is locked; after the last one all may be opened
abbrev pub one_locked : ReservationState → List HandlerId → ReservationState
one_locked r left = if is_empty left then at_stage r Opening r.handlers else at_stage r Locking left

-- one more is opened; after the last one all may be unlocked
abbrev pub one_opened : ReservationState → List HandlerId → ReservationState
one_opened r left = if is_empty left then at_stage r Unlocking r.handlers else at_stage r Opening left

abbrev pub hear_locked : ReservationState → HandlerId → Stage → Notice
hear_locked r h Locking =
    if is_lowest h r.left then (one_locked r (without h r.left), LockedStep h) else ignored r
hear_locked r h Opening = ignored r
hear_locked r h Unlocking = ignored r
hear_locked r h GivingUp = ignored r

abbrev pub hear_busy : ReservationState → HandlerId → Stage → Notice
hear_busy r h Locking = if is_lowest h r.left then (r, BusyStep h) else ignored r
hear_busy r h Opening = ignored r
hear_busy r h Unlocking = ignored r
hear_busy r h GivingUp = ignored r

abbrev pub hear_opened : ReservationState → HandlerId → Stage → Notice
hear_opened r h Locking = ignored r
hear_opened r h Opening =
    if has r.left h then (one_opened r (without h r.left), OpenedStep h) else ignored r
hear_opened r h Unlocking = ignored r
hear_opened r h GivingUp = ignored r

abbrev pub unlocked_at : ReservationState → HandlerId → Stage → Notice
unlocked_at r h stage =
    if has r.left h then (at_stage r stage (without h r.left), UnlockedStep h) else ignored r

abbrev pub hear_unlocked : ReservationState → HandlerId → Stage → Notice
hear_unlocked r h Locking = ignored r
hear_unlocked r h Opening = ignored r
hear_unlocked r h Unlocking = unlocked_at r h Unlocking
hear_unlocked r h GivingUp = unlocked_at r h GivingUp

-- messages of other blocks are ignored
abbrev pub of_block : ReservationState → Block → Notice → Notice
of_block r b notice = if same_block b r.block then notice else ignored r

abbrev pub heard : ReservationState → Message → Notice
heard r (Hello h c inc) = ignored r
heard r (Welcome h c inc) = ignored r
heard r (Lock h b) = ignored r
heard r (Locked h b) = of_block r b (hear_locked r h r.stage)
heard r (Busy h b) = of_block r b (hear_busy r h r.stage)
heard r (Open h b) = ignored r
heard r (Opened h b) = of_block r b (hear_opened r h r.stage)
heard r (Unlock h b) = ignored r
heard r (Unlocked h b) = of_block r b (hear_unlocked r h r.stage)
heard r (Log h b n es) = ignored r
heard r (Logged h b n) = ignored r
heard r (Answer h b n a) = ignored r

abbrev pub too_late : TooLate
too_late = record {}

abbrev pub given_up_in : ReservationState → Stage → Result ReservationState TooLate
given_up_in r Locking = Ok (at_stage r GivingUp (asked r.handlers r.left))
given_up_in r Opening = Err too_late
given_up_in r Unlocking = Err too_late
given_up_in r GivingUp = Err too_late

abbrev pub given_up : ReservationState → Result ReservationState TooLate
given_up r = given_up_in r r.stage

-- the answer to giving up, and the reservation after it
abbrev pub IsGivenUp : ReservationState → ReservationState → Result Unit TooLate → Type 0
IsGivenUp r s (Ok u) = given_up r ≡ Ok s
IsGivenUp r s (Err e) = (given_up r ≡ Err e) × (s ≡ r)

-- opened everywhere
abbrev pub is_open_in : Stage → Bool
is_open_in Locking = false
is_open_in Opening = false
is_open_in Unlocking = true
is_open_in GivingUp = false

abbrev pub is_open : ReservationState → Bool
is_open r = is_open_in r.stage

abbrev pub is_given_up_in : Stage → Bool
is_given_up_in Locking = false
is_given_up_in Opening = false
is_given_up_in Unlocking = false
is_given_up_in GivingUp = true

-- given up, and unlocked at each handler that was asked
abbrev pub is_gone : ReservationState → Bool
is_gone r = is_given_up_in r.stage && is_empty r.left

-- there is no lock to give back
abbrev pub is_released : ReservationState → HandlerId → Bool
is_released r h = has r.handlers h && (is_open r || is_given_up_in r.stage) && not (has r.left h)
