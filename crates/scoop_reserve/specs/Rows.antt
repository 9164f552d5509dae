-- The effect of a message on a reservation, as a relation with a case for each line of the client's table. The outcomes
-- that fit it are exactly those of `heard`.
use Rattle.std.specs.Prelude.{◌≡◌, true, false}
use Rattle.scoop_message.specs.declared.name.HandlerId.{HandlerId}
use Rattle.scoop_message.specs.declared.message.Message.{Message}
use Rattle.scoop_message.specs.declared.message.Message.TheVariants.{Locked, Busy, Opened, Unlocked}
use Rattle.scoop_reserve.specs.declared.stage.Stage.TheVariants.{Locking, Opening, Unlocking, GivingUp}
use Rattle.scoop_reserve.specs.declared.stage.Step.{Step}
use Rattle.scoop_reserve.specs.declared.stage.Step.TheVariants.{Locked as LockedStep, Busy as BusyStep, Opened as OpenedStep, Unlocked as UnlockedStep, Ignored}
use Rattle.scoop_reserve.specs.Handlers.{has, without, is_lowest, is_empty}
use Rattle.scoop_reserve.specs.State.{ReservationState, at_stage}

-- the messages that are awaited at each stage
pub data Awaits (r : ReservationState) : Message → Type 0 where
  awaits_lock : (h : HandlerId) → r.stage ≡ Locking → is_lowest h r.left ≡ true → Awaits r (Locked h r.block)
  awaits_refusal : (h : HandlerId) → r.stage ≡ Locking → is_lowest h r.left ≡ true → Awaits r (Busy h r.block)
  awaits_opening : (h : HandlerId) → r.stage ≡ Opening → has r.left h ≡ true → Awaits r (Opened h r.block)
  awaits_unlocking : (h : HandlerId) → r.stage ≡ Unlocking → has r.left h ≡ true → Awaits r (Unlocked h r.block)
  awaits_giving_back : (h : HandlerId) → r.stage ≡ GivingUp → has r.left h ≡ true → Awaits r (Unlocked h r.block)

-- the cases; `passed_over` is for a message that isn't awaited
pub data HeardRow (r : ReservationState) : Message → ReservationState → Step → Type 0 where
  passed_over : (m : Message) → HeardRow r m r Ignored
  one_is_locked : (h : HandlerId) → r.stage ≡ Locking → is_lowest h r.left ≡ true → is_empty (without h r.left) ≡ false →
      HeardRow r (Locked h r.block) (at_stage r Locking (without h r.left)) (LockedStep h)
  all_are_locked : (h : HandlerId) → r.stage ≡ Locking → is_lowest h r.left ≡ true → is_empty (without h r.left) ≡ true →
      HeardRow r (Locked h r.block) (at_stage r Opening r.handlers) (LockedStep h)
  is_busy : (h : HandlerId) → r.stage ≡ Locking → is_lowest h r.left ≡ true → HeardRow r (Busy h r.block) r (BusyStep h)
  one_is_opened : (h : HandlerId) → r.stage ≡ Opening → has r.left h ≡ true → is_empty (without h r.left) ≡ false →
      HeardRow r (Opened h r.block) (at_stage r Opening (without h r.left)) (OpenedStep h)
  all_are_opened : (h : HandlerId) → r.stage ≡ Opening → has r.left h ≡ true → is_empty (without h r.left) ≡ true →
      HeardRow r (Opened h r.block) (at_stage r Unlocking r.handlers) (OpenedStep h)
  is_unlocked : (h : HandlerId) → r.stage ≡ Unlocking → has r.left h ≡ true →
      HeardRow r (Unlocked h r.block) (at_stage r Unlocking (without h r.left)) (UnlockedStep h)
  is_given_back : (h : HandlerId) → r.stage ≡ GivingUp → has r.left h ≡ true →
      HeardRow r (Unlocked h r.block) (at_stage r GivingUp (without h r.left)) (UnlockedStep h)

-- the table: one of the cases, and only a message that isn't awaited is passed over
pub record IsHeard (r : ReservationState) (m : Message) (s : ReservationState) (step : Step) : Type 0 where
  pub row : HeardRow r m s step
  pub ignored : step ≡ Ignored → ¬ Awaits r m
