-- The outcome of a message at a reservation fits its table, and nothing else fits.
use Rattle.std.proofs.Common.{◌≡◌, ◌↔◌, Bool, true, false, refl, sym, subst}
use Rattle.std.specs.Prelude.{if◌then◌else◌}
use Rattle.scoop_message.specs.declared.name.HandlerId.{HandlerId}
use Rattle.scoop_message.specs.declared.name.Block.{Block}
use Rattle.scoop_message.specs.declared.message.Message.{Message}
use Rattle.scoop_message.specs.declared.message.Message.TheVariants.{Hello, Welcome, Lock, Locked, Busy, Open, Opened, Unlock, Unlocked, Log, Logged, Answer}
use Rattle.scoop_message.specs.Message.{same_block}
use Rattle.scoop_message.proofs.Same.{block_decides}
use Rattle.scoop_reserve.specs.declared.stage.Stage.{Stage}
use Rattle.scoop_reserve.specs.declared.stage.Stage.TheVariants.{Locking, Opening, Unlocking, GivingUp}
use Rattle.scoop_reserve.specs.declared.stage.Step.{Step}
use Rattle.scoop_reserve.specs.declared.stage.Step.TheVariants.{Locked as LockedStep, Busy as BusyStep, Opened as OpenedStep, Unlocked as UnlockedStep, Ignored}
use Rattle.scoop_reserve.specs.Handlers.{has, without, is_lowest, is_empty}
use Rattle.scoop_reserve.specs.State.{ReservationState, at_stage}
pub use Rattle.scoop_reserve.specs.Rows.{
  HeardRow,
  passed_over,
  one_is_locked,
  all_are_locked,
  is_busy,
  one_is_opened,
  all_are_opened,
  is_unlocked,
  is_given_back,
}
use Rattle.scoop_reserve.specs.Rows.{Awaits, awaits_lock, awaits_refusal, awaits_opening, awaits_unlocking, awaits_giving_back, IsHeard}
use Rattle.scoop_reserve.specs.Hearing.{Notice, heard, ignored, one_locked, one_opened, hear_locked, hear_busy, hear_opened, hear_unlocked}

module _ (r : ReservationState) where
  abbrev Row : Message → Notice → Type 0
  Row m n = HeardRow r m n.0 n.1

  by_test : (m : Message) (b : Bool) (s t : Notice) → (b ≡ true → Row m s) → (b ≡ false → Row m t) → Row m (if b then s else t)
  by_test m true s t p q = p refl
  by_test m false s t p q = q refl

  by_state : (m : Message) (b : Bool) (x y : ReservationState) (s : Step) → (b ≡ true → HeardRow r m x s) → (b ≡ false → HeardRow r m y s)
      → HeardRow r m (if b then x else y) s
  by_state m true x y s p q = p refl
  by_state m false x y s p q = q refl

  over : (m : Message) → Row m (ignored r)
  over m = passed_over m

  lock_row : (h : HandlerId) (stage : Stage) → r.stage ≡ stage → Row (Locked h r.block) (hear_locked r h stage)
  lock_row h Locking is =
      let next : Notice = (one_locked r (without h r.left), LockedStep h) in
      by_test _ (is_lowest h r.left) next (ignored r)
      (λ lowest. by_state _ (is_empty (without h r.left)) _ _ _ (all_are_locked h is lowest) (one_is_locked h is lowest))
      (λ other. over _)
  lock_row h Opening is = over _
  lock_row h Unlocking is = over _
  lock_row h GivingUp is = over _

  busy_row : (h : HandlerId) (stage : Stage) → r.stage ≡ stage → Row (Busy h r.block) (hear_busy r h stage)
  busy_row h Locking is =
      let next : Notice = (r, BusyStep h) in by_test _ (is_lowest h r.left) next (ignored r) (is_busy h is) (λ other. over _)
  busy_row h Opening is = over _
  busy_row h Unlocking is = over _
  busy_row h GivingUp is = over _

  open_row : (h : HandlerId) (stage : Stage) → r.stage ≡ stage → Row (Opened h r.block) (hear_opened r h stage)
  open_row h Locking is = over _
  open_row h Opening is =
      let next : Notice = (one_opened r (without h r.left), OpenedStep h) in
      by_test _ (has r.left h) next (ignored r)
      (λ among. by_state _ (is_empty (without h r.left)) _ _ _ (all_are_opened h is among) (one_is_opened h is among))
      (λ other. over _)
  open_row h Unlocking is = over _
  open_row h GivingUp is = over _

  unlock_row : (h : HandlerId) (stage : Stage) → r.stage ≡ stage → Row (Unlocked h r.block) (hear_unlocked r h stage)
  unlock_row h Locking is = over _
  unlock_row h Opening is = over _
  unlock_row h Unlocking is =
      let next : Notice = (at_stage r Unlocking (without h r.left), UnlockedStep h) in
      by_test _ (has r.left h) next (ignored r) (is_unlocked h is) (λ other. over _)
  unlock_row h GivingUp is =
      let next : Notice = (at_stage r GivingUp (without h r.left), UnlockedStep h) in
      by_test _ (has r.left h) next (ignored r) (is_given_back h is) (λ other. over _)

  -- a message of another block is passed over
  in_block : (tell : Block → Message) (b : Block) (n : Notice) → Row (tell r.block) n → Row (tell b) (if same_block b r.block then n else ignored r)
  in_block tell b n row =
      let P : Block → Type 0 = λ d. Row (tell d) n in
      by_test (tell b) (same_block b r.block) n (ignored r) (λ same. subst P (sym ((block_decides b r.block).0 same)) row) (λ other. over _)

  -- each message is heard by one of these cases
  pub heard_row : (m : Message) → HeardRow r m (heard r m).0 (heard r m).1
  heard_row (Hello h c inc) = over _
  heard_row (Welcome h c inc) = over _
  heard_row (Lock h b) = over _
  heard_row (Locked h b) = in_block (Locked h) b (hear_locked r h r.stage) (lock_row h r.stage refl)
  heard_row (Busy h b) = in_block (Busy h) b (hear_busy r h r.stage) (busy_row h r.stage refl)
  heard_row (Open h b) = over _
  heard_row (Opened h b) = in_block (Opened h) b (hear_opened r h r.stage) (open_row h r.stage refl)
  heard_row (Unlock h b) = over _
  heard_row (Unlocked h b) = in_block (Unlocked h) b (hear_unlocked r h r.stage) (unlock_row h r.stage refl)
  heard_row (Log h b n es) = over _
  heard_row (Logged h b n) = over _
  heard_row (Answer h b n a) = over _

-- ---- awaited messages

-- a message that isn't awaited does nothing
pub quiet : (r : ReservationState) (m : Message) (s : ReservationState) (step : Step) → HeardRow r m s step → (Awaits r m → ⊥) → (s ≡ r) × (step ≡ Ignored)
quiet r m s step (passed_over n) out = (refl, refl)
quiet r m s step (one_is_locked h at low more) out = absurd (out (awaits_lock h at low))
quiet r m s step (all_are_locked h at low none) out = absurd (out (awaits_lock h at low))
quiet r m s step (is_busy h at low) out = absurd (out (awaits_refusal h at low))
quiet r m s step (one_is_opened h at among more) out = absurd (out (awaits_opening h at among))
quiet r m s step (all_are_opened h at among none) out = absurd (out (awaits_opening h at among))
quiet r m s step (is_unlocked h at among) out = absurd (out (awaits_unlocking h at among))
quiet r m s step (is_given_back h at among) out = absurd (out (awaits_giving_back h at among))

own : (b : Block) → same_block b b ≡ true
own b = (block_decides b b).1 refl

-- an awaited message isn't ignored
pub told : (r : ReservationState) (m : Message) → Awaits r m → (heard r m).1 ≡ Ignored → ⊥
told r m (awaits_lock h at low) e = let no : LockedStep h ≡ Ignored = rw (own r.block, at, low) at e in cc
told r m (awaits_refusal h at low) e = let no : BusyStep h ≡ Ignored = rw (own r.block, at, low) at e in cc
told r m (awaits_opening h at among) e = let no : OpenedStep h ≡ Ignored = rw (own r.block, at, among) at e in cc
told r m (awaits_unlocking h at among) e = let no : UnlockedStep h ≡ Ignored = rw (own r.block, at, among) at e in cc
told r m (awaits_giving_back h at among) e = let no : UnlockedStep h ≡ Ignored = rw (own r.block, at, among) at e in cc

-- ---- the table gives one outcome

row_gives : (r : ReservationState) (m : Message) (s : ReservationState) (step : Step) → HeardRow r m s step → (step ≡ Ignored → Awaits r m → ⊥)
    → heard r m ≡ (s, step)
row_gives r m s step (passed_over n) out = let is = quiet r m (heard r m).0 (heard r m).1 (heard_row r m) (out refl) in λ i. (is.0 i, is.1 i)
row_gives r m s step (one_is_locked h at low more) out = rw (own r.block, at, low, more) refl
row_gives r m s step (all_are_locked h at low none) out = rw (own r.block, at, low, none) refl
row_gives r m s step (is_busy h at low) out = rw (own r.block, at, low) refl
row_gives r m s step (one_is_opened h at among more) out = rw (own r.block, at, among, more) refl
row_gives r m s step (all_are_opened h at among none) out = rw (own r.block, at, among, none) refl
row_gives r m s step (is_unlocked h at among) out = rw (own r.block, at, among) refl
row_gives r m s step (is_given_back h at among) out = rw (own r.block, at, among) refl

pub heard_exactly : (r : ReservationState) (m : Message) (s : ReservationState) (step : Step) → (heard r m ≡ (s, step)) ↔ IsHeard r m s step
heard_exactly r m s step =
    let all : IsHeard r m (heard r m).0 (heard r m).1 = record { row = heard_row r m; ignored = λ e awaited. told r m awaited e } in
    let P : Notice → Type 0 = λ n. IsHeard r m n.0 n.1 in (
      λ e. subst P e all,
      λ f. row_gives r m s step f.row f.ignored,
    )
