-- Laws of the messages that are due and of accepted answers.
use Rattle.std.proofs.Common.{◌≡◌, ℕ, ◌==◌, ◌&&◌, ◌||◌, Bool, true, false, length, Option, Some, None, refl, ap, ◌∙◌}
use Rattle.std.specs.Prelude.{if◌then◌else◌, nat_lt, nat_le, IfSome}
use Rattle.std.proofs.lemmas.Bool.{false≢true}
use Rattle.std.proofs.lemmas.Bool.Decides.{Decides-eqb}
use Rattle.scoop_message.specs.declared.name.HandlerId.{HandlerId}
use Rattle.scoop_message.specs.declared.name.Block.{Block}
use Rattle.scoop_message.specs.declared.request.Answer.{Answer as ObjectAnswer}
use Rattle.scoop_message.specs.declared.message.Message.{Message}
use Rattle.scoop_message.specs.declared.message.Message.TheVariants.{Hello, Welcome, Lock, Locked, Busy, Open, Opened, Unlock, Unlocked, Log, Logged, Answer}
use Rattle.scoop_message.specs.Message.{same_handler}
use Rattle.scoop_message.proofs.Same.{handler_decides, pair_decides}
use Rattle.scoop_reserve.specs.declared.stage.Stage.{Stage}
use Rattle.scoop_reserve.specs.declared.stage.Stage.TheVariants as stage
use Rattle.scoop_reserve.specs.declared.stage.Step.{Step}
use Rattle.scoop_reserve.specs.declared.stage.Step.TheVariants as step
use Rattle.scoop_reserve.specs.Handlers.{has, without, is_lowest}
use Rattle.scoop_reserve.specs.State.{ReservationState}
use Rattle.scoop_reserve.specs.Hearing.{is_open, is_open_in}
use Rattle.scoop_reserve.specs.Hearing as reservation
use Rattle.scoop_reserve.specs.Due as owed
use Rattle.scoop_client.specs.declared.phase.ClientNote.TheVariants.{Welcomed, Acknowledged, Accepted}
use Rattle.scoop_client.specs.Window.{WindowState, window_of, logged, acknowledged, at_window}
use Rattle.scoop_client.specs.State.{ClientState, with_windows, with_unwelcomed}
use Rattle.scoop_client.specs.Due.{due, due_in_block, due_after, due_window}
use Rattle.scoop_client.specs.Hearing.{Notice, heard, ignored, is_own, hear_welcome, after_step, hear_step, hear_logged, hear_count, hear_answer}
use Rattle.scoop_client.specs.Hearing.{hear_answer_to, is_open_block, settled, up_to}
use Rattle.scoop_client.specs.Laws.{DueInOrder, AcceptsOnce}

-- ---- accepting

abbrev Once : ClientState → Notice → Type 0
Once c m = AcceptsOnce c m.0 m.1

once_of : (c : ClientState) (b : Bool) (m n : Notice) → Once c m → Once c n → Once c (if b then m else n)
once_of c true m n s t = s
once_of c false m n s t = t

after_step_once : (c : ClientState) (r : ReservationState) (s : Step) → Once c (after_step c r s)
after_step_once c r (step.Locked h) = tt
after_step_once c r (step.Busy h) = tt
after_step_once c r (step.Opened h) = tt
after_step_once c r (step.Unlocked h) = tt
after_step_once c r step.Ignored = tt

step_once : (c : ClientState) (m : Message) (r : Option ReservationState) → Once c (hear_step c m r)
step_once c m None = tt
step_once c m (Some r) = after_step_once c (reservation.heard r m).0 (reservation.heard r m).1

count_once : (c : ClientState) (h : HandlerId) (n k : ℕ) (l : Option WindowState) → Once c (hear_count c h n k l)
count_once c h n k None = tt
count_once c h n k (Some l) =
    let counted : Notice = (settled (with_windows c (at_window h (acknowledged k) c.windows) c.waits), Acknowledged h k) in
    once_of c (nat_lt (logged l) n || nat_le k l.acked) (ignored c) counted tt tt

logged_once : (c : ClientState) (h : HandlerId) (b : Block) (n : ℕ) (r : Option ReservationState) → Once c (hear_logged c h b n r)
logged_once c h b n None = tt
logged_once c h b n (Some r) = once_of c (is_open_block b r) _ (ignored c) (count_once c h n (up_to h n c.waits) (window_of h c.windows)) tt

taken_once : (c d : ClientState) (h : HandlerId) (n : ℕ) (a : ObjectAnswer) (w : HandlerId × ℕ) (b : Bool) → c.waits ≡ Some w → d.waits ≡ None
    → (b ≡ true → w ≡ (h, n)) → Once c (if b then (d, Accepted h n a) else ignored c)
taken_once c d h n a w true waits over is = (waits ∙ ap Some (is refl), over)
taken_once c d h n a w false waits over is = tt

answer_once : (c : ClientState) (h : HandlerId) (n : ℕ) (a : ObjectAnswer) (w : Option (HandlerId × ℕ)) → c.waits ≡ w → Once c (hear_answer_to c h n a w)
answer_once c h n a None waits = tt
answer_once c h n a (Some w) waits =
    taken_once c (with_windows c (at_window h (acknowledged n) c.windows) None) h n a w (same_handler w.0 h && w.1 == n) waits refl
    (pair_decides w.0 h w.1 n (handler_decides w.0 h) (Decides-eqb w.1 n)).0

block_answer_once : (c : ClientState) (h : HandlerId) (b : Block) (n : ℕ) (a : ObjectAnswer) (r : Option ReservationState) → Once c (hear_answer c h b n a r)
block_answer_once c h b n a None = tt
block_answer_once c h b n a (Some r) = once_of c (is_open_block b r) _ (ignored c) (answer_once c h n a c.waits refl) tt

pub accepts_once : (c : ClientState) (m : Message) → AcceptsOnce c (heard c m).0 (heard c m).1
accepts_once c (Hello h x inc) = tt
accepts_once c (Welcome h x inc) =
    let welcomed : Notice = (with_unwelcomed c (without h c.unwelcomed), Welcomed h) in
    once_of c (is_own c x inc) (hear_welcome c h) (ignored c) (once_of c (has c.unwelcomed h) welcomed (ignored c) tt tt) tt
accepts_once c (Lock h b) = tt
accepts_once c (Locked h b) = step_once c (Locked h b) c.reservation
accepts_once c (Busy h b) = step_once c (Busy h b) c.reservation
accepts_once c (Open h b) = tt
accepts_once c (Opened h b) = step_once c (Opened h b) c.reservation
accepts_once c (Unlock h b) = tt
accepts_once c (Unlocked h b) = step_once c (Unlocked h b) c.reservation
accepts_once c (Log h b n es) = tt
accepts_once c (Logged h b n) = logged_once c h b n c.reservation
accepts_once c (Answer h b n a) = block_answer_once c h b n a c.reservation

-- ---- due messages

some_of : (P : Message → Type 0) (b : Bool) (x y : Option Message) → IfSome x P → IfSome y P → IfSome (if b then x else y) P
some_of P true x y s t = s
some_of P false x y s t = t

none_of : (b : Bool) (m : Message) → (if b then Some m else None) ≡ None → b ≡ false
none_of true m e = absurd cc
none_of false m e = refl

unlocked_there : (r : ReservationState) (h : HandlerId) (s : Stage) → is_open_in s ≡ true → owed.due_in r h s ≡ None → has r.left h ≡ false
unlocked_there r h stage.Locking opened e = absurd (false≢true opened)
unlocked_there r h stage.Opening opened e = absurd (false≢true opened)
unlocked_there r h stage.Unlocking opened e = none_of (has r.left h) _ e
unlocked_there r h stage.GivingUp opened e = absurd (false≢true opened)

-- a reservation owes no Log
reserved_in_order : (c : ClientState) (h : HandlerId) (r : ReservationState) (s : Stage) → IfSome (owed.due_in r h s) (DueInOrder c h)
reserved_in_order c h r stage.Locking = some_of (DueInOrder c h) (is_lowest h r.left) _ None tt tt
reserved_in_order c h r stage.Opening = some_of (DueInOrder c h) (has r.left h) _ None tt tt
reserved_in_order c h r stage.Unlocking = some_of (DueInOrder c h) (has r.left h) _ None tt tt
reserved_in_order c h r stage.GivingUp = some_of (DueInOrder c h) (has r.left h) _ None tt tt

window_in_order : (c : ClientState) (h : HandlerId) (r : ReservationState) (l : Option WindowState) → c.reservation ≡ Some r → is_open r ≡ true
    → has r.left h ≡ false → window_of h c.windows ≡ l → IfSome (due_window c.batch r.block l) (DueInOrder c h)
window_in_order c h r None held opened unlocked e = tt
window_in_order c h r (Some l) held opened unlocked e =
    some_of (DueInOrder c h) (length l.unacked == 0) None _ tt
    (r, l, record { reservation = held; opened = opened; unlocked = unlocked; window = e; number = refl; entries = refl })

opened_in_order : (c : ClientState) (h : HandlerId) (r : ReservationState) (b : Bool) → c.reservation ≡ Some r → owed.due r h ≡ None → is_open r ≡ b
    → IfSome (if b then due_window c.batch r.block (window_of h c.windows) else None) (DueInOrder c h)
opened_in_order c h r true held none e =
    window_in_order c h r (window_of h c.windows) held e (unlocked_there r h r.stage e none) refl
opened_in_order c h r false held none e = tt

after_in_order : (c : ClientState) (h : HandlerId) (r : ReservationState) (m : Option Message) → c.reservation ≡ Some r → owed.due r h ≡ m
    → IfSome m (DueInOrder c h) → IfSome (due_after c h r m) (DueInOrder c h)
after_in_order c h r None held e s = opened_in_order c h r (is_open r) held e refl
after_in_order c h r (Some m) held e s = s

block_in_order : (c : ClientState) (h : HandlerId) (r : Option ReservationState) → c.reservation ≡ r → IfSome (due_in_block c h r) (DueInOrder c h)
block_in_order c h None held = tt
block_in_order c h (Some r) held = after_in_order c h r (owed.due r h) held refl (reserved_in_order c h r r.stage)

pub due_in_order : (c : ClientState) (h : HandlerId) → IfSome (due c h) (DueInOrder c h)
due_in_order c h = some_of (DueInOrder c h) (has c.unwelcomed h) _ _ tt (block_in_order c h c.reservation refl)
