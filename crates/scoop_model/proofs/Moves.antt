-- The moves of a client: it sends a message that is due, hears a message, or takes a command. Each is a relation with one case for
-- every way, in which the client after the move stands written out. Each layer splits on these cases.
use Rattle.scoop_model.proofs.Names.{◌≡◌, ℕ, ◌+◌, List, map, Some, None, refl, sym, ap, ◌∙◌, subst, arith, Ok, Option, true, if◌then◌else◌, false, ◌||◌, length}
use Rattle.scoop_model.proofs.Names.{◌==◌, ◌-◌, ◌^◌, nat_lt, nat_le, same_Some, Message, Answer, Open, Lock, Log, Hello, Welcome, Unlock, Logged, Block}
use Rattle.scoop_model.proofs.Names.{HandlerId, ObjectAnswer, CallEntry, QueryEntry, Request, by_test, StepRow, step_row, asked, has, without, is_lowest}
use Rattle.scoop_model.proofs.Names.{given_up_in, is_open, is_gone, fresh, started, unless_repeated, unless_unknown, ReservationState, at_stage, Stage}
use Rattle.scoop_model.proofs.Names.{GivingBack, Locking, Opening, Unlocking, Step, heard_row, due, after_step, heard, up_to, stepped, HeardRow, passed_over}
use Rattle.scoop_model.proofs.Names.{is_welcomed, takes_step, is_acknowledged, is_accepted, logs, DueRow, owes_nothing, greets, reserves, ReserveRow}
use Rattle.scoop_model.proofs.Names.{begins_block, LogRow, is_logged, EndRow, ends_block, GiveUpRow, gives_up, ClientState, with_windows, with_reservation}
use Rattle.scoop_model.proofs.Names.{phase_of, idle, with_unwelcomed, WindowState, logged, acknowledged, window_of, at_window, with_entry, with_end}
use Rattle.scoop_model.proofs.Names.{first_entries, all_over, Command, Reserve, End, GiveUp, Call, Query, ClientNote, Idle, Running, ok_is, Bool}
use Rattle.scoop_client.proofs.CommandRows.{command_row}
use Rattle.scoop_client.proofs.DueRows.{due_row}
use Rattle.scoop_client.specs.Commands as client
use Rattle.scoop_reserve.specs.Due as owed
use Rattle.scoop_reserve.specs.Hearing as reservation
use Rattle.scoop_reserve.specs.declared.stage.Step.TheVariants as step

-- ---- a client sends what is due

pub data Sends (c : ClientState) (h : HandlerId) : Message → Type 0 where
  sends_hello : has c.unwelcomed h ≡ true → Sends c h (Hello h c.id c.inc)
  sends_lock : (r : ReservationState) → c.reservation ≡ Some r → r.stage ≡ Locking → is_lowest h r.left ≡ true → Sends c h (Lock h r.block)
  sends_open : (r : ReservationState) → c.reservation ≡ Some r → r.stage ≡ Opening → has r.left h ≡ true → Sends c h (Open h r.block)
  sends_unlock : (r : ReservationState) → c.reservation ≡ Some r → r.stage ≡ Unlocking → has r.left h ≡ true → Sends c h (Unlock h r.block)
  sends_back : (r : ReservationState) → c.reservation ≡ Some r → r.stage ≡ GivingBack → has r.left h ≡ true → Sends c h (Unlock h r.block)
  sends_log : (r : ReservationState) (l : WindowState) → c.reservation ≡ Some r → owed.due r h ≡ None → is_open r ≡ true →
      window_of h c.windows ≡ Some l → (length l.unacked == 0) ≡ false → Sends c h (Log l.handler r.block (l.acked + 1) (first_entries c.batch l.unacked))

module _ (c : ClientState) (h : HandlerId) (m : Message) where
  tested : (t : Bool) (n : Message) → (t ≡ true → Sends c h n) → (if t then Some n else None) ≡ Some m → Sends c h m
  tested t n case e = grind arith

  by_stage : (r : ReservationState) → c.reservation ≡ Some r → (stage : Stage) → r.stage ≡ stage → owed.due_in r h stage ≡ Some m → Sends c h m
  by_stage r held Locking at e = tested (is_lowest h r.left) (Lock h r.block) (sends_lock r held at) e
  by_stage r held Opening at e = tested (has r.left h) (Open h r.block) (sends_open r held at) e
  by_stage r held Unlocking at e = tested (has r.left h) (Unlock h r.block) (sends_unlock r held at) e
  by_stage r held GivingBack at e = tested (has r.left h) (Unlock h r.block) (sends_back r held at) e

  by_row : (o : Option Message) → DueRow c h o → o ≡ Some m → Sends c h m
  by_row o owes_nothing e = absurd (cc)
  by_row o (greets left) e = subst (Sends c h) (same_Some _ m e) (sends_hello left)
  by_row o (reserves r n greeted held owes) e = by_stage r held r.stage refl (owes ∙ e)
  by_row o (logs r l greeted held free opened window some) e = subst (Sends c h) (same_Some _ m e) (sends_log r l held free opened window some)

  pub sends : due c h ≡ Some m → Sends c h m
  sends = by_row (due c h) (due_row c h)

-- ---- a client hears a message

pub data Notices (c : ClientState) : Message → ClientState → Type 0 where
  passes_over : (m : Message) → Notices c m c
  is_greeted : (h : HandlerId) → Notices c (Welcome h c.id c.inc) (with_unwelcomed c (without h c.unwelcomed))
  steps_on : (m : Message) (r s : ReservationState) (st : Step) → c.reservation ≡ Some r → StepRow r m s st → Notices c m (with_reservation c s)
  is_over : (m : Message) → Notices c m (idle c)
  counts_on : (h : HandlerId) (n : ℕ) (r : ReservationState) (l : WindowState) → c.reservation ≡ Some r → window_of h c.windows ≡ Some l →
      (nat_lt (logged l) n || nat_le (up_to h n c.waits) l.acked) ≡ false →
      Notices c (Logged h r.block n) (with_windows c (at_window h (acknowledged (up_to h n c.waits)) c.windows) c.waits)
  gets_answer : (h : HandlerId) (n : ℕ) (a : ObjectAnswer) (r : ReservationState) → c.reservation ≡ Some r → c.waits ≡ Some (h, n) →
      Notices c (Answer h r.block n a) (with_windows c (at_window h (acknowledged n) c.windows) None)

pub notices : (c : ClientState) (m : Message) (d : ClientState) (note : ClientNote) → HeardRow c m d note → Notices c m d
notices c m d note (passed_over n) = passes_over n
notices c m d note (is_welcomed h left) = is_greeted h
notices c m d note (takes_step n r held) = stepped_by (reservation.heard r n).0 (reservation.heard r n).1 (step_row r n)
  where
    gone_on : (s : ReservationState) (st : Step) → StepRow r n s st → Notices c n (stepped c s)
    gone_on s st row =
        by_test (λ t. Notices c n (if t then idle c else with_reservation c s)) (is_gone s) (λ over. is_over n) (λ on. steps_on n r s st held row)

    stepped_by : (s : ReservationState) (st : Step) → StepRow r n s st → Notices c n (after_step c s st).0
    stepped_by s (step.Locked h) row = gone_on s (step.Locked h) row
    stepped_by s (step.Busy h) row = gone_on s (step.Busy h) row
    stepped_by s (step.Opened h) row = gone_on s (step.Opened h) row
    stepped_by s (step.Unlocked h) row = gone_on s (step.Unlocked h) row
    stepped_by s step.Ignored row = passes_over n
notices c m d note (is_acknowledged h n r l held opened window fresh_count) =
    let e : ClientState = with_windows c (at_window h (acknowledged (up_to h n c.waits)) c.windows) c.waits in
    by_test (λ t. Notices c (Logged h r.block n) (if t then idle e else e)) (all_over e.windows) (λ over. is_over (Logged h r.block n))
    (λ on. counts_on h n r l held window fresh_count)
notices c m d note (is_accepted h n a r held opened waits) = gets_answer h n a r held waits

pub hears : (c : ClientState) (m : Message) → Notices c m (heard c m).0
hears c m = notices c m (heard c m).0 (heard c m).1 (heard_row c m)

-- ---- a client takes a command

pub data Takes (c : ClientState) : Command → ClientState → Type 0 where
  takes_reserve : (hs : List HandlerId) → phase_of c ≡ Idle → started (client.next_block c) hs c.handlers ≡ Ok (fresh (client.next_block c) hs) →
      Takes c (Reserve hs) (client.with_block c hs (fresh (client.next_block c) hs))
  takes_call : (h : HandlerId) (q : Request) (l : WindowState) → phase_of c ≡ Running → c.waits ≡ None → window_of h c.windows ≡ Some l →
      nat_le (2 ^ 32 - 2) (logged l) ≡ false → Takes c (Call h q) (with_windows c (at_window h (with_entry (CallEntry q)) c.windows) None)
  takes_query : (h : HandlerId) (q : Request) (l : WindowState) → phase_of c ≡ Running → c.waits ≡ None → window_of h c.windows ≡ Some l →
      nat_le (2 ^ 32 - 2) (logged l) ≡ false →
      Takes c (Query h q) (with_windows c (at_window h (with_entry (QueryEntry q)) c.windows) (Some (h, logged l + 1)))
  takes_end : phase_of c ≡ Running → c.waits ≡ None → Takes c End (with_windows c (map with_end c.windows) None)
  takes_give_up : (r : ReservationState) → c.reservation ≡ Some r → r.stage ≡ Locking →
      Takes c GiveUp (with_reservation c (at_stage r GivingBack (asked r.handlers r.left)))

unknown_started : (r s : ReservationState) (o : Option HandlerId) → unless_unknown r o ≡ Ok s → r ≡ s
unknown_started r s None e = cc
unknown_started r s (Some h) e = absurd (cc)

repeated_started : (r s : ReservationState) (o u : Option HandlerId) → unless_repeated r o u ≡ Ok s → r ≡ s
repeated_started r s None u e = unknown_started r s u e
repeated_started r s (Some h) u e = absurd (cc)

pub started_fresh : (b : Block) (hs known : List HandlerId) (s : ReservationState) → started b hs known ≡ Ok s → fresh b hs ≡ s
started_fresh b hs known s e = grind (arith, nat_lt, repeated_started)

module _ (c d : ClientState) where
  took : (x : Command) (e : ClientState) → ◌≡◌ {A = client.Outcome} (Ok e) (Ok d) → Takes c x e → Takes c x d
  took x e is t = subst (Takes c x) (ok_is e d is) t

  reserved : (hs : List HandlerId) (o : client.Outcome) → ReserveRow c hs o → o ≡ Ok d → Takes c (Reserve hs) d
  reserved hs o (begins_block r at_idle room begins) e =
      let same = started_fresh (client.next_block c) hs c.handlers r begins in
      took (Reserve hs) (client.with_block c hs r) e
      (subst (λ q. Takes c (Reserve hs) (client.with_block c hs q)) same (takes_reserve hs at_idle (begins ∙ ap Ok (sym same))))
  reserved hs o row e = absurd (cc)

  called : (h : HandlerId) (q : Request) (o : client.Outcome) → LogRow c h (CallEntry q) o → o ≡ Ok d → Takes c (Call h q) d
  called h q o (is_logged l running free window room more) e = took (Call h q) _ e (takes_call h q l running free window more)
  called h q o row e = absurd (cc)

  asked_for : (h : HandlerId) (q : Request) (o : client.Outcome) → LogRow c h (QueryEntry q) o → o ≡ Ok d → Takes c (Query h q) d
  asked_for h q o (is_logged l running free window room more) e = took (Query h q) _ e (takes_query h q l running free window more)
  asked_for h q o row e = absurd (cc)

  ended : (o : client.Outcome) → EndRow c o → o ≡ Ok d → Takes c End d
  ended o (ends_block running free room) e = took End _ e (takes_end running free)
  ended o row e = absurd (cc)

  back : (r s : ReservationState) (stage : Stage) → c.reservation ≡ Some r → r.stage ≡ stage → given_up_in r stage ≡ Ok s → Takes c GiveUp (with_reservation c s)
  back r s Locking held at e =
      let given : at_stage r GivingBack (asked r.handlers r.left) ≡ s = cc in subst (λ q. Takes c GiveUp (with_reservation c q)) given (takes_give_up r held at)
  back r s stage held at e = absurd (cc)

  given_up : (o : client.Outcome) → GiveUpRow c o → o ≡ Ok d → Takes c GiveUp d
  given_up o (gives_up r s locking held given) e = took GiveUp (with_reservation c s) e (back r s r.stage held refl given)
  given_up o row e = absurd (cc)

  pub takes : (x : Command) → client.command c x ≡ Ok d → Takes c x d
  takes (Reserve hs) e = reserved hs _ (command_row c (Reserve hs)) e
  takes (Call h q) e = called h q _ (command_row c (Call h q)) e
  takes (Query h q) e = asked_for h q _ (command_row c (Query h q)) e
  takes End e = ended _ (command_row c End) e
  takes GiveUp e = given_up _ (command_row c GiveUp) e
