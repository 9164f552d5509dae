-- Each message fits one of the cases. A case for a message that isn't awaited changes nothing and reports nothing, and
-- `heard` is silent only there. So the case that fits gives the outcome of `heard`; a silent case is kept for messages
-- that aren't awaited.
use Rattle.std.proofs.Common.{◌≡◌, ◌↔◌, ℕ, ◌==◌, ◌&&◌, ◌||◌, Bool, true, false, Option, Some, None, refl, sym, ap, ◌∙◌, subst}
use Rattle.std.specs.Prelude.{if◌then◌else◌, nat_lt, nat_le}
use Rattle.std.proofs.lemmas.Bool.Decides.{Decides-eqb}
use Rattle.scoop_message.specs.declared.name.HandlerId.{HandlerId}
use Rattle.scoop_message.specs.declared.name.ClientId.{ClientId}
use Rattle.scoop_message.specs.declared.name.Block.{Block}
use Rattle.scoop_message.specs.declared.request.Answer.{Answer as ObjectAnswer}
use Rattle.scoop_message.specs.declared.message.Message.{Message}
use Rattle.scoop_message.specs.declared.message.Message.TheVariants.{Hello, Welcome, Lock, Locked, Busy, Open, Opened, Unlock, Unlocked, Log, Logged, Answer}
use Rattle.scoop_message.specs.Message.{same_handler, same_block}
use Rattle.scoop_message.proofs.Same.{handler_decides, client_decides, block_decides, pair_decides}
use Rattle.scoop_reserve.specs.Handlers.{has, without}
use Rattle.scoop_reserve.specs.State.{ReservationState}
use Rattle.scoop_reserve.specs.Hearing.{is_open}
use Rattle.scoop_client.specs.declared.phase.ClientNote.TheVariants.{Welcomed, Acknowledged, Accepted, Ignored}
use Rattle.scoop_client.specs.Window.{WindowState, window_of, logged, acknowledged, at_window}
use Rattle.scoop_client.specs.State.{ClientState, with_unwelcomed, with_windows}
use Rattle.scoop_reserve.specs.Hearing as reservation
use Rattle.scoop_reserve.specs.Rows as reservation_rows
use Rattle.scoop_reserve.specs.Rows.{awaits_lock, awaits_refusal, awaits_opening, awaits_unlocking, awaits_giving_back}
use Rattle.scoop_reserve.specs.declared.stage.Step.{Step}
use Rattle.scoop_reserve.specs.declared.stage.Step.TheVariants as step
use Rattle.scoop_reserve.proofs.Rows as reserved
use Rattle.scoop_client.specs.declared.phase.ClientNote.{ClientNote}
use Rattle.scoop_client.specs.Rows.{Awaits, awaits_welcome, awaits_step, awaits_count, awaits_answer, HeardRow, passed_over, is_welcomed, takes_step}
use Rattle.scoop_client.specs.Rows.{is_acknowledged, is_accepted, IsHeard}
use Rattle.scoop_client.specs.Hearing.{Notice, heard, ignored, is_own, hear_step, after_step, settled, up_to, hear_count, hear_logged, hear_answer}
use Rattle.scoop_client.specs.Hearing.{hear_answer_to, is_open_block}

both_true : (a b : Bool) → (a && b) ≡ true → (a ≡ true) × (b ≡ true)
both_true true b e = (refl, e)
both_true false b e = cc

module _ (c : ClientState) where
  abbrev Row : Message → Notice → Type 0
  Row m n = HeardRow c m n.0 n.1

  by_test : (m : Message) (b : Bool) (s t : Notice) → (b ≡ true → Row m s) → (b ≡ false → Row m t) → Row m (if b then s else t)
  by_test m true s t p q = p refl
  by_test m false s t p q = q refl

  over : (m : Message) → Row m (ignored c)
  over m = passed_over m

  welcome_row : (h : HandlerId) (x : ClientId) (inc : ℕ) → Row (Welcome h x inc) (heard c (Welcome h x inc))
  welcome_row h x inc =
      let next : Notice = (with_unwelcomed c (without h c.unwelcomed), Welcomed h) in
      let P : ClientId × ℕ → Type 0 = λ p. Row (Welcome h p.0 p.1) (if has c.unwelcomed h then next else ignored c) in
      by_test _ (is_own c x inc) (if has c.unwelcomed h then next else ignored c) (ignored c)
      (λ own. subst P (sym ((pair_decides x c.id inc c.inc (client_decides x c.id) (Decides-eqb inc c.inc)).0 own))
      (by_test _ (has c.unwelcomed h) next (ignored c) (is_welcomed h) (λ other. over _)))
      (λ other. over _)

  step_row : (m : Message) (r : Option ReservationState) → c.reservation ≡ r → Row m (hear_step c m r)
  step_row m None held = over m
  step_row m (Some r) held = takes_step m r held

  count_row : (h : HandlerId) (n : ℕ) (r : ReservationState) (l : Option WindowState) → c.reservation ≡ Some r → is_open r ≡ true → window_of h c.windows ≡ l
      → Row (Logged h r.block n) (hear_count c h n (up_to h n c.waits) l)
  count_row h n r None held opened window = over _
  count_row h n r (Some l) held opened window =
      let k = up_to h n c.waits in
      let counted : Notice = (settled (with_windows c (at_window h (acknowledged k) c.windows) c.waits), Acknowledged h k) in
      by_test _ (nat_lt (logged l) n || nat_le k l.acked) (ignored c) counted (λ past. over _) (λ new. is_acknowledged h n r l held opened window new)

  -- a message of another block, or of one that isn't opened, is passed over
  in_block : (tell : Block → Message) (b : Block) (r : ReservationState) (n : Notice) → (is_open r ≡ true → Row (tell r.block) n)
      → Row (tell b) (if is_open_block b r then n else ignored c)
  in_block tell b r n row =
      let P : Block → Type 0 = λ d. Row (tell d) n in
      by_test (tell b) (is_open_block b r) n (ignored c)
      (λ e. let is = both_true (same_block b r.block) (is_open r) e in subst P (sym ((block_decides b r.block).0 is.0)) (row is.1))
      (λ other. over _)

  logged_row : (h : HandlerId) (b : Block) (n : ℕ) (r : Option ReservationState) → c.reservation ≡ r → Row (Logged h b n) (hear_logged c h b n r)
  logged_row h b n None held = over _
  logged_row h b n (Some r) held =
      in_block (λ d. Logged h d n) b r (hear_count c h n (up_to h n c.waits) (window_of h c.windows))
      (λ opened. count_row h n r (window_of h c.windows) held opened refl)

  answer_row : (h : HandlerId) (n : ℕ) (a : ObjectAnswer) (r : ReservationState) (w : Option (HandlerId × ℕ)) → c.reservation ≡ Some r → is_open r ≡ true
      → c.waits ≡ w → Row (Answer h r.block n a) (hear_answer_to c h n a w)
  answer_row h n a r None held opened waits = over _
  answer_row h n a r (Some w) held opened waits =
      let taken : Notice = (with_windows c (at_window h (acknowledged n) c.windows) None, Accepted h n a) in
      by_test _ (same_handler w.0 h && w.1 == n) taken (ignored c)
      (λ e. is_accepted h n a r held opened (waits ∙ ap Some ((pair_decides w.0 h w.1 n (handler_decides w.0 h) (Decides-eqb w.1 n)).0 e)))
      (λ other. over _)

  block_answer_row : (h : HandlerId) (b : Block) (n : ℕ) (a : ObjectAnswer) (r : Option ReservationState) → c.reservation ≡ r
      → Row (Answer h b n a) (hear_answer c h b n a r)
  block_answer_row h b n a None held = over _
  block_answer_row h b n a (Some r) held =
      in_block (λ d. Answer h d n a) b r (hear_answer_to c h n a c.waits) (λ opened. answer_row h n a r c.waits held opened refl)

  -- each message fits one of these cases
  pub heard_row : (m : Message) → HeardRow c m (heard c m).0 (heard c m).1
  heard_row (Hello h x inc) = over _
  heard_row (Welcome h x inc) = welcome_row h x inc
  heard_row (Lock h b) = over _
  heard_row (Locked h b) = step_row (Locked h b) c.reservation refl
  heard_row (Busy h b) = step_row (Busy h b) c.reservation refl
  heard_row (Open h b) = over _
  heard_row (Opened h b) = step_row (Opened h b) c.reservation refl
  heard_row (Unlock h b) = over _
  heard_row (Unlocked h b) = step_row (Unlocked h b) c.reservation refl
  heard_row (Log h b n es) = over _
  heard_row (Logged h b n) = logged_row h b n c.reservation refl
  heard_row (Answer h b n a) = block_answer_row h b n a c.reservation refl

  -- ---- awaited messages

  own_block : (b : Block) → same_block b b ≡ true
  own_block b = (block_decides b b).1 refl

  own_handler : (h : HandlerId) → same_handler h h ≡ true
  own_handler h = (handler_decides h h).1 refl

  own_name : is_own c c.id c.inc ≡ true
  own_name = (pair_decides c.id c.id c.inc c.inc (client_decides c.id c.id) (Decides-eqb c.inc c.inc)).1 refl

  -- the client ignores a message that the reservation ignores
  passed : (r s : ReservationState) (st : Step) → (s ≡ r) × (st ≡ step.Ignored) → after_step c s st ≡ ignored c
  passed r s st is = ap (after_step c s) is.1

  -- a message that isn't awaited does nothing
  quiet : (m : Message) (d : ClientState) (note : ClientNote) → HeardRow c m d note → (Awaits c m → ⊥) → (d ≡ c) × (note ≡ Ignored)
  quiet m d note (passed_over n) out = (refl, refl)
  quiet m d note (is_welcomed h left) out = absurd (out (awaits_welcome h left))
  quiet m d note (takes_step n r held) out =
      let is = passed r (reservation.heard r m).0 (reservation.heard r m).1
      (reserved.quiet r m (reservation.heard r m).0 (reservation.heard r m).1 (reserved.heard_row r m) (λ awaited. out (awaits_step m r held awaited))) in
      (ap (λ (n : Notice). n.0) is, ap (λ (n : Notice). n.1) is)
  quiet m d note (is_acknowledged h n r l held opened window new) out = absurd (out (awaits_count h n r l held opened window new))
  quiet m d note (is_accepted h n a r held opened waits) out = absurd (out (awaits_answer h n a r held opened waits))

  step_told : (s : ReservationState) (st : Step) → (after_step c s st).1 ≡ Ignored → st ≡ step.Ignored
  step_told s (step.Locked h) e = cc
  step_told s (step.Busy h) e = cc
  step_told s (step.Opened h) e = cc
  step_told s (step.Unlocked h) e = cc
  step_told s step.Ignored e = refl

  step_heard : (m : Message) (r : ReservationState) → c.reservation ≡ Some r → reservation_rows.Awaits r m
      → heard c m ≡ after_step c (reservation.heard r m).0 (reservation.heard r m).1
  step_heard m r held (awaits_lock h at low) = ap (hear_step c (Locked h r.block)) held
  step_heard m r held (awaits_refusal h at low) = ap (hear_step c (Busy h r.block)) held
  step_heard m r held (awaits_opening h at among) = ap (hear_step c (Opened h r.block)) held
  step_heard m r held (awaits_unlocking h at among) = ap (hear_step c (Unlocked h r.block)) held
  step_heard m r held (awaits_giving_back h at among) = ap (hear_step c (Unlocked h r.block)) held

  welcome_gives : (h : HandlerId) → has c.unwelcomed h ≡ true → heard c (Welcome h c.id c.inc) ≡ (with_unwelcomed c (without h c.unwelcomed), Welcomed h)
  welcome_gives h left = rw (own_name, left) refl

  count_gives : (h : HandlerId) (n : ℕ) (r : ReservationState) (l : WindowState) → c.reservation ≡ Some r → is_open r ≡ true → window_of h c.windows ≡ Some l
      → (nat_lt (logged l) n || nat_le (up_to h n c.waits) l.acked) ≡ false
      → heard c (Logged h r.block n) ≡ (
        settled (with_windows c (at_window h (acknowledged (up_to h n c.waits)) c.windows) c.waits),
        Acknowledged h
            (up_to h n c.waits),
      )
  count_gives h n r l held opened window new = ap (hear_logged c h r.block n) held
      ∙ rw (own_block r.block, opened) (ap (hear_count c h n (up_to h n c.waits)) window ∙ rw new refl)

  answer_gives : (h : HandlerId) (n : ℕ) (a : ObjectAnswer) (r : ReservationState) → c.reservation ≡ Some r → is_open r ≡ true → c.waits ≡ Some (h, n)
      → heard c (Answer h r.block n a) ≡ (with_windows c (at_window h (acknowledged n) c.windows) None, Accepted h n a)
  answer_gives h n a r held opened waits =
      ap (hear_answer c h r.block n a) held ∙ rw (own_block r.block, opened)
      (ap (hear_answer_to c h n a) waits ∙ rw ((pair_decides h h n n (handler_decides h h) (Decides-eqb n n)).1 refl) refl)

  -- an awaited message isn't ignored
  told : (m : Message) → Awaits c m → (heard c m).1 ≡ Ignored → ⊥
  told m (awaits_welcome h left) e = let no : Welcomed h ≡ Ignored = sym (ap (λ (n : Notice). n.1) (welcome_gives h left)) ∙ e in cc
  told m (awaits_step n r held awaited) e =
      reserved.told r m awaited (step_told (reservation.heard r m).0 (reservation.heard r m).1
      (sym (ap (λ (n : Notice). n.1) (step_heard m r held awaited)) ∙ e))
  told m (awaits_count h n r l held opened window new) e =
      let no : Acknowledged h (up_to h n c.waits) ≡ Ignored = sym (ap (λ (n : Notice). n.1) (count_gives h n r l held opened window new)) ∙ e in cc
  told m (awaits_answer h n a r held opened waits) e = let no : Accepted h n a ≡ Ignored =
      sym (ap (λ (n : Notice). n.1) (answer_gives h n a r held opened waits)) ∙ e in cc

  -- ---- the table gives one outcome

  over_gives : (m : Message) → (Awaits c m → ⊥) → heard c m ≡ ignored c
  over_gives m out = let is = quiet m (heard c m).0 (heard c m).1 (heard_row m) out in λ i. (is.0 i, is.1 i)

  -- the reservation awaits no message of another kind, and takes no step
  step_gives : (m : Message) (r : ReservationState) → c.reservation ≡ Some r
      → ((after_step c (reservation.heard r m).0 (reservation.heard r m).1).1 ≡ Ignored → Awaits c m → ⊥)
      → heard c m ≡ after_step c (reservation.heard r m).0 (reservation.heard r m).1
  step_gives (Locked h b) r held out = ap (hear_step c (Locked h b)) held
  step_gives (Busy h b) r held out = ap (hear_step c (Busy h b)) held
  step_gives (Opened h b) r held out = ap (hear_step c (Opened h b)) held
  step_gives (Unlocked h b) r held out = ap (hear_step c (Unlocked h b)) held
  step_gives (Hello h x inc) r held out = refl
  step_gives (Welcome h x inc) r held out = over_gives (Welcome h x inc) (out refl)
  step_gives (Lock h b) r held out = refl
  step_gives (Open h b) r held out = refl
  step_gives (Unlock h b) r held out = refl
  step_gives (Log h b n es) r held out = refl
  step_gives (Logged h b n) r held out = over_gives (Logged h b n) (out refl)
  step_gives (Answer h b n a) r held out = over_gives (Answer h b n a) (out refl)

  row_gives : (m : Message) (d : ClientState) (note : ClientNote) → HeardRow c m d note → (note ≡ Ignored → Awaits c m → ⊥) → heard c m ≡ (d, note)
  row_gives m d note (passed_over n) out = over_gives m (out refl)
  row_gives m d note (is_welcomed h left) out = welcome_gives h left
  row_gives m d note (takes_step n r held) out = step_gives m r held out
  row_gives m d note (is_acknowledged h n r l held opened window new) out = count_gives h n r l held opened window new
  row_gives m d note (is_accepted h n a r held opened waits) out = answer_gives h n a r held opened waits

  pub heard_exactly : (m : Message) (d : ClientState) (note : ClientNote) → (heard c m ≡ (d, note)) ↔ IsHeard c m d note
  heard_exactly m d note =
      let all : IsHeard c m (heard c m).0 (heard c m).1 = record { row = heard_row m; ignored = λ e awaited. told m awaited e } in
      let P : Notice → Type 0 = λ n. IsHeard c m n.0 n.1 in (
        λ e. subst P e all,
        λ f. row_gives m d note f.row f.ignored,
      )
