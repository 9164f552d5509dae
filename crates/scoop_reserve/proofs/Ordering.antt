-- Whatever messages it hears, a reservation opens no handler before all are locked, and unlocks none before all are
-- opened or it is given up.
use Rattle.std.proofs.Common.{◌≡◌, ◌⊎◌, ℕ, ◌==◌, Bool, true, false, not, ◌||◌, List, [], ◌∷◌, ◌++◌, length, Option, Some, None, refl, sym, ap, ◌∙◌, subst, inl}
use Rattle.std.proofs.Common.{inr, ⊎_elim, append_assoc, append-nil, arith}
use Rattle.std.specs.Prelude.{if◌then◌else◌, Contains}
use Rattle.std.proofs.lemmas.Bool.{false≢true}
use Rattle.std.proofs.lemmas.Bool.Decides.{nat_tests}
use Rattle.std.proofs.lemmas.List.Elements.{Contains-append_left, Contains-append_right}
use Rattle.scoop_message.specs.declared.name.HandlerId.{HandlerId}
use Rattle.scoop_message.specs.declared.name.Block.{Block}
use Rattle.scoop_message.specs.declared.message.Message.{Message}
use Rattle.scoop_message.specs.declared.message.Message.TheVariants.{Hello, Welcome, Lock, Locked, Busy, Open, Opened, Unlock, Unlocked, Log, Logged, Answer}
use Rattle.scoop_message.specs.Message.{same_handler, same_block}
use Rattle.scoop_message.proofs.Same.{handler_decides, block_decides}
use Rattle.scoop_reserve.specs.declared.stage.Stage.{Stage}
use Rattle.scoop_reserve.specs.declared.stage.Stage.TheVariants.{Locking, Opening, Unlocking, GivingUp}
use Rattle.scoop_reserve.specs.Handlers.{has, without, is_lowest, is_empty}
use Rattle.scoop_reserve.specs.State.{ReservationState}
use Rattle.scoop_reserve.specs.Starting.{fresh}
use Rattle.scoop_reserve.specs.Due.{due, due_in}
use Rattle.scoop_reserve.specs.Hearing.{Notice, heard, ignored, hear_locked, hear_busy, hear_opened, hear_unlocked}
use Rattle.scoop_reserve.specs.Orders.{Event, Hears, GivesUp, after, after_one, KeepsOrder}

-- ---- lists of handlers

either : (a b : Bool) → (a || b) ≡ true → (a ≡ true) ⊎ (b ≡ true)
either true b e = inl refl
either false b e = inr e

or_right : (a b : Bool) → b ≡ true → (a || b) ≡ true
or_right true b e = refl
or_right false b e = e

same : (a b : HandlerId) → same_handler a b ≡ true → a ≡ b
same a b e = (handler_decides a b).0 e

kept : (y h x : HandlerId) (ys : List HandlerId) (here : Bool) → (here ≡ true → y ≡ h) → (same_handler y x ≡ true) ⊎ (has ys x ≡ true)
    → (has ys x ≡ true → (x ≡ h) ⊎ (has (without h ys) x ≡ true)) → (x ≡ h) ⊎ (has (if not here then y ∷ without h ys else without h ys) x ≡ true)
kept y h x ys true is (inl e) rest = inl (sym (same y x e) ∙ is refl)
kept y h x ys true is (inr e) rest = rest e
kept y h x ys false is (inl e) rest = inr (ap (λ b. b || has (without h ys) x) e)
kept y h x ys false is (inr e) rest = ⊎_elim inl (λ w. inr (or_right (same_handler y x) (has (without h ys) x) w)) (rest e)

-- a handler other than h stays when h is taken out
has-without : (hs : List HandlerId) (h x : HandlerId) → has hs x ≡ true → (x ≡ h) ⊎ (has (without h hs) x ≡ true)
has-without [] h x e = absurd (false≢true e)
has-without (y ∷ ys) h x e =
    kept y h x ys (same_handler y h) (same y h) (either (same_handler y x) (has ys x) e) (has-without ys h x)

is_zero : (n : ℕ) → (n == 0) ≡ true → n ≡ 0
is_zero n e = grind (arith, nat_tests)

none_left : (hs : List HandlerId) → is_empty hs ≡ true → hs ≡ []
none_left [] e = refl
none_left (x ∷ xs) e = absurd (omega (arith, is_zero (length (x ∷ xs)) e))

-- ---- invariants

-- each handler has sent this, except those that are left
record LeftOr (told : HandlerId → Message) (hs left : List HandlerId) (past : List Event) : Type 0 where
  told_or : (x : HandlerId) → has hs x ≡ true → (has left x ≡ true) ⊎ Contains past (Hears (told x))

abbrev locked : Block → HandlerId → Message
locked b x = Locked x b

abbrev opened : Block → HandlerId → Message
opened b x = Opened x b

abbrev Stands : Block → List HandlerId → List Event → Stage → List HandlerId → Type 0
Stands b hs past Locking left = LeftOr (locked b) hs left past
Stands b hs past Opening left = LeftOr (locked b) hs [] past × LeftOr (opened b) hs left past
Stands b hs past Unlocking left = LeftOr (opened b) hs [] past
Stands b hs past GivingUp left = Contains past GivesUp

record Sound (b : Block) (hs : List HandlerId) (past : List Event) (r : ReservationState) : Type 0 where
  block : r.block ≡ b
  handlers : r.handlers ≡ hs
  stands : Stands b hs past r.stage r.left

abbrev of_parts : Block → List HandlerId → Stage → List HandlerId → ReservationState
of_parts b hs stage left = record { block = b; handlers = hs; stage = stage; left = left }

sound : (b : Block) (hs : List HandlerId) (past : List Event) (stage : Stage) (left : List HandlerId) → Stands b hs past stage left
    → Sound b hs past (of_parts b hs stage left)
sound b hs past stage left s = record { block = refl; handlers = refl; stands = s }

more_left : (told : HandlerId → Message) (hs left : List HandlerId) (past : List Event) (e : Event) → LeftOr told hs left past
    → LeftOr told hs left (past ++ e ∷ [])
more_left told hs left past e s = record {
  told_or = λ x among. ⊎_elim inl (λ k. inr (Contains-append_left past (e ∷ []) (Hears (told x)) k)) (s.told_or x among);
}

more : (b : Block) (hs : List HandlerId) (past : List Event) (stage : Stage) (left : List HandlerId) (e : Event) → Stands b hs past stage left
    → Stands b hs (past ++ e ∷ []) stage left
more b hs past Locking left e s = more_left (locked b) hs left past e s
more b hs past Opening left e s = (more_left (locked b) hs [] past e s.0, more_left (opened b) hs left past e s.1)
more b hs past Unlocking left e s = more_left (opened b) hs [] past e s
more b hs past GivingUp left e s = Contains-append_left past (e ∷ []) GivesUp s

last_one : (past : List Event) (e : Event) → Contains (past ++ e ∷ []) e
last_one past e = Contains-append_right past (e ∷ []) e (0, omega arith, refl)

one_less : (told : HandlerId → Message) (hs left : List HandlerId) (past : List Event) (h : HandlerId) → LeftOr told hs left past
    → LeftOr told hs (without h left) (past ++ Hears (told h) ∷ [])
one_less told hs left past h s = record {
  told_or = λ x among. ⊎_elim
      (λ in_left. ⊎_elim (λ is. inr (let P : HandlerId → Type 0 = λ y. Contains (past ++ Hears (told h) ∷ []) (Hears (told y)) in
      subst P (sym is) (last_one past (Hears (told h))))) inl (has-without left h x in_left))
      (λ k. inr (Contains-append_left past (Hears (told h) ∷ []) (Hears (told x)) k))
      (s.told_or x among);
}

none_less : (told : HandlerId → Message) (hs left : List HandlerId) (past : List Event) → left ≡ [] → LeftOr told hs left past → LeftOr told hs [] past
none_less told hs left past e s = let P : List HandlerId → Type 0 = λ xs. LeftOr told hs xs past in subst P e s

all_left : (told : HandlerId → Message) (hs : List HandlerId) (past : List Event) → LeftOr told hs hs past
all_left told hs past = record { told_or = λ x among. inl among }

-- ---- one message, or giving up

lock_one : (b : Block) (hs : List HandlerId) (past : List Event) (left : List HandlerId) (h : HandlerId) (lowest : Bool) (over : Bool)
    → (over ≡ true → without h left ≡ []) → LeftOr (locked b) hs left past →
    Sound b hs (past ++ Hears (Locked h b) ∷ []) (if lowest then (if over then of_parts b hs Opening hs else of_parts b hs Locking (without h left))
    else of_parts b hs Locking left)
lock_one b hs past left h false over none s = sound b hs _ Locking left (more_left (locked b) hs left past (Hears (Locked h b)) s)
lock_one b hs past left h true false none s = sound b hs _ Locking (without h left) (one_less (locked b) hs left past h s)
lock_one b hs past left h true true none s =
    sound b hs _ Opening hs (none_less (locked b) hs (without h left) _ (none refl) (one_less (locked b) hs left past h s), all_left (opened b) hs _)

open_one : (b : Block) (hs : List HandlerId) (past : List Event) (left : List HandlerId) (h : HandlerId) (among over : Bool)
    → (over ≡ true → without h left ≡ []) → Stands b hs past Opening left →
    Sound b hs (past ++ Hears (Opened h b) ∷ []) (if among then (if over then of_parts b hs Unlocking hs else of_parts b hs Opening (without h left))
    else of_parts b hs Opening left)
open_one b hs past left h false over none s = sound b hs _ Opening left (more b hs past Opening left (Hears (Opened h b)) s)
open_one b hs past left h true false none s =
    sound b hs _ Opening (without h left) (more_left (locked b) hs [] past (Hears (Opened h b)) s.0, one_less (opened b) hs left past h s.1)
open_one b hs past left h true true none s =
    sound b hs _ Unlocking hs (none_less (opened b) hs (without h left) _ (none refl) (one_less (opened b) hs left past h s.1))

-- a choice between two notices shows the choice between their states
first_of_choice : (c : Bool) (m n : Notice) → (if c then m.0 else n.0) ≡ (if c then m else n).0
first_of_choice true m n = refl
first_of_choice false m n = refl

choice : (b : Block) (hs : List HandlerId) (past : List Event) (c : Bool) (q r : ReservationState) → Sound b hs past q → Sound b hs past r
    → Sound b hs past (if c then q else r)
choice b hs past true q r s t = s
choice b hs past false q r s t = t

module _ (b : Block) (hs : List HandlerId) (past : List Event) where
  abbrev Kept : Event → ReservationState → Type 0
  Kept e r = Sound b hs (past ++ e ∷ []) r

  stays : (e : Event) (stage : Stage) (left : List HandlerId) → Stands b hs past stage left → Kept e (of_parts b hs stage left)
  stays e stage left s = sound b hs (past ++ e ∷ []) stage left (more b hs past stage left e s)

  by_choice : (e : Event) (c : Bool) (m n : Notice) → Kept e (if c then m.0 else n.0) → Kept e (if c then m else n).0
  by_choice e c m n s = subst (Kept e) (first_of_choice c m n) s

  lock_heard : (h : HandlerId) (stage : Stage) (left : List HandlerId) → Stands b hs past stage left
      → Kept (Hears (Locked h b)) (hear_locked (of_parts b hs stage left) h stage).0
  lock_heard h Locking left s =
      by_choice _ (is_lowest h left) _ _ (lock_one b hs past left h (is_lowest h left) (is_empty (without h left)) (none_left (without h left)) s)
  lock_heard h Opening left s = stays _ Opening left s
  lock_heard h Unlocking left s = stays _ Unlocking left s
  lock_heard h GivingUp left s = stays _ GivingUp left s

  busy_heard : (h : HandlerId) (stage : Stage) (left : List HandlerId) → Stands b hs past stage left
      → Kept (Hears (Busy h b)) (hear_busy (of_parts b hs stage left) h stage).0
  busy_heard h Locking left s =
      by_choice _ (is_lowest h left) _ _ (choice b hs _ (is_lowest h left) _ _ (stays _ Locking left s) (stays _ Locking left s))
  busy_heard h Opening left s = stays _ Opening left s
  busy_heard h Unlocking left s = stays _ Unlocking left s
  busy_heard h GivingUp left s = stays _ GivingUp left s

  open_heard : (h : HandlerId) (stage : Stage) (left : List HandlerId) → Stands b hs past stage left
      → Kept (Hears (Opened h b)) (hear_opened (of_parts b hs stage left) h stage).0
  open_heard h Locking left s = stays _ Locking left s
  open_heard h Opening left s =
      by_choice _ (has left h) _ _ (open_one b hs past left h (has left h) (is_empty (without h left)) (none_left (without h left)) s)
  open_heard h Unlocking left s = stays _ Unlocking left s
  open_heard h GivingUp left s = stays _ GivingUp left s

  unlock_heard : (h : HandlerId) (stage : Stage) (left : List HandlerId) → Stands b hs past stage left
      → Kept (Hears (Unlocked h b)) (hear_unlocked (of_parts b hs stage left) h stage).0
  unlock_heard h Locking left s = stays _ Locking left s
  unlock_heard h Opening left s = stays _ Opening left s
  unlock_heard h Unlocking left s =
      by_choice _ (has left h) _ _ (choice b hs _ (has left h) _ _ (stays _ Unlocking (without h left) s) (stays _ Unlocking left s))
  unlock_heard h GivingUp left s =
      by_choice _ (has left h) _ _ (choice b hs _ (has left h) _ _ (stays _ GivingUp (without h left) s) (stays _ GivingUp left s))

  -- a message of another block changes nothing
  in_block : (tell : Block → Message) (d : Block) (c : Bool) → (c ≡ true → d ≡ b) → (notice : Notice) (r : ReservationState) → Kept (Hears (tell b)) notice.0
      → Kept (Hears (tell d)) r → Kept (Hears (tell d)) (if c then notice else ignored r).0
  in_block tell d true is notice r own other = let P : Block → Type 0 = λ x. Kept (Hears (tell x)) notice.0 in subst P (sym (is refl)) own
  in_block tell d false is notice r own other = other

  one_heard : (m : Message) (stage : Stage) (left : List HandlerId) → Stands b hs past stage left → Kept (Hears m) (heard (of_parts b hs stage left) m).0
  one_heard (Hello h c inc) stage left s = stays _ stage left s
  one_heard (Welcome h c inc) stage left s = stays _ stage left s
  one_heard (Lock h d) stage left s = stays _ stage left s
  one_heard (Locked h d) stage left s =
      in_block (Locked h) d (same_block d b) (block_decides d b).0 _ _ (lock_heard h stage left s) (stays _ stage left s)
  one_heard (Busy h d) stage left s =
      in_block (Busy h) d (same_block d b) (block_decides d b).0 _ _ (busy_heard h stage left s) (stays _ stage left s)
  one_heard (Open h d) stage left s = stays _ stage left s
  one_heard (Opened h d) stage left s =
      in_block (Opened h) d (same_block d b) (block_decides d b).0 _ _ (open_heard h stage left s) (stays _ stage left s)
  one_heard (Unlock h d) stage left s = stays _ stage left s
  one_heard (Unlocked h d) stage left s =
      in_block (Unlocked h) d (same_block d b) (block_decides d b).0 _ _ (unlock_heard h stage left s) (stays _ stage left s)
  one_heard (Log h d n es) stage left s = stays _ stage left s
  one_heard (Logged h d n) stage left s = stays _ stage left s
  one_heard (Answer h d n a) stage left s = stays _ stage left s

  one_given_up : (stage : Stage) (left : List HandlerId) → Stands b hs past stage left → Kept GivesUp (after_one (of_parts b hs stage left) GivesUp)
  one_given_up Locking left s = sound b hs _ GivingUp _ (last_one past GivesUp)
  one_given_up Opening left s = stays _ Opening left s
  one_given_up Unlocking left s = stays _ Unlocking left s
  one_given_up GivingUp left s = stays _ GivingUp left s

  one : (e : Event) (stage : Stage) (left : List HandlerId) → Stands b hs past stage left → Kept e (after_one (of_parts b hs stage left) e)
  one (Hears m) stage left s = one_heard m stage left s
  one GivesUp stage left s = one_given_up stage left s

  parts : (r : ReservationState) → Sound b hs past r → r ≡ of_parts b hs r.stage r.left
  parts r s =
      ap (λ (d : Block). of_parts d r.handlers r.stage r.left) s.block ∙ ap (λ (xs : List HandlerId). of_parts b xs r.stage r.left) s.handlers

  next_one : (e : Event) (r : ReservationState) → Sound b hs past r → Kept e (after_one r e)
  next_one e r s =
      let P : ReservationState → Type 0 = λ q. Kept e (after_one q e) in
      subst P (sym (parts r s)) (one e r.stage r.left s.stands)

-- ---- whole runs

all : (b : Block) (hs : List HandlerId) (past es : List Event) (r : ReservationState) → Sound b hs past r → Sound b hs (past ++ es) (after r es)
all b hs past [] r s = rw append-nil s
all b hs past (e ∷ es) r s =
    let P : List Event → Type 0 = λ xs. Sound b hs xs (after (after_one r e) es) in
    subst P (append_assoc past (e ∷ []) es) (all b hs (past ++ e ∷ []) es (after_one r e) (next_one b hs past e r s))

no_other : (c : Bool) (m n : Message) → (m ≡ n → ⊥) → (if c then Some m else None) ≡ Some n → ⊥
no_other true m n other e = other cc
no_other false m n other e = cc

open_due : (b : Block) (hs : List HandlerId) (past : List Event) (stage : Stage) (left : List HandlerId) (h : HandlerId)
    → due_in (of_parts b hs stage left) h stage ≡ Some (Open h b) → Stands b hs past stage left → LeftOr (locked b) hs [] past
open_due b hs past Locking left h e s = absurd (no_other (is_lowest h left) (Lock h b) (Open h b) (λ m. cc) e)
open_due b hs past Opening left h e s = s.0
open_due b hs past Unlocking left h e s = absurd (no_other (has left h) (Unlock h b) (Open h b) (λ m. cc) e)
open_due b hs past GivingUp left h e s = absurd (no_other (has left h) (Unlock h b) (Open h b) (λ m. cc) e)

unlock_due : (b : Block) (hs : List HandlerId) (past : List Event) (stage : Stage) (left : List HandlerId) (h : HandlerId)
    → due_in (of_parts b hs stage left) h stage ≡ Some (Unlock h b) → Stands b hs past stage left → LeftOr (opened b) hs [] past ⊎ (stage ≡ GivingUp)
unlock_due b hs past Locking left h e s = absurd (no_other (is_lowest h left) (Lock h b) (Unlock h b) (λ m. cc) e)
unlock_due b hs past Opening left h e s = absurd (no_other (has left h) (Open h b) (Unlock h b) (λ m. cc) e)
unlock_due b hs past Unlocking left h e s = inl s
unlock_due b hs past GivingUp left h e s = inr refl

all_told : (told : HandlerId → Message) (hs : List HandlerId) (past : List Event) → LeftOr told hs [] past → (x : HandlerId) → has hs x ≡ true
    → Contains past (Hears (told x))
all_told told hs past s x among = ⊎_elim (λ nowhere. absurd (false≢true nowhere)) (λ k. k) (s.told_or x among)

-- the state after a run from the start
at_last : (b : Block) (hs : List HandlerId) (es : List Event) → Sound b hs es (after (fresh b hs) es)
at_last b hs es = all b hs [] es (fresh b hs) (sound b hs [] Locking hs (all_left (locked b) hs []))

due_at_last : (b : Block) (hs : List HandlerId) (es : List Event) (h : HandlerId) (m : Option Message) (q : ReservationState) → Sound b hs es q → due q h ≡ m
    → due_in (of_parts b hs q.stage q.left) h q.stage ≡ m
due_at_last b hs es h m q s e = sym (ap (λ (r : ReservationState). due r h) (parts b hs es q s)) ∙ e

pub keeps_order : (b : Block) (hs : List HandlerId) → KeepsOrder (fresh b hs)
keeps_order b hs = record {
  opens = λ es h e.
      let q = after (fresh b hs) es in
      let s = at_last b hs es in
      all_told (locked b) hs es (open_due b hs es q.stage q.left h (due_at_last b hs es h _ q s e) s.stands);
  unlocks = λ es h e.
      let q = after (fresh b hs) es in
      let s = at_last b hs es in
      ⊎_elim (λ t. inl (all_told (opened b) hs es t)) inr (unlock_due b hs es q.stage q.left h (due_at_last b hs es h _ q s e) s.stands);
}
