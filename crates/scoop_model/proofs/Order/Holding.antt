-- A handler's marks show which block holds its lock and which blocks it has granted. A mark is at one block of its client and only
-- grows. A block is *reached* if the mark is at it or past it, and that stays. A block is *held* if the mark is at it and held. The
-- case that grants the lock begins this, and the one that opens or frees ends it.
use Rattle.scoop_model.proofs.Names.{◌≡◌, ℕ, ◌<◌, List, map, Some, None, refl, sym, ap, ◌∙◌, subst, arith, ◌≤◌, Option, option_map, true, if◌then◌else◌, false}
use Rattle.scoop_model.proofs.Names.{true≢false, ◌⊎◌, inl, inr, ⊎_elim, ⊤, same_client, Message, Open, Locked, Lock, Log, Hello, Unlock, Block, ClientId}
use Rattle.scoop_model.proofs.Names.{mark_of-after, by_test, mark_of-set_mark_own, mark_of-client, mark_of-add_mark_own, client_from_same, same_client-refl}
use Rattle.scoop_model.proofs.Names.{mark_of-set_mark_other, mark_of-add_mark_other, MarksGrow, IsNewer, IsFurther, Hearing, greeting_mark, holder_without}
use Rattle.scoop_model.proofs.Names.{fresh_mark, opened_mark, with_received, without_hold, set_mark, mark_of, is_held, add_mark, Row, first_greeting}
use Rattle.scoop_model.proofs.Names.{newer_greeting, lock_granted, is_opened, unlock_of_a_block_never_held, is_freed, is_taken, repeated_lock, mark_after}
use Rattle.scoop_model.proofs.Names.{HandlerState, Mark, AtHeld, AtShut, AtOpen, Granted, OpenedNote, Ran, some_same}
use Rattle.scoop_handler.specs.declared.mark.Stage.{Stage}

-- one place among the blocks of a client is not past another
pub record Upto (i n j k : ℕ) : Type 0 where
  pub inc : i ≤ j
  pub num : j ≡ i → n ≤ k

pub upto_itself : (i n : ℕ) → Upto i n i n
upto_itself i n = record { inc = omega arith; num = λ e. omega arith }

pub upto_more : (i n j k l m : ℕ) → Upto i n j k → Upto j k l m → Upto i n l m
upto_more i n j k l m a b = record { inc = omega (arith, a.inc, b.inc); num = λ e. omega (arith, a.inc, b.inc, a.num, b.num) }

-- ---- blocks that were granted the lock

-- the client's mark is at the block or past it
pub record IsReachedIn (marks : List Mark) (b : Block) : Type 0 where
  pub mark : Mark
  pub found : mark_of b.client marks ≡ Some mark
  pub upto : Upto b.inc b.num mark.inc mark.num

newer_upto : (k x : Mark) → IsNewer k x → Upto k.inc k.num x.inc x.num
newer_upto k x n = grind arith

further_upto : (k x : Mark) → IsFurther k x → Upto k.inc k.num x.inc x.num
further_upto k x f = record { inc = omega (arith, f.inc); num = λ e. omega (arith, f.num) }

pub reached_more : (old new : List Mark) (b : Block) → MarksGrow old new → IsReachedIn old b → IsReachedIn new b
reached_more old new b grows r = grind (arith, further_upto, newer_upto, upto_more)

-- ---- blocks that hold the lock

-- the block is its client's newest, and held
pub record IsHeldIn (marks : List Mark) (b : Block) : Type 0 where
  pub mark : Mark
  pub found : mark_of b.client marks ≡ Some mark
  pub inc : mark.inc ≡ b.inc
  pub num : mark.num ≡ b.num
  pub stage : mark.stage ≡ AtHeld

abbrev pub HeldHolds : HandlerState → Type 0
HeldHolds s = (b : Block) → IsHeldIn s.marks b → s.holder ≡ Some b

-- a mark that is held is of this block
pub record IsOwn (k : Mark) (b : Block) : Type 0 where
  pub client : b.client ≡ k.client
  pub inc : k.inc ≡ b.inc
  pub num : k.num ≡ b.num
  pub stage : k.stage ≡ AtHeld

-- the block is of another client, and held
pub record IsOther (k : Mark) (marks : List Mark) (b : Block) : Type 0 where
  pub apart : b.client ≡ k.client → ⊥
  pub held : IsHeldIn marks b

own_from : (k : Mark) (b : Block) (marks : List Mark) (h : IsHeldIn marks b) → b.client ≡ k.client → k ≡ h.mark → IsOwn k b
own_from k b marks h c same = grind arith

clients_apart : (c d : ClientId) → same_client c d ≡ false → c ≡ d → ⊥
clients_apart c d e p = true≢false (sym (subst (λ x. same_client x d ≡ true) (sym p) (same_client-refl d)) ∙ e)

held_set : (k old : Mark) (marks : List Mark) (b : Block) → mark_of k.client marks ≡ Some old → IsHeldIn (set_mark k marks) b → IsOwn k b ⊎ IsOther k marks b
held_set k old marks b found h = grind (arith, client_from_same, mark_of-set_mark_other, mark_of-set_mark_own, own_from)

-- a mark that isn't held leaves those of other clients
held_left : (k old : Mark) (marks : List Mark) (b : Block) → mark_of k.client marks ≡ Some old → (k.stage ≡ AtHeld → ⊥) → IsHeldIn (set_mark k marks) b
    → IsOther k marks b
held_left k old marks b found off h =
    ⊎_elim (λ (own : IsOwn k b). absurd (off own.stage)) (λ (other : IsOther k marks b). other) (held_set k old marks b found h)

held_added :
    (k : Mark) (marks : List Mark) (b : Block) → mark_of k.client marks ≡ None → (k.stage ≡ AtHeld → ⊥) → IsHeldIn (add_mark k marks) b → IsHeldIn marks b
held_added k marks b none off h =
    by_test (λ t. IsHeldIn marks b) (same_client k.client b.client)
    (λ e.
    let c = client_from_same k.client b.client e in
    let here = ap (λ x. mark_of x (add_mark k marks)) c ∙ h.found in
    absurd (off (own_from k b (add_mark k marks) h (sym c) (some_same (mark_of k.client (add_mark k marks)) k h.mark
    (mark_of-add_mark_own k marks none) here)).stage))
    (λ e. record { mark = h.mark; found = sym (mark_of-add_mark_other b.client k marks e) ∙ h.found; inc = h.inc; num = h.num; stage = h.stage })

-- running changes no stage
pub held_ran : (r : Ran) (marks : List Mark) (b : Block) → IsHeldIn (map (mark_after r) marks) b → IsHeldIn marks b
held_ran r marks b h = grind (arith, mark_of-after, option_map)

-- ---- what hearing does to the lock

-- the block asks for the lock, and is granted it, which it never was before
pub record IsNewlyLocked (s : HandlerState) (m : Message) (h : Hearing) (b : Block) : Type 0 where
  pub asks : m ≡ Lock s.number b
  pub note : h.1.note ≡ Granted
  pub mark : Mark
  pub found : mark_of b.client s.marks ≡ Some mark
  pub inc : mark.inc ≡ b.inc
  pub num : mark.num < b.num

-- the block asks to be opened and is held, and then no block is
pub record IsNewlyOpened (s : HandlerState) (m : Message) (h : Hearing) (b : Block) : Type 0 where
  pub asks : m ≡ Open s.number b
  pub held : IsHeldIn s.marks b
  pub none : HeldHolds s → (x : Block) → IsHeldIn h.0.marks x → ⊥

-- a Locked is of a block that was granted the lock, and no reply goes to a handler
abbrev pub TellsBack : HandlerState → Option Message → Type 0
TellsBack s None = ⊤
TellsBack s (Some (Hello x c inc)) = ⊥
TellsBack s (Some (Lock x b)) = ⊥
TellsBack s (Some (Locked x b)) = (x ≡ s.number) × IsReachedIn s.marks b
TellsBack s (Some (Open x b)) = ⊥
TellsBack s (Some (Unlock x b)) = ⊥
TellsBack s (Some (Log x b n es)) = ⊥
TellsBack s (Some m) = ⊤

pub open_not_held : AtOpen ≡ AtHeld → ⊥
open_not_held e = cc

shut_not_held : AtShut ≡ AtHeld → ⊥
shut_not_held e = cc

freed_not_held : (stage : Stage) → (if is_held stage then AtShut else stage) ≡ AtHeld → ⊥
freed_not_held AtHeld e = cc
freed_not_held stage e = cc

pub own_place : (b : Block) (k : Mark) (marks : List Mark) → mark_of b.client marks ≡ Some k → mark_of k.client marks ≡ Some k
own_place b k marks found = ap (λ c. mark_of c marks) (mark_of-client b.client marks k found) ∙ found

still_holds : (o : Option Block) (c : ClientId) (b : Block) → o ≡ Some b → (b.client ≡ c → ⊥) → holder_without c o ≡ Some b
still_holds None c b e apart = absurd (cc)
still_holds (Some x) c b e apart = grind (arith, client_from_same)

own_is : (b x : Block) (stage : Stage) → IsOwn (fresh_mark b stage) x → b ≡ x
own_is b x stage own = λ t. record { client = (sym own.client) t; inc = own.inc t; num = own.num t }

holds-row : (s : HandlerState) (m : Message) (h : Hearing) → Row s m h → HeldHolds s → HeldHolds h.0
holds-row s m h (first_greeting x c inc here none room) all = λ y held. all y (held_added (greeting_mark c inc) s.marks y none shut_not_held held)
holds-row s m h (newer_greeting x c inc k here found newer) all = λ y held.
    let other = held_left (greeting_mark c inc) k s.marks y found shut_not_held held in
    still_holds s.holder c y (all y other.held) other.apart
holds-row s m h (lock_granted x b k here at new free clear) all = λ y held.
    ⊎_elim
    (λ (own : IsOwn (fresh_mark b AtHeld) y). ap Some (own_is b y AtHeld own))
    (λ (other : IsOther (fresh_mark b AtHeld) s.marks y). let was = all y other.held in absurd (nobody s.holder y free was))
    (held_set (fresh_mark b AtHeld) k s.marks y at.found held)
  where
    nobody : (o : Option Block) (y : Block) → o ≡ None → o ≡ Some y → ⊥
    nobody o y e f = cc
holds-row s m h (is_opened x b k here at same was room) all =
    λ y held. all y (held_left (opened_mark k) k s.marks y (own_place b k s.marks at.found) open_not_held held).held
holds-row s m h (unlock_of_a_block_never_held x b k here at new clear) all =
    λ y held. all y (held_left (fresh_mark b AtShut) k s.marks y at.found shut_not_held held).held
holds-row s m h (is_freed x b k here at same holds) all = λ y held.
    let other = held_left (without_hold k) k s.marks y (own_place b k s.marks at.found) (freed_not_held k.stage) held in
    let one : b ≡ y = some_same s.holder b y holds (all y other.held) in
    absurd (other.apart (ap (λ (z : Block). z.client) (sym one) ∙ sym (mark_of-client b.client s.marks k at.found)))
holds-row s m h (is_taken x b n es k here at next goes_on room) all = λ y held.
    all y (held_left (with_received _ _ k) k s.marks y (own_place b k s.marks at.heard.found) (λ e. open_not_held (sym at.stage ∙ e)) held).held
holds-row s m h r all = all

locks-row : (s : HandlerState) (m : Message) (h : Hearing) → Row s m h → (y : Block) → IsHeldIn h.0.marks y → IsHeldIn s.marks y ⊎ IsNewlyLocked s m h y
locks-row s m h (first_greeting x c inc here none room) = λ y held. inl (held_added (greeting_mark c inc) s.marks y none shut_not_held held)
locks-row s m h (newer_greeting x c inc k here found newer) = λ y held. inl (held_left (greeting_mark c inc) k s.marks y found shut_not_held held).held
locks-row s m h (lock_granted x b k here at new free clear) = λ y held.
    ⊎_elim
    (λ (own : IsOwn (fresh_mark b AtHeld) y). inr (subst (IsNewlyLocked s (Lock x b) _) (own_is b y AtHeld own)
    (record { asks = ap (λ z. Lock z b) here; note = refl; mark = k; found = at.found; inc = at.inc; num = new })))
    (λ (other : IsOther (fresh_mark b AtHeld) s.marks y). inl other.held)
    (held_set (fresh_mark b AtHeld) k s.marks y at.found held)
locks-row s m h (is_opened x b k here at same was room) =
    λ y held. inl (held_left (opened_mark k) k s.marks y (own_place b k s.marks at.found) open_not_held held).held
locks-row s m h (unlock_of_a_block_never_held x b k here at new clear) =
    λ y held. inl (held_left (fresh_mark b AtShut) k s.marks y at.found shut_not_held held).held
locks-row s m h (is_freed x b k here at same holds) =
    λ y held. inl (held_left (without_hold k) k s.marks y (own_place b k s.marks at.found) (freed_not_held k.stage) held).held
locks-row s m h (is_taken x b n es k here at next goes_on room) = λ y held.
    inl (held_left (with_received _ _ k) k s.marks y (own_place b k s.marks at.heard.found) (λ e. open_not_held (sym at.stage ∙ e)) held).held
locks-row s m h r = λ y held. inl held

opens-row : (s : HandlerState) (m : Message) (h : Hearing) → Row s m h → (b : Block) → h.1.note ≡ OpenedNote b → IsNewlyOpened s m h b
opens-row s m h (is_opened x b k here at same was room) = λ y e.
    let one : b ≡ y = opened_same b y e in
    subst (IsNewlyOpened s (Open x b) _) one (record {
      asks = ap (λ z. Open z b) here;
      held = held;
      none = λ all z now.
          let other = held_left (opened_mark k) k s.marks z (own_place b k s.marks at.found) open_not_held now in
          let alike : b ≡ z = some_same s.holder b z (all b held) (all z other.held) in
          other.apart (ap (λ (q : Block). q.client) (sym alike) ∙ sym (mark_of-client b.client s.marks k at.found));
    })
  where
    held : IsHeldIn s.marks b
    held = record { mark = k; found = at.found; inc = at.inc; num = same; stage = was }

    opened_same : (p q : Block) → OpenedNote p ≡ OpenedNote q → p ≡ q
    opened_same p q e = cc
opens-row s m h r = λ y e. absurd (let f = e in cc)

tells-row : (s : HandlerState) (m : Message) (h : Hearing) → Row s m h → TellsBack h.0 h.1.reply
tells-row s m h (lock_granted x b k here at new free clear) = (
  refl,
  record {
    mark = fresh_mark b AtHeld;
    found = mark_of-set_mark_own (fresh_mark b AtHeld) k s.marks at.found;
    upto = upto_itself b.inc b.num;
  },
)
tells-row s m h (repeated_lock x b k here at same was) = grind arith
tells-row s m h r = tt

pub record Hears (s : HandlerState) (m : Message) (h : Hearing) : Type 0 where
  pub holds : HeldHolds s → HeldHolds h.0
  pub locks : (b : Block) → IsHeldIn h.0.marks b → IsHeldIn s.marks b ⊎ IsNewlyLocked s m h b
  pub opens : (b : Block) → h.1.note ≡ OpenedNote b → IsNewlyOpened s m h b
  pub tells : TellsBack h.0 h.1.reply

pub hears_row : (s : HandlerState) (m : Message) (h : Hearing) → Row s m h → Hears s m h
hears_row s m h r = record { holds = holds-row s m h r; locks = locks-row s m h r; opens = opens-row s m h r; tells = tells-row s m h r }
