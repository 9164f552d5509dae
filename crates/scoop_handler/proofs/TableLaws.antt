-- Laws of each row of the table, and so of `hear`. Each law is proved of the relation, row by row. `hear`'s outcome has
-- a row, so the law holds of it. A call returns that outcome, or has changed nothing.
use Rattle.std.proofs.Common.{◌≡◌, ℕ, ◌<◌, ◌≤◌, ◌⊎◌, Bool, true, false, ◌||◌, IsTrue, cond, List, length, Option, Some, None, refl, sym, ap, subst, ◌∙◌, inl}
use Rattle.std.proofs.Common.{inr, arith}
use Rattle.std.proofs.lemmas.Bool.Decides.{nat_tests}
use Rattle.std.proofs.lemmas.Option.{none-some}
use Rattle.std.specs.Prelude.{IsFalse, Result, Ok, Err, IfOk, OnErr}
use Rattle.scoop_message.specs.declared.name.Block.{Block}
use Rattle.scoop_message.specs.declared.message.Message.{Message}
use Rattle.scoop_message.specs.declared.message.Message.TheVariants.{Hello, Welcome, Lock, Locked, Busy, Open, Opened, Unlock, Unlocked, Log, Logged, Answer}
use Rattle.scoop_message.specs.declared.request.Entry.{Entry}
use Rattle.scoop_message.specs.Entries.{last_number}
use Rattle.scoop_message.specs.declared.memory.OutOfMemory.{OutOfMemory}
use Rattle.scoop_message.specs.Range.{IsMessage}
use Rattle.scoop_message.specs.Message.{same_client, handler_of, client_of, inc_of, is_for_handler, Fits, IsEntryOf, IsLogOf}
use Rattle.scoop_queue.proofs.Lookup.{same_block-refl}
use Rattle.scoop_handler.specs.declared.mark.Mark.{Mark}
use Rattle.scoop_handler.specs.declared.mark.Stage.{Stage}
use Rattle.scoop_handler.specs.declared.mark.Stage.TheVariants.{Held as AtHeld, Open as AtOpen, Shut as AtShut}
use Rattle.scoop_handler.specs.declared.note.Heard.{Heard}
use Rattle.scoop_handler.specs.Core.{Core, IsCore, with_state}
use Rattle.scoop_handler.specs.Growing.{MarksGrow}
use Rattle.scoop_handler.specs.Marks.{mark_of, block_of, is_held, fresh_mark, opened_mark, with_received, without_hold}
use Rattle.scoop_handler.specs.State.{HandlerState, IsState, HoldsIfHeld, is_holder}
use Rattle.scoop_handler.specs.Hearing.{Hearing, IsHeardAt, hear, holder_without, greeting_mark, new_entries}
use Rattle.scoop_handler.specs.Rows.{Row, first_greeting, newer_greeting, repeated_greeting, lock_granted, lock_refused, repeated_lock, is_opened}
use Rattle.scoop_handler.specs.Rows.{repeated_open, unlock_of_a_block_never_held, is_freed, repeated_unlock, is_answered, already_received, is_taken}
use Rattle.scoop_handler.specs.Locking.{ConfirmsOnlyHolder, HolderMoves, DroppedChangesNothing}
use Rattle.scoop_handler.specs.Replies.{IsReplyTo, RepliesTo, HasEntries, named_block}
use Rattle.scoop_handler.proofs.MarkLists.{mark_of-client, client_from_same, All-mark_of}
use Rattle.scoop_handler.proofs.Beside.{block_is}
use Rattle.scoop_handler.proofs.Fronts.{FrontStays, FrontStays-is_some, FrontStays-opened, FrontStays-cut, FrontStays-put_all, MarksGrow-refl, MarksGrow-set}
use Rattle.scoop_handler.proofs.Fronts.{MarksGrow-add}
use Rattle.scoop_handler.proofs.States.{IsState-first, IsState-newer, IsState-granted, IsState-opened, IsState-skipped, IsState-freed, may_take}
use Rattle.scoop_handler.proofs.States.{holder_is_newest}
use Rattle.scoop_handler.proofs.TableRows.{row}

-- every message that a program holds
pub HasEntries-message : (m : Message) → IsMessage m → HasEntries m
HasEntries-message (Log h b n es) is = (is.1.some, is.1.end)
HasEntries-message m is = tt

-- ---- a state stays one

pub IsState-row : (s : HandlerState) (m : Message) (h : Hearing) → Row s m h → HasEntries m → IsState s → IsState h.0
IsState-row s m h (first_greeting x c inc here none room) has is = IsState-first s c inc is none (omega (arith, is.room))
IsState-row s m h (newer_greeting x c inc k here found newer) has is = IsState-newer s c inc k is found newer
IsState-row s m h (lock_granted x b k here at new free clear) has is = IsState-granted s b k is at new free clear
IsState-row s m h (is_opened x b k here at same held room) has is = IsState-opened s b k is at same held (omega (arith, is.queues.limit))
IsState-row s m h (unlock_of_a_block_never_held x b k here at new clear) has is = IsState-skipped s b k is at new clear
IsState-row s m h (is_freed x b k here at same holds) has is = IsState-freed s b k is at (ap (λ h. is_holder h b) holds ∙ same_block-refl b)
IsState-row s m h (is_taken x b n es k here at next goes_on room) has is = (may_take s b n es k is at next has.0 has.1 goes_on room).state
IsState-row s m h r has is = is

pub IsState-hear : (s : HandlerState) (m : Message) → HasEntries m → IsState s → IsState (hear s m).0
IsState-hear s m has is = IsState-row s m (hear s m) (row s m) has is

-- the state after a call that has heard the message, or has changed nothing. The value that it returns stands for the note and reply.
pub IsState-heard : {R : Type 0} (f : R → Heard) (old : HandlerState) (m : Message) (new : HandlerState) (result : Result R OutOfMemory)
    → HasEntries m → IsState old → IfOk result (λ x. hear old m ≡ (new, f x)) → OnErr result (new ≡ old) → IsState new
IsState-heard f old m new (Ok x) has is done same = subst (λ (h : Hearing). IsState h.0) done (IsState-hear old m has is)
IsState-heard f old m new (Err e) has is done same = subst IsState (sym same) is

-- ---- what stays

pub number-row : (s : HandlerState) (m : Message) (h : Hearing) → Row s m h → h.0.number ≡ s.number
number-row s m h (first_greeting x c inc here none room) = refl
number-row s m h (newer_greeting x c inc k here found newer) = refl
number-row s m h (lock_granted x b k here at new free clear) = refl
number-row s m h (is_opened x b k here at same held room) = refl
number-row s m h (unlock_of_a_block_never_held x b k here at new clear) = refl
number-row s m h (is_freed x b k here at same holds) = refl
number-row s m h (is_taken x b n es k here at next goes_on room) = refl
number-row s m h r = refl

pub words-row : (s : HandlerState) (m : Message) (h : Hearing) → Row s m h → h.0.words ≡ s.words
words-row s m h (first_greeting x c inc here none room) = refl
words-row s m h (newer_greeting x c inc k here found newer) = refl
words-row s m h (lock_granted x b k here at new free clear) = refl
words-row s m h (is_opened x b k here at same held room) = refl
words-row s m h (unlock_of_a_block_never_held x b k here at new clear) = refl
words-row s m h (is_freed x b k here at same holds) = refl
words-row s m h (is_taken x b n es k here at next goes_on room) = refl
words-row s m h r = refl

-- the entry that runs next
pub front-row : (s : HandlerState) (m : Message) (h : Hearing) → Row s m h → FrontStays s.queues h.0.queues
front-row s m h (newer_greeting x c inc k here found newer) = FrontStays-cut (block_of k) s.queues
front-row s m h (is_opened x b k here at same held room) = FrontStays-opened b s.queues
front-row s m h (is_taken x b n es k here at next goes_on room) = FrontStays-put_all b (new_entries n es k) s.queues
front-row s m h r = λ f e. e

pub IsCore-hear : (c : Core) (m : Message) → HasEntries m → IsCore c → IsCore (with_state (hear c.state m).0 c)
IsCore-hear c m has is = record {
  state = IsState-hear c.state m has is.state;
  words = ap length (words-row c.state m (hear c.state m) (row c.state m)) ∙ is.words;
  job = λ out. FrontStays-is_some c.state.queues (hear c.state m).0.queues (front-row c.state m (hear c.state m) (row c.state m)) (is.job out);
}

-- ---- marks only grow

freed_stage : (stage : Stage) → (stage ≡ cond (is_held stage) AtShut stage) ⊎ (stage ≡ AtHeld)
freed_stage AtHeld = inr refl
freed_stage AtOpen = inl refl
freed_stage AtShut = inl refl

-- a block that has ended takes no more
not_ended : (ended more : Bool) → IsTrue ended → IsFalse (ended || more) → ⊥
not_ended ended more t f = grind (arith, nat_tests)

pub grows-row : (s : HandlerState) (m : Message) (h : Hearing) → Row s m h → MarksGrow s.marks h.0.marks
grows-row s m h (first_greeting x c inc here none room) = MarksGrow-add (greeting_mark c inc) s.marks none
grows-row s m h (newer_greeting x c inc k here found newer) = MarksGrow-set (greeting_mark c inc) k s.marks found (inl (inl newer))
grows-row s m h (lock_granted x b k here at new free clear) = MarksGrow-set (fresh_mark b AtHeld) k s.marks at.found (inl (inr (at.inc, new)))
grows-row s m h (is_opened x b k here at same held room) =
    let own = ap (λ c. mark_of c s.marks) (mark_of-client b.client s.marks k at.found) ∙ at.found in
    MarksGrow-set (opened_mark k) k s.marks own (inr (record { inc = refl; num = refl; stage = inr held; received = omega arith; ended = λ t. t }))
grows-row s m h (unlock_of_a_block_never_held x b k here at new clear) = MarksGrow-set (fresh_mark b AtShut) k s.marks at.found (inl (inr (at.inc, new)))
grows-row s m h (is_freed x b k here at same holds) =
    let own = ap (λ c. mark_of c s.marks) (mark_of-client b.client s.marks k at.found) ∙ at.found in
    MarksGrow-set (without_hold k) k s.marks own (inr (record { inc = refl; num = refl; stage = freed_stage k.stage; received = omega arith; ended = λ t. t }))
grows-row s m h (is_taken x b n es k here at next goes_on room) =
    let own = ap (λ c. mark_of c s.marks) (mark_of-client b.client s.marks k at.heard.found) ∙ at.heard.found in
    let new = next.new in
    MarksGrow-set (with_received (last_number n es) _ k) k s.marks own
    (inr (record { inc = refl; num = refl; stage = inl refl; received = omega arith; ended = λ t. absurd (not_ended k.ended _ t goes_on) }))
grows-row s m h r = MarksGrow-refl s.marks

-- ---- a lock is confirmed to its holder alone

pub block_of-same : (s : HandlerState) (b : Block) (k : Mark) → IsHeardAt s b k → k.num ≡ b.num → block_of k ≡ b
block_of-same s b k at same = block_is k b (mark_of-client b.client s.marks k at.found) at.inc same

-- a held mark's block is the holder
pub held_holds : (s : HandlerState) (b : Block) (k : Mark) → IsState s → IsHeardAt s b k → k.num ≡ b.num → k.stage ≡ AtHeld → s.holder ≡ Some b
held_holds s b k is at same held =
    let holds : HoldsIfHeld s.holder k = All-mark_of (HoldsIfHeld s.holder) b.client s.marks k is.held at.found in
    holds.holds (ap is_held held) ∙ ap Some (block_of-same s b k at same)

pub confirms-row : (s : HandlerState) (m : Message) (h : Hearing) → Row s m h → IsState s → ConfirmsOnlyHolder h.0 h.1
confirms-row s m h (lock_granted x b k here at new free clear) is = λ y z e. cc
confirms-row s m h (repeated_lock x b k here at same held) is = λ y z e. let holds = held_holds s b k is at same held in cc
confirms-row s m h r is = λ y z e. absurd (let f = e in cc)

-- ---- how the holder moves

stays : (holder : Option Block) (m : Message) → HolderMoves holder m holder
stays None m = tt
stays (Some b) m = refl

pub holder-row : (s : HandlerState) (m : Message) (h : Hearing) → Row s m h → IsState s → HolderMoves s.holder m h.0.holder
holder-row s m h (newer_greeting x c inc k here found newer) is = by_holder s.holder refl where
  by_holder : (holder : Option Block) → s.holder ≡ holder → HolderMoves holder (Hello x c inc) (holder_without c holder)
  by_holder None e = tt
  by_holder (Some b) e =
      elim (same_client b.client c) as (λ t. same_client b.client c ≡ t → HolderMoves (Some b) (Hello x c inc) (cond t None (Some b))) [
        | true ↦ λ same.
            let of : b.client ≡ c = client_from_same b.client c same in
            let newest : block_of k ≡ b = holder_is_newest s b k is (ap (λ d. mark_of d s.marks) of ∙ found) e in
            let same_inc : k.inc ≡ b.inc = ap (λ (y : Block). y.inc) newest in
            (sym of, omega arith)
        | false ↦ λ apart. refl
      ] refl
holder-row s m h (lock_granted x b k here at new free clear) is = subst (λ holder. HolderMoves holder (Lock x b) (Some b)) (sym free) refl
holder-row s m h (is_freed x b k here at same holds) is = subst (λ holder. HolderMoves holder (Unlock x b) None) (sym holds) refl
holder-row s m h r is = stays s.holder m

-- ---- a drop changes nothing

pub drops-row : (s : HandlerState) (m : Message) (h : Hearing) → Row s m h → DroppedChangesNothing s h.0 h.1
drops-row s m h (first_greeting x c inc here none room) = λ why e. absurd (let f = e in cc)
drops-row s m h (newer_greeting x c inc k here found newer) = λ why e. absurd (let f = e in cc)
drops-row s m h (repeated_greeting x c inc k here found same) = λ why e. absurd (let f = e in cc)
drops-row s m h (lock_granted x b k here at new free clear) = λ why e. absurd (let f = e in cc)
drops-row s m h (lock_refused x b k here at new busy) = λ why e. absurd (let f = e in cc)
drops-row s m h (repeated_lock x b k here at same held) = λ why e. absurd (let f = e in cc)
drops-row s m h (is_opened x b k here at same held room) = λ why e. absurd (let f = e in cc)
drops-row s m h (repeated_open x b k here at same stage) = λ why e. absurd (let f = e in cc)
drops-row s m h (unlock_of_a_block_never_held x b k here at new clear) = λ why e. absurd (let f = e in cc)
drops-row s m h (is_freed x b k here at same holds) = λ why e. absurd (let f = e in cc)
drops-row s m h (repeated_unlock x b k here at same free) = λ why e. absurd (let f = e in cc)
drops-row s m h (is_answered x b n es k a here at before kept) = λ why e. absurd (let f = e in cc)
drops-row s m h (already_received x b n es k here at before kept) = λ why e. absurd (let f = e in cc)
drops-row s m h (is_taken x b n es k here at next goes_on room) = λ why e. absurd (let f = e in cc)
drops-row s m h r = λ why e. (refl, refl)

-- ---- replies

given : (m r : Message) → handler_of r ≡ handler_of m → client_of r ≡ client_of m → inc_of r ≡ inc_of m → named_block r ≡ named_block m
    → IsFalse (is_for_handler r) → (Fits m → Fits r) → (reply : Message) → Some r ≡ Some reply → IsReplyTo m reply
given m r handler client inc block to_client fits reply e =
    let same : r ≡ reply = cc in
    subst (IsReplyTo m) same (record { handler = handler; client = client; incarnation = inc; block = block; to_client = to_client; fits = fits })

-- a number at or after the last of a Log's entries
numbered : (b : Block) (n : ℕ) (es : List Entry) → IsLogOf b n (length es) → 0 < length es → (i : ℕ) → last_number n es ≤ i → IsEntryOf b i
numbered b n es fits some i behind = let first = fits.entry.number in record { block = fits.entry.block; number = omega arith }

pub replies-row : (s : HandlerState) (m : Message) (h : Hearing) → Row s m h → HasEntries m → RepliesTo m h.1
replies-row s m h (first_greeting x c inc here none room) has = given (Hello x c inc) (Welcome s.number c inc) (sym here) refl refl refl refl (λ f. f)
replies-row s m h (newer_greeting x c inc k here found newer) has = given (Hello x c inc) (Welcome s.number c inc) (sym here) refl refl refl refl (λ f. f)
replies-row s m h (repeated_greeting x c inc k here found same) has = given (Hello x c inc) (Welcome s.number c inc) (sym here) refl refl refl refl (λ f. f)
replies-row s m h (lock_granted x b k here at new free clear) has = given (Lock x b) (Locked s.number b) (sym here) refl refl refl refl (λ f. f)
replies-row s m h (lock_refused x b k here at new busy) has = given (Lock x b) (Busy s.number b) (sym here) refl refl refl refl (λ f. f)
replies-row s m h (repeated_lock x b k here at same held) has = given (Lock x b) (Locked s.number b) (sym here) refl refl refl refl (λ f. f)
replies-row s m h (is_opened x b k here at same held room) has = given (Open x b) (Opened s.number b) (sym here) refl refl refl refl (λ f. f)
replies-row s m h (repeated_open x b k here at same stage) has = given (Open x b) (Opened s.number b) (sym here) refl refl refl refl (λ f. f)
replies-row s m h (unlock_of_a_block_never_held x b k here at new clear) has = given (Unlock x b) (Unlocked s.number b) (sym here) refl refl refl refl (λ f. f)
replies-row s m h (is_freed x b k here at same holds) has = given (Unlock x b) (Unlocked s.number b) (sym here) refl refl refl refl (λ f. f)
replies-row s m h (repeated_unlock x b k here at same free) has = given (Unlock x b) (Unlocked s.number b) (sym here) refl refl refl refl (λ f. f)
replies-row s m h (is_answered x b n es k a here at before kept) has =
    given (Log x b n es) (Answer s.number b (last_number n es) a) (sym here) refl refl refl refl (λ f. numbered b n es f has.0 (last_number n es) (omega arith))
replies-row s m h (already_received x b n es k here at before kept) has =
    given (Log x b n es) (Logged s.number b k.received) (sym here) refl refl refl refl (λ f. numbered b n es f has.0 k.received before)
replies-row s m h (is_taken x b n es k here at next goes_on room) has =
    given (Log x b n es) (Logged s.number b (last_number n es)) (sym here) refl refl refl refl (λ f. numbered b n es f has.0 (last_number n es) (omega arith))
replies-row s m h r has = λ reply e. absurd (none-some _ e)

-- ---- a call that has heard

-- the call's outcome is the table's, and a call that ran out of memory changed nothing
pub record HasHeard (old : Core) (m : Message) (new : Core) (result : Result Heard OutOfMemory) : Type 0 where
  pub ok : IfOk result (λ heard. hear old.state m ≡ (new.state, heard))
  pub stays : new ≡ with_state new.state old
  pub err : OnErr result (new ≡ old)

pub sound-heard : (old : Core) (m : Message) (new : Core) (result : Result Heard OutOfMemory) → IsState new.state → IsCore old → HasHeard old m new result
    → IsCore new
sound-heard old m new (Ok heard) state is done =
    let told = subst (λ (h : Hearing). Row old.state m h) done.ok (row old.state m) in
    subst IsCore (sym done.stays) (record {
      state = state;
      words = ap length (words-row old.state m (new.state, heard) told) ∙ is.words;
      job = λ out. FrontStays-is_some old.state.queues new.state.queues (front-row old.state m (new.state, heard) told) (is.job out);
    })
sound-heard old m new (Err e) state is done = subst IsCore (sym done.err) is

pub confirms-heard : (old : Core) (m : Message) (new : Core) (result : Result Heard OutOfMemory) → IsCore old → HasHeard old m new result
    → IfOk result (ConfirmsOnlyHolder new.state)
confirms-heard old m new (Ok heard) is done = subst (λ (h : Hearing). ConfirmsOnlyHolder h.0 h.1) done.ok
    (confirms-row old.state m (hear old.state m) (row old.state m) is.state)
confirms-heard old m new (Err e) is done = tt

pub holder-heard : (old : Core) (m : Message) (new : Core) (result : Result Heard OutOfMemory) → IsCore old → HasHeard old m new result
    → HolderMoves old.state.holder m new.state.holder
holder-heard old m new (Ok heard) is done = subst (λ (h : Hearing). HolderMoves old.state.holder m h.0.holder) done.ok
    (holder-row old.state m (hear old.state m) (row old.state m) is.state)
holder-heard old m new (Err e) is done = subst (λ (c : Core). HolderMoves old.state.holder m c.state.holder) (sym done.err) (stays old.state.holder m)

pub drops-heard : (old : Core) (m : Message) (new : Core) (result : Result Heard OutOfMemory) → HasHeard old m new result
    → IfOk result (DroppedChangesNothing old.state new.state)
drops-heard old m new (Ok heard) done = subst (λ (h : Hearing). DroppedChangesNothing old.state h.0 h.1) done.ok
    (drops-row old.state m (hear old.state m) (row old.state m))
drops-heard old m new (Err e) done = tt

pub replies-heard : {R : Type 0} (f : R → Heard) (old : HandlerState) (m : Message) (new : HandlerState) (result : Result R OutOfMemory)
    → HasEntries m → IfOk result (λ x. hear old m ≡ (new, f x)) → IfOk result (λ x. RepliesTo m (f x))
replies-heard f old m new (Ok x) has done = subst (λ (h : Hearing). RepliesTo m h.1) done (replies-row old m (hear old m) (row old m) has)
replies-heard f old m new (Err e) has done = tt

pub grows-heard : (old : Core) (m : Message) (new : Core) (result : Result Heard OutOfMemory) → HasHeard old m new result
    → MarksGrow old.state.marks new.state.marks
grows-heard old m new (Ok heard) done = subst (λ (h : Hearing). MarksGrow old.state.marks h.0.marks) done.ok
    (grows-row old.state m (hear old.state m) (row old.state m))
grows-heard old m new (Err e) done = subst (λ (c : Core). MarksGrow old.state.marks c.state.marks) (sym done.err) (MarksGrow-refl old.state.marks)

pub words-heard : (old : Core) (m : Message) (new : Core) (result : Result Heard OutOfMemory) → HasHeard old m new result → new.state.words ≡ old.state.words
words-heard old m new (Ok heard) done = subst (λ (h : Hearing). h.0.words ≡ old.state.words) done.ok
    (words-row old.state m (hear old.state m) (row old.state m))
words-heard old m new (Err e) done = ap (λ (c : Core). c.state.words) done.err
