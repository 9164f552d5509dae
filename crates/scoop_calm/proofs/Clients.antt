-- Facts about every client. A reservation gets its locks in ascending order. It has something left to do until it is
-- opened everywhere. Something of a block is still to be acknowledged. Each unacknowledged query is the one that waits.
-- A client has a block only after all handlers have welcomed it. It waits for an answer only in a block.
use Rattle.scoop_calm.proofs.Names.{or_right, ◌≡◌, ◌<◌, ◌≤◌, ◌==◌, not, true, false, true≢false, nat_lt, List, ◌∷◌, length, Option, Some, None, refl, sym, ◌∙◌}
use Rattle.scoop_calm.proofs.Names.{subst, arith, if◌then◌else◌, Ok, Err, nat_tests, MAX_BLOCK_HANDLERS, Block, HandlerId, Message, handler_decides, Stage}
use Rattle.scoop_calm.proofs.Names.{Locking, Opening, Unlocking, GivingUp, Step, has, without, is_empty, is_lowest, asked, first_unknown, first_repeated}
use Rattle.scoop_calm.proofs.Names.{ReservationState, at_stage, fresh, started, unless_repeated, unless_unknown, is_gone, given_up, given_up_in, one_is_locked}
use Rattle.scoop_calm.proofs.Names.{all_are_locked, one_is_opened, all_are_opened, is_unlocked, is_given_back, by_test, has_without, is_gone_one, has_filtered}
use Rattle.scoop_calm.proofs.Names.{StepRow, ◌⊎◌, inl, inr, ℕ, zero, suc, ◌+◌, ◌&&◌, Bool, [], ◌++◌, drop, map, slice_get, ap, ⊎_elim, length-append}
use Rattle.scoop_calm.proofs.Names.{AllByRecursion, Entry, is_query, WindowState, fresh_window, with_entry, with_end, newly, acknowledged, window_of, at_window}
use Rattle.scoop_calm.proofs.Names.{is_ended, all_over, StaysAt, by_window, by_all, fresh_found, EndEntry as End, same_Some, Call, Query, client_of, step_row}
use Rattle.scoop_calm.proofs.Names.{ClientNote, logged, ClientState, with_windows, with_reservation, idle, heard, stepped, after_step, up_to, Command, Reserve}
use Rattle.scoop_calm.proofs.Names.{DoCall, DoQuery, DoEnd, GiveUp, Outcome, command, next_block, with_block, waits_for, HeardRow, passed_over, is_welcomed}
use Rattle.scoop_calm.proofs.Names.{takes_step, is_acknowledged, is_accepted, ReserveRow, begins_block, LogRow, is_logged, EndRow, ends_block, GiveUpRow}
use Rattle.scoop_calm.proofs.Names.{gives_up, heard_row, command_row, World, Party, is_party, set_party, Placement, Newcomer, new_party, opening, heard_party}
use Rattle.scoop_calm.proofs.Names.{restarted_party, Changes, started_fresh, all_found, all_set_party, running_is, idle_left}
use Rattle.scoop_reserve.specs.declared.error.ReserveError.TheVariants as error
use Rattle.scoop_calm.proofs.Lists.{Filled, nothing_in, first_in, filled, some_in, gone_without, lowest_has, lowest_below, lowest_of, in_asked, all_known}
use Rattle.scoop_calm.proofs.Lists.{NoTwice, none_repeated}
use Rattle.scoop_reserve.specs.Hearing as reservation
use Rattle.scoop_reserve.specs.declared.stage.Step.TheVariants as step

-- -------- Facts about every reservation: it got its locks in ascending order, and it has something left to do until it is
-- opened everywhere.

-- locks are got, or blocks opened
pub data IsSettingOut : Stage → Type 0 where
  locks : IsSettingOut Locking
  opens : IsSettingOut Opening

pub record Reserves (known : List HandlerId) (r : ReservationState) : Type 0 where
  pub known_all : (h : HandlerId) → has r.handlers h ≡ true → has known h ≡ true
  pub some : is_empty r.handlers ≡ false
  pub apart : NoTwice r.handlers
  pub within : (h : HandlerId) → has r.left h ≡ true → has r.handlers h ≡ true
  pub stays : IsSettingOut r.stage → is_empty r.left ≡ false
  pub order : r.stage ≡ Locking → (x y : HandlerId) → has r.handlers x ≡ true → has r.left x ≡ false → has r.left y ≡ true → x.0 < y.0

pub off_giving : IsSettingOut GivingUp → ⊥
off_giving s = elim s [ ]

pub off_unlocking : IsSettingOut Unlocking → ⊥
off_unlocking s = elim s [ ]

-- ---- it begins

unknown_none : (r s : ReservationState) (o : Option HandlerId) → unless_unknown r o ≡ Ok s → o ≡ None
unknown_none r s None e = refl
unknown_none r s (Some h) e = absurd (cc)

repeated_none : (r s : ReservationState) (o u : Option HandlerId) → unless_repeated r o u ≡ Ok s → (o ≡ None) × (u ≡ None)
repeated_none r s None u e = (refl, unknown_none r s u e)
repeated_none r s (Some h) u e = absurd (cc)

record Starts (hs known : List HandlerId) : Type 0 where
  none_unknown : first_unknown known hs ≡ None
  none_again : first_repeated hs ≡ None
  one : is_empty hs ≡ false

starts : (b : Block) (hs known : List HandlerId) (s : ReservationState) → started b hs known ≡ Ok s → Starts hs known
starts b hs known s e =
    by_test (λ t. (if t then Err error.Empty else if nat_lt MAX_BLOCK_HANDLERS (length hs) then Err error.TooMany
    else unless_repeated (fresh b hs) (first_repeated hs) (first_unknown known hs)) ≡ Ok s → Starts hs known) (length hs == 0)
    (λ is f. absurd (cc))
    (λ is f.
    by_test (λ t. (if t then Err error.TooMany else unless_repeated (fresh b hs) (first_repeated hs) (first_unknown known hs)) ≡ Ok s → Starts hs known)
    (nat_lt MAX_BLOCK_HANDLERS (length hs))
    (λ many g. absurd (cc))
    (λ few g. let n = repeated_none (fresh b hs) s (first_repeated hs) (first_unknown known hs) g in record { none_unknown = n.1; none_again = n.0; one = is })
    f) e

pub fresh_reserves : (b : Block) (hs known : List HandlerId) (s : ReservationState) → started b hs known ≡ Ok s → Reserves known (fresh b hs)
    × (is_gone (fresh b hs) ≡ false)
fresh_reserves b hs known s e =
    let f = starts b hs known s e in (
      record {
        known_all = all_known known hs f.none_unknown;
        some = f.one;
        apart = none_repeated hs f.none_again;
        within = λ h m. m;
        stays = λ _. f.one;
        order = λ _ x y in_set gone there. absurd (true≢false (sym in_set ∙ gone));
      },
      refl,
    )

-- ---- it hears

-- the two handlers of a list are apart
lower_or_same : (h y : HandlerId) → h.0 ≤ y.0 → (h ≡ y → ⊥) → h.0 < y.0
lower_or_same h y le apart = let same = (handler_decides h y).0 in grind (arith, nat_tests, same, apart)

-- one handler less is left, or all are left again
module _ (known : List HandlerId) (r : ReservationState) (stage : Stage) where
  without_reserves : (h : HandlerId) → (stage ≡ Locking → ⊥) → (IsSettingOut stage → is_empty (without h r.left) ≡ false) → Reserves known r
      → Reserves known (at_stage r stage (without h r.left))
  without_reserves h off stays f = record {
    known_all = f.known_all;
    some = f.some;
    apart = f.apart;
    within = λ x e. f.within x (has_without h x r.left e);
    stays = stays;
    order = λ is x y in_set gone there. absurd (off is);
  }

  all_reserves : (stage ≡ Locking → ⊥) → Reserves known r → Reserves known (at_stage r stage r.handlers)
  all_reserves off f = record {
    known_all = f.known_all;
    some = f.some;
    apart = f.apart;
    within = λ x e. e;
    stays = λ _. f.some;
    order = λ is x y in_set gone there. absurd (off is);
  }

pub heard_reserves : (known : List HandlerId) (r s : ReservationState) (m : Message) (st : Step) → StepRow r m s st → Reserves known r → Reserves known s
heard_reserves known r s m st (one_is_locked h at low more) f = record {
  known_all = f.known_all;
  some = f.some;
  apart = f.apart;
  within = λ x e. f.within x (has_without h x r.left e);
  stays = λ _. more;
  order = λ _ x y in_set gone there.
      let y_left : has r.left y ≡ true = has_without h y r.left there in
      by_test (λ _. x.0 < y.0) (has r.left x)
      (λ is.
      let one : h ≡ x = is_gone_one h x r.left is gone in
      subst (λ (z : HandlerId). z.0 < y.0) one
      (lower_or_same h y (lowest_below h r.left y low y_left)
      (λ e. true≢false (sym (subst (λ z. has (without h r.left) z ≡ true) (sym e) there) ∙ gone_without h r.left))))
      (λ is. f.order at x y in_set is y_left);
}
heard_reserves known r s m st (all_are_locked h at low none_left) f = all_reserves known r Opening (λ e. cc) f
heard_reserves known r s m st (one_is_opened h at is more) f = without_reserves known r Opening h (λ e. cc) (λ _. more) f
heard_reserves known r s m st (all_are_opened h at is none_left) f = all_reserves known r Unlocking (λ e. cc) f
heard_reserves known r s m st (is_unlocked h at is) f = without_reserves known r Unlocking h (λ e. cc) (λ out. absurd (off_unlocking out)) f
heard_reserves known r s m st (is_given_back h at is) f = without_reserves known r GivingUp h (λ e. cc) (λ out. absurd (off_giving out)) f
heard_reserves known r s m st row f = f

-- ---- it is given up

lowest_asked : (hs left : List HandlerId) (h : HandlerId) → has hs h ≡ true → is_lowest h left ≡ true → has (asked hs left) h ≡ true
lowest_asked hs left h e low = in_asked hs left h e (or_right (not (has left h)) (is_lowest h left) low)

asked_some : (hs left : List HandlerId) → ((h : HandlerId) → has left h ≡ true → has hs h ≡ true) → is_empty left ≡ false → Filled left
    → is_empty (asked hs left) ≡ false
asked_some hs _ inside empty nothing_in = absurd (true≢false empty)
asked_some hs _ inside empty (first_in h rest) =
    let l = lowest_of h rest in
    some_in (asked hs (h ∷ rest)) l.handler (lowest_asked hs (h ∷ rest) l.handler (inside l.handler (lowest_has l.handler (h ∷ rest) l.is)) l.is)

given_reserves : (known : List HandlerId) (r s : ReservationState) (stage : Stage) → r.stage ≡ stage → given_up_in r stage ≡ Ok s → Reserves known r
    → Reserves known s × (is_gone s ≡ false)
given_reserves known r s Locking at e f =
    let given : at_stage r GivingUp (asked r.handlers r.left) ≡ s = cc in
    let left = asked_some r.handlers r.left f.within (f.stays (subst IsSettingOut (sym at) locks)) (filled r.left) in
    subst (λ x. Reserves known x × (is_gone x ≡ false)) given (
      record {
        known_all = f.known_all;
        some = f.some;
        apart = f.apart;
        within = λ x m. has_filtered _ r.handlers x m;
        stays = λ out. absurd (off_giving out);
        order = λ is x y in_set gone there. absurd (cc);
      },
      left,
    )
given_reserves known r s stage at e f = absurd (cc)

pub give_up_reserves : (known : List HandlerId) (r s : ReservationState) → given_up r ≡ Ok s → Reserves known r → Reserves known s × (is_gone s ≡ false)
give_up_reserves known r s e f = given_reserves known r s r.stage refl e f

-- -------- Facts about a client's windows while it has a block. Something of the block is still to be acknowledged. Each
-- unacknowledged query is the one that waits.

-- each query of the window that isn't acknowledged is the one that waits
abbrev pub IsAwaited : Option (HandlerId × ℕ) → HandlerId → WindowState → Type 0
IsAwaited waits h l = (i : ℕ) (e : Entry) → slice_get l.unacked i ≡ Some e → is_query e ≡ true → waits ≡ Some (h, l.acked + i + 1)

pub record WindowsGo (ls : List WindowState) (waits : Option (HandlerId × ℕ)) : Type 0 where
  pub some : 0 < length ls
  pub going : all_over ls ≡ false
  pub waiting : (q : HandlerId × ℕ) → waits ≡ Some q → is_ended ls ≡ false
  pub awaited : (h : HandlerId) (l : WindowState) → window_of h ls ≡ Some l → IsAwaited waits h l
  pub alike : AllByRecursion (λ (l : WindowState). l.ended ≡ is_ended ls) ls

-- ---- lists of windows

pub not_ended_goes : (ls : List WindowState) → 0 < length ls → is_ended ls ≡ false → all_over ls ≡ false
not_ended_goes [] some e = absurd (omega (arith, some))
not_ended_goes (l ∷ ls) some e = grind (arith, nat_tests)

length_at_window : (k : HandlerId) (f : WindowState → WindowState) (ls : List WindowState) → length (at_window k f ls) ≡ length ls
length_at_window k f [] = refl
length_at_window k f (l ∷ ls) = let rest = length_at_window k f ls in grind (arith, rest)

length_all : (f : WindowState → WindowState) (ls : List WindowState) → length (map f ls) ≡ length ls
length_all f [] = refl
length_all f (l ∷ ls) = ap suc (length_all f ls)

ended_at_window : (k : HandlerId) (f : WindowState → WindowState) → ((l : WindowState) → (f l).ended ≡ l.ended) → (ls : List WindowState)
    → is_ended (at_window k f ls) ≡ is_ended ls
ended_at_window k f same [] = refl
ended_at_window k f same (l ∷ ls) = let rest = ended_at_window k f same ls in let own = same l in grind (arith, rest, own)

all_at_window : (P Q : WindowState → Type 0) (k : HandlerId) (f : WindowState → WindowState) → ((l : WindowState) → P l → Q (f l))
    → ((l : WindowState) → P l → Q l) → (ls : List WindowState) → AllByRecursion P ls → AllByRecursion Q (at_window k f ls)
all_at_window P Q k f own other [] all = tt
all_at_window P Q k f own other (l ∷ ls) all =
    let one = own l all.0 in let two = other l all.0 in let rest = all_at_window P Q k f own other ls all.1 in grind (arith, one, two, rest, others ls all.1)
  where
    others : (ls : List WindowState) → AllByRecursion P ls → AllByRecursion Q ls
    others [] all = tt
    others (x ∷ xs) all = (other x all.0, others xs all.1)

-- ---- a block begins

none_at : (i : ℕ) (e : Entry) → slice_get [] i ≡ Some e → ⊥
none_at i e f = cc

all_fresh : (hs : List HandlerId) (t : Bool) → t ≡ false → AllByRecursion (λ (l : WindowState). l.ended ≡ t) (map fresh_window hs)
all_fresh [] t e = tt
all_fresh (x ∷ xs) t e = (sym e, all_fresh xs t e)

fresh_ended : (hs : List HandlerId) → is_ended (map fresh_window hs) ≡ false
fresh_ended [] = refl
fresh_ended (x ∷ xs) = fresh_ended xs

pub fresh_go : (hs : List HandlerId) → 0 < length hs → WindowsGo (map fresh_window hs) None
fresh_go [] some = absurd (omega (arith, some))
fresh_go (x ∷ xs) some = record {
  some = omega arith;
  going = refl;
  waiting = λ q e. absurd (cc);
  awaited = λ h l found i e at. absurd (none_at i e (ap (λ (y : WindowState). slice_get y.unacked i) (fresh_found (x ∷ xs) h l found) ∙ at));
  alike = all_fresh (x ∷ xs) (is_ended (map fresh_window (x ∷ xs))) (fresh_ended (x ∷ xs));
}

-- ---- an entry is logged

get_before : (es : List Entry) (x e : Entry) (i : ℕ) → slice_get (es ++ x ∷ []) i ≡ Some e → (slice_get es i ≡ Some e) ⊎ ((i ≡ length es) × (x ≡ e))
get_before [] x e zero at = inr (refl, let same : x ≡ e = cc in same)
get_before [] x e (suc i) at = absurd (cc)
get_before (y ∷ ys) x e zero at = inl at
get_before (y ∷ ys) x e (suc i) at = ⊎_elim (λ (f : slice_get ys i ≡ Some e). inl f) (λ (g : (i ≡ length ys) × (x ≡ e)). inr (ap suc g.0, g.1))
    (get_before ys x e i at)

entry_stays : (e : Entry) → StaysAt (with_entry e)
entry_stays e l = refl

none_waits : (waits : Option (HandlerId × ℕ)) (q : HandlerId × ℕ) → waits ≡ None → waits ≡ Some q → ⊥
none_waits waits q e f = cc

module _ (ls : List WindowState) (k : HandlerId) (e : Entry) (going : is_ended ls ≡ false) (f : WindowsGo ls None) where
  logged_ended : is_ended (at_window k (with_entry e) ls) ≡ false
  logged_ended = ended_at_window k (with_entry e) (λ l. refl) ls ∙ going

  logged_some : 0 < length (at_window k (with_entry e) ls)
  logged_some = let same = length_at_window k (with_entry e) ls in let some = f.some in omega (arith, same, some)

  pub logged_go : (now : Option (HandlerId × ℕ)) → ((l : WindowState) → window_of k ls ≡ Some l → is_query e ≡ true
      → now ≡ Some (k, l.acked + length l.unacked + 1)) → WindowsGo (at_window k (with_entry e) ls) now
  logged_go now own = record {
    some = logged_some;
    going = not_ended_goes (at_window k (with_entry e) ls) logged_some logged_ended;
    waiting = λ q _. logged_ended;
    awaited = by_window (IsAwaited now) k (with_entry e) (entry_stays e) ls
        (λ l found i x at query.
        ⊎_elim
        (λ (old : slice_get l.unacked i ≡ Some x). absurd (none_waits None (k, l.acked + i + 1) refl (f.awaited k l found i x old query)))
        (λ (new : (i ≡ length l.unacked) × (e ≡ x)).
        subst (λ (j : ℕ). now ≡ Some (k, l.acked + j + 1)) (sym new.0) (own l found (ap is_query new.1 ∙ query)))
        (get_before l.unacked e x i at))
        (λ h l apart found i x at query. absurd (none_waits None (h, l.acked + i + 1) refl (f.awaited h l found i x at query)));
    alike =
        let same = ended_at_window k (with_entry e) (λ l. refl) ls in
        all_at_window (λ (l : WindowState). l.ended ≡ is_ended ls) (λ (l : WindowState). l.ended ≡ is_ended (at_window k (with_entry e) ls)) k (with_entry e)
        (λ l g. g ∙ sym same) (λ l g. g ∙ sym same) ls f.alike;
  }

-- ---- an End more

with_end_some : (es : List Entry) → (length (es ++ End ∷ []) == 0) ≡ false
with_end_some es = let l = length-append es (End ∷ []) in grind (arith, nat_tests)

pub ended_go : (ls : List WindowState) → WindowsGo ls None → WindowsGo (map with_end ls) None
ended_go ls f = record {
  some = let same = length_all with_end ls in let some = f.some in omega (arith, same, some);
  going = goes ls f.some;
  waiting = λ q e. absurd (cc);
  awaited = by_all (IsAwaited None) with_end (λ l. refl) ls
      (λ h l found i x at query.
      ⊎_elim
      (λ (old : slice_get l.unacked i ≡ Some x). absurd (none_waits None (h, l.acked + i + 1) refl (f.awaited h l found i x old query)))
      (λ (new : (i ≡ length l.unacked) × (End ≡ x)). absurd (true≢false (sym query ∙ sym (ap is_query new.1))))
      (get_before l.unacked End x i at));
  alike = all_over_now ls (is_ended (map with_end ls)) (some_ended ls f.some);
}
  where
    all_over_now : (ls : List WindowState) (t : Bool) → t ≡ true → AllByRecursion (λ (l : WindowState). l.ended ≡ t) (map with_end ls)
    all_over_now [] t e = tt
    all_over_now (l ∷ ls) t e = (sym e, all_over_now ls t e)

    some_ended : (ls : List WindowState) → 0 < length ls → is_ended (map with_end ls) ≡ true
    some_ended [] some = absurd (omega (arith, some))
    some_ended (l ∷ ls) some = refl

    goes : (ls : List WindowState) → 0 < length ls → all_over (map with_end ls) ≡ false
    goes [] some = absurd (omega (arith, some))
    goes (l ∷ ls) some = ap (λ t. t && all_over (map with_end ls)) (with_end_some l.unacked)

-- ---- entries are acknowledged

get_drop : (n i : ℕ) (es : List Entry) → slice_get (drop n es) i ≡ slice_get es (n + i)
get_drop zero i es = let e : i ≡ 0 + i = omega arith in ap (slice_get es) e
get_drop (suc n) i [] = refl
get_drop (suc n) i (x ∷ xs) = let e : suc n + i ≡ suc (n + i) = omega arith in get_drop n i xs ∙ sym (ap (slice_get (x ∷ xs)) e)

awaited_later : (waits : Option (HandlerId × ℕ)) (h : HandlerId) (k : ℕ) (l : WindowState) → IsAwaited waits h l → IsAwaited waits h (acknowledged k l)
awaited_later waits h k l f i e at query =
    let j = newly k l in
    let place : l.acked + (j + i) + 1 ≡ l.acked + j + i + 1 = omega arith in
    subst (λ (n : ℕ). waits ≡ Some (h, n)) place (f (j + i) e (sym (get_drop j i l.unacked) ∙ at) query)

acknowledged_stays : (k : ℕ) → StaysAt (acknowledged k)
acknowledged_stays k l = refl

module _ (ls : List WindowState) (h : HandlerId) (k : ℕ) (waits : Option (HandlerId × ℕ)) (f : WindowsGo ls waits) where
  abbrev news : List WindowState
  news = at_window h (acknowledged k) ls

  some_left : 0 < length news
  some_left = let same = length_at_window h (acknowledged k) ls in let some = f.some in omega (arith, same, some)

  same_ended : is_ended news ≡ is_ended ls
  same_ended = ended_at_window h (acknowledged k) (λ l. refl) ls

  news_alike : AllByRecursion (λ (l : WindowState). l.ended ≡ is_ended news) news
  news_alike = all_at_window (λ (l : WindowState). l.ended ≡ is_ended ls) (λ (l : WindowState). l.ended ≡ is_ended news) h (acknowledged k)
      (λ l g. g ∙ sym same_ended) (λ l g. g ∙ sym same_ended) ls f.alike

  -- unless all is over now
  pub counted_go : all_over news ≡ false → WindowsGo news waits
  counted_go going = record {
    some = some_left;
    going = going;
    waiting = λ q e. same_ended ∙ f.waiting q e;
    awaited = by_window (IsAwaited waits) h (acknowledged k) (acknowledged_stays k) ls
        (λ l found. awaited_later waits h k l (f.awaited h l found))
        (λ x l apart found. f.awaited x l found);
    alike = news_alike;
  }

  same_query : (x y : HandlerId) (m n : ℕ) → waits ≡ Some (x, m) → waits ≡ Some (y, n) → (x ≡ y) × (m ≡ n)
  same_query x y m n p q =
      let both : Some (x, m) ≡ Some (y, n) = sym p ∙ q in
      let one : (x, m) ≡ (y, n) = cc in
      (ap (λ (z : HandlerId × ℕ). z.0) one, ap (λ (z : HandlerId × ℕ). z.1) one)

  past_end : (es : List Entry) (n i : ℕ) (e : Entry) → length es ≤ n → slice_get (drop n es) i ≡ Some e → ⊥
  past_end (x ∷ xs) zero i e le at = omega (arith, le)
  past_end (x ∷ xs) (suc n) i e le at = past_end xs n i e (omega (arith, le)) at
  past_end [] zero i e le at = cc
  past_end [] (suc n) i e le at = cc

  -- the query that waits is answered
  pub answered_go : waits ≡ Some (h, k) → WindowsGo news None
  answered_go own = record {
    some = some_left;
    going = not_ended_goes news some_left (same_ended ∙ f.waiting (h, k) own);
    waiting = λ q e. absurd (cc);
    awaited = by_window (IsAwaited None) h (acknowledged k) (acknowledged_stays k) ls
        (λ l found i e at query.
        let j = newly k l in
        let number = (same_query h h (l.acked + (j + i) + 1) k (f.awaited h l found (j + i) e (sym (get_drop j i l.unacked) ∙ at) query) own).1 in
        absurd (past_end l.unacked j i e (omega (arith, number)) at))
        (λ x l apart found i e at query. absurd (apart (sym (same_query x h (l.acked + i + 1) k (f.awaited x l found i e at query) own).0)));
    alike = news_alike;
  }

-- -------- Facts about every client: whom it greets, how its reservation stands, and what its windows have left. A client has a
-- block only after all handlers have welcomed it, and waits for an answer only in a block. Each row of hearing and each
-- command keeps the facts. Only a restart changes a client otherwise, and it begins the client anew.

-- of a client that has a block
pub record BlockFits (c : ClientState) (r : ReservationState) : Type 0 where
  pub welcome : is_empty c.unwelcomed ≡ true
  pub reserves : Reserves c.handlers r
  pub on : is_gone r ≡ false
  pub windows : WindowsGo c.windows c.waits
  pub begun : 1 ≤ c.last

pub record ClientFits (c : ClientState) : Type 0 where
  pub within : (h : HandlerId) → has c.unwelcomed h ≡ true → has c.handlers h ≡ true
  pub quiet : c.reservation ≡ None → c.waits ≡ None
  pub block : (r : ReservationState) → c.reservation ≡ Some r → BlockFits c r

-- ---- it hears

idle_fits : (c : ClientState) → ((h : HandlerId) → has c.unwelcomed h ≡ true → has c.handlers h ≡ true) → ClientFits (idle c)
idle_fits c within = record { within = within; quiet = λ e. refl; block = λ r e. absurd (cc) }

stepped_fits : (c : ClientState) (r s : ReservationState) → c.reservation ≡ Some r → Reserves c.handlers s → ClientFits c → ClientFits (stepped c s)
stepped_fits c r s held f g =
    by_test (λ t. ClientFits (if t then idle c else with_reservation c s)) (is_gone s)
    (λ over. idle_fits c g.within)
    (λ on. record {
      within = g.within;
      quiet = λ e. absurd (cc);
      block = λ q e.
          let b = g.block r held in
          record {
            welcome = b.welcome;
            reserves = subst (Reserves c.handlers) (same_Some s q e) f;
            on = subst (λ y. is_gone y ≡ false) (same_Some s q e) on;
            windows = b.windows;
            begun = b.begun;
          };
    })

step_fits : (c : ClientState) (r s : ReservationState) (st : Step) → c.reservation ≡ Some r → Reserves c.handlers s → ClientFits c
    → ClientFits (after_step c s st).0
step_fits c r s step.Ignored held f g = g
step_fits c r s st held f g = stepped_fits c r s held f g

none_left : (h : HandlerId) (hs : List HandlerId) → is_empty hs ≡ true → has hs h ≡ true → ⊥
none_left h [] e m = true≢false (sym m)
none_left h (x ∷ xs) e m = true≢false (sym e ∙ (let n : (length (x ∷ xs) == 0) ≡ false = grind (arith, nat_tests) in n))

-- a client whose windows change goes on with them
with_windows_fits : (c : ClientState) (ls : List WindowState) (waits : Option (HandlerId × ℕ)) (r : ReservationState) → c.reservation ≡ Some r → ClientFits c
    → WindowsGo ls waits → ClientFits (with_windows c ls waits)
with_windows_fits c ls waits r held g go = record {
  within = g.within;
  quiet = λ e. absurd (let f : None ≡ Some r = sym e ∙ held in cc);
  block = λ q e. let b = g.block q e in record { welcome = b.welcome; reserves = b.reserves; on = b.on; windows = go; begun = b.begun };
}

row_fits : (c : ClientState) (m : Message) (d : ClientState) (note : ClientNote) → HeardRow c m d note → ClientFits c → ClientFits d
row_fits c m d note (passed_over n) g = g
row_fits c m d note (is_welcomed h left) g = record {
  within = λ x e. g.within x (has_without h x c.unwelcomed e);
  quiet = g.quiet;
  block = λ r held. absurd (none_left h c.unwelcomed (g.block r held).welcome left);
}
row_fits c m d note (takes_step n r held) g =
    step_fits c r (reservation.heard r n).0 (reservation.heard r n).1 held
    (heard_reserves c.handlers r (reservation.heard r n).0 n (reservation.heard r n).1 (step_row r n) (g.block r held).reserves) g
row_fits c m d note (is_acknowledged h n r l held opened window new_count) g =
    let ls = at_window h (acknowledged (up_to h n c.waits)) c.windows in
    let e : ClientState = with_windows c ls c.waits in
    by_test (λ t. ClientFits (if t then idle e else e)) (all_over ls)
    (λ over. idle_fits e g.within)
    (λ on. with_windows_fits c ls c.waits r held g (counted_go c.windows h (up_to h n c.waits) c.waits (g.block r held).windows on))
row_fits c m d note (is_accepted h n a r held opened waits) g =
    with_windows_fits c (at_window h (acknowledged n) c.windows) None r held g (answered_go c.windows h n c.waits (g.block r held).windows waits)

pub heard_fits : (c : ClientState) (m : Message) → ClientFits c → ClientFits (heard c m).0
heard_fits c m g = row_fits c m (heard c m).0 (heard c m).1 (heard_row c m) g

-- ---- it takes a command

ok_fits : (c d : ClientState) → ◌≡◌ {A = Outcome} (Ok c) (Ok d) → ClientFits c → ClientFits d
ok_fits c d e f = let same : c ≡ d = cc in subst ClientFits same f

some_length : (hs : List HandlerId) → is_empty hs ≡ false → 0 < length hs
some_length hs e = grind (arith, nat_tests)

reserve_fits : (c d : ClientState) (hs : List HandlerId) (o : Outcome) → ReserveRow c hs o → o ≡ Ok d → ClientFits c → ClientFits d
reserve_fits c d hs o (begins_block r at_idle room begins) e g =
    let fits = fresh_reserves (next_block c) hs c.handlers r begins in
    let same = started_fresh (next_block c) hs c.handlers r begins in
    ok_fits (with_block c hs r) d e (record {
      within = g.within;
      quiet = λ f. absurd (cc);
      block = λ q held.
          let one : fresh (next_block c) hs ≡ q = same ∙ same_Some r q held in
          record {
            welcome = idle_left c at_idle;
            reserves = subst (Reserves c.handlers) one fits.0;
            on = subst (λ y. is_gone y ≡ false) one fits.1;
            windows = fresh_go hs (some_length hs fits.0.some);
            begun = omega arith;
          };
    })
reserve_fits c d hs o row e g = absurd (cc)

log_fits : (c d : ClientState) (h : HandlerId) (n : Entry) (o : Outcome) → LogRow c h n o → o ≡ Ok d
    → ((l : WindowState) → is_query n ≡ true → waits_for h (logged l + 1) n ≡ Some (h, logged l + 1)) → ClientFits c → ClientFits d
log_fits c d h n o (is_logged l running free window room more) e own g =
    let run = running_is c running in
    let now = waits_for h (logged l + 1) n in
    ok_fits (with_windows c (at_window h (with_entry n) c.windows) now) d e
    (with_windows_fits c (at_window h (with_entry n) c.windows) now run.reservation run.held g
    (logged_go c.windows h n run.going (subst (WindowsGo c.windows) free (g.block run.reservation run.held).windows) now
    (λ x found query. let both : Some x ≡ Some l = sym found ∙ window in
    subst (λ (y : WindowState). now ≡ Some (h, y.acked + length y.unacked + 1)) (sym (same_Some x l both)) (own l query))))
log_fits c d h n o row e own g = absurd (cc)

end_fits : (c d : ClientState) (o : Outcome) → EndRow c o → o ≡ Ok d → ClientFits c → ClientFits d
end_fits c d o (ends_block running free room) e g =
    let run = running_is c running in
    ok_fits (with_windows c (map with_end c.windows) None) d e
    (with_windows_fits c (map with_end c.windows) None run.reservation run.held g
    (ended_go c.windows (subst (WindowsGo c.windows) free (g.block run.reservation run.held).windows)))
end_fits c d o row e g = absurd (cc)

give_up_fits : (c d : ClientState) (o : Outcome) → GiveUpRow c o → o ≡ Ok d → ClientFits c → ClientFits d
give_up_fits c d o (gives_up r s locking held given) e g =
    let b = g.block r held in
    let f = give_up_reserves c.handlers r s given b.reserves in
    ok_fits (with_reservation c s) d e (record {
      within = g.within;
      quiet = λ n. absurd (cc);
      block = λ q is. record {
        welcome = b.welcome;
        reserves = subst (Reserves c.handlers) (same_Some s q is) f.0;
        on = subst (λ y. is_gone y ≡ false) (same_Some s q is) f.1;
        windows = b.windows;
        begun = b.begun;
      };
    })
give_up_fits c d o row e g = absurd (cc)

pub command_fits : (c d : ClientState) (x : Command) → command c x ≡ Ok d → ClientFits c → ClientFits d
command_fits c d (Reserve hs) e g = reserve_fits c d hs _ (command_row c (Reserve hs)) e g
command_fits c d (DoCall h r) e g = log_fits c d h (Call r) _ (command_row c (DoCall h r)) e (λ l q. absurd (true≢false (sym q))) g
command_fits c d (DoQuery h r) e g = log_fits c d h (Query r) _ (command_row c (DoQuery h r)) e (λ l q. refl) g
command_fits c d DoEnd e g = end_fits c d _ (command_row c DoEnd) e g
command_fits c d GiveUp e g = give_up_fits c d _ (command_row c GiveUp) e g

greeting_fits : (c : ClientState) → c.unwelcomed ≡ c.handlers → c.reservation ≡ None → c.waits ≡ None → ClientFits c
greeting_fits c left none free = record {
  within = λ h e. subst (λ hs. has hs h ≡ true) left e;
  quiet = λ e. free;
  block = λ r e. absurd (let f : None ≡ Some r = sym none ∙ e in cc);
}

-- ---- whatever happens

abbrev pub PartyFitsWell : Party → Type 0
PartyFitsWell p = ClientFits p.client

abbrev pub AllFit : World → Type 0
AllFit w = AllByRecursion PartyFitsWell w.parties

set_fits : (q : Party) (ps : List Party) → ClientFits q.client → AllByRecursion PartyFitsWell ps → AllByRecursion PartyFitsWell (set_party q ps)
set_fits q ps own all = all_set_party PartyFitsWell PartyFitsWell q ps own (λ y other f. f) all

pub fit_kept : (w : World) → AllFit w → Changes AllFit w
fit_kept w i = record {
  commands = λ c p x d at is. set_fits (record p { client = d }) w.parties
      (command_fits p.client d x is (all_found PartyFitsWell (is_party c) w.parties p i at)) i;
  sends = λ c p h s at here. i;
  hears = λ k m s was goes here. i;
  notices = λ k m p was goes at. set_fits (heard_party p (heard p.client m)) w.parties
      (heard_fits p.client m (all_found PartyFitsWell (is_party (client_of m)) w.parties p i at)) i;
  begins = λ h s t here is. i;
  finishes = λ h s t here is. i;
  restarts = λ c p at room. set_fits (restarted_party p) w.parties (greeting_fits (restarted_party p).client refl refl refl) i;
  reopens = λ n. i;
}

pub opens_fit : (ps : List Placement) (ns : List Newcomer) → AllFit (opening ps ns)
opens_fit ps ns = all ns
  where
    all : (ns : List Newcomer) → AllByRecursion PartyFitsWell (map new_party ns)
    all [] = tt
    all (n ∷ ns) = (greeting_fits (new_party n).client refl refl refl, all ns)
