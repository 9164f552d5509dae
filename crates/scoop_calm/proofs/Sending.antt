-- The parts of sending a log: the count that a client hears, the entries that a handler takes, and kept answers.
use Rattle.scoop_calm.proofs.Names.{◌≡◌, ℕ, ◌+◌, ◌-◌, ◌<◌, ◌≤◌, ◌==◌, ◌&&◌, ◌||◌, Bool, true, false, true≢false, nat_le, nat_lt, List, [], ◌∷◌, length, Option}
use Rattle.scoop_calm.proofs.Names.{Some, None, refl, sym, ap, ◌∙◌, arith, length-drop, if◌then◌else◌, nat_tests, Block, HandlerId, ObjectAnswer, Logged}
use Rattle.scoop_calm.proofs.Names.{Answer, same_handler, handler_decides, ReservationState, Acknowledged, Accepted, Ignored, WindowState, logged, newly}
use Rattle.scoop_calm.proofs.Names.{acknowledged, window_of, at_window, all_over, ClientState, with_windows, idle, Notice, heard, hear_logged, hear_count}
use Rattle.scoop_calm.proofs.Names.{hear_answer, hear_answer_to, settled, ignored, is_open_block, up_to, by_test, same_block_itself, block_work, client_work}
use Rattle.scoop_calm.proofs.Names.{window_work, windows_work, stage_work, wait_work, ◌^◌, not, and-false, MAX_PENDING, MAX_ENTRIES, Entry, Log, ends}
use Rattle.scoop_calm.proofs.Names.{last_number, same_client, client_decides, pending, Mark, Took, Known, is_open as is_mark_open, mark_of, set_mark}
use Rattle.scoop_calm.proofs.Names.{HandlerState, IsAscending, is_new, hear_of, if_here, hear_log, took, with_entries, received_before, kept_answer}
use Rattle.scoop_calm.proofs.Names.{new_entries, is_closed, has_no_room, mark_room, total, tail-ascending, suc, ◌++◌, map, filter, slice_get, subst}
use Rattle.scoop_calm.proofs.Names.{length-append, append_assoc, Contains, AllByRecursion, option_map, All-contains, All-from_recursion, Query, is_query}
use Rattle.scoop_calm.proofs.Names.{same_block, ClassTable, eff, entry_effect, Ran, AnswersFrom, Slot, IsBegun, same_block-sym, numbered, untold}
use Rattle.scoop_reserve.specs.Hearing.{is_open}
use Rattle.scoop_calm.proofs.Lists.{Distinct, total_newer}
use Rattle.scoop_calm.proofs.Talk.{Replies, heard_of}
use Rattle.scoop_model.proofs.Tape.Slots.{ran_of}
use Rattle.scoop_calm.proofs.Attending.{up_to_le}
use Rattle.scoop_calm.proofs.Marks.{next_answer, last_answer, last_pushed, slots_all, ran_all}

-- -------- A client that hears a count passes it over, or has less to do.

-- ---- one window has less left

windows_at : (h : HandlerId) (f : WindowState → WindowState) (ls : List WindowState) (l : WindowState) → window_of h ls ≡ Some l
    → windows_work (at_window h f ls) + window_work l ≡ windows_work ls + window_work (f l)
windows_at h f [] l found = absurd (cc)
windows_at h f (x ∷ xs) l found = let rest = windows_at h f xs l in grind (arith, rest)

pub acknowledged_window : (k : ℕ) (l : WindowState) → window_work (acknowledged k l) + newly k l ≡ window_work l
acknowledged_window k l = let size = length-drop (newly k l) l.unacked in grind (arith, size)

-- ---- what is heard

-- the client after a count: no more is left to do, and less where the count is above what was acknowledged
pub record Counts (c : ClientState) (h : HandlerId) (b : Block) (n : ℕ) (l : WindowState) : Type 0 where
  pub notice : Notice
  pub is : heard c (Logged h b n) ≡ notice
  pub id : notice.0.id ≡ c.id
  pub no_more : client_work notice.0 ≤ client_work c
  pub less : l.acked < up_to h n c.waits → client_work notice.0 < client_work c

module _ (c : ClientState) (q : ReservationState) (held : c.reservation ≡ Some q) (opened : is_open q ≡ true) (h : HandlerId) (l : WindowState)
    (window : window_of h c.windows ≡ Some l) where
  was : (waits : Option (HandlerId × ℕ)) → c.waits ≡ waits → client_work c
      ≡ length c.unwelcomed + (stage_work q q.stage + windows_work c.windows) + wait_work waits
  was waits e = (λ i. length c.unwelcomed + block_work c.windows (held i) + wait_work (e i))

  open_own : is_open_block q.block q ≡ true
  open_own = (λ i. same_block_itself q.block i && opened i)

  or_false : (t u : Bool) → t ≡ false → (t || u) ≡ u
  or_false t u e = ap (λ x. x || u) e

  pub counted : (n : ℕ) → n ≤ logged l → Counts c h q.block n l
  counted n le =
      let k = up_to h n c.waits in
      let ls = at_window h (acknowledged k) c.windows in
      let d : ClientState = with_windows c ls c.waits in
      let few : nat_lt (logged l) n ≡ false = grind (arith, nat_tests) in
      let start : heard c (Logged h q.block n) ≡ (if nat_lt (logged l) n || nat_le k l.acked then ignored c else (settled d, Acknowledged h k)) =
      ap (hear_logged c h q.block n) held ∙ ap (λ t. if t then hear_count c h n k (window_of h c.windows) else ignored c) open_own
      ∙ ap (hear_count c h n k) window in
      let before = was c.waits refl in
      by_test (λ _. Counts c h q.block n l) (nat_le k l.acked)
      (λ old. record {
        notice = (c, Ignored);
        is = start ∙ (λ i. if few i || old i then ignored c else (settled d, Acknowledged h k));
        id = refl;
        no_more = omega arith;
        less = λ more. absurd (let off : nat_le k l.acked ≡ false = grind (arith, nat_tests) in true≢false (sym old ∙ off));
      })
      (λ new.
      let more : l.acked < k = grind (arith, nat_tests) in
      let windows = windows_at h (acknowledged k) c.windows l window in
      let one = acknowledged_window k l in
      let some : 1 ≤ newly k l = positive k le new more in
      let fewer : client_work (settled d) < client_work c =
      let now : client_work d ≡ length c.unwelcomed + (stage_work q q.stage + windows_work ls) + wait_work c.waits =
      (λ i. length c.unwelcomed + block_work ls (held i) + wait_work c.waits) in
      grind (arith, before, now, windows, one, some) in
      record {
        notice = (settled d, Acknowledged h k);
        is = start ∙ (λ i. if few i || new i then ignored c else (settled d, Acknowledged h k));
        id = by_test (λ t. (if t then idle d else d).id ≡ c.id) (all_over ls) (λ _. refl) (λ _. refl);
        no_more = omega (arith, fewer);
        less = λ _. fewer;
      })
    where
      positive : (k : ℕ) → n ≤ logged l → nat_le (up_to h n c.waits) l.acked ≡ false → l.acked < up_to h n c.waits → 1 ≤ newly (up_to h n c.waits) l
      positive k le new more = omega (arith, le, more, up_to_le h n c.waits)

  -- the answer that the client waits for
  pub answered : (n : ℕ) (a : ObjectAnswer) → c.waits ≡ Some (h, n) → (d : Notice) × (heard c (Answer h q.block n a) ≡ d) × (d.0.id ≡ c.id)
      × (client_work d.0 < client_work c)
  answered n a waits =
      let ls = at_window h (acknowledged n) c.windows in
      let d : ClientState = with_windows c ls None in
      let own : (same_handler h h && n == n) ≡ true = (λ i. (handler_decides h h).1 refl i && same_number i) in
      let now : client_work d ≡ length c.unwelcomed + (stage_work q q.stage + windows_work ls) + 0 = (λ i. length c.unwelcomed + block_work ls (held i) + 0) in
      let one = acknowledged_window n l in (
        (d, Accepted h n a),
        ap (hear_answer c h q.block n a) held ∙ ap (λ t. if t then hear_answer_to c h n a c.waits else ignored c) open_own
            ∙ ap (hear_answer_to c h n a) waits ∙ ap (λ t. if t then (d, Accepted h n a) else ignored c) own,
        refl,
        omega (arith, was (Some (h, n)) waits, now, windows_at h (acknowledged n) c.windows l window, one),
      )
    where
      same_number : (n == n) ≡ true
      same_number = grind (arith, nat_tests)

-- -------- A client sends entries of an opened block, to a handler where nothing of the block is pending.

-- ---- marks are of different clients

ascending_from : (k z : Mark) (zs : List Mark) → IsAscending (k ∷ z ∷ zs) → IsAscending (k ∷ zs)
ascending_from k z [] up = tt
ascending_from k z (y ∷ ys) up = let first = up.0 in let next = up.1.0 in (omega (arith, first, next), up.1.1)

none_later : (k : Mark) (marks : List Mark) → IsAscending (k ∷ marks) → mark_of k.client marks ≡ None
none_later k [] up = refl
none_later k (z ∷ zs) up =
    let less = up.0 in
    let other : same_client z.client k.client ≡ false = grind (arith, nat_tests) in
    ap (λ t. if t then Some z else mark_of k.client zs) other ∙ none_later k zs (ascending_from k z zs up)

pub marks_distinct : (marks : List Mark) → IsAscending marks → Distinct (λ (k : Mark). k.client) same_client client_decides marks
marks_distinct [] up = tt
marks_distinct (k ∷ ks) up = (none_later k ks up, marks_distinct ks (tail-ascending k ks up))

-- a mark in the place of its client's takes more
pub less_room : (k old : Mark) (marks : List Mark) → IsAscending marks → mark_of k.client marks ≡ Some old → old.received < k.received → k.received ≤ 2 ^ 32
    → total mark_room (set_mark k marks) < total mark_room marks
less_room k old marks up found more fits =
    omega (arith, total_newer (λ (x : Mark). x.client) same_client client_decides mark_room k old marks (marks_distinct marks up) found, more, fits)

-- ---- the handler

-- facts about a Log of the block's first unacknowledged entries
pub record IsDue (s : HandlerState) (b : Block) (k : Mark) (n : ℕ) (es : List Entry) : Type 0 where
  pub found : mark_of b.client s.marks ≡ Some k
  pub inc : k.inc ≡ b.inc
  pub num : k.num ≡ b.num
  pub open_here : is_mark_open k.stage ≡ true
  pub next : n ≤ k.received + 1
  pub goes_on : k.received < last_number n es → k.ended ≡ false
  pub low : last_number n es < 2 ^ 32
  pub end : ends es ≡ false → last_number n es < 2 ^ 32 - 1
  pub few : length es ≤ MAX_ENTRIES
  pub idle : pending b s.queues ≡ 0

-- the entries are taken; or they were before, and the count comes back, or an answer
pub data LogReply (s : HandlerState) (b : Block) (k : Mark) (n : ℕ) (es : List Entry) : Type 0 where
  taken : k.received < last_number n es → (r : Replies s (Log s.number b n es) (Logged s.number b (last_number n es))) → r.state ≡ with_entries s b n es k
      → LogReply s b k n es
  counted_before : last_number n es ≤ k.received → kept_answer (last_number n es) k.kept ≡ None → Replies s (Log s.number b n es) (Logged s.number b k.received)
      → LogReply s b k n es
  answered_before : (a : ObjectAnswer) → kept_answer (last_number n es) k.kept ≡ Some a
      → Replies s (Log s.number b n es) (Answer s.number b (last_number n es) a) → LogReply s b k n es

module _ (s : HandlerState) (b : Block) (k : Mark) (n : ℕ) (es : List Entry) (d : IsDue s b k n es) where
  abbrev last : ℕ
  last = last_number n es

  not_new : is_new b k ≡ false
  not_new = let num = d.num in grind (arith, nat_tests)

  -- all of them were received
  old_outcome : nat_le last k.received ≡ true → hear_log s b n es k ≡ received_before s b last k (kept_answer last k.kept)
  old_outcome old = grind (arith, not_new, d.open_here, old)

  not_closed : k.received < last → is_closed k last es ≡ false
  not_closed new =
      let going = d.goes_on new in
      let low = d.low in
      let fits : nat_le (2 ^ 32) last ≡ false = grind (arith, nat_tests) in
      (λ i. going i || (fits i || (last == 2 ^ 32 - 1 && not (ends es)))) ∙ by_end (ends es) refl
    where
      by_end : (t : Bool) → ends es ≡ t → (last == 2 ^ 32 - 1 && not (ends es)) ≡ false
      by_end true is = ap (λ t. last == 2 ^ 32 - 1 && not t) is ∙ and-false (last == 2 ^ 32 - 1)
      by_end false is =
          let below = d.end is in
          let other : (last == 2 ^ 32 - 1) ≡ false = grind (arith, nat_tests) in
          ap (λ t. t && not (ends es)) other

  roomy : has_no_room s b (length (new_entries n es k)) ≡ false
  roomy =
      let none = d.idle in within (pending b s.queues) (length (new_entries n es k)) none (omega (arith, length-drop (k.received + 1 - n) es, d.few))
    where
      within : (p m : ℕ) → p ≡ 0 → m ≤ 4 → nat_lt MAX_PENDING (p + m) ≡ false
      within p m none few = grind (arith, nat_tests)

  new_outcome : nat_le last k.received ≡ false → hear_log s b n es k ≡ took s b n es k
  new_outcome new =
      let more : k.received < last = grind (arith, nat_tests) in
      let no_gap : nat_lt (k.received + 1) n ≡ false = grind (arith, nat_tests, d.next) in
      grind (arith, not_new, d.open_here, new, no_gap, not_closed more, roomy)

  pub log_reply : LogReply s b k n es
  log_reply =
      by_test (λ _. LogReply s b k n es) (nat_le last k.received)
      (λ old. by_kept old (kept_answer last k.kept) refl)
      (λ new.
      taken (let more : k.received < last = grind (arith, nat_tests) in more)
      (record { state = with_entries s b n es k; told = Took last; is = begins ∙ new_outcome new }) refl)
    where
      begins : if_here s s.number (hear_of s b (hear_log s b n es)) ≡ hear_log s b n es k
      begins = let num = d.num in heard_of s b k (hear_log s b n es) d.found d.inc (omega (arith, num))

      by_kept : nat_le last k.received ≡ true → (o : Option ObjectAnswer) → kept_answer last k.kept ≡ o → LogReply s b k n es
      by_kept old None is =
          counted_before (let le : last ≤ k.received = grind (arith, nat_tests) in le) is
          (record { state = s; told = Known; is = begins ∙ old_outcome old ∙ ap (received_before s b last k) is })
      by_kept old (Some a) is = answered_before a is (record { state = s; told = Known; is = begins ∙ old_outcome old ∙ ap (received_before s b last k) is })

-- -------- Queries that have run: their answers are kept, and their clients wait for them. Entries of other blocks leave a
-- block's last answer alone, and its own entries have run in order. So if the last of them is a query, the kept answer
-- is that query's. The query has an answer, and stands in the block's log at the kept number.

-- entries of other blocks leave the last answer
pub own_answers : (b : Block) (rs : List Ran) (kept : Option (ℕ × ObjectAnswer))
    → last_answer b rs kept ≡ last_answer b (filter (λ r. same_block r.block b) rs) kept
own_answers b [] kept = refl
own_answers b (r ∷ rs) kept =
    by_test (λ t. last_answer b rs (next_answer b r kept)
    ≡ last_answer b (if t then r ∷ filter (λ x. same_block x.block b) rs else filter (λ x. same_block x.block b) rs) kept) (same_block r.block b)
    (λ is. own_answers b rs (next_answer b r kept))
    (λ is.
    let other : same_block b r.block ≡ false = same_block-sym r.block b is in
    ap (λ t. last_answer b rs (if is_query r.entry && t then option_map (λ a. (r.number, a)) r.answer else kept)) other
    ∙ ap (λ t. last_answer b rs (if t then option_map (λ a. (r.number, a)) r.answer else kept)) (and-false (is_query r.entry))
    ∙ own_answers b rs kept)

-- the last of what ran of a block
pub record LastRan (rs : List Ran) (b : Block) (n : ℕ) (e : Entry) : Type 0 where
  pub before : List Ran
  pub ran : Ran
  pub all : before ++ ran ∷ [] ≡ rs
  pub block : ran.block ≡ b
  pub number : ran.number ≡ n
  pub entry : ran.entry ≡ e

-- where entries have run in their order, the last of them ran last
pub last_ran : (rs : List Ran) (b : Block) (n : ℕ) (es : List Entry) (e : Entry) → map untold rs ≡ numbered b n (es ++ e ∷ []) → LastRan rs b (n + length es) e
last_ran [] b n [] e told = absurd (cc)
last_ran [] b n (x ∷ es) e told = absurd (cc)
last_ran (r ∷ []) b n [] e told =
    let one : untold r ≡ (b, n, e) = cc in
    record {
      before = [];
      ran = r;
      all = refl;
      block = ap (λ (u : Block × ℕ × Entry). u.0) one;
      number = ap (λ (u : Block × ℕ × Entry). u.1) one ∙ omega arith;
      entry = ap (λ (u : Block × ℕ × Entry). u.2) one;
    }
last_ran (r ∷ s ∷ rs) b n [] e told = absurd (cc)
last_ran (r ∷ rs) b n (x ∷ es) e told =
    let rest : map untold rs ≡ numbered b (n + 1) (es ++ e ∷ []) = cc in
    let l = last_ran rs b (n + 1) es e rest in
    record { before = r ∷ l.before; ran = l.ran; all = ap (λ xs. r ∷ xs) l.all; block = l.block; number = l.number ∙ omega arith; entry = l.entry }

-- a query that ran last has its answer kept
pub query_last : (rs : List Ran) (b : Block) (n : ℕ) (e : Entry) (l : LastRan rs b n e) → is_query e ≡ true → (kept : Option (ℕ × ObjectAnswer))
    → last_answer b rs kept ≡ option_map (λ a. (n, a)) l.ran.answer
query_last rs b n e l query kept =
    let both : (is_query l.ran.entry && same_block b l.ran.block) ≡ true =
    (λ i. (ap is_query l.entry ∙ query) i && (ap (same_block b) l.block ∙ same_block_itself b) i) in
    ap (λ xs. last_answer b xs kept) (sym l.all) ∙ last_pushed b l.before l.ran kept
    ∙ ap (λ t. if t then option_map (λ a. (l.ran.number, a)) l.ran.answer else last_answer b l.before kept) both
    ∙ ap (λ m. option_map (λ a. (m, a)) l.ran.answer) l.number

-- ---- each query that ran was answered

pub record IsAnsweredRan (r : Ran) : Type 0 where
  pub answered : is_query r.entry ≡ true → (a : ObjectAnswer) × (r.answer ≡ Some a)

query_effect : (class : ClassTable) (words : List ℕ) (e : Entry) (o : Option ObjectAnswer) → o ≡ (entry_effect class words e).1 → is_query e ≡ true
    → (a : ObjectAnswer) × (o ≡ Some a)
query_effect class words (Query r) o is q = ((eff class words r).1, is)
query_effect class words e o is q = absurd (true≢false (sym q))

pub all_answered : (class : ClassTable) (words : List ℕ) (rs : List Ran) → AnswersFrom class words rs → AllByRecursion IsAnsweredRan rs
all_answered class words [] all = tt
all_answered class words (r ∷ rs) all = (
  record { answered = query_effect class words r.entry r.answer all.0 },
  all_answered class
      (entry_effect class words r.entry).0 rs all.1,
)

pub all_filtered : {A : Type 0} (P : A → Type 0) (f : A → Bool) (xs : List A) → AllByRecursion P xs → AllByRecursion P (filter f xs)
all_filtered P f [] all = tt
all_filtered P f (x ∷ xs) all = let rest = all_filtered P f xs all.1 in grind (arith, rest, all.0)

-- ---- what has run stands in the log

pub get_at : (before : List Entry) (e : Entry) (later : List Entry) → slice_get (before ++ e ∷ later) (length before) ≡ Some e
get_at [] e later = refl
get_at (x ∷ xs) e later = get_at xs e later

pub get_behind : (xs ys : List Entry) (i : ℕ) → slice_get (xs ++ ys) (length xs + i) ≡ slice_get ys i
get_behind [] ys i = let e : 0 + i ≡ i = omega arith in ap (slice_get ys) e
get_behind (x ∷ xs) ys i = let e : length (x ∷ xs) + i ≡ suc (length xs + i) = omega arith in ap (slice_get (x ∷ xs ++ ys)) e ∙ get_behind xs ys i

module _ (log : Block → List Entry) where
  abbrev pub IsLoggedAt : Block × ℕ × Entry → Type 0
  IsLoggedAt u = slice_get (log u.0) (u.1 - 1) ≡ Some u.2

  numbered_logged : (b : Block) (before es behind : List Entry) → before ++ (es ++ behind) ≡ log b
      → AllByRecursion IsLoggedAt (numbered b (length before + 1) es)
  numbered_logged b before [] behind all = tt
  numbered_logged b before (e ∷ es) behind all =
      let place : length before + 1 - 1 ≡ length before = omega arith in
      let more : before ++ e ∷ [] ++ (es ++ behind) ≡ log b = append_assoc before (e ∷ []) (es ++ behind) ∙ all in
      let size : length (before ++ e ∷ []) ≡ length before + 1 = length-append before (e ∷ []) in (
        ap (slice_get (log b)) place ∙ ap (λ xs. slice_get xs (length before)) (sym all) ∙ get_at before e (es ++ behind),
        subst (λ (n : ℕ). AllByRecursion IsLoggedAt (numbered b (n + 1) es)) size (numbered_logged b (before ++ e ∷ []) es behind more),
      )

  slots_logged : (ss : List Slot) → AllByRecursion (IsBegun log) ss → AllByRecursion IsLoggedAt (ran_of ss)
  slots_logged = slots_all IsLoggedAt (IsBegun log)
      (λ t b. numbered_logged t.block [] t.ran (t.rest ++ b.behind) (sym (append_assoc t.ran t.rest b.behind) ∙ b.all))

  -- an entry of a block that has run stands in its log at its number
  pub ran_logged : (rs : List Ran) (ss : List Slot) → map untold rs ≡ ran_of ss → AllByRecursion (IsBegun log) ss → (r : Ran) → Contains rs r
      → slice_get (log r.block) (r.number - 1) ≡ Some r.entry
  ran_logged rs ss told begun r at =
      let P : Ran → Type 0 = λ x. slice_get (log x.block) (x.number - 1) ≡ Some x.entry in
      All-contains P rs r (All-from_recursion P rs (ran_all IsLoggedAt rs (subst (AllByRecursion IsLoggedAt) (sym told) (slots_logged ss begun)))) at
