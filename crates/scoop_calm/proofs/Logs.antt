-- A client with an opened block sends what it has logged, to a handler where nothing of the block is pending.
-- Acknowledged entries were received, and the received entries are a beginning of the log. So the entries sent begin at
-- or before the next number there, and are few enough for an empty queue. They go on only where the handler has no End
-- yet.
use Rattle.scoop_calm.proofs.Names.{◌≡◌, ℕ, ◌+◌, ◌-◌, ◌^◌, ◌<◌, ◌≤◌, ◌==◌, ◌&&◌, not, Bool, true, false, true≢false, nat_lt, List, [], ◌∷◌, ◌++◌, length, Some}
use Rattle.scoop_calm.proofs.Names.{None, refl, sym, ap, ◌∙◌, subst, arith, length-append, append-nil, if◌then◌else◌, option_map_or, nat_tests, and_parts}
use Rattle.scoop_calm.proofs.Names.{HandlerId, Entry, Hello, Unlock, Log, is_end, EndOnlyLast, end_only_last, ends, last_number, pending, ends-append, Mark}
use Rattle.scoop_calm.proofs.Names.{is_open as is_mark_open, block_of, All-mark_of, Unlocking, has, is_open_in, ReservationState, WindowState, logged}
use Rattle.scoop_calm.proofs.Names.{first_entries, window_of, ClientState, due, due_in_block, due_after, due_window, is_batch, World, Site, Party, number_of}
use Rattle.scoop_calm.proofs.Names.{id_of, is_site, is_party, party_of, has_block, log_of, greatest_count, IsReached, by_test, HasBatch, all_found, WindowFits}
use Rattle.scoop_calm.proofs.Names.{window_handler, first_of_all, StageOpened, MarkTold, SiteTaped, filter, slice_get, Option, option_map, eqb-true, eq-eqb}
use Rattle.scoop_calm.proofs.Names.{Block, Query, ObjectAnswer, is_query, same_block, QueueState, PrivateQueue, Ran, kept_answer, HasRun, numbered, SiteFits}
use Rattle.scoop_calm.proofs.Names.{SiteAnswers, KeepsRan, AreApart, slot_queue, blocks_of, left_apart, slot_parts, SlotWhole, Member, nat_le, Logged, Answer}
use Rattle.scoop_calm.proofs.Names.{same_handler, handler_decides, is_queue_of, queue_of, block-found, IsCore, mark_of, set_mark, with_received, HandlerState}
use Rattle.scoop_calm.proofs.Names.{with_entries, Notice, heard, up_to, site_of, heard_site, heard_party, own_site, client_work, mark_room, site_room, total}
use Rattle.scoop_reserve.specs.Due as owed
use Rattle.scoop_reserve.specs.Hearing.{is_open}
use Rattle.scoop_calm.proofs.Marks.{MarkFits, last_answer, SiteMarked}
use Rattle.scoop_calm.proofs.Sending.{IsDue, LogReply, taken, counted_before, answered_before, log_reply, less_room, own_answers, LastRan, last_ran, query_last}
use Rattle.scoop_calm.proofs.Sending.{IsAnsweredRan, all_answered, all_filtered, get_behind, ran_logged, counted, answered}
use Rattle.scoop_calm.proofs.Talk.{own_windows, block_fits, welcome, Replies, asks_useful}
use Rattle.scoop_calm.proofs.Opening.{OwnMark, beside, client_is, is_open_there, SlotOf, slot_of, queue_member}
use Rattle.scoop_calm.proofs.Everything.{AllFacts}
use Rattle.scoop_calm.proofs.Lists.{none_long, all_member, found_in, member_last}
use Rattle.scoop_calm.specs.declared.next.Next.TheVariants as next
use Rattle.scoop_calm.proofs.Moves.{for_room, parties_total, sites_total, Helps, ask_useful}

-- ---- entries

-- an End stands only last
end_only : (xs ys : List Entry) → EndOnlyLast (xs ++ ys) → ends xs ≡ true → ys ≡ []
end_only [] ys only e = absurd (true≢false (sym e))
end_only (x ∷ []) [] only e = refl
end_only (x ∷ []) (y ∷ ys) only e =
    by_test (λ t. (not t && end_only_last (y ∷ ys)) ≡ true → y ∷ ys ≡ []) (is_end x)
    (λ is f. absurd (true≢false (sym f)))
    (λ is f. absurd (true≢false (sym e ∙ is))) only
end_only (x ∷ z ∷ zs) ys only e = end_only (z ∷ zs) ys (and_parts (not (is_end x)) _ only).1 e

-- ---- what the client owes

none_owed : (q : ReservationState) (h : HandlerId) → q.stage ≡ Unlocking → has q.left h ≡ false → owed.due q h ≡ None
none_owed q h stage free = ap (owed.due_in q h) stage ∙ ap (λ t. if t then Some (Unlock h q.block) else None) free

pub log_due : (c : ClientState) (q : ReservationState) (h : HandlerId) (l : WindowState) → has c.unwelcomed h ≡ false → c.reservation ≡ Some q
    → q.stage ≡ Unlocking → has q.left h ≡ false → window_of h c.windows ≡ Some l → (length l.unacked == 0) ≡ false
    → due c h ≡ Some (Log h q.block (l.acked + 1) (first_entries c.batch l.unacked))
log_due c q h l greeted held stage free window some =
    ap (λ t. if t then Some (Hello h c.id c.inc) else due_in_block c h c.reservation) greeted
    ∙ ap (due_in_block c h) held
    ∙ ap (due_after c h q) (none_owed q h stage free)
    ∙ (λ i. if owed_open i then due_window c.batch q.block (window i) else None)
    ∙ ap (λ t. if t then None else Some (Log l.handler q.block (l.acked + 1) (first_entries c.batch l.unacked))) some
    ∙ ap (λ j. Some (Log j q.block (l.acked + 1) (first_entries c.batch l.unacked))) (window_handler h c.windows l window)
  where
    owed_open : is_open q ≡ true
    owed_open = ap is_open_in stage

-- ---- what is pending

-- nothing of the block is pending
abbrev pub IsIdleIn : List PrivateQueue → Block → Type 0
IsIdleIn qs b = (x : PrivateQueue) → Member x qs → x.block ≡ b → x.entries ≡ []

pub none_pending : (b : Block) (qs : List PrivateQueue) → IsIdleIn qs b → pending b qs ≡ 0
none_pending b qs idle = at (queue_of b qs) refl
  where
    at : (o : Option PrivateQueue) → queue_of b qs ≡ o → option_map_or (λ q. length q.entries) o 0 ≡ 0
    at None e = refl
    at (Some x) e = ap length (idle x (found_in (is_queue_of b) qs x e) (block-found b x qs e))

-- ---- both

module _ (w : World) (r : IsReached w) (e : AllFacts w r) (p : Party) (at : party_of (id_of p) w ≡ Some p)
    (q : ReservationState) (held : p.client.reservation ≡ Some q) (stage : q.stage ≡ Unlocking) (h : HandlerId) (named : has q.handlers h ≡ true)
    (free : has q.left h ≡ false) (l : WindowState) (window : window_of h p.client.windows ≡ Some l) (some : 0 < length l.unacked) where
  abbrev c : ClientState
  c = p.client

  abbrev own : OwnMark w r e p at q held h
  own = beside w r e p at q held h named

  abbrev s : Site
  s = own.mark.site

  abbrev k : Mark
  k = own.mark.mark

  abbrev es : List Entry
  es = first_entries c.batch l.unacked

  abbrev log : List Entry
  log = log_of q.block h w

  pub fits : WindowFits log l
  fits = (own_windows w r e p at q held).windows h l window

  pub opened : has_block s.opened q.block ≡ true
  opened =
      let there = (subst (StageOpened w q) stage (e.background.openings.parties (id_of p) p at q held).stage) h named in
      ap (λ o. has_block (option_map_or (λ (x : Site). x.opened) o []) q.block) (sym own.mark.found) ∙ there

  pub there_open : (k.num ≡ q.block.num) × (is_mark_open k.stage ≡ true)
  there_open = is_open_there w r e p at q held h own opened

  pub own_block : block_of k ≡ q.block
  own_block =
      let client = own.mark.client ∙ sym (client_is w r e p at q held) in λ i. record { client = client i; inc = own.inc i; num = there_open.0 i }

  pub received : greatest_count h q.block w.sent ≡ k.received
  received =
      let tape = all_found (SiteTaped w) (is_site h) w.sites s e.background.taped own.mark.found in
      (λ i. greatest_count (sym own.mark.number i) (sym own_block i) w.sent)
      ∙ (All-mark_of (MarkTold w.sent (number_of s)) q.block.client s.core.state.marks k tape.told.each own.found).received

  pub acked_le : l.acked ≤ k.received
  acked_le = subst (λ (n : ℕ). l.acked ≤ n) received ((e.attending.parties (id_of p) p at q held).counts h l window)

  pub log_long : length log ≡ logged l
  log_long = omega (arith, fits.count, ap length fits.all, length-append fits.acknowledged l.unacked)

  pub mark_fits : MarkFits w (number_of s) s.ran k
  mark_fits = All-mark_of (MarkFits w (number_of s) s.ran) q.block.client s.core.state.marks k
      (all_found (SiteMarked w) (is_site h) w.sites s e.background.marked.sites own.mark.found) own.found

  taken_all : mark_fits.taken.taken ++ mark_fits.taken.behind ≡ log
  taken_all = mark_fits.taken.all ∙ (λ i. log_of (own_block i) (own.mark.number i) w)

  pub received_le : k.received ≤ logged l
  received_le = omega (arith, mark_fits.taken.count, ap length taken_all, length-append mark_fits.taken.taken mark_fits.taken.behind, log_long)

  -- once the handler has the End, it has all
  ended_all : k.ended ≡ true → k.received ≡ logged l
  ended_all on =
      let t = mark_fits.taken in
      let only : EndOnlyLast (t.taken ++ t.behind) = subst EndOnlyLast (sym taken_all) (e.background.logging.logs q.block h) in
      let none = end_only t.taken t.behind only (t.ended ∙ on) in
      let all : t.taken ≡ log = sym (append-nil t.taken) ∙ ap (λ xs. t.taken ++ xs) (sym none) ∙ taken_all in
      omega (arith, ap length all, t.count, log_long)

  pub last_le : last_number (l.acked + 1) es ≤ logged l
  last_le =
      let batch = all_found (λ (x : Party). HasBatch x.client) (is_party (id_of p)) w.parties p e.background.sound.parties at in
      let one = (is_batch c.batch l.unacked batch.some some).all in
      omega (arith, one)

  pub last_more : l.acked < last_number (l.acked + 1) es
  last_more =
      let batch = all_found (λ (x : Party). HasBatch x.client) (is_party (id_of p)) w.parties p e.background.sound.parties at in
      let one = (is_batch c.batch l.unacked batch.some some).some in
      omega (arith, one)

  ends_last : ends es ≡ false → last_number (l.acked + 1) es < 2 ^ 32 - 1
  ends_last not_end = by_ended l.ended refl
    where
      unacked_ends : ends l.unacked ≡ ends log
      unacked_ends = sym (ends-append fits.acknowledged l.unacked some) ∙ ap ends fits.all

      by_ended : (t : Bool) → l.ended ≡ t → last_number (l.acked + 1) es < 2 ^ 32 - 1
      by_ended false is = let n = fits.numbers.end is in let le = last_le in omega (arith, n, le)
      by_ended true is =
          by_test (λ _. last_number (l.acked + 1) es < 2 ^ 32 - 1)
          (nat_lt (last_number (l.acked + 1) es) (logged l))
          (λ lt. let less : last_number (l.acked + 1) es < logged l = grind (arith, nat_tests) in omega (arith, fits.numbers.last, less))
          (λ ge.
          let least : logged l ≤ last_number (l.acked + 1) es = grind (arith, nat_tests) in
          let parts = first_of_all c.batch l.unacked in
          let none : parts.0 ≡ [] = none_long parts.0 (omega (arith, ap length parts.1, length-append es parts.0, least, last_le, last_more)) in
          let same : es ≡ l.unacked = sym (append-nil es) ∙ ap (λ xs. es ++ xs) (sym none) ∙ parts.1 in
          absurd (true≢false (sym is ∙ fits.ended ∙ sym unacked_ends ∙ ap ends (sym same) ∙ not_end)))

  pub is_due : pending q.block s.core.state.queues ≡ 0 → IsDue s.core.state q.block k (l.acked + 1) es
  is_due idle =
      let batch = all_found (λ (x : Party). HasBatch x.client) (is_party (id_of p)) w.parties p e.background.sound.parties at in
      let one = is_batch c.batch l.unacked batch.some some in
      let all = last_le in
      record {
        found = own.found;
        inc = own.inc;
        num = there_open.0;
        open_here = there_open.1;
        next = omega (arith, acked_le);
        goes_on = λ more. let whole = ended_all in grind (arith, more, whole, all);
        low = omega (arith, all, fits.numbers.last);
        end = ends_last;
        few = omega (arith, one.limit, batch.limit);
        idle = idle;
      }

  -- A query that waits and has run has its answer at the handler, and an answer there is that of the query that waits.

  tape : SiteTaped w s
  tape = all_found (SiteTaped w) (is_site h) w.sites s e.background.taped own.mark.found

  slot : SlotOf tape.slots q.block
  slot = slot_of tape.slots q.block (ap (λ bs. has_block bs q.block) (sym tape.tape.opened) ∙ opened)

  whole : SlotWhole w.sent (number_of s) s.core.state.marks slot.slot
  whole = all_member (SlotWhole w.sent (number_of s) s.core.state.marks) tape.slots slot.slot tape.whole slot.in_list

  -- nothing is left to run of the block
  no_rest : IsIdleIn s.core.state.queues q.block → (t : Option QueueState) → slot.slot.state ≡ t → slot.slot.rest ≡ []
  no_rest idle (Some t) is = idle (slot_queue slot.slot t) (subst (Member (slot_queue slot.slot t)) (sym tape.tape.queues)
      (queue_member tape.slots slot.slot t slot.in_list is)) slot.block
  no_rest idle None is = (whole.gone is).rest

  ran_all : IsIdleIn s.core.state.queues q.block → own.mark.mark.received ≡ logged l → slot.slot.ran ≡ log
  ran_all idle all =
      let t = slot.slot in
      let rest = no_rest idle t.state refl in
      let same : greatest_count h q.block w.sent ≡ greatest_count (number_of s) t.block w.sent =
      (λ i. greatest_count (sym own.mark.number i) (sym slot.block i) w.sent) in
      let begun = all_member _ tape.slots t tape.tape.begun slot.in_list in
      let here : (t.ran ++ t.rest) ++ begun.behind ≡ log = begun.all ∙ (λ i. log_of (slot.block i) (own.mark.number i) w) in
      let parts = length-append (t.ran ++ t.rest) begun.behind in
      let inner = length-append t.ran t.rest in
      let none_behind = none_long begun.behind (omega (arith, ap length rest, whole.received, same, received, log_long, ap length here, parts, inner, all)) in
      sym (append-nil t.ran) ∙ ap (λ xs. t.ran ++ xs) (sym rest) ∙ sym (append-nil (t.ran ++ t.rest)) ∙ ap (λ xs. (t.ran ++ t.rest) ++ xs) (sym none_behind)
      ∙ here

  -- a query that waits and has run isn't without its answer
  pub has_answer : IsIdleIn s.core.state.queues q.block → p.client.waits ≡ Some (h, logged l) → own.mark.mark.received ≡ logged l
      → kept_answer (logged l) own.mark.mark.kept ≡ None → ⊥
  has_answer idle waits all none =
      let t = slot.slot in
      let g = (own_windows w r e p at q held).waits h (logged l) waits in
      let before = g.query.before in
      let entry : Entry = Query g.query.request in
      let ran : t.ran ≡ before ++ entry ∷ [] = ran_all idle all ∙ sym g.query.last in
      let fit = all_found (SiteFits w.joint) (is_site h) w.sites s e.background.ordered.sites own.mark.found in
      let apart : AreApart (blocks_of tape.slots) = subst AreApart tape.tape.opened (left_apart fit.left e.apart) in
      let part = all_member _ tape.slots t (slot_parts s.ran tape.slots tape.tape.ran apart) slot.in_list in
      let rs : List Ran = filter (λ x. same_block x.block t.block) s.ran in
      let last : LastRan rs t.block (1 + length before) entry = last_ran rs t.block 1 before entry (part ∙ ap (numbered t.block 1) ran) in
      let answers = all_found SiteAnswers (is_site h) w.sites s e.background.answering.sites own.mark.found in
      let answered = all_filtered IsAnsweredRan (λ x. same_block x.block t.block) s.ran (all_answered s.core.class s.placed s.ran answers.answers) in
      let mine : IsAnsweredRan last.ran = all_member IsAnsweredRan rs last.ran answered (subst (Member last.ran) last.all (member_last last.ran last.before)) in
      let a = mine.answered (ap is_query last.entry) in
      let kept : own.mark.mark.kept ≡ Some (1 + length before, a.0) =
      (mark_fits).kept
      ∙ ap (λ y. last_answer y s.ran None) (own_block ∙ sym slot.block)
      ∙ own_answers t.block s.ran None ∙ query_last rs t.block (1 + length before) entry last refl None ∙ ap (option_map (λ x. (1 + length before, x))) a.1 in
      let number : 1 + length before ≡ logged l = omega (arith, ap length g.query.last, length-append before (entry ∷ []), log_long) in
      let same : (1 + length before == logged l) ≡ true = eq-eqb (1 + length before) (logged l) number in
      let found : kept_answer (logged l) own.mark.mark.kept ≡ Some a.0 = ap (kept_answer (logged l)) kept ∙ ap (λ t. if t then Some a.0 else None) same in
      let both : None ≡ Some a.0 = sym none ∙ found in
      cc

  -- an answer that is kept for an entry that isn't acknowledged is that of the query that waits
  pub answer_waits : (n : ℕ) (a : ObjectAnswer) → l.acked < n → kept_answer n own.mark.mark.kept ≡ Some a → p.client.waits ≡ Some (h, n)
  answer_waits n a more is = by_kept own.mark.mark.kept refl is
    where
      ran_at : (m : ℕ) (x : ObjectAnswer) → own.mark.mark.kept ≡ Some (m, x) → l.acked < m → p.client.waits ≡ Some (h, m)
      ran_at m x kept more =
          let answers = all_found SiteAnswers (is_site h) w.sites s e.background.answering.sites own.mark.found in
          let keeps = All-mark_of (KeepsRan s.ran) q.block.client s.core.state.marks own.mark.mark answers.kept own.found in
          let has_run : HasRun s.ran (block_of own.mark.mark) m x = keeps.has m x kept in
          let x_ran = has_run.ran in
          let there = ran_logged (λ y. log_of y (number_of s) w) s.ran tape.slots tape.tape.ran tape.tape.begun x_ran has_run.at in
          let mine = own_block in
          let in_log : slice_get log (m - 1) ≡ Some x_ran.entry =
          (λ i. slice_get (log_of ((sym mine ∙ sym has_run.block) i) (sym own.mark.number i) w) (sym has_run.number i - 1)) ∙ there in
          let f = fits in
          let place : m - 1 ≡ length f.acknowledged + (m - 1 - l.acked) = omega (arith, f.count, more) in
          let in_window : slice_get l.unacked (m - 1 - l.acked) ≡ Some x_ran.entry =
          sym (get_behind f.acknowledged l.unacked (m - 1 - l.acked)) ∙ (λ i. slice_get (f.all i) (sym place i)) ∙ in_log in
          let waits = (block_fits w r e p at q held).windows.awaited h l window (m - 1 - l.acked) x_ran.entry in_window has_run.query in
          let number : l.acked + (m - 1 - l.acked) + 1 ≡ m = omega (arith, more) in
          waits ∙ ap (λ (k : ℕ). Some (h, k)) number

      by_kept : (k : Option (ℕ × ObjectAnswer)) → own.mark.mark.kept ≡ k → kept_answer n k ≡ Some a → p.client.waits ≡ Some (h, n)
      by_kept None kept is = absurd (cc)
      by_kept (Some x) kept is =
          by_test (λ t. (if t then Some x.1 else None) ≡ Some a → p.client.waits ≡ Some (h, n)) (x.0 == n)
          (λ same _.
          let one : x.0 ≡ n = eqb-true x.0 n same in
          subst (λ (m : ℕ). p.client.waits ≡ Some (h, m)) one (ran_at x.0 x.1 kept (subst (λ (m : ℕ). l.acked < m) (sym one) more)))
          (λ other f. absurd (cc)) is

  -- A client with an opened block sends its entries to a handler where nothing of the block is pending, and gets on.

  abbrev last : ℕ
  last = last_number (l.acked + 1) es

  is_opened : is_open q ≡ true
  is_opened = ap is_open_in stage

  here : site_of (number_of s) w ≡ Some s
  here = own_site w h s own.mark.found

  owes : due c (number_of s) ≡ Some (Log (number_of s) q.block (l.acked + 1) es)
  owes =
      subst (λ j. due c j ≡ Some (Log j q.block (l.acked + 1) es)) (sym own.mark.number)
      (log_due c q h l (welcome w r e p at q held h) held stage free window (let none : (length l.unacked == 0) ≡ false = grind (arith, nat_tests) in none))

  own_client : q.block.client ≡ id_of p
  own_client = client_is w r e p at q held

  -- ---- the entries are taken

  takes : IsDue s.core.state q.block k (l.acked + 1) es → k.received < last
      → (rep : Replies s.core.state (Log (number_of s) q.block (l.acked + 1) es) (Logged (number_of s) q.block last))
      → rep.state ≡ with_entries s.core.state q.block (l.acked + 1) es k → Helps w (next.Ask (id_of p) (number_of s))
  takes d more rep is =
      let counts = counted c q held is_opened h l window last last_le in
      let n : Notice = counts.notice in
      let hears : heard c (Logged (number_of s) q.block last) ≡ n = ap (λ j. heard c (Logged j q.block last)) own.mark.number ∙ counts.is in
      let f : Party → ℕ = λ x. client_work x.client in
      let new : Site = heard_site s (rep.state, record { reply = Some (Logged (number_of s) q.block last); note = rep.told }) in
      let there : site_of (number_of new) w ≡ Some s = ap (λ (y : HandlerState). site_of y.number w) is ∙ here in
      let core = all_found (λ (x : Site). IsCore x.core) (is_site h) w.sites s e.background.sound.sites own.mark.found in
      let found : mark_of k.client s.core.state.marks ≡ Some k = ap (λ x. mark_of x s.core.state.marks) (own.mark.client ∙ sym own_client) ∙ own.found in
      let room : total mark_room (set_mark (with_received last (ends es) k) s.core.state.marks) < total mark_room s.core.state.marks =
      less_room (with_received last (ends es) k) k s.core.state.marks core.state.ascending found more (omega (arith, d.low)) in
      let same : site_room new ≡ total mark_room (set_mark (with_received last (ends es) k) s.core.state.marks) =
      ap (λ (y : HandlerState). total mark_room y.marks) is in
      ask_useful w r p s (Log (number_of s) q.block (l.acked + 1) es)
      (Logged (number_of s) q.block last) rep.state rep.told n at here owes refl refl rep.is refl
      (eq-eqb (pending q.block s.core.state.queues) 0 d.idle) own_client hears
      (for_room (omega (arith, parties_total w r f (heard_party p n) p (ap (λ x. party_of x w) counts.id ∙ at), counts.no_more))
      (omega (arith, sites_total w r site_room new s there, room, same)))

  -- ---- they were taken before

  -- a count that acknowledges nothing is kept back by a query that waits, and that was received with all before it
  only_query : (waits : Option (HandlerId × ℕ)) → c.waits ≡ waits → last ≤ k.received → (l.acked < up_to h k.received waits → ⊥)
      → (c.waits ≡ Some (h, logged l)) × (k.received ≡ logged l) × (last ≡ logged l)
  only_query None is before off = absurd (let more = last_more in off (omega (arith, more, before)))
  only_query (Some y) is before off =
      by_test (λ t. (l.acked < (if t then y.1 - 1 else k.received) → ⊥) → (c.waits ≡ Some (h, logged l))
      × (k.received ≡ logged l) × (last ≡ logged l))
      (same_handler y.0 h && nat_le y.1 k.received)
      (λ test down.
      let tests = and_parts (same_handler y.0 h) (nat_le y.1 k.received) test in
      let there : c.waits ≡ Some (h, y.1) = is ∙ (λ i. Some ((handler_decides y.0 h).0 tests.0 i, y.1)) in
      let g = (own_windows w r e p at q held).waits h y.1 there in
      let same : Some g.window ≡ Some l = sym g.found ∙ window in
      let one : g.window ≡ l = cc in
      let number : y.1 ≡ logged l = g.query.number ∙ ap logged one in
      let waiting : l.acked < y.1 = subst (λ (x : WindowState). x.acked < y.1) one g.query.waiting in
      let more = last_more in
      let not_below : y.1 - 1 ≤ l.acked = not_less l.acked (y.1 - 1) down in (
        there ∙ ap (λ (n : ℕ). Some (h, n)) number,
        omega (arith, below tests.1, number, received_le),
        omega (arith, number, waiting, not_below, last_le, more),
      ))
      (λ test down. absurd (let more = last_more in down (omega (arith, more, before)))) off
    where
      below : nat_le y.1 k.received ≡ true → y.1 ≤ k.received
      below f = grind (arith, nat_tests)

      not_less : (m n : ℕ) → (m < n → ⊥) → n ≤ m
      not_less m n f = grind (arith, nat_tests, f)

  recounts : IsIdleIn s.core.state.queues q.block → last ≤ k.received → kept_answer last k.kept ≡ None
      → Replies s.core.state (Log (number_of s) q.block (l.acked + 1) es) (Logged (number_of s) q.block k.received) → Helps w (next.Ask (id_of p) (number_of s))
  recounts idle before none rep =
      let counts = counted c q held is_opened h l window k.received received_le in
      let n : Notice = counts.notice in
      let hears : heard c (Logged (number_of s) q.block k.received) ≡ n = ap (λ j. heard c (Logged j q.block k.received)) own.mark.number ∙ counts.is in
      by_test (λ _. Helps w (next.Ask (id_of p) (number_of s))) (nat_lt l.acked (up_to h k.received c.waits))
      (λ lt.
      let less : l.acked < up_to h k.received c.waits = grind (arith, nat_tests) in
      asks_useful w r p s (Log (number_of s) q.block (l.acked + 1) es) (Logged (number_of s) q.block k.received) at here owes refl refl rep
      (eq-eqb (pending q.block s.core.state.queues) 0 (none_pending q.block s.core.state.queues idle)) refl own_client n hears counts.id (counts.less less))
      (λ ge.
      let only = only_query c.waits refl before (λ lt. true≢false
      (sym (let is : nat_lt l.acked (up_to h k.received c.waits) ≡ true = grind (arith, nat_tests) in is) ∙ ge)) in
      absurd (has_answer idle only.0 only.1 (ap (λ (m : ℕ). kept_answer m k.kept) (sym only.2) ∙ none)))

  pub log_useful : IsIdleIn s.core.state.queues q.block → Helps w (next.Ask (id_of p) h)
  log_useful idle =
      let d = is_due (none_pending q.block s.core.state.queues idle) in
      subst (λ n. Helps w (next.Ask (id_of p) n)) own.mark.number (by_reply d (log_reply s.core.state q.block k (l.acked + 1) es d))
    where
      by_reply : IsDue s.core.state q.block k (l.acked + 1) es → LogReply s.core.state q.block k (l.acked + 1) es → Helps w (next.Ask (id_of p) (number_of s))
      by_reply d (taken more rep is) = takes d more rep is
      by_reply d (counted_before before none rep) = recounts idle before none rep
      by_reply d (answered_before a is rep) =
          let x = answered c q held is_opened h l window last a (answer_waits last a last_more is) in
          asks_useful w r p s (Log (number_of s) q.block (l.acked + 1) es) (Answer (number_of s) q.block last a) at here owes refl refl rep
          (eq-eqb (pending q.block s.core.state.queues) 0 d.idle) refl own_client x.0
          (ap (λ j. heard c (Answer j q.block last a)) own.mark.number ∙ x.1) x.2 x.3
