-- Facts about each mark that a handler keeps, which every event keeps. Its block was reserved, and asked for its lock if
-- it got it. The received entries are a beginning of its log. The kept answer is that of its last query that has run.
-- A handler that has the lock of a block back stays done with it.
use Rattle.scoop_calm.proofs.Names.{◌≡◌, ◌⊎◌, inl, inr, ℕ, ◌+◌, ◌<◌, ◌≤◌, ◌&&◌, List, [], ◌∷◌, ◌++◌, length, map, Option, Some, None, refl, sym, ap, ◌∙◌, subst}
use Rattle.scoop_calm.proofs.Names.{⊎_elim, arith, length-append, append_assoc, if◌then◌else◌, AllByRecursion, option_map, and-false, Block, ClientId}
use Rattle.scoop_calm.proofs.Names.{HandlerId, Entry, ObjectAnswer, Message, Hello, Lock, Unlock, Log, is_query, ends, last_number, same_block, ends-append}
use Rattle.scoop_calm.proofs.Names.{Mark, AtHeld, AtOpen, AtShut, Ran, is_held, block_of, fresh_mark, opened_mark, with_received, without_hold, mark_of}
use Rattle.scoop_calm.proofs.Names.{set_mark, HandlerState, Hearing, IsHeardAt, greeting_mark, mark_after, Row, first_greeting, newer_greeting, lock_granted}
use Rattle.scoop_calm.proofs.Names.{is_opened, unlock_of_a_block_never_held, is_freed, is_taken, mark_of-client, All-mark_of, All-set_mark, All-add_mark}
use Rattle.scoop_calm.proofs.Names.{block_of-same, World, log_of, handlers_of, numbered, untold, by_test, Stands, same_block_is, IsReachedIn, IsNamed, Grown}
use Rattle.scoop_calm.proofs.Names.{Slot, ran_in, all_append, newer_inc, newer_num, none_reached, not_reached, Member, MarkStage as Stage, ◌==◌, false}
use Rattle.scoop_calm.proofs.Names.{true≢false, IsFalse, append-nil, option_to_list, handler_of, client_of, is_for_handler, core_of, hear, ran_of, HasEntries}
use Rattle.scoop_calm.proofs.Names.{row, number-row, replies-row, ClientState, due, heard, logs, heard_row, Site, Party, number_of, is_site, is_party, site_of}
use Rattle.scoop_calm.proofs.Names.{set_site, set_party, sent_at, Placement, Newcomer, new_site, new_party, opening, newest_block, commanded_world, with_sent}
use Rattle.scoop_calm.proofs.Names.{heard_site, heard_world, heard_party, with_site, with_party, begun_site, finished_site, restarted_party, reopened}
use Rattle.scoop_calm.proofs.Names.{reopened_world, Changes, Sound, sent_all, handlers_after, Tells, SiteFits, PartyFits, Ordered, all_more_of, all_found}
use Rattle.scoop_calm.proofs.Names.{all_set_site, all_set_party, sent_tells, keeps_row, went_on as goes_on, Carries, Logging, grown_same, commanded_grown}
use Rattle.scoop_calm.proofs.Names.{Shows, Openings, SlotWhole, SiteTaped, Taped, ◌||◌, not, Bool, true, same_Some, or_parts, same_client, client_decides}
use Rattle.scoop_calm.proofs.Names.{is_open, IsState, is_holder, is_unfinished, holder_without, Task, after, MarksGrow, mark_of-set_mark_own}
use Rattle.scoop_calm.proofs.Names.{mark_of-set_mark_other, mark_of-add_mark_other, client_from_same, mark_of-after, MarksGrow-after, apart_blocks, roomy}
use Rattle.scoop_calm.proofs.Names.{held_holds, grows-row, same_block_itself, Upto, own_place}
use Rattle.scoop_model.proofs.Tape.Slots.{ran_of as slots_ran}
use Rattle.scoop_calm.proofs.Lists.{member_more, member_pushed, sent_member}
use Rattle.scoop_model.proofs.Order.Holding.{reached_more}
use Rattle.std.proofs.lemmas.Bool.{false_from_ne_true}
use Rattle.scoop_model.proofs.Moves.{Sends, sends_hello, sends as owed}

-- -------- Facts about each mark that a handler keeps. Its block was reserved, and asked for its lock if it got it. The received
-- entries are a beginning of its log. The kept answer is that of its last query that has run.

-- ---- one mark

-- the received entries are a beginning of the block's log, and end with an End exactly if the mark has ended
pub record TakenAs (log : List Entry) (n : ℕ) (at_end : Bool) : Type 0 where
  pub taken : List Entry
  pub behind : List Entry
  pub all : taken ++ behind ≡ log
  pub count : length taken ≡ n
  pub ended : ends taken ≡ at_end

-- the answer of the last query of the block that has run, with its number
abbrev pub next_answer : Block → Ran → Option (ℕ × ObjectAnswer) → Option (ℕ × ObjectAnswer)
next_answer b r kept = if is_query r.entry && same_block b r.block then option_map (λ a. (r.number, a)) r.answer else kept

abbrev pub last_answer : Block → List Ran → Option (ℕ × ObjectAnswer) → Option (ℕ × ObjectAnswer)
last_answer b [] kept = kept
last_answer b (r ∷ rs) kept = last_answer b rs (next_answer b r kept)

pub record MarkFits (w : World) (h : HandlerId) (ran : List Ran) (k : Mark) : Type 0 where
  pub inc : 1 ≤ k.inc
  pub named : (k.num ≡ 0) ⊎ IsNamed w h (block_of k)
  pub locked : (k.stage ≡ AtShut) ⊎ Member (Lock h (block_of k)) w.sent
  pub unlocked : k.stage ≡ AtShut → (k.num ≡ 0) ⊎ Member (Unlock h (block_of k)) w.sent
  pub taken : TakenAs (log_of (block_of k) h w) k.received k.ended
  pub kept : k.kept ≡ last_answer (block_of k) ran None

abbrev pub MarksFit : World → HandlerId → List Ran → List Mark → Type 0
MarksFit w h ran marks = AllByRecursion (MarkFits w h ran) marks

-- ---- what goes on

-- messages are sent, blocks reserved and entries logged
pub record Further (v w : World) : Type 0 where
  pub sets : (b : Block) (hs : List HandlerId) → handlers_of b v ≡ Some hs → handlers_of b w ≡ Some hs
  pub sent : (m : Message) → Member m v.sent → Member m w.sent
  pub logs : Grown v w

module _ (v w : World) (x : Further v w) where
  pub mark_more : (h : HandlerId) (ran : List Ran) (k : Mark) → MarkFits v h ran k → MarkFits w h ran k
  mark_more h ran k f =
      let g = x.logs (block_of k) h in
      record {
        inc = f.inc;
        named = ⊎_elim (λ (e : k.num ≡ 0). inl e) (λ (n : IsNamed v h (block_of k)). inr
            (record { handlers = n.handlers; set = x.sets (block_of k) n.handlers n.set; member = n.member })) f.named;
        locked = ⊎_elim (λ (e : k.stage ≡ AtShut). inl e) (λ (m : Member (Lock h (block_of k)) v.sent). inr (x.sent (Lock h (block_of k)) m)) f.locked;
        unlocked = λ at. ⊎_elim (λ (e : k.num ≡ 0). inl e) (λ (m : Member (Unlock h (block_of k)) v.sent). inr (x.sent (Unlock h (block_of k)) m))
            (f.unlocked at);
        taken = record {
          taken = f.taken.taken;
          behind = f.taken.behind ++ g.0;
          all = sym (append_assoc f.taken.taken f.taken.behind g.0) ∙ ap (λ es. es ++ g.0) f.taken.all ∙ g.1;
          count = f.taken.count;
          ended = f.taken.ended;
        };
        kept = f.kept;
      }

-- ---- a mark that is new

nothing_taken : (log : List Entry) → TakenAs log 0 false
nothing_taken log = record { taken = []; behind = log; all = refl; count = refl; ended = refl }

-- facts about a message that comes
pub record IsGiven (w : World) (m : Message) : Type 0 where
  pub hello : (h : HandlerId) (c : ClientId) (inc : ℕ) → m ≡ Hello h c inc → 1 ≤ inc
  pub lock : (h : HandlerId) (b : Block) → m ≡ Lock h b → IsNamed w h b × Member (Lock h b) w.sent
  pub unlock : (h : HandlerId) (b : Block) → m ≡ Unlock h b → IsNamed w h b × Member (Unlock h b) w.sent
  pub log : (h : HandlerId) (b : Block) (n : ℕ) (es : List Entry) → m ≡ Log h b n es → Stands (log_of b h w) n es × (0 < length es)

-- nothing has run of a block that the marks have not reached
abbrev pub RanReached : List Ran → List Mark → Type 0
RanReached ran marks = (b : Block) → (IsReachedIn marks b → ⊥) → last_answer b ran None ≡ None

held_not_shut : AtHeld ≡ AtShut → ⊥
held_not_shut e = cc

open_not_shut : AtOpen ≡ AtShut → ⊥
open_not_shut e = cc

module _ (w : World) (s : HandlerState) (ran : List Ran) (reached : RanReached ran s.marks) (all : MarksFit w s.number ran s.marks) where
  abbrev Fits : Mark → Type 0
  Fits k = MarkFits w s.number ran k

  found_fits : (c : ClientId) (k : Mark) → mark_of c s.marks ≡ Some k → Fits k
  found_fits c k found = All-mark_of Fits c s.marks k all found

  in_place : (k : Mark) → Fits k → MarksFit w s.number ran (set_mark k s.marks)
  in_place k own = All-set_mark Fits Fits k s.marks own (λ x apart f. f) all

  -- the mark has its lock
  has_lock : (k : Mark) → (k.stage ≡ AtShut → ⊥) → Fits k → Member (Lock s.number (block_of k)) w.sent
  has_lock k off f = ⊎_elim (λ (e : k.stage ≡ AtShut). absurd (off e)) (λ (m : Member (Lock s.number (block_of k)) w.sent). m) f.locked

  freed_locked : (k : Mark) → Fits k → ((without_hold k).stage ≡ AtShut) ⊎ Member (Lock s.number (block_of k)) w.sent
  freed_locked k f = ⊎_elim (λ (e : k.stage ≡ AtShut). inl (ap (λ (t : Stage). if is_held t then AtShut else t) e))
      (λ (m : Member (Lock s.number (block_of k)) w.sent). inr m) f.locked

  module _ (m : Message) (given : IsGiven w m) where
    greeted : (h : HandlerId) (c : ClientId) (inc : ℕ) → m ≡ Hello h c inc → (IsReachedIn s.marks (block_of (greeting_mark c inc)) → ⊥)
        → Fits (greeting_mark c inc)
    greeted h c inc is new = record {
      inc = given.hello h c inc is;
      named = inl refl;
      locked = inl refl;
      unlocked = λ at. inl refl;
      taken = nothing_taken _;
      kept = sym (reached (block_of (greeting_mark c inc)) new);
    }

    next_block : (b : Block) (k : Mark) (stage : Stage) → IsHeardAt s b k → k.num < b.num → IsNamed w s.number b → (stage ≡ AtShut)
        ⊎ Member (Lock s.number b) w.sent → (stage ≡ AtShut → Member (Unlock s.number b) w.sent) → Fits (fresh_mark b stage)
    next_block b k stage at newer named locked unlocked =
        let f = found_fits b.client k at.found in
        record {
          inc = omega (arith, f.inc, at.inc);
          named = inr named;
          locked = locked;
          unlocked = λ at. inr (unlocked at);
          taken = nothing_taken _;
          kept = sym (reached b (not_reached s.marks b k at.found (newer_num b k at.inc newer)));
        }

pub marked-row : (w : World) (s : HandlerState) (ran : List Ran) (m : Message) (h : Hearing) → Row s m h → RanReached ran s.marks → IsGiven w m
    → MarksFit w s.number ran s.marks → MarksFit w s.number ran h.0.marks
marked-row w s ran m h (first_greeting x c inc here none room) reached given all =
    All-add_mark (MarkFits w s.number ran) (MarkFits w s.number ran) (greeting_mark c inc) s.marks
    (greeted w s ran reached all (Hello x c inc) given x c inc refl (none_reached s.marks (block_of (greeting_mark c inc)) none)) (λ y f. f) all
marked-row w s ran m h (newer_greeting x c inc k here found newer) reached given all =
    in_place w s ran reached all (greeting_mark c inc)
    (greeted w s ran reached all (Hello x c inc) given x c inc refl
    (not_reached s.marks (block_of (greeting_mark c inc)) k found (newer_inc (block_of (greeting_mark c inc)) k newer)))
marked-row w s ran m h (lock_granted x b k here at new free clear) reached given all =
    let g = given.lock x b refl in
    in_place w s ran reached all (fresh_mark b AtHeld)
    (next_block w s ran reached all (Lock x b) given b k AtHeld at new (subst (λ j. IsNamed w j b) here g.0)
    (inr (subst (λ j. Member (Lock j b) w.sent) here g.1)) (λ shut. absurd (held_not_shut shut)))
marked-row w s ran m h (is_opened x b k here at same was room) reached given all =
    let f = found_fits w s ran reached all b.client k at.found in
    in_place w s ran reached all (opened_mark k)
    (record {
      inc = f.inc;
      named = f.named;
      locked = inr (has_lock w s ran reached all k (λ e. held_not_shut (sym was ∙ e)) f);
      unlocked = λ shut. absurd (open_not_shut shut);
      taken = f.taken;
      kept = f.kept;
    })
marked-row w s ran m h (unlock_of_a_block_never_held x b k here at new clear) reached given all =
    let g = given.unlock x b refl in
    in_place w s ran reached all (fresh_mark b AtShut) (next_block w s ran reached all (Unlock x b) given b k AtShut at new
    (subst (λ j. IsNamed w j b) here g.0) (inl refl) (λ _. subst (λ j. Member (Unlock j b) w.sent) here g.1))
marked-row w s ran m h (is_freed x b k here at same holds) reached given all =
    let f = found_fits w s ran reached all b.client k at.found in
    in_place w s ran reached all (without_hold k)
    (record {
      inc = f.inc;
      named = f.named;
      locked = freed_locked w s ran reached all k f;
      unlocked =
          λ _. inr (subst (λ y. Member (Unlock s.number y) w.sent) (sym (block_of-same s b k at same))
          (subst (λ j. Member (Unlock j b) w.sent) here (given.unlock x b refl).1));
      taken = f.taken;
      kept = f.kept;
    })
marked-row w s ran m h (is_taken x b n es k here at next goes_on room) reached given all =
    let f = found_fits w s ran reached all b.client k at.heard.found in
    let client = mark_of-client b.client s.marks k at.heard.found in
    let same : block_of k ≡ b = λ i. record { client = client i; inc = at.heard.inc i; num = at.num i } in
    let g = given.log x b n es refl in
    let st : Stands (log_of (block_of k) s.number w) n es = subst (λ y. Stands (log_of y s.number w) n es) (sym same)
    (subst (λ j. Stands (log_of b j w) n es) here g.0) in
    in_place w s ran reached all (with_received (last_number n es) (ends es) k)
    (record {
      inc = f.inc;
      named = f.named;
      locked = f.locked;
      unlocked = λ shut. absurd (open_not_shut (sym at.stage ∙ shut));
      taken = record {
        taken = st.before ++ es;
        behind = st.behind;
        all = st.all;
        count = omega (arith, length-append st.before es, st.number);
        ended = ends-append st.before es g.1;
      };
      kept = f.kept;
    })
marked-row w s ran m h r reached given all = all

-- ---- an entry runs

pub last_pushed : (b : Block) (rs : List Ran) (r : Ran) (kept : Option (ℕ × ObjectAnswer))
    → last_answer b (rs ++ r ∷ []) kept ≡ next_answer b r (last_answer b rs kept)
last_pushed b [] r kept = refl
last_pushed b (x ∷ xs) r kept = last_pushed b xs r (next_answer b x kept)

pub marked-after : (w : World) (h : HandlerId) (ran : List Ran) (r : Ran) (marks : List Mark) → MarksFit w h ran marks
    → MarksFit w h (ran ++ r ∷ []) (map (mark_after r) marks)
marked-after w h ran r [] all = tt
marked-after w h ran r (k ∷ ks) all =
    let f = all.0 in (
      record {
        inc = f.inc;
        named = f.named;
        locked = f.locked;
        unlocked = f.unlocked;
        taken = f.taken;
        kept = ap (next_answer (block_of k) r) f.kept ∙ sym (last_pushed (block_of k) ran r None);
      },
      marked-after w h ran r ks all.1,
    )

-- ---- what has run is of blocks that the marks have reached

all_numbered : (P : Block → Type 0) (b : Block) (n : ℕ) (es : List Entry) → P b → AllByRecursion (λ (u : Block × ℕ × Entry). P u.0) (numbered b n es)
all_numbered P b n [] p = tt
all_numbered P b n (e ∷ es) p = (p, all_numbered P b (n + 1) es p)

pub slots_all : (P : Block × ℕ × Entry → Type 0) (Q : Slot → Type 0) → ((t : Slot) → Q t → AllByRecursion P (ran_in t)) → (ss : List Slot)
    → AllByRecursion Q ss → AllByRecursion P (slots_ran ss)
slots_all P Q each [] all = tt
slots_all P Q each (t ∷ ts) all = all_append P (ran_in t) (slots_ran ts) (each t all.0) (slots_all P Q each ts all.1)

pub ran_all : (P : Block × ℕ × Entry → Type 0) (rs : List Ran) → AllByRecursion P (map untold rs) → AllByRecursion (λ (r : Ran). P (untold r)) rs
ran_all P [] all = tt
ran_all P (r ∷ rs) all = (all.0, ran_all P rs all.1)

pub none_answered : (P : Block → Type 0) (b : Block) (rs : List Ran) (kept : Option (ℕ × ObjectAnswer)) → (P b → ⊥) → AllByRecursion (λ (r : Ran). P r.block) rs
    → last_answer b rs kept ≡ kept
none_answered P b [] kept off all = refl
none_answered P b (r ∷ rs) kept off all =
    by_test (λ _. last_answer b rs (next_answer b r kept) ≡ kept) (same_block b r.block)
    (λ is. absurd (off (subst P (sym (same_block_is b r.block is)) all.0)))
    (λ is.
    ap (λ t. last_answer b rs (if is_query r.entry && t then option_map (λ a. (r.number, a)) r.answer else kept)) is
    ∙ ap (λ t. last_answer b rs (if t then option_map (λ a. (r.number, a)) r.answer else kept)) (and-false (is_query r.entry))
    ∙ none_answered P b rs kept off all.1)

pub ran_reached : (marks : List Mark) (ran : List Ran) (ss : List Slot) → map untold ran ≡ slots_ran ss
    → AllByRecursion (λ (t : Slot). IsReachedIn marks t.block) ss → RanReached ran marks
ran_reached marks ran ss told all b off =
    let P : Block × ℕ × Entry → Type 0 = λ u. IsReachedIn marks u.0 in
    none_answered (IsReachedIn marks) b ran None off
    (ran_all P ran (subst (AllByRecursion P) (sym told)
    (slots_all P (λ (t : Slot). IsReachedIn marks t.block) (λ t p. all_numbered (IsReachedIn marks) t.block 1 t.ran p) ss all)))

-- -------- Every event keeps the facts about marks. Reserved blocks, logs and sent messages only grow (`Further`), which keeps
-- each mark's facts. A mark that a handler makes of a message follows from that message's facts. Incarnations begin at
-- 1, and so do their greetings.

abbrev pub SiteMarked : World → Site → Type 0
SiteMarked w s = MarksFit w (number_of s) s.ran s.core.state.marks

-- incarnations begin at 1
pub record PartyBegun (p : Party) : Type 0 where
  pub inc : 1 ≤ p.client.inc

pub record Marked (w : World) : Type 0 where
  pub hellos : (h : HandlerId) (c : ClientId) (inc : ℕ) → Member (Hello h c inc) w.sent → 1 ≤ inc
  pub sites : AllByRecursion (SiteMarked w) w.sites
  pub parties : AllByRecursion PartyBegun w.parties

-- ---- messages

-- one message more may be sent, and no block is reserved and nothing logged
sends_further : (v w : World) (o : Option Message) → w.sent ≡ v.sent ++ option_to_list o → v.logs ≡ w.logs → Further v w
sends_further v w o sent same = record {
  sets = λ b hs e. subst (λ ls. handlers_of b (record v { logs = ls }) ≡ Some hs) same e;
  sent = λ m k. subst (λ ms. Member m ms) (sym sent) (member_more m v.sent (option_to_list o) k);
  logs = grown_same v w same;
}

silent_further : (v w : World) → w.sent ≡ v.sent → v.logs ≡ w.logs → Further v w
silent_further v w sent same = sends_further v w None (sent ∙ sym (append-nil v.sent)) same

hellos_more : (v w : World) (o : Option Message) → w.sent ≡ v.sent ++ option_to_list o → Marked v
    → ((h : HandlerId) (c : ClientId) (inc : ℕ) → o ≡ Some (Hello h c inc) → 1 ≤ inc)
    → (h : HandlerId) (c : ClientId) (inc : ℕ) → Member (Hello h c inc) w.sent → 1 ≤ inc
hellos_more v w o sent i new h c inc m =
    ⊎_elim (λ (k : Member (Hello h c inc) v.sent). i.hellos h c inc k) (λ (e : o ≡ Some (Hello h c inc)). new h c inc e)
    (member_pushed (Hello h c inc) v.sent o (subst (λ ms. Member (Hello h c inc) ms) sent m))

same_hello : (c d : ClientId) (g h : HandlerId) (i j : ℕ) → Hello g c i ≡ Hello h d j → i ≡ j
same_hello c d g h i j e = cc

due_hello : (c : ClientState) (k : HandlerId) (m : Message) → Sends c k m → 1 ≤ c.inc → (h : HandlerId) (d : ClientId) (inc : ℕ) → m ≡ Hello h d inc → 1 ≤ inc
due_hello c k m (sends_hello left) one h d inc e = omega (arith, one, same_hello c.id d k h c.inc inc e)
due_hello c k m s one h d inc e = absurd (cc)

-- ---- sites

sites_more : (v w : World) → Further v w → (ss : List Site) → AllByRecursion (SiteMarked v) ss → AllByRecursion (SiteMarked w) ss
sites_more v w x ss all =
    all_more_of (SiteMarked v) (SiteMarked w) (λ s f. all_more_of (MarkFits v (number_of s) s.ran) (MarkFits w (number_of s) s.ran)
    (mark_more v w x (number_of s) s.ran) s.core.state.marks f) ss all

marked_anew : (w v : World) (n : ℕ) (js : List Block) → Further w v → (ss : List Site) → AllByRecursion (SiteFits js) ss → AllByRecursion (SiteMarked w) ss
    → AllByRecursion (SiteMarked v) (map (reopened n) ss)
marked_anew w v n js x [] fits all = tt
marked_anew w v n js x (s ∷ ss) fits all = (
  by_test (λ t. SiteMarked v (if t then record s { core = core_of s.core.class s.stored false } else s)) (s.node == n)
      (λ here. subst (λ (y : HandlerState). MarksFit v y.number s.ran y.marks) (sym fits.0.stored) now)
      (λ there. now),
  marked_anew w v n js x ss fits.1 all.1,
)
  where
    now : SiteMarked v s
    now = all_more_of (MarkFits w (number_of s) s.ran) (MarkFits v (number_of s) s.ran) (mark_more w v x (number_of s) s.ran) s.core.state.marks all.0

given_message : (w : World) → Ordered w → Sound w → Logging w → Openings w → Marked w → (i : ℕ) (m : Message) → sent_at i w ≡ Some m → IsGiven w m
given_message w o sound l openings i k m was =
    let is = sent_member w k m was in
    record {
      hello = λ h c inc e. i.hellos h c inc (subst (λ n. Member n w.sent) e is);
      lock = λ h b e. (subst (Tells w) e (sent_tells w k m was o.messages), subst (λ n. Member n w.sent) e is);
      unlock = λ h b e. ((subst (Shows w) e (sent_all w k m was (Shows w) openings.messages)).0, subst (λ n. Member n w.sent) e is);
      log = λ h b n es e. (
        subst (Carries w) e (sent_all w k m was (Carries w) l.messages),
        (subst HasEntries e (sent_all w k m was HasEntries sound.messages)).0,
      );
    }

all_reached : (w : World) (s : Site) (t : SiteTaped w s) → AllByRecursion (λ (x : Slot). IsReachedIn s.core.state.marks x.block) t.slots
all_reached w s t = all_more_of (SlotWhole w.sent (number_of s) s.core.state.marks) (λ (x : Slot). IsReachedIn s.core.state.marks x.block)
    (λ x g. g.reached) t.slots t.whole

hears_marked : (w : World) → Ordered w → Sound w → Logging w → Openings w → Taped w → Marked w → (i : ℕ) (m : Message) (s : Site) → sent_at i w ≡ Some m
    → site_of (handler_of m) w ≡ Some s → Marked (heard_world w s (hear s.core.state m))
hears_marked w o sound l openings tape i k m s was here =
    let now : Hearing = hear s.core.state m in
    let by = row s.core.state m in
    let v : World = heard_world w s now in
    let t = all_found (SiteTaped w) (is_site (handler_of m)) w.sites s tape here in
    let own = marked-row w s.core.state s.ran m now by (ran_reached s.core.state.marks s.ran t.slots t.tape.ran (all_reached w s t))
    (given_message w o sound l openings i k m was)
    (all_found (SiteMarked w) (is_site (handler_of m)) w.sites s i.sites here) in
    let own_now : MarksFit w now.0.number s.ran now.0.marks = subst (λ j. MarksFit w j s.ran now.0.marks) (sym (number-row s.core.state m now by)) own in
    let replies = replies-row s.core.state m now by (sent_all w k m was HasEntries sound.messages) in
    record {
      hellos = hellos_more w v now.1.reply refl i (λ h c inc e. absurd
          (let back : IsFalse (is_for_handler (Hello h c inc)) = (replies (Hello h c inc) e).to_client in true≢false back));
      sites = sites_more w v (sends_further w v now.1.reply refl refl) (set_site (heard_site s now) w.sites)
          (all_set_site (SiteMarked w) (SiteMarked w) (heard_site s now) w.sites own_now (λ y f. f) i.sites);
      parties = i.parties;
    }

-- ---- every event keeps it

set_begun : (q : Party) (ps : List Party) → 1 ≤ q.client.inc → AllByRecursion PartyBegun ps → AllByRecursion PartyBegun (set_party q ps)
set_begun q ps one all = all_set_party PartyBegun PartyBegun q ps (record { inc = one }) (λ y other f. f) all

pub marked_kept : (w : World) → Ordered w → Sound w → Logging w → Openings w → Taped w → Marked w → Changes Marked w
marked_kept w o sound l openings tape i = record {
  commands = λ c p x d at is. (
      let v : World = commanded_world w p x d in
      let g = goes_on w p x d is (all_found (PartyFits w) (is_party c) w.parties p o.parties at) in
      let one = (all_found PartyBegun (is_party c) w.parties p i.parties at).inc in
      let further : Further w v = record { sets = λ b hs e. handlers_after x (newest_block d) b w.logs hs e; sent = λ m k. k; logs = commanded_grown w p x d }
      in
      record {
        hellos = i.hellos;
        sites = sites_more w v further w.sites i.sites;
        parties = set_begun (record p { client = d }) w.parties (omega (arith, one, g.inc)) i.parties;
      });
  sends = λ c p h s at here. (
      let v : World = with_sent w (due p.client h) in
      let one = (all_found PartyBegun (is_party c) w.parties p i.parties at).inc in
      record {
        hellos = hellos_more w v (due p.client h) refl i (λ j d inc e. due_hello p.client h (Hello j d inc) (owed p.client h (Hello j d inc) e) one j d inc refl);
        sites = sites_more w v (sends_further w v (due p.client h) refl refl) w.sites i.sites;
        parties = i.parties;
      });
  hears = λ k m s was goes here. hears_marked w o sound l openings tape i k m s was here;
  notices = λ k m p was goes at. (
      let v : World = with_party w (heard_party p (heard p.client m)) in
      let kept = keeps_row w p.client (all_found (PartyFits w) (is_party (client_of m)) w.parties p o.parties at).reservation m (heard p.client m).0
      (heard p.client m).1 (heard_row p.client m) (sent_tells w k m was o.messages) in
      let one = (all_found PartyBegun (is_party (client_of m)) w.parties p i.parties at).inc in
      record {
        hellos = i.hellos;
        sites = sites_more w v (silent_further w v refl refl) w.sites i.sites;
        parties = set_begun (heard_party p (heard p.client m)) w.parties (omega (arith, one, kept.inc)) i.parties;
      });
  begins = λ h s t here is. (
      let v : World = with_site w (begun_site s) in
      record {
        hellos = i.hellos;
        sites = sites_more w v (silent_further w v refl refl) (set_site (begun_site s) w.sites)
            (all_set_site (SiteMarked w) (SiteMarked w) (begun_site s) w.sites (all_found (SiteMarked w) (is_site h) w.sites s i.sites here)
            (λ y f. f) i.sites);
        parties = i.parties;
      });
  finishes = λ h s t here is. (
      let v : World = with_site w (finished_site s t) in
      record {
        hellos = i.hellos;
        sites = sites_more w v (silent_further w v refl refl) (set_site (finished_site s t) w.sites)
            (all_set_site (SiteMarked w) (SiteMarked w) (finished_site s t) w.sites
            (marked-after w (number_of s) s.ran (ran_of t) s.core.state.marks (all_found (SiteMarked w) (is_site h) w.sites s i.sites here))
            (λ y f. f) i.sites);
        parties = i.parties;
      });
  restarts = λ c p at room. (
      let v : World = with_party w (restarted_party p) in
      record {
        hellos = i.hellos;
        sites = sites_more w v (silent_further w v refl refl) w.sites i.sites;
        parties = set_begun (restarted_party p) w.parties (omega arith) i.parties;
      });
  reopens = λ n. (
      let v : World = reopened_world w n in
      record { hellos = i.hellos; sites = marked_anew w v n w.joint (silent_further w v refl refl) w.sites o.sites i.sites; parties = i.parties });
}

no_marks : (w : World) (ps : List Placement) → AllByRecursion (SiteMarked w) (map new_site ps)
no_marks w [] = tt
no_marks w (p ∷ ps) = (tt, no_marks w ps)

all_begun : (ns : List Newcomer) → AllByRecursion PartyBegun (map new_party ns)
all_begun [] = tt
all_begun (n ∷ ns) = (record { inc = omega arith }, all_begun ns)

pub opens_marked : (ps : List Placement) (ns : List Newcomer) → Marked (opening ps ns)
opens_marked ps ns = record {
  hellos = λ h c inc m. absurd m;
  sites = no_marks (opening ps ns) ps;
  parties = all_begun ns;
}

-- -------- Blocks that their client has left: the handler has the lock back, and nothing of the block is unfinished. Both facts
-- stay true after every event.

-- the block's lock is given back, or never will be got
pub record IsReleasedIn (s : HandlerState) (b : Block) : Type 0 where
  pub reached : IsReachedIn s.marks b
  pub free : s.holder ≡ Some b → ⊥

-- the client's mark is past the block, or the block is finished
pub record IsOverIn (s : HandlerState) (b : Block) : Type 0 where
  pub reached : IsReachedIn s.marks b
  pub finished : (k : Mark) → mark_of b.client s.marks ≡ Some k → block_of k ≡ b → is_unfinished s k ≡ false

-- ---- a mark beside a holder

abbrev unfinished : Option Block → Mark → Bool
unfinished o k = is_holder o (block_of k) || (is_open k.stage && not k.ended)

-- another holder
unless_holder : (o p : Option Block) (k : Mark) → (is_holder o (block_of k) ≡ false → is_holder p (block_of k) ≡ false) → unfinished o k ≡ false
    → unfinished p k ≡ false
unless_holder o p k less e = ap (λ t. t || (is_open k.stage && not k.ended)) (less (or_parts _ _ e).0) ∙ (or_parts (is_holder o (block_of k)) _ e).1

held_unfinished : (o : Option Block) (b : Block) (k : Mark) → o ≡ Some b → block_of k ≡ b → unfinished o k ≡ false → ⊥
held_unfinished o b k holds same e =
    let is : is_holder o (block_of k) ≡ true = ap (λ x. is_holder x (block_of k)) holds ∙ ap (same_block b) same ∙ same_block_itself b in
    true≢false (sym is ∙ (or_parts _ _ e).0)

open_unfinished : (o : Option Block) (k : Mark) → k.stage ≡ AtOpen → k.ended ≡ false → unfinished o k ≡ false → ⊥
open_unfinished o k at on e =
    let is : (is_open k.stage && not k.ended) ≡ true = (λ i. is_open (at i) && not (on i)) in
    true≢false (sym is ∙ (or_parts (is_holder o (block_of k)) _ e).1)

-- a mark is as it was, or the one that is new
set_case : (Q : Mark → Mark → Type 0) (y old : Mark) (marks : List Mark) (c : ClientId) (k x : Mark) → mark_of y.client marks ≡ Some old
    → mark_of c marks ≡ Some k → mark_of c (set_mark y marks) ≡ Some x → Q old y → (same_client c y.client ≡ false → Q k k) → Q k x
set_case Q y old marks c k x was here now own other =
    by_test (λ _. Q k x) (same_client c y.client)
    (λ is.
    let c_is : c ≡ y.client = client_from_same c y.client is in
    let k_is : old ≡ k = same_Some old k (sym was ∙ ap (λ d. mark_of d marks) (sym c_is) ∙ here) in
    let x_is : y ≡ x = same_Some y x (sym (mark_of-set_mark_own y old marks was) ∙ ap (λ d. mark_of d (set_mark y marks)) (sym c_is) ∙ now) in
    subst (λ z. Q z x) k_is (subst (Q old) x_is own))
    (λ is.
    let x_is : k ≡ x = same_Some k x (sym here ∙ sym (mark_of-set_mark_other c y marks is) ∙ now) in
    subst (Q k) x_is (other is))

-- the same block is finished later too
abbrev StaysFinished : Option Block → Option Block → Mark → Mark → Type 0
StaysFinished o p k x = k.inc ≡ x.inc → k.num ≡ x.num → unfinished o k ≡ false → unfinished p x ≡ false

without_less : (o : Option Block) (c : ClientId) (b : Block) → is_holder o b ≡ false → is_holder (holder_without c o) b ≡ false
without_less None c b e = refl
without_less (Some y) c b e = grind (arith, e)

turned : (c d : ClientId) → same_client c d ≡ false → same_client d c ≡ false
turned c d e = let one = (client_decides d c).0 in let two = (client_decides c d).1 in grind (arith, e, one, two)

-- a block of another client
other_block : (b : Block) (c : ClientId) (k : Mark) (marks : List Mark) → mark_of c marks ≡ Some k → same_client c b.client ≡ false
    → same_block b (block_of k) ≡ false
other_block b c k marks found apart = apart_blocks b (block_of k)
    (subst (λ d. same_client b.client d ≡ false) (sym (mark_of-client c marks k found)) (turned c b.client apart))

finished-row : (s : HandlerState) (m : Message) (h : Hearing) → Row s m h → IsState s → (c : ClientId) (k x : Mark) → mark_of c s.marks ≡ Some k
    → mark_of c h.0.marks ≡ Some x → StaysFinished s.holder h.0.holder k x
finished-row s m h (first_greeting y d inc here none room) is = λ c k x found now inc_same num_same e.
    let apart : same_client d c ≡ false = false_from_ne_true (same_client d c) (λ same. let both : None ≡ Some k = sym none ∙ ap (λ z. mark_of z s.marks) (client_from_same d c same) ∙ found in cc) in
    let one : k ≡ x = same_Some k x (sym found ∙ sym (mark_of-add_mark_other c (greeting_mark d inc) s.marks apart) ∙ now) in
    subst (λ z. unfinished s.holder z ≡ false) one e
finished-row s m h (newer_greeting y d inc k0 here found0 newer) is = λ c k x found now.
    set_case (StaysFinished s.holder (holder_without d s.holder)) (greeting_mark d inc) k0 s.marks c k x found0 found now
    (λ same _ _. absurd (omega (arith, same, newer)))
    (λ apart _ _ e. unless_holder s.holder (holder_without d s.holder) k (without_less s.holder d (block_of k)) e)
finished-row s m h (lock_granted y b k0 here at new free clear) is = λ c k x found now.
    set_case (StaysFinished s.holder (Some b)) (fresh_mark b AtHeld) k0 s.marks c k x at.found found now
    (λ _ same _. absurd (omega (arith, same, new)))
    (λ apart _ _ e. unless_holder s.holder (Some b) k (λ _. other_block b c k s.marks found apart) e)
finished-row s m h (is_opened y b k0 here at same was room) is = λ c k x found now.
    set_case (StaysFinished s.holder s.holder) (opened_mark k0) k0 s.marks c k x (own_place b k0 s.marks at.found) found now
    (λ _ _ e. absurd (held_unfinished s.holder b k0 (held_holds s b k0 is at same was) (block_of-same s b k0 at same) e))
    (λ apart _ _ e. e)
finished-row s m h (unlock_of_a_block_never_held y b k0 here at new clear) is = λ c k x found now.
    set_case (StaysFinished s.holder s.holder) (fresh_mark b AtShut) k0 s.marks c k x at.found found now
    (λ _ same _. absurd (omega (arith, same, new)))
    (λ apart _ _ e. e)
finished-row s m h (is_freed y b k0 here at same holds) is = λ c k x found now.
    set_case (StaysFinished s.holder None) (without_hold k0) k0 s.marks c k x (own_place b k0 s.marks at.found) found now
    (λ _ _ e. absurd (held_unfinished s.holder b k0 holds (block_of-same s b k0 at same) e))
    (λ apart _ _ e. unless_holder s.holder None k (λ _. refl) e)
finished-row s m h (is_taken y b n es k0 here at next goes_on room) is = λ c k x found now.
    set_case (StaysFinished s.holder s.holder) (with_received _ _ k0) k0 s.marks c k x (own_place b k0 s.marks at.heard.found) found now
    (λ _ _ e. absurd (open_unfinished s.holder k0 at.stage (roomy k0 (last_number n es) es goes_on).ended e))
    (λ apart _ _ e. e)
finished-row s m h r is = λ c k x found now _ _ e. let one : k ≡ x = same_Some k x (sym found ∙ now) in subst (λ z. unfinished s.holder z ≡ false) one e

-- ---- what is over stays over

-- marks that are of one block, before and after
same_later : (b : Block) (k x : Mark) → Upto b.inc b.num k.inc k.num → Upto k.inc k.num x.inc x.num → block_of x ≡ b → (k.inc ≡ x.inc) × (k.num ≡ x.num)
same_later b k x u v is =
    let xi : x.inc ≡ b.inc = ap (λ (y : Block). y.inc) is in
    let inc : k.inc ≡ x.inc = omega (arith, xi, u.inc, v.inc) in
    (inc, omega (arith, ap (λ (y : Block). y.num) is, u.num (inc ∙ xi), v.num (sym inc)))

own_mark : (b : Block) (k : Mark) (marks : List Mark) → mark_of b.client marks ≡ Some k → IsReachedIn marks (block_of k)
own_mark b k marks found = record { mark = k; found = own_place b k marks found; upto = record { inc = omega arith; num = λ e. omega arith } }

module _ (s t : HandlerState) (grows : MarksGrow s.marks t.marks)
    (stays : (c : ClientId) (k x : Mark) → mark_of c s.marks ≡ Some k → mark_of c t.marks ≡ Some x → StaysFinished s.holder t.holder k x) where
  -- the mark has gone on from what it was
  pub over_more : (b : Block) → IsOverIn s b → IsOverIn t b
  over_more b o = record {
    reached = reached_more s.marks t.marks b grows o.reached;
    finished = λ x found is.
        let k = o.reached.mark in
        let later = reached_more s.marks t.marks (block_of k) grows (own_mark b k s.marks o.reached.found) in
        let there : mark_of b.client t.marks ≡ Some later.mark = ap (λ c. mark_of c t.marks) (sym (mark_of-client b.client s.marks k o.reached.found))
        ∙ later.found in
        let one : later.mark ≡ x = same_Some later.mark x (sym there ∙ found) in
        let onward : Upto k.inc k.num x.inc x.num = subst (λ (z : Mark). Upto k.inc k.num z.inc z.num) one later.upto in
        let same = same_later b k x o.reached.upto onward is in
        let client : k.client ≡ b.client = mark_of-client b.client s.marks k o.reached.found in
        let xi : x.inc ≡ b.inc = ap (λ (y : Block). y.inc) is in
        let xn : x.num ≡ b.num = ap (λ (y : Block). y.num) is in
        let k_is : block_of k ≡ b = λ i. record { client = client i; inc = (same.0 ∙ xi) i; num = (same.1 ∙ xn) i } in
        stays b.client k x o.reached.found found same.0 same.1 (o.finished k o.reached.found k_is);
  }

pub over-row : (s : HandlerState) (m : Message) (h : Hearing) → Row s m h → IsState s → (b : Block) → IsOverIn s b → IsOverIn h.0 b
over-row s m h r is b o = over_more s h.0 (grows-row s m h r) (finished-row s m h r is) b o

-- ---- what is released stays released

free-row : (s : HandlerState) (m : Message) (h : Hearing) → Row s m h → (b : Block) → IsReleasedIn s b → h.0.holder ≡ Some b → ⊥
free-row s m h (newer_greeting y d inc k here found newer) b f e = without_some s.holder d b f.free e
  where
    without_some : (o : Option Block) (c : ClientId) (b : Block) → (o ≡ Some b → ⊥) → holder_without c o ≡ Some b → ⊥
    without_some None c b off e = cc
    without_some (Some z) c b off e = grind (arith, off, e)
free-row s m h (lock_granted y d k here at new free clear) b f e =
    let same : d ≡ b = same_Some d b e in
    not_reached s.marks d k at.found (newer_num d k at.inc new) (subst (IsReachedIn s.marks) (sym same) f.reached)
free-row s m h (is_freed y d k here at same holds) b f e = absurd (cc)
free-row s m h r b f e = f.free e

pub released-row : (s : HandlerState) (m : Message) (h : Hearing) → Row s m h → (b : Block) → IsReleasedIn s b → IsReleasedIn h.0 b
released-row s m h r b f = record { reached = reached_more s.marks h.0.marks b (grows-row s m h r) f.reached; free = free-row s m h r b f }

-- ---- an entry runs

after_stays : (o : Option Block) (r : Ran) (marks : List Mark) (c : ClientId) (k x : Mark) → mark_of c marks ≡ Some k
    → mark_of c (map (mark_after r) marks) ≡ Some x → StaysFinished o o k x
after_stays o r marks c k x found now _ _ e =
    let both : Some (mark_after r k) ≡ Some x = sym (ap (option_map (mark_after r)) found) ∙ sym (mark_of-after r c marks) ∙ now in
    let one : mark_after r k ≡ x = same_Some (mark_after r k) x both in
    subst (λ z. unfinished o z ≡ false) one e

pub over-after : (t : Task) (s : HandlerState) (b : Block) → IsOverIn s b → IsOverIn (after t s) b
over-after t s b o = over_more s (after t s) (MarksGrow-after (ran_of t) s.marks) (after_stays s.holder (ran_of t) s.marks) b o

pub released-after : (t : Task) (s : HandlerState) (b : Block) → IsReleasedIn s b → IsReleasedIn (after t s) b
released-after t s b f = record { reached = reached_more s.marks (after t s).marks b (MarksGrow-after (ran_of t) s.marks) f.reached; free = f.free }
