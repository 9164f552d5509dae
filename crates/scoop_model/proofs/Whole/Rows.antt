-- Every row of the table by which a handler hears keeps what is so of the slots.
use Rattle.scoop_model.proofs.Names.{◌≡◌, ℕ, ◌+◌, ◌<◌, List, [], ◌∷◌, ◌++◌, Some, sym, ap, ◌∙◌, subst, arith, false, length, ◌-◌, option_to_list, length-drop}
use Rattle.scoop_model.proofs.Names.{AllByRecursion, last_number, ends, Message, Logged, Block, HandlerId, Entry, All-mark_of, mark_of-set_mark_own}
use Rattle.scoop_model.proofs.Names.{mark_of-client, block_of-same, grows-row, MarksGrow, Hearing, greeting_mark, new_entries, is_closed, block_of, opened_mark}
use Rattle.scoop_model.proofs.Names.{with_received, set_mark, mark_of, Row, newer_greeting, is_opened, is_taken, IsLogAt, IsNext, HandlerState, IsState}
use Rattle.scoop_model.proofs.Names.{IsUnusedUnlessOpen, Mark, first_false, greatest_count}
use Rattle.scoop_handler.specs.Marks.{is_open}
use Rattle.scoop_handler.proofs.States.{ends-drop}
use Rattle.scoop_model.proofs.Order.{all_more_of, all_pushed, reached_more}
use Rattle.scoop_model.proofs.Tape.{Slot, new_slot, slots_after}
use Rattle.scoop_model.proofs.Whole.Sent.{TellsAlike}
use Rattle.scoop_model.proofs.Whole.Marks.{MarkTold, MarksTold, IsMoreTold, alike-row, block_reached, count_more}
use Rattle.scoop_model.proofs.Whole.Slots.{SlotWhole, IsTaken, slot_more, passed_from, new_whole, slots_cut_whole, slots_put_whole}

abbrev pub SlotsWhole : List Message → HandlerId → List Mark → List Slot → Type 0
SlotsWhole ms h marks ss = AllByRecursion (SlotWhole ms h marks) ss

-- the marks grow, and no message says anything new
pub slots_moved :
    (ms ns : List Message) (h : HandlerId) (old new : List Mark) (ss : List Slot) → TellsAlike h ms ns → MarksGrow old new → SlotsWhole ms h old ss
    → SlotsWhole ns h new ss
slots_moved ms ns h old new ss alike grows all =
    all_more_of (SlotWhole ms h old) (SlotWhole ns h new) (λ t w. slot_more ms ns h old new t grows (alike.counted t.block) w) ss all

-- ---- a Log is taken

module _ (ms : List Message) (s : HandlerState) (b : Block) (n : ℕ) (es : List Entry) (k : Mark) (at : IsLogAt s b k) (next : IsNext k n es)
    (goes_on : is_closed k (last_number n es) es ≡ false) (t : MarksTold ms s.number s.marks) where
  abbrev news : List Entry
  news = new_entries n es k

  abbrev after : Mark
  after = with_received (last_number n es) (ends es) k

  same : block_of k ≡ b
  same = block_of-same s b k at.heard at.num

  count_new : k.received + length news ≡ last_number n es
  count_new = let new = next.new in let gap = next.no_gap in omega (arith, new, gap, length-drop (k.received + 1 - n) es)

  some_new : 0 < length news
  some_new = let new = next.new in let all = count_new in omega (arith, new, all)

  client : k.client ≡ b.client
  client = mark_of-client b.client s.marks k at.heard.found

  told : IsMoreTold ms (ms ++ Logged s.number b (last_number n es) ∷ []) s.number b k (last_number n es)
  told = count_more ms s b k (last_number n es) at.heard.found same next.new t

  takes : MarksGrow s.marks (set_mark after s.marks)
      → IsTaken ms (ms ++ Logged s.number b (last_number n es) ∷ []) s.number s.marks (set_mark after s.marks) b news
  takes grows = record {
    grows = grows;
    mark = k;
    found = at.heard.found;
    newest = same;
    running = first_false k.ended _ goes_on;
    next = after;
    now = subst (λ c. mark_of c (set_mark after s.marks) ≡ Some after) client
        (mark_of-set_mark_own after k s.marks (subst (λ c. mark_of c s.marks ≡ Some k) (sym client) at.heard.found));
    ended = λ e. sym (ends-drop (k.received + 1 - n) es some_new) ∙ e;
    more = let was = told.was in let now = told.own in let all = count_new in omega (arith, was, now, all);
    others = told.others;
  }

-- ---- every row

pub slots_whole-row :
    (ms : List Message) (s : HandlerState) (m : Message) (h : Hearing) (r : Row s m h) (ss : List Slot) → IsState s → MarksTold ms s.number s.marks
    → SlotsWhole ms s.number s.marks ss
    → SlotsWhole (ms ++ option_to_list h.1.reply) s.number h.0.marks (slots_after s m h r ss)
slots_whole-row ms s m h (newer_greeting x c inc k here found newer) ss is t all =
    let r = newer_greeting x c inc k here found newer in
    let y : Mark = greeting_mark c inc in
    let client : k.client ≡ c = mark_of-client c s.marks k found in
    slots_cut_whole _ s.number (set_mark y s.marks) (block_of k) ss
    (passed_from (set_mark y s.marks) (block_of k) y (subst (λ d. mark_of d (set_mark y s.marks) ≡ Some y) (sym client)
    (mark_of-set_mark_own y k s.marks found)) newer)
    (slots_moved ms _ s.number s.marks (set_mark y s.marks) ss (alike-row ms s m _ r t (λ n e. cc)) (grows-row s m _ r) all)
slots_whole-row ms s m h (is_opened x b k here at same held room) ss is t all =
    let r = is_opened x b k here at same held room in
    let alike = alike-row ms s m _ r t (λ n e. cc) in
    let grows = grows-row s m _ r in
    let news : List Mark = set_mark (opened_mark k) s.marks in
    let none : k.received ≡ 0 = ((All-mark_of IsUnusedUnlessOpen b.client s.marks k is.unused at.found).unused (ap is_open held)).received in
    let count : greatest_count s.number b ms ≡ 0 =
    ap (λ z. greatest_count s.number z ms) (sym (block_of-same s b k at same))
    ∙ (All-mark_of (MarkTold ms s.number) b.client s.marks k t.each at.found).received ∙ none in
    all_pushed (SlotWhole _ s.number news) ss (Some (new_slot b)) (slots_moved ms _ s.number s.marks news ss alike grows all)
    (λ u e.
    let one : new_slot b ≡ u = cc in
    let reached = reached_more s.marks news b grows (block_reached s.marks b k at.found (block_of-same s b k at same)) in
    subst (SlotWhole _ s.number news) one (new_whole _ s.number news b reached (alike.counted b ∙ count)))
slots_whole-row ms s m h (is_taken x b n es k here at next goes_on room) ss is t all =
    let grows = grows-row s m _ (is_taken x b n es k here at next goes_on room) in
    slots_put_whole ms _ s.number s.marks (set_mark (with_received (last_number n es) (ends es) k) s.marks) b (new_entries n es k) ss
    (takes ms s b n es k at next goes_on t grows) all
slots_whole-row ms s m h r ss is t all =
    slots_moved ms (ms ++ option_to_list h.1.reply) s.number s.marks h.0.marks ss (alike-row ms s m h r t (λ n e. absurd (let f = e in cc)))
    (grows-row s m h r) all
