-- A block runs something only once each block that opened before it is whole, where slots tell so.
use Rattle.scoop_model.proofs.Names.{◌≡◌, ℕ, ◌+◌, List, [], ◌∷◌, ◌++◌, map, Some, None, refl, sym, ap, ◌∙◌, subst, arith, Option, true, take, length, inl, inr}
use Rattle.scoop_model.proofs.Names.{⊎_elim, append_assoc, IsTrue, ◌≢◌, take-append_seam, AllByRecursion, ends, NoRepeats, Block, Entry, QueueState, all_both}
use Rattle.scoop_model.proofs.Names.{All-mark_of, mark_of-client, Ran, entries_of, IsSubsequence, WholeBeforeNext, untold, numbered, part, IsWhole, World, Site}
use Rattle.scoop_model.proofs.Names.{number_of, log_of, received, is_succeeded}
use Rattle.scoop_model.proofs.Order.{AreApart}
use Rattle.scoop_model.proofs.Tape.{Slot, ran_in, blocks_of, NoneRan, Waits, InTurn, IsBegun, once_apart, left_apart, IsPart, slot_parts, SiteTape, logs_at}
use Rattle.scoop_model.proofs.Whole.Marks.{MarksTold}
use Rattle.scoop_model.proofs.Whole.Slots.{IsPassed, SlotWhole}
use Rattle.scoop_model.proofs.Whole.Rows.{SlotsWhole}

-- ---- what is numbered for a slot

-- the entries of what is numbered
pub told_entries : (rs : List Ran) (b : Block) (n : ℕ) (es : List Entry) → map untold rs ≡ numbered b n es → entries_of rs ≡ es
told_entries [] b n [] e = refl
told_entries (r ∷ rs) b n (x ∷ xs) e = grind (arith, told_entries rs b)
told_entries rs b n es e = absurd (cc)

none_told : (rs : List Ran) → map untold rs ≡ [] → rs ≡ []
none_told [] e = refl
none_told (r ∷ rs) e = absurd (cc)

-- ---- the blocks before one that has run

module _ (w : World) (s : Site) (marks_told : MarksTold w.sent (number_of s) s.core.state.marks) where
  pub record IsShown (t : Slot) : Type 0 where
    pub told : map untold (part t.block s) ≡ ran_in t
    pub whole : SlotWhole w.sent (number_of s) s.core.state.marks t
    pub begun : IsBegun (logs_at w s) t

  succeeded : (b : Block) → IsPassed s.core.state.marks b → is_succeeded b (number_of s) w ≡ true
  succeeded b p = grind (arith, All-mark_of, mark_of-client)

  gone_whole : (t : Slot) → IsShown t → t.state ≡ None → IsWhole w s t.block
  gone_whole t f gone =
      let d = f.whole.gone gone in
      let es : entries_of (part t.block s) ≡ t.ran = told_entries (part t.block s) t.block 1 t.ran f.told in
      let count : received t.block (number_of s) w ≡ length t.ran = f.whole.received ∙ ap (λ xs. length t.ran + length xs) d.rest ∙ omega arith in
      let start : t.ran ++ (t.rest ++ f.begun.behind) ≡ log_of t.block (number_of s) w = sym (append_assoc t.ran t.rest f.begun.behind) ∙ f.begun.all in
      let all : take (received t.block (number_of s) w) (log_of t.block (number_of s) w) ≡ t.ran =
      (λ i. take (count i) (sym start i)) ∙ take-append_seam t.ran (t.rest ++ f.begun.behind) in
      ⊎_elim
      (λ (e : IsTrue (ends t.ran)). inl (ap ends es ∙ e))
      (λ (p : IsPassed s.core.state.marks t.block). inr (succeeded t.block p, es ∙ sym all))
      d.whole

  -- if nothing has run after a slot, no later block has a part
  none_behind : (ss : List Slot) (between back : List Block) (later : Block) → NoneRan ss → AllByRecursion IsShown ss → blocks_of ss ≡ between ++ later ∷ back
      → part later s ≡ []
  none_behind (t ∷ ts) [] back later none all e = grind (arith, none_told)
  none_behind (t ∷ ts) (x ∷ between) back later none all e = grind (arith, none_behind ts between back later)
  none_behind [] [] back later none all e = absurd (cc)
  none_behind [] (x ∷ between) back later none all e = absurd (cc)

  before_whole : (ss : List Slot) (front between back : List Block) (b later : Block) → InTurn ss → AllByRecursion IsShown ss
      → blocks_of ss ≡ front ++ b ∷ between ++ later ∷ back → part later s ≢ [] → IsWhole w s b
  before_whole (t ∷ ts) [] between back b later turn all e some =
      let one : t.block ≡ b = cc in
      let tail : blocks_of ts ≡ between ++ later ∷ back = cc in
      by_state one tail t.state refl turn.0
    where
      by_state : t.block ≡ b → blocks_of ts ≡ between ++ later ∷ back → (o : Option QueueState) → t.state ≡ o → Waits o ts → IsWhole w s b
      by_state one tail None is waits = subst (IsWhole w s) one (gone_whole t all.0 is)
      by_state one tail (Some q) is waits = absurd (some (none_behind ts between back later waits all.1 tail))
  before_whole (t ∷ ts) (x ∷ front) between back b later turn all e some =
      let tail : blocks_of ts ≡ front ++ b ∷ between ++ later ∷ back = cc in before_whole ts front between back b later turn.1 all.1 tail some
  before_whole [] [] between back b later turn all e some = absurd (cc)
  before_whole [] (x ∷ front) between back b later turn all e some = absurd (cc)

-- the blocks that opened here are a part of the common list, so no block repeats
pub whole_shown : (w : World) (s : Site) (js : List Block) (ss : List Slot) → NoRepeats js → IsSubsequence s.opened js → SiteTape (logs_at w s) s ss
    → MarksTold w.sent (number_of s) s.core.state.marks → SlotsWhole w.sent (number_of s) s.core.state.marks ss → WholeBeforeNext w s
whole_shown w s js ss once left f told whole front between back b later opened some =
    let apart : AreApart (blocks_of ss) = subst AreApart f.opened (left_apart left (once_apart js once)) in
    let parts = slot_parts s.ran ss f.ran apart in
    let all : AllByRecursion (IsShown w s told) ss =
    all_both (IsPart s.ran) (λ t. SlotWhole w.sent (number_of s) s.core.state.marks t × IsBegun (logs_at w s) t) (IsShown w s told)
    (λ t p k. record { told = p; whole = k.0; begun = k.1 }) ss parts
    (all_both (SlotWhole w.sent (number_of s) s.core.state.marks) (IsBegun (logs_at w s))
    (λ t. SlotWhole w.sent (number_of s) s.core.state.marks t × IsBegun (logs_at w s) t) (λ t a k. (a, k)) ss whole f.begun) in
    before_whole w s told ss front between back b later f.turn all (sym f.opened ∙ opened) some
