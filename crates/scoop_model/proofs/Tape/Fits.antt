-- How slots fit what a handler keeps, what opened there and what has run there.
--
-- How to carry this over the events of a world: keep, for each site, some slots with `SiteTape` (in Sites) over the logs
-- of the site's handler. `heard_tape` gives the slots after a message that the handler hears, from the row that it comes
-- to; it asks that the state is one and that the entries of a Log stand in its block's log. `finished_tape` gives those
-- after an entry has run. The slots stay the same where a job goes out, where the node restarts with the stored state, and
-- where logs grow at their end (`grown_tape`). Then `site_tape_shown` gives what Safe calls the tape.
use Rattle.scoop_model.proofs.Names.{◌≡◌, ℕ, ◌+◌, List, [], ◌∷◌, ◌++◌, Some, refl, sym, ap, ◌∙◌, subst, arith, ◌≤◌, take, length, ◌-◌, append_assoc, drop}
use Rattle.scoop_model.proofs.Names.{length-append, take-append-drop, length-take-le, AllByRecursion, Block, Entry, PrivateQueue, opened, put_all, cut, front}
use Rattle.scoop_model.proofs.Names.{advance, AreApart, QueueState, all_mapped}
use Rattle.scoop_handler.proofs.Basics.{all_append}
use Rattle.scoop_model.proofs.Stands.{Stands}
use Rattle.scoop_model.proofs.Order.{all_more_of}
use Rattle.scoop_model.proofs.Tape.Slots.{Slot, slots_new, slots_put, put_in, slots_cut, slots_run, run_rest, queues_of, ran_of, blocks_of, InTurn, queues-new}
use Rattle.scoop_model.proofs.Tape.Slots.{ran-new, blocks-new, turn-new, queues-put, ran-put, blocks-put, turn-put, cut_in, cut_keeps, cut_rest, queues-cut}
use Rattle.scoop_model.proofs.Tape.Slots.{ran-cut, blocks-cut, turn-cut, Runs, slots-run, each_run}

-- the first list is a beginning of the second
pub record IsBeginningOf (es log : List Entry) : Type 0 where
  pub behind : List Entry
  pub all : es ++ behind ≡ log

-- the entries of the block that have run, and after them those that wait, are a beginning of the block's log
abbrev pub IsBegun : (Block → List Entry) → Slot → Type 0
IsBegun log s = IsBeginningOf (s.ran ++ s.rest) (log s.block)

pub record TapeFits (log : Block → List Entry) (qs : List PrivateQueue) (bs : List Block) (rs : List (Block × ℕ × Entry)) (ss : List Slot) : Type 0 where
  pub opened : bs ≡ blocks_of ss
  pub queues : qs ≡ queues_of ss
  pub ran : rs ≡ ran_of ss
  pub turn : InTurn ss
  pub begun : AllByRecursion (IsBegun log) ss

-- ---- logs grow at their end

begun_more : (log more : Block → List Entry) → ((b : Block) → IsBeginningOf (log b) (more b)) → (s : Slot) → IsBegun log s → IsBegun more s
begun_more log more grow s i = grind (arith, append_assoc)

pub tape_more : (log more : Block → List Entry) → ((b : Block) → IsBeginningOf (log b) (more b))
    → (qs : List PrivateQueue) (bs : List Block) (rs : List (Block × ℕ × Entry)) (ss : List Slot)
    → TapeFits log qs bs rs ss → TapeFits more qs bs rs ss
tape_more log more grow qs bs rs ss f = grind (arith, opened, all_more_of, begun_more)

-- ---- the changes of the private queues

module _ (log : Block → List Entry) (qs : List PrivateQueue) (bs : List Block) (rs : List (Block × ℕ × Entry)) (ss : List Slot)
    (f : TapeFits log qs bs rs ss) where
  pub open_tape : (b : Block) → TapeFits log (opened b qs) (bs ++ b ∷ []) rs (slots_new b ss)
  open_tape b = grind (arith, opened, blocks-new, queues-new, ran-new, turn-new, all_append)

  apart_slots : AreApart qs → AreApart (queues_of ss)
  apart_slots apart = subst AreApart f.queues apart

  cut_begun : (b : Block) (s : Slot) → IsBegun log s → IsBegun log (cut_in b s)
  cut_begun b s i = grind (arith, cut_keeps, cut_rest)

  pub cut_tape : (b : Block) → AreApart qs → TapeFits log (cut b qs) bs rs (slots_cut b ss)
  cut_tape b apart = record {
    opened = f.opened ∙ sym (blocks-cut b ss);
    queues = ap (cut b) f.queues ∙ sym (queues-cut b ss (apart_slots apart));
    ran = f.ran ∙ sym (ran-cut b ss);
    turn = turn-cut b ss f.turn;
    begun = all_mapped (cut_in b) (IsBegun log) (IsBegun log) (cut_begun b) ss f.begun;
  }

  pub put_tape : (b : Block) (es : List Entry) → AreApart qs → AllByRecursion (λ s. IsBegun log (put_in b es s)) ss
      → TapeFits log (put_all b es qs) bs rs (slots_put b es ss)
  put_tape b es apart begun = record {
    opened = f.opened ∙ sym (blocks-put b es ss);
    queues = ap (put_all b es) f.queues ∙ sym (queues-put b es ss (apart_slots apart));
    ran = f.ran ∙ sym (ran-put b es ss);
    turn = turn-put b es ss f.turn;
    begun = all_mapped (put_in b es) (λ s. IsBegun log (put_in b es s)) (IsBegun log) (λ s i. i) ss begun;
  }

  run_begun : (s : Slot) (t : QueueState) (es : List Entry) → s.rest ≡ es → IsBegun log s → IsBegun log (run_rest s t es)
  run_begun s t [] is i = i
  run_begun s t (e ∷ es) is i = grind (arith, append_assoc)

  -- the first entry of the first private queue runs
  pub run_tape : (u : Block × ℕ × Entry) → front qs ≡ Some u → TapeFits log (advance qs) bs (rs ++ u ∷ []) (slots_run ss)
  run_tape u e =
      let r : Runs ss (slots_run ss) u = slots-run ss u f.turn (sym (ap front f.queues) ∙ e) in
      record {
        opened = f.opened ∙ sym r.blocks;
        queues = ap advance f.queues ∙ sym r.queues;
        ran = ap (λ xs. xs ++ u ∷ []) f.ran ∙ sym r.ran;
        turn = r.turn;
        begun = each_run (IsBegun log) (IsBegun log) (λ s i. i) (λ s t is i. run_begun s t s.rest refl i) ss f.begun;
      }

-- ---- entries that stand in a log, behind others

same_beginning : (xs ys qs rs : List Entry) → xs ++ qs ≡ ys ++ rs → length xs ≡ length ys → qs ≡ rs
same_beginning [] [] qs rs e l = e
same_beginning (x ∷ xs) (y ∷ ys) qs rs e l = let tail : xs ++ qs ≡ ys ++ rs = cc in same_beginning xs ys qs rs tail (omega arith)
same_beginning xs ys qs rs e l = absurd (omega arith)

-- so many entries were received, and of those that stand in the log from number n on the others are put after them
pub beginning_next :
    (xs log : List Entry) (n : ℕ) (es : List Entry) → IsBeginningOf xs log → Stands log n es → n ≤ length xs + 1 → length xs + 1 ≤ n + length es
    → IsBeginningOf (xs ++ drop (length xs + 1 - n) es) log
beginning_next xs log n es i st from upto =
    let j = length xs + 1 - n in
    let start : n ≡ length st.before + 1 = st.number in
    let few : j ≤ length es = omega (arith, from, upto) in
    let parts : (st.before ++ take j es) ++ (drop j es ++ st.behind) ≡ log =
    append_assoc st.before (take j es) (drop j es ++ st.behind)
    ∙ ap (λ ys. st.before ++ ys) (sym (append_assoc (take j es) (drop j es) st.behind) ∙ ap (λ ys. ys ++ st.behind) (take-append-drop j es))
    ∙ sym (append_assoc st.before es st.behind) ∙ st.all in
    let long : length xs ≡ length (st.before ++ take j es) = omega (arith, from, upto, start, length-append st.before (take j es), length-take-le j es few) in
    let left : i.behind ≡ drop j es ++ st.behind = same_beginning xs (st.before ++ take j es) i.behind (drop j es ++ st.behind) (i.all ∙ sym parts) long in
    record { behind = st.behind; all = append_assoc xs (drop j es) st.behind ∙ ap (λ ys. xs ++ ys) (sym left) ∙ i.all }
