-- The answers that a handler keeps and sends are ones that its entries had.
use Rattle.scoop_model.proofs.Names.{◌≡◌, ℕ, List, [], ◌∷◌, ◌++◌, map, Some, None, refl, sym, ap, ◌∙◌, subst, Option, option_map, true, if◌then◌else◌, ◌&&◌}
use Rattle.scoop_model.proofs.Names.{and_parts, Contains-append_left, Contains-push, AllByRecursion, ⊤, pair, last_number, is_query, same_block, Message}
use Rattle.scoop_model.proofs.Names.{Answer, Block, HandlerId, ObjectAnswer, by_test, All-mark_of, All-set_mark, All-add_mark, block_of-same, Hearing}
use Rattle.scoop_model.proofs.Names.{IsHeardAt, greeting_mark, block_of, fresh_mark, opened_mark, with_received, without_hold, set_mark, Row, first_greeting}
use Rattle.scoop_model.proofs.Names.{newer_greeting, lock_granted, is_opened, unlock_of_a_block_never_held, is_freed, is_answered, is_taken, mark_after}
use Rattle.scoop_model.proofs.Names.{HandlerState, Mark, AtHeld, AtShut, Ran, HasRun}
use Rattle.scoop_handler.specs.declared.mark.Stage.{Stage}
use Rattle.scoop_model.proofs.Order.{same_block_is}

-- an entry that ran stays when more entries run
pub has_run_more : (rs : List Ran) (x : Ran) (b : Block) (n : ℕ) (a : ObjectAnswer) → HasRun rs b n a → HasRun (rs ++ x ∷ []) b n a
has_run_more rs x b n a h = record {
  ran = h.ran;
  at = Contains-append_left rs (x ∷ []) h.ran h.at;
  block = h.block;
  number = h.number;
  query = h.query;
  answer = h.answer;
}

-- the answer that a mark keeps is one that a query of its block had
pub record KeepsRan (rs : List Ran) (k : Mark) : Type 0 where
  pub has : (n : ℕ) (a : ObjectAnswer) → k.kept ≡ Some (n, a) → HasRun rs (block_of k) n a

keeps_none : (rs : List Ran) (b : Block) (stage : Stage) → KeepsRan rs (fresh_mark b stage)
keeps_none rs b stage = record { has = λ n a e. absurd (cc) }

-- ---- hearing

-- an Answer is of this handler, and tells what ran
abbrev pub TellsRan : List Ran → HandlerId → Option Message → Type 0
TellsRan rs h None = ⊤
TellsRan rs h (Some (Answer x b n a)) = (x ≡ h) × HasRun rs b n a
TellsRan rs h (Some m) = ⊤

module _ (rs : List Ran) (s : HandlerState) (all : AllByRecursion (KeepsRan rs) s.marks) where
  -- the mark of a block that is heard
  keeps_found : (b : Block) (k : Mark) → IsHeardAt s b k → KeepsRan rs k
  keeps_found b k at = All-mark_of (KeepsRan rs) b.client s.marks k all at.found

  keeps_set : (k : Mark) → KeepsRan rs k → AllByRecursion (KeepsRan rs) (set_mark k s.marks)
  keeps_set k own = All-set_mark (KeepsRan rs) (KeepsRan rs) k s.marks own (λ x apart f. f) all

  pub keeps-row : (m : Message) (h : Hearing) → Row s m h → AllByRecursion (KeepsRan rs) h.0.marks
  keeps-row m h (first_greeting x c inc here none room) =
      All-add_mark (KeepsRan rs) (KeepsRan rs) (greeting_mark c inc) s.marks (keeps_none rs _ AtShut) (λ x f. f) all
  keeps-row m h (newer_greeting x c inc k here found newer) = keeps_set (greeting_mark c inc) (keeps_none rs _ AtShut)
  keeps-row m h (lock_granted x b k here at new free clear) = keeps_set (fresh_mark b AtHeld) (keeps_none rs b AtHeld)
  keeps-row m h (is_opened x b k here at same was room) = let f = keeps_found b k at in keeps_set (opened_mark k) (record { has = f.has })
  keeps-row m h (unlock_of_a_block_never_held x b k here at new clear) = keeps_set (fresh_mark b AtShut) (keeps_none rs b AtShut)
  keeps-row m h (is_freed x b k here at same holds) = let f = keeps_found b k at in keeps_set (without_hold k) (record { has = f.has })
  keeps-row m h (is_taken x b n es k here at next goes_on room) =
      let f = keeps_found b k at.heard in keeps_set (with_received (last_number n es) _ k) (record { has = f.has })
  keeps-row m h r = all

  pub tells_ran-row : (m : Message) (h : Hearing) → Row s m h → TellsRan rs s.number h.1.reply
  tells_ran-row m h (is_answered x b n es k a here at before kept) =
      let f = keeps_found b k at.heard in
      (refl, subst (λ y. HasRun rs y (last_number n es) a) (block_of-same s b k at.heard at.num) (f.has (last_number n es) a kept))
  tells_ran-row m h r = tt

-- ---- running

module _ (rs : List Ran) (r : Ran) where
  -- the answer of the entry that runs, once its mark keeps it
  own_ran : (k : Mark) (n : ℕ) (a : ObjectAnswer) (o : Option ObjectAnswer) → (is_query r.entry && same_block (block_of k) r.block) ≡ true → r.answer ≡ o
      → option_map (pair r.number) o ≡ Some (pair n a) → HasRun (rs ++ r ∷ []) (block_of k) n a
  own_ran k n a None newest is e = absurd (cc)
  own_ran k n a (Some x) newest is e =
      let same : pair r.number x ≡ pair n a = cc in
      let tests = and_parts (is_query r.entry) (same_block (block_of k) r.block) newest in
      record {
        ran = r;
        at = Contains-push rs r;
        block = sym (same_block_is (block_of k) r.block tests.1);
        number = ap (λ (y : ℕ × ObjectAnswer). y.0) same;
        query = tests.0;
        answer = is ∙ ap (λ (y : ℕ × ObjectAnswer). Some y.1) same;
      }

  mark_keeps_ran : (k : Mark) → KeepsRan rs k → KeepsRan (rs ++ r ∷ []) (mark_after r k)
  mark_keeps_ran k f = record {
    has = λ n a e.
        by_test (λ t. (if t then option_map (pair r.number) r.answer else k.kept) ≡ Some (pair n a)
        → HasRun (rs ++ r ∷ []) (block_of k) n a)
        (is_query r.entry && same_block (block_of k) r.block)
        (λ newest q. own_ran k n a r.answer newest refl q)
        (λ other q. has_run_more rs r (block_of k) n a (f.has n a q)) e;
  }

  pub keeps_ran : (marks : List Mark) → AllByRecursion (KeepsRan rs) marks → AllByRecursion (KeepsRan (rs ++ r ∷ [])) (map (mark_after r) marks)
  keeps_ran [] all = tt
  keeps_ran (k ∷ ks) all = (mark_keeps_ran k all.0, keeps_ran ks all.1)
