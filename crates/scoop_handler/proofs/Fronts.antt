-- Hearing keeps the entry that runs next, and the marks only go on.
use Rattle.std.proofs.Common.{◌≡◌, ℕ, Bool, true, false, cond, List, [], ◌∷◌, ◌++◌, Option, Some, None, refl, sym, ap, subst, ◌∙◌, inl, inr, arith}
use Rattle.std.specs.Prelude.{is_some}
use Rattle.std.proofs.lemmas.Bool.{cases_Bool}
use Rattle.std.proofs.lemmas.Option.{none-some}
use Rattle.scoop_message.specs.declared.name.Block.{Block}
use Rattle.scoop_message.specs.declared.request.Entry.{Entry}
use Rattle.scoop_message.specs.Message.{same_client}
use Rattle.scoop_queue.specs.Queue.{PrivateQueue, is_open as takes_more, is_queue_of, front, first_of, cut, cut_open, opened, put_all, with_entries}
use Rattle.scoop_handler.specs.declared.mark.Mark.{Mark}
use Rattle.scoop_handler.specs.Marks.{mark_of, set_mark, add_mark}
use Rattle.scoop_handler.specs.Growing.{Grows, MarksGrow}
use Rattle.scoop_handler.proofs.MarkLists.{client_from_same, mark_of-set_mark_own, mark_of-set_mark_other, mark_of-add_mark_other}

-- ---- the entry that runs next

-- if there is a first entry, it is still the first
abbrev pub FrontStays : List PrivateQueue → List PrivateQueue → Type 0
FrontStays old new = (f : Block × ℕ × Entry) → front old ≡ Some f → front new ≡ Some f

pub FrontStays-refl : (qs : List PrivateQueue) → FrontStays qs qs
FrontStays-refl qs f e = e

pub FrontStays-is_some : (old new : List PrivateQueue) → FrontStays old new → is_some (front old) ≡ true → is_some (front new) ≡ true
FrontStays-is_some old new stays there = by_front (front old) refl there where
  by_front : (o : Option (Block × ℕ × Entry)) → front old ≡ o → is_some o ≡ true → is_some (front new) ≡ true
  by_front None e t = cc
  by_front (Some f) e t = ap is_some (stays f e)

pub FrontStays-opened : (b : Block) (qs : List PrivateQueue) → FrontStays qs (opened b qs)
FrontStays-opened b [] f e = absurd (none-some _ e)
FrontStays-opened b (q ∷ qs) f e = e

pub FrontStays-cut : (b : Block) (qs : List PrivateQueue) → FrontStays qs (cut b qs)
FrontStays-cut b [] f e = e
FrontStays-cut b (q ∷ qs) f e = by_test (is_queue_of b q) (takes_more q.state) where
  cut_first : (es : List Entry) → first_of q es ≡ Some f → front (cut_open q es ++ qs) ≡ Some f
  cut_first [] there = absurd (none-some _ there)
  cut_first (x ∷ xs) there = there

  by_test : (t u : Bool) → front (cond t (cond u (cut_open q q.entries) (q ∷ []) ++ qs) (q ∷ cut b qs)) ≡ Some f
  by_test true true = cut_first q.entries e
  by_test true false = e
  by_test false u = e

pub FrontStays-put_all : (b : Block) (es : List Entry) (qs : List PrivateQueue) → FrontStays qs (put_all b es qs)
FrontStays-put_all b es [] f e = e
FrontStays-put_all b es (q ∷ qs) f e = by_test (is_queue_of b q) where
  put_first : (xs : List Entry) → first_of q xs ≡ Some f → first_of (with_entries es q) (xs ++ es) ≡ Some f
  put_first [] there = absurd (none-some _ there)
  put_first (x ∷ xs) there = there

  by_test : (t : Bool) → front (cond t ((with_entries es q ∷ []) ++ qs) (q ∷ put_all b es qs)) ≡ Some f
  by_test true = put_first q.entries e
  by_test false = e

-- ---- the marks

pub Grows-refl : (k : Mark) → Grows k k
Grows-refl k = inr (record { inc = refl; num = refl; stage = inl refl; received = omega arith; ended = λ t. t })

pub MarksGrow-refl : (marks : List Mark) → MarksGrow marks marks
MarksGrow-refl marks c k found = (k, found, Grows-refl k)

pub MarksGrow-set : (k old : Mark) (marks : List Mark) → mark_of k.client marks ≡ Some old → Grows old k → MarksGrow marks (set_mark k marks)
MarksGrow-set k old marks found grows c x e = elim (cases_Bool (same_client c k.client)) [
  | inl same ↦
      let of : c ≡ k.client = client_from_same c k.client same in
      let one : Some x ≡ Some old = sym e ∙ (ap (λ d. mark_of d marks) of ∙ found) in
      let is : old ≡ x = cc in
      (k, ap (λ d. mark_of d (set_mark k marks)) of ∙ mark_of-set_mark_own k old marks found, subst (λ y. Grows y k) is grows)
  | inr apart ↦ (x, mark_of-set_mark_other c k marks apart ∙ e, Grows-refl x)
]

pub MarksGrow-add : (k : Mark) (marks : List Mark) → mark_of k.client marks ≡ None → MarksGrow marks (add_mark k marks)
MarksGrow-add k marks none c x e = elim (cases_Bool (same_client k.client c)) [
  | inl same ↦ absurd (none-some _ (sym none ∙ (ap (λ d. mark_of d marks) (client_from_same k.client c same) ∙ e)))
  | inr apart ↦ (x, mark_of-add_mark_other c k marks apart ∙ e, Grows-refl x)
]
