-- The private queues, place by place.
use Rattle.std.proofs.Common.{◌≡◌, ◌≤◌, ◌↔◌, ◌+◌, ℕ, zero, suc, Bool, true, false, true≢false, List, [], ◌∷◌, length, take, slice_get, Option, Some, None}
use Rattle.std.proofs.Common.{IfSome, IsTrue, refl, sym, ap, subst, ◌∙◌, inl, inr, arith}
use Rattle.std.specs.List.{AllByRecursion}
use Rattle.std.specs.Option.{option_map, option_map_or}
use Rattle.std.proofs.lemmas.Bool.{cases_Bool}
use Rattle.std.proofs.lemmas.Option.{same_Some}
use Rattle.scoop_message.specs.declared.limits.TheConstants.{MAX_PENDING}
use Rattle.scoop_message.specs.declared.name.Block.{Block}
use Rattle.scoop_message.specs.declared.request.Entry.{Entry}
use Rattle.scoop_message.specs.Message.{same_block}
use Rattle.scoop_queue.specs.declared.state.Head.{Head}
use Rattle.scoop_queue.specs.Queue.{PrivateQueue, has_open, head_at, head_of, is_open, is_queue_of, pending, queue_of, queue_with}
use Rattle.scoop_queue.specs.Sound.{AreApart, IsQueues}
use Rattle.scoop_queue.proofs.Found.{IsQueue-found}
use Rattle.scoop_queue.proofs.Lookup.{same_block-refl, same_block-true}
use Rattle.scoop_handler.specs.declared.mark.Mark.{Mark}
use Rattle.scoop_handler.specs.Marks.{mark_of}
use Rattle.scoop_handler.specs.State.{FitsMark, HasMark}

-- ---- looking for a block's queue from the front

-- no queue of the block so far, and none at the next place
pub none-next : (b : Block) (qs : List PrivateQueue) (i : ℕ) → queue_of b (take i qs) ≡ None → IfSome (head_at i qs) (λ h. same_block b h.block ≡ false)
    → queue_of b (take (suc i) qs) ≡ None
none-next b [] i none other = refl
none-next b (q ∷ qs) zero none other = rw other refl
none-next b (q ∷ qs) (suc i) none other =
    elim (cases_Bool (is_queue_of b q)) [
      | inl mine ↦ let found : Some q ≡ None = rw mine at none in cc
      | inr apart ↦ rw apart (none-next b qs i (rw apart at none) other)
    ]

-- no queue of the block so far, and one at the next place
pub has_open-next : (b : Block) (qs : List PrivateQueue) (i : ℕ) (h : Head) → queue_of b (take i qs) ≡ None → head_at i qs ≡ Some h
    → same_block b h.block ≡ true → has_open b qs ≡ is_open h.state
has_open-next b [] i h none at same = cc
has_open-next b (q ∷ qs) zero h none at same =
    let here : head_of q ≡ h = same_Some (head_of q) h at in
    let mine : is_queue_of b q ≡ true = subst (λ (x : Head). same_block b x.block ≡ true) (sym here) same in
    rw mine (ap (λ (x : Head). is_open x.state) here)
has_open-next b (q ∷ qs) (suc i) h none at same =
    elim (cases_Bool (is_queue_of b q)) [
      | inl mine ↦ let found : Some q ≡ None = rw mine at none in cc
      | inr apart ↦ rw apart (has_open-next b qs i h (rw apart at none) at same)
    ]

-- ---- facts of each queue

pub All-next : {X : Type 0} (P : X → Type 0) (xs : List X) (i : ℕ) → AllByRecursion P (take i xs) → IfSome (slice_get xs i) P
    → AllByRecursion P (take (suc i) xs)
All-next P [] i so_far next = tt
All-next P (x ∷ xs) zero so_far next = (next, tt)
All-next P (x ∷ xs) (suc i) so_far next = (so_far.0, All-next P xs i so_far.1 next)

pub All-at : {X : Type 0} (P : X → Type 0) (xs : List X) (i : ℕ) → AllByRecursion P xs → IfSome (slice_get xs i) P
All-at P [] i all = tt
All-at P (x ∷ xs) zero all = all.0
All-at P (x ∷ xs) (suc i) all = All-at P xs i all.1

-- a fact of the queues so far, and of the next one
pub all-next : (P : PrivateQueue → Type 0) (qs : List PrivateQueue) (i : ℕ) → AllByRecursion P (take i qs) → IfSome (slice_get qs i) P
    → AllByRecursion P (take (suc i) qs)
all-next P [] i all next = tt
all-next P (q ∷ qs) zero all next = (next, tt)
all-next P (q ∷ qs) (suc i) all next = (all.0, all-next P qs i all.1 next)

-- ---- the queue at a place

own-apart : (q x : PrivateQueue) (qs : List PrivateQueue) → AreApart (x ∷ qs) → queue_of q.block qs ≡ Some q → is_queue_of q.block x ≡ false
own-apart q x qs apart found =
    elim (cases_Bool (is_queue_of q.block x)) [
      | inl same ↦
          let is : q.block ≡ x.block = same_block-true q.block x.block same in
          let at_x : queue_of x.block qs ≡ Some q = subst (λ (b : Block). queue_of b qs ≡ Some q) is found in
          absurd (true≢false (rw at_x at apart.0))
      | inr other ↦ other
    ]

-- it is the one that its block has
pub own-queue : (qs : List PrivateQueue) (i : ℕ) (q : PrivateQueue) → AreApart qs → slice_get qs i ≡ Some q → queue_of q.block qs ≡ Some q
own-queue [] i q apart at = cc
own-queue (x ∷ qs) zero q apart at =
    let here : x ≡ q = same_Some x q at in
    subst (λ (y : PrivateQueue). queue_of y.block (x ∷ qs) ≡ Some y) here (rw (same_block-refl x.block) refl)
own-queue (x ∷ qs) (suc i) q apart at =
    let later = own-queue qs i q apart.1 at in
    rw (own-apart q x qs apart later) later

pub pending-limit : (b : Block) (qs : List PrivateQueue) → IsQueues qs → pending b qs ≤ MAX_PENDING
pending-limit b qs sound = by (queue_of b qs) refl
  where
    by : (o : Option PrivateQueue) → queue_of b qs ≡ o → option_map_or (λ q. length q.entries) o 0 ≤ MAX_PENDING
    by None is = omega arith
    by (Some q) is = (IsQueue-found b q qs sound.each is).limit

at-mark : (marks : List Mark) (qs : List PrivateQueue) (q : PrivateQueue) (k : Mark) (next : ℕ) (r : Bool) → queue_of q.block qs ≡ Some q
    → mark_of q.block.client marks ≡ Some k
    → next ≡ q.first + pending q.block qs → ((es : List Entry) → next ≡ q.first + length es → IsTrue r ↔ FitsMark (queue_with (head_of q) es) k)
    → IsTrue r ↔ HasMark marks q
at-mark marks qs q k next r own found is fits =
    let by_mark : IsTrue r ↔ FitsMark q k = fits q.entries (rw own at is) in (
      (λ t. record { mark = k; found = found; fits = by_mark.0 t }),
      (λ m.
          let same : m.mark ≡ k = same_Some m.mark k (sym m.found ∙ found) in
          by_mark.1 (subst (FitsMark q) same m.fits)),
    )

-- the queue at a place fits its client's mark, if the test by its head says so
pub mark-at : (marks : List Mark) (qs : List PrivateQueue) (i : ℕ) (h : Head) (k : Mark) (next : ℕ) (r : Bool) → IsQueues qs → head_at i qs ≡ Some h
    → mark_of h.block.client marks ≡ Some k
    → next ≡ h.first + pending h.block qs → ((es : List Entry) → next ≡ h.first + length es → IsTrue r ↔ FitsMark (queue_with h es) k)
    → IsTrue r ↔ IfSome (slice_get qs i) (HasMark marks)
mark-at marks qs i h k next r sound at found is fits = by (slice_get qs i) refl at
  where
    by : (o : Option PrivateQueue) → slice_get qs i ≡ o → option_map head_of o ≡ Some h → IsTrue r ↔ IfSome o (HasMark marks)
    by None place none = cc
    by (Some q) place some =
        let back : h ≡ head_of q = sym (same_Some (head_of q) h some) in
        at-mark marks qs q k next r (own-queue qs i q sound.apart place)
        (subst (λ (x : Head). mark_of x.block.client marks ≡ Some k) back found)
        (subst (λ (x : Head). next ≡ x.first + pending x.block qs) back is)
        (subst (λ (x : Head). (es : List Entry) → next ≡ x.first + length es → IsTrue r ↔ FitsMark (queue_with x es) k) back fits)
