-- The changes that private queues bear beside the marks of their clients. No queue's block is above its client's mark,
-- and only the mark's own block may have a queue that takes more. So beside a newer incarnation or block stand only
-- queues that take no more. Any other change of a mark concerns the queue of its block alone.
use Rattle.std.proofs.Common.{◌≡◌, ℕ, ◌+◌, ◌<◌, ◌≤◌, Bool, true, false, cond, ◌&&◌, not, IsTrue, List, [], ◌∷◌, ◌++◌, Option, Some, None, length, refl, sym, ap}
use Rattle.std.proofs.Common.{subst, ◌∙◌, inl, inr, arith}
use Rattle.std.specs.List.{AllByRecursion}
use Rattle.std.specs.Option.{option_map_or}
use Rattle.std.proofs.lemmas.Bool.{cases_Bool, true≢false}
use Rattle.scoop_message.specs.declared.name.Block.{Block}
use Rattle.scoop_message.specs.declared.name.ClientId.{ClientId}
use Rattle.scoop_message.specs.declared.request.Entry.{Entry}
use Rattle.scoop_message.specs.Entries.{ends}
use Rattle.scoop_message.specs.Message.{same_client, same_block}
use Rattle.scoop_queue.specs.declared.state.QueueState.{QueueState}
use Rattle.scoop_queue.specs.declared.state.QueueState.TheVariants.{Open as Taking, Ended, Cut}
use Rattle.scoop_queue.specs.Queue.{PrivateQueue, is_open as takes_more, is_ended, is_cut, is_queue_of, has_queue, has_open, queue_of, at_block}
use Rattle.scoop_queue.specs.Sound.{IsQueue, AreApart}
use Rattle.scoop_queue.proofs.Lookup.{same_block-true, same_block-refl, absent-first, absent-rest}
use Rattle.scoop_handler.specs.declared.mark.Mark.{Mark}
use Rattle.scoop_handler.specs.Marks.{is_open, block_of, mark_of, set_mark, add_mark}
use Rattle.scoop_handler.specs.State.{IsUnused, IsNotAbove, FitsMark, HasMark}
use Rattle.scoop_handler.proofs.Basics.{all_append, all_found}
use Rattle.scoop_handler.proofs.MarkLists.{client_from_same, mark_of-set_mark_own, mark_of-set_mark_other, mark_of-add_mark_other}

-- ---- blocks

pub block_is : (k : Mark) (b : Block) → k.client ≡ b.client → k.inc ≡ b.inc → k.num ≡ b.num → block_of k ≡ b
block_is k b client inc num =
    let make : ClientId → ℕ → ℕ → Block = λ c i n. record { client = c; inc = i; num = n } in
    ap (λ c. make c k.inc k.num) client ∙ (ap (λ i. make b.client i k.num) inc ∙ ap (make b.client b.inc) num)

-- a block of another client is another block
pub apart_blocks : (b d : Block) → same_client b.client d.client ≡ false → same_block b d ≡ false
apart_blocks b d apart = rw apart refl

-- ---- one private queue beside its client's newest mark

-- a block that isn't above its client's newest, and isn't that one, takes no more; nor does the newest if it isn't open
-- or has ended
pub takes_none : (q : PrivateQueue) (k : Mark) → FitsMark q k → (is_open k.stage && not k.ended) ≡ false → takes_more q.state ≡ false
takes_none q k fits done = elim (cases_Bool (same_block (block_of k) q.block)) [
  | inl same ↦ by_test (takes_more q.state) refl (same_block-true (block_of k) q.block same)
  | inr apart ↦ fits.older (λ same. true≢false (sym (same_block-refl q.block) ∙ (ap (λ d. same_block d q.block) (sym same) ∙ apart)))
] where
  by_test : (t : Bool) → takes_more q.state ≡ t → block_of k ≡ q.block → t ≡ false
  by_test true takes same = absurd (true≢false (sym ((fits.newest same).unfinished takes) ∙ done))
  by_test false takes same = refl

not_above_inc : (b : Block) (k : Mark) → IsNotAbove b k → b.inc ≤ k.inc
not_above_inc b k (inl below) = omega (arith, below)
not_above_inc b k (inr same) = omega (arith, same.0)

pub FitsMark-inc : (q : PrivateQueue) (k : Mark) → FitsMark q k → q.block.inc ≤ k.inc
FitsMark-inc q k fits = not_above_inc q.block k fits.not_above

-- beside a newer incarnation
pub FitsMark-incarnation : (q : PrivateQueue) (k : Mark) → q.block.inc < k.inc → takes_more q.state ≡ false → FitsMark q k
FitsMark-incarnation q k newer done = record {
  not_above = inl newer;
  newest = λ same. absurd (let one : k.inc ≡ q.block.inc = ap (λ (b : Block). b.inc) same in let never : ⊥ = omega arith in never);
  older = λ apart. done;
  cut = λ is. newer;
}

-- beside a newer block of the same incarnation
pub FitsMark-block : (q : PrivateQueue) (k x : Mark) → k.inc ≡ x.inc → k.num < x.num → FitsMark q k → takes_more q.state ≡ false → FitsMark q x
FitsMark-block q k x inc num fits done = record {
  not_above = by_order fits.not_above;
  newest = λ same. absurd (above fits.not_above same);
  older = λ apart. done;
  cut = λ is. let before = fits.cut is in omega arith;
} where
  by_order : IsNotAbove q.block k → IsNotAbove q.block x
  by_order (inl below) = inl (omega (arith, below))
  by_order (inr same) = inr (same.0 ∙ inc, omega (arith, same.1))

  above : IsNotAbove q.block k → block_of x ≡ q.block → ⊥
  above (inl below) is = let one : x.inc ≡ q.block.inc = ap (λ (b : Block). b.inc) is in omega (arith, below)
  above (inr same) is = let one : x.num ≡ q.block.num = ap (λ (b : Block). b.num) is in omega (arith, same.1)

-- beside the same block with more or less of it known, for a queue of another block
pub FitsMark-other : (q : PrivateQueue) (k x : Mark) → block_of k ≡ block_of x → (block_of k ≡ q.block → ⊥) → FitsMark q k → FitsMark q x
FitsMark-other q k x same apart fits =
    let inc : k.inc ≡ x.inc = ap (λ (b : Block). b.inc) same in
    let num : k.num ≡ x.num = ap (λ (b : Block). b.num) same in
    record {
      not_above = by_order inc num fits.not_above;
      newest = λ is. absurd (apart (same ∙ is));
      older = λ is. fits.older apart;
      cut = λ is. let before = fits.cut is in omega arith;
    } where
      by_order : k.inc ≡ x.inc → k.num ≡ x.num → IsNotAbove q.block k → IsNotAbove q.block x
      by_order inc num (inl below) = inl (omega (arith, below))
      by_order inc num (inr same_inc) = inr (same_inc.0 ∙ inc, omega (arith, same_inc.1))

-- a block that isn't open, with no entry received, has no private queue
pub no_queue_yet : (q : PrivateQueue) (k : Mark) → IsQueue q → FitsMark q k → IsUnused k → is_open k.stage ≡ false → block_of k ≡ q.block → ⊥
no_queue_yet q k sound fits unused closed same = by_state q.state q.entries refl sound.ended sound.some where
  next : q.first + length q.entries ≡ k.received + 1
  next = (fits.newest same).received

  done : takes_more q.state ≡ false
  done = takes_none q k fits (ap (λ t. t && not k.ended) closed)

  none : length q.entries ≡ 0
  none = let received = unused.received in let first = sound.first in let number = next in omega arith

  by_state : (s : QueueState) (es : List Entry) → q.entries ≡ es → ends es ≡ is_ended q.state → (IsTrue (is_cut q.state) → 0 < length q.entries) → ⊥
  by_state s es are ended some = by (q.state) refl es are ended some where
    by : (t : QueueState) → q.state ≡ t → (fs : List Entry) → q.entries ≡ fs → ends fs ≡ is_ended q.state → (IsTrue (is_cut q.state) → 0 < length q.entries) → ⊥
    by Taking is fs here e f = true≢false (sym (ap takes_more is) ∙ done)
    by Ended is [] here e f = true≢false (sym (e ∙ ap is_ended is))
    by Ended is (x ∷ xs) here e f = let some_more : length q.entries ≡ length (x ∷ xs) = ap length here in let none_here = none in omega arith
    by Cut is fs here e f = let some_here = f (ap is_cut is) in let none_here = none in omega arith

-- ---- the marks around it

-- facts beside the client's mark
pub HasMark-fits : (marks : List Mark) (q : PrivateQueue) (k : Mark) → mark_of q.block.client marks ≡ Some k → HasMark marks q → FitsMark q k
HasMark-fits marks q k found has =
    let one : Some has.mark ≡ Some k = sym has.found ∙ found in
    let same : has.mark ≡ k = cc in
    subst (FitsMark q) same has.fits

-- one client's mark changes
pub HasMark-set : (k old : Mark) (marks : List Mark) (q : PrivateQueue) → mark_of k.client marks ≡ Some old
    → (q.block.client ≡ k.client → FitsMark q old → FitsMark q k) → HasMark marks q → HasMark (set_mark k marks) q
HasMark-set k old marks q found fits has = elim (cases_Bool (same_client q.block.client k.client)) [
  | inl same ↦
      let of : q.block.client ≡ k.client = client_from_same q.block.client k.client same in
      let one : Some has.mark ≡ Some old = sym has.found ∙ (ap (λ c. mark_of c marks) of ∙ found) in
      let is : has.mark ≡ old = cc in
      record {
        mark = k;
        found = ap (λ c. mark_of c (set_mark k marks)) of
            ∙ mark_of-set_mark_own k old marks found;
        fits = fits of (subst (FitsMark q) is has.fits);
      }
  | inr apart ↦
      record { mark = has.mark; found = mark_of-set_mark_other q.block.client k marks apart ∙ has.found; fits = has.fits }
]

-- one more client
pub HasMark-add : (k : Mark) (marks : List Mark) (q : PrivateQueue) → mark_of k.client marks ≡ None → HasMark marks q → HasMark (add_mark k marks) q
HasMark-add k marks q none has = elim (cases_Bool (same_client k.client q.block.client)) [
  | inl same ↦
      let of : k.client ≡ q.block.client = client_from_same k.client q.block.client same in
      let clash : None ≡ Some has.mark = sym none ∙ (ap (λ c. mark_of c marks) of ∙ has.found) in
      absurd (let never : ⊥ = cc in never)
  | inr apart ↦
      record { mark = has.mark; found = mark_of-add_mark_other q.block.client k marks apart ∙ has.found; fits = has.fits }
]

-- ---- all private queues

All-absent : (P Q : PrivateQueue → Type 0) (b : Block) (qs : List PrivateQueue) → has_queue b qs ≡ false
    → ((q : PrivateQueue) → is_queue_of b q ≡ false → P q → Q q) → AllByRecursion P qs → AllByRecursion Q qs
All-absent P Q b [] none others all = tt
All-absent P Q b (q ∷ qs) none others all = (others q (absent-first b q qs none) all.0, All-absent P Q b qs (absent-rest b q qs none) others all.1)

All-at_first : (P Q : PrivateQueue → Type 0) (b : Block) (change : PrivateQueue → List PrivateQueue) (q : PrivateQueue) (qs : List PrivateQueue)
    → AreApart (q ∷ qs)
    → ((r : PrivateQueue) → is_queue_of b r ≡ true → P r → AllByRecursion Q (change r)) → ((r : PrivateQueue) → is_queue_of b r ≡ false → P r → Q r)
    → AllByRecursion P (q ∷ qs) → AllByRecursion Q (at_block b change qs) → AllByRecursion Q (at_block b change (q ∷ qs))
All-at_first P Q b change q qs apart own others all rest = by_test (is_queue_of b q) refl where
  by_test : (t : Bool) → is_queue_of b q ≡ t → AllByRecursion Q (cond t (change q ++ qs) (q ∷ at_block b change qs))
  by_test true is =
      let none : has_queue b qs ≡ false = ap (λ d. has_queue d qs) (same_block-true b q.block is) ∙ apart.0 in
      all_append Q (change q) qs (own q is all.0) (All-absent P Q b qs none others all.1)
  by_test false is = (others q is all.0, rest)

-- one block's private queue changes
pub All-at_block : (P Q : PrivateQueue → Type 0) (b : Block) (change : PrivateQueue → List PrivateQueue) (qs : List PrivateQueue) → AreApart qs
    → ((q : PrivateQueue) → is_queue_of b q ≡ true → P q → AllByRecursion Q (change q)) → ((q : PrivateQueue) → is_queue_of b q ≡ false → P q → Q q)
    → AllByRecursion P qs → AllByRecursion Q (at_block b change qs)
All-at_block P Q b change [] apart own others all = tt
All-at_block P Q b change (q ∷ qs) apart own others all = All-at_first P Q b change q qs apart own others all
    (All-at_block P Q b change qs apart.1 own others all.1)

-- no private queue is of the block
pub none_of : (P : PrivateQueue → Type 0) (b : Block) (qs : List PrivateQueue) → ((q : PrivateQueue) → P q → is_queue_of b q ≡ false) → AllByRecursion P qs
    → has_queue b qs ≡ false
none_of P b [] apart all = refl
none_of P b (q ∷ qs) apart all = rw (apart q all.0) (none_of P b qs apart all.1)

-- the block's private queue is one of them
pub All-found : (P : PrivateQueue → Type 0) (b : Block) (q : PrivateQueue) (qs : List PrivateQueue) → AllByRecursion P qs → queue_of b qs ≡ Some q → P q
All-found P b q qs all found = all_found P (is_queue_of b) qs q all found

-- a private queue that takes more
pub open_queue : (b : Block) (qs : List PrivateQueue) → has_open b qs ≡ true → (q : PrivateQueue) × (queue_of b qs ≡ Some q) × (takes_more q.state ≡ true)
open_queue b qs has = by_found (queue_of b qs) refl has where
  by_found : (o : Option PrivateQueue) → queue_of b qs ≡ o → option_map_or (λ (q : PrivateQueue). takes_more q.state) o false ≡ true → (q : PrivateQueue)
      × (queue_of b qs ≡ Some q) × (takes_more q.state ≡ true)
  by_found None is e = absurd (true≢false (sym e))
  by_found (Some q) is e = (q, is, e)
