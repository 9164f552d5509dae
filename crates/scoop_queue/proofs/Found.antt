-- Lookups of a block after a change of the private queues. A change at a block leaves at most one queue in place of
-- that block's, and of the same block (`Leaves`). So, by induction on the list, another block's lookup stays the same.
-- The block itself finds its changed queue, or nothing if the change left nothing and no block has two queues. The laws
-- of each change that the handler makes follow: entries put, a cut, a queue more, the first entry run.
use Rattle.std.proofs.Common.{◌≡◌, ◌+◌, Bool, true, false, cond, List, [], ◌∷◌, ◌++◌, length, Option, Some, refl, sym, ap, ◌∙◌, subst, length-append}
use Rattle.std.proofs.lemmas.Option.{same_Some}
use Rattle.scoop_message.specs.declared.name.Block.{Block}
use Rattle.scoop_message.specs.declared.request.Entry.{Entry}
use Rattle.scoop_message.specs.Message.{same_block}
use Rattle.scoop_queue.specs.Queue.{PrivateQueue, advance, at_block, cut, has_queue, is_queue_of, left_by_cut, left_by_first, new_queue, opened, pending}
use Rattle.scoop_queue.specs.Queue.{put_all, queue_of, with_entries}
use Rattle.std.specs.List.{AllByRecursion}
use Rattle.scoop_queue.specs.Sound.{AreApart, IsQueue}
use Rattle.scoop_queue.proofs.Lookup.{absent-first, absent-rest, same_block-refl, same_block-true}
use Rattle.scoop_queue.proofs.Keeping.{Leaves, leaves-cut, leaves-first}

leaves-other : (c : Block) (q : PrivateQueue) (left qs : List PrivateQueue) → Leaves q left → is_queue_of c q ≡ false
    → queue_of c (left ++ qs) ≡ queue_of c (q ∷ qs)
leaves-other c q [] qs leaves other = rw other refl
leaves-other c q (r ∷ []) qs leaves other =
    let still : is_queue_of c r ≡ false = subst (λ (d : Block). same_block c d ≡ false) (sym leaves) other in
    rw (still, other) refl
leaves-other c q (r ∷ s ∷ rs) qs leaves other = absurd leaves

other-first : (b c : Block) (change : PrivateQueue → List PrivateQueue) (q : PrivateQueue) (qs : List PrivateQueue) → Leaves q (change q)
    → same_block c b ≡ false
    → queue_of c (at_block b change qs) ≡ queue_of c qs → queue_of c (at_block b change (q ∷ qs)) ≡ queue_of c (q ∷ qs)
other-first b c change q qs leaves other rest = by (is_queue_of b q) refl
  where
    by : (t : Bool) → is_queue_of b q ≡ t → queue_of c (at_block b change (q ∷ qs)) ≡ queue_of c (q ∷ qs)
    by true is =
        let not_mine : is_queue_of c q ≡ false = subst (λ (d : Block). same_block c d ≡ false) (same_block-true b q.block is) other in
        rw is (leaves-other c q (change q) qs leaves not_mine)
    by false is = rw is (ap (λ (o : Option PrivateQueue). cond (is_queue_of c q) (Some q) o) rest)

-- another block's queue stays as it is
pub queue_of-other : (b c : Block) (change : PrivateQueue → List PrivateQueue) → ((q : PrivateQueue) → Leaves q (change q)) → same_block c b ≡ false
    → (qs : List PrivateQueue) → queue_of c (at_block b change qs) ≡ queue_of c qs
queue_of-other b c change leaves other [] = refl
queue_of-other b c change leaves other (q ∷ qs) = other-first b c change q qs (leaves q) other (queue_of-other b c change leaves other qs)

changed-first : (b : Block) (change : PrivateQueue → List PrivateQueue) (x q r : PrivateQueue) (qs : List PrivateQueue) → queue_of b (x ∷ qs) ≡ Some q
    → change q ≡ r ∷ []
    → r.block ≡ q.block → (queue_of b qs ≡ Some q → queue_of b (at_block b change qs) ≡ Some r) → queue_of b (at_block b change (x ∷ qs)) ≡ Some r
changed-first b change x q r qs found becomes same rest = by (is_queue_of b x) refl
  where
    by : (t : Bool) → is_queue_of b x ≡ t → queue_of b (at_block b change (x ∷ qs)) ≡ Some r
    by true is =
        let here : x ≡ q = same_Some x q (rw is at found) in
        let left : change x ≡ r ∷ [] = ap change here ∙ becomes in
        let block_is : r.block ≡ x.block = same ∙ sym (ap (λ (y : PrivateQueue). y.block) here) in
        let mine : is_queue_of b r ≡ true = ap (same_block b) block_is ∙ is in
        rw (is, left, mine) refl
    by false is = rw (is, is) (rest (rw is at found))

-- the block's own queue is what the change makes of it
pub queue_of-changed : (b : Block) (change : PrivateQueue → List PrivateQueue) (q r : PrivateQueue) (qs : List PrivateQueue) → queue_of b qs ≡ Some q
    → change q ≡ r ∷ []
    → r.block ≡ q.block → queue_of b (at_block b change qs) ≡ Some r
queue_of-changed b change q r [] found becomes same = cc
queue_of-changed b change q r (x ∷ qs) found becomes same =
    changed-first b change x q r qs found becomes same (λ later. queue_of-changed b change q r qs later becomes same)

gone-first : (b : Block) (change : PrivateQueue → List PrivateQueue) (x q : PrivateQueue) (qs : List PrivateQueue) → AreApart (x ∷ qs)
    → queue_of b (x ∷ qs) ≡ Some q → change q ≡ []
    → (queue_of b qs ≡ Some q → has_queue b (at_block b change qs) ≡ false) → has_queue b (at_block b change (x ∷ qs)) ≡ false
gone-first b change x q qs apart found goes rest = by (is_queue_of b x) refl
  where
    by : (t : Bool) → is_queue_of b x ≡ t → has_queue b (at_block b change (x ∷ qs)) ≡ false
    by true is =
        let here : x ≡ q = same_Some x q (rw is at found) in
        let left : change x ≡ [] = ap change here ∙ goes in
        rw (is, left) (subst (λ (d : Block). has_queue d qs ≡ false) (sym (same_block-true b x.block is)) apart.0)
    by false is = rw (is, is) (rest (rw is at found))

-- or is gone
pub queue_of-gone : (b : Block) (change : PrivateQueue → List PrivateQueue) (q : PrivateQueue) (qs : List PrivateQueue) → AreApart qs → queue_of b qs ≡ Some q
    → change q ≡ []
    → has_queue b (at_block b change qs) ≡ false
queue_of-gone b change q [] apart found goes = cc
queue_of-gone b change q (x ∷ qs) apart found goes =
    gone-first b change x q qs apart found goes (λ later. queue_of-gone b change q qs apart.1 later goes)

-- put_all
pub queue_of-put_all : (b : Block) (es : List Entry) (q : PrivateQueue) (qs : List PrivateQueue) → queue_of b qs ≡ Some q
    → queue_of b (put_all b es qs) ≡ Some (with_entries es q)
queue_of-put_all b es q qs found = queue_of-changed b (λ r. with_entries es r ∷ []) q (with_entries es q) qs found refl refl

pub queue_of-put_all-other : (b c : Block) (es : List Entry) (qs : List PrivateQueue) → same_block c b ≡ false → queue_of c (put_all b es qs) ≡ queue_of c qs
queue_of-put_all-other b c es qs other = queue_of-other b c (λ r. with_entries es r ∷ []) (λ r. refl) other qs

pub pending-put_all : (b : Block) (es : List Entry) (q : PrivateQueue) (qs : List PrivateQueue) → queue_of b qs ≡ Some q
    → pending b (put_all b es qs) ≡ pending b qs + length es
pending-put_all b es q qs found =
    rw (queue_of-put_all b es q qs found, found) (length-append q.entries es)

-- cut
pub queue_of-cut-other : (b c : Block) (qs : List PrivateQueue) → same_block c b ≡ false → queue_of c (cut b qs) ≡ queue_of c qs
queue_of-cut-other b c qs other = queue_of-other b c left_by_cut leaves-cut other qs

-- a queue more at the end
pub queue_of-append : (q : PrivateQueue) (qs : List PrivateQueue) → has_queue q.block qs ≡ false → queue_of q.block (qs ++ q ∷ []) ≡ Some q
queue_of-append q [] none = rw (same_block-refl q.block) refl
queue_of-append q (r ∷ qs) none =
    let other : is_queue_of q.block r ≡ false = absent-first q.block r qs none in
    rw other (queue_of-append q qs (absent-rest q.block r qs none))

pub queue_of-append-other : (c : Block) (q : PrivateQueue) (qs : List PrivateQueue) → is_queue_of c q ≡ false → queue_of c (qs ++ q ∷ []) ≡ queue_of c qs
queue_of-append-other c q [] other = rw other refl
queue_of-append-other c q (r ∷ qs) other = ap (λ (o : Option PrivateQueue). cond (is_queue_of c r) (Some r) o) (queue_of-append-other c q qs other)

pub queue_of-opened : (b : Block) (qs : List PrivateQueue) → has_queue b qs ≡ false → queue_of b (opened b qs) ≡ Some (new_queue b)
queue_of-opened b qs none = queue_of-append (new_queue b) qs none

pub queue_of-opened-other : (b c : Block) (qs : List PrivateQueue) → same_block c b ≡ false → queue_of c (opened b qs) ≡ queue_of c qs
queue_of-opened-other b c qs other = queue_of-append-other c (new_queue b) qs other

-- advance
pub queue_of-advance-other : (c : Block) (q : PrivateQueue) (qs : List PrivateQueue) → is_queue_of c q ≡ false
    → queue_of c (advance (q ∷ qs)) ≡ queue_of c (q ∷ qs)
queue_of-advance-other c q qs other = leaves-other c q (left_by_first q q.entries) qs (leaves-first q q.entries) other

pub queue_of-advance : (q r : PrivateQueue) (qs : List PrivateQueue) → left_by_first q q.entries ≡ r ∷ [] → r.block ≡ q.block
    → queue_of q.block (advance (q ∷ qs)) ≡ Some r
queue_of-advance q r qs left same =
    let mine : is_queue_of q.block r ≡ true = ap (same_block q.block) same ∙ same_block-refl q.block in
    rw (left, mine) refl

pub queue_of-advance-gone : (q : PrivateQueue) (qs : List PrivateQueue) → AreApart (q ∷ qs) → left_by_first q q.entries ≡ []
    → has_queue q.block (advance (q ∷ qs)) ≡ false
queue_of-advance-gone q qs apart left = rw left (apart.0)

-- a queue that is found is sound, as all are
found-first : (b : Block) (x q : PrivateQueue) (qs : List PrivateQueue) → IsQueue x → queue_of b (x ∷ qs) ≡ Some q → (queue_of b qs ≡ Some q → IsQueue q)
    → IsQueue q
found-first b x q qs sound found rest = by (is_queue_of b x) refl
  where
    by : (t : Bool) → is_queue_of b x ≡ t → IsQueue q
    by true is = subst IsQueue (same_Some x q (rw is at found)) sound
    by false is = rest (rw is at found)

pub IsQueue-found : (b : Block) (q : PrivateQueue) (qs : List PrivateQueue) → AllByRecursion IsQueue qs → queue_of b qs ≡ Some q → IsQueue q
IsQueue-found b q [] each found = cc
IsQueue-found b q (x ∷ qs) each found = found-first b x q qs each.0 found (λ later. IsQueue-found b q qs each.1 later)

-- and of that block
block-first : (b : Block) (x q : PrivateQueue) (qs : List PrivateQueue) → queue_of b (x ∷ qs) ≡ Some q → (queue_of b qs ≡ Some q → q.block ≡ b) → q.block ≡ b
block-first b x q qs found rest = by (is_queue_of b x) refl
  where
    by : (t : Bool) → is_queue_of b x ≡ t → q.block ≡ b
    by true is = sym (ap (λ (r : PrivateQueue). r.block) (same_Some x q (rw is at found))) ∙ sym (same_block-true b x.block is)
    by false is = rest (rw is at found)

pub block-found : (b : Block) (q : PrivateQueue) (qs : List PrivateQueue) → queue_of b qs ≡ Some q → q.block ≡ b
block-found b q [] found = cc
block-found b q (x ∷ qs) found = block-first b x q qs found (λ later. block-found b q qs later)
