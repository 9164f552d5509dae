-- Lookups of a block among the private queues, before and after a change.
use Rattle.std.proofs.Common.{◌≡◌, ℕ, zero, suc, take, slice_get, Bool, true, false, List, [], ◌∷◌, refl, sym, ap, ◌∙◌, subst, true≢false}
use Rattle.std.proofs.lemmas.Option.{same_Some}
use Rattle.scoop_message.specs.declared.name.Block.{Block}
use Rattle.scoop_message.specs.Message.{same_block}
use Rattle.scoop_message.proofs.Same.{block_decides}
use Rattle.scoop_queue.specs.Queue.{PrivateQueue, at_block, has_queue, is_queue_of}

-- `same_block` decides
pub same_block-true : (b d : Block) → same_block b d ≡ true → b ≡ d
same_block-true b d same = (block_decides b d).0 same

pub same_block-refl : (b : Block) → same_block b b ≡ true
same_block-refl b = (block_decides b b).1 refl

pub same_block-sym : (b d : Block) → same_block b d ≡ false → same_block d b ≡ false
same_block-sym b d other = by (same_block d b) refl
  where
    by : (t : Bool) → same_block d b ≡ t → t ≡ false
    by true same =
        let is : d ≡ b = same_block-true d b same in
        absurd (true≢false (sym (same_block-refl b) ∙ subst (λ (x : Block). same_block b x ≡ false) is other))
    by false same = refl

pub absent-first : (b : Block) (q : PrivateQueue) (qs : List PrivateQueue) → has_queue b (q ∷ qs) ≡ false → is_queue_of b q ≡ false
absent-first b q qs none = by (is_queue_of b q) refl
  where
    by : (t : Bool) → is_queue_of b q ≡ t → t ≡ false
    by true is = absurd (true≢false (rw is at none))
    by false is = refl

pub absent-rest : (b : Block) (q : PrivateQueue) (qs : List PrivateQueue) → has_queue b (q ∷ qs) ≡ false → has_queue b qs ≡ false
absent-rest b q qs none =
    let other : is_queue_of b q ≡ false = absent-first b q qs none in
    rw other at none

-- if the block has no queue, nothing changes there
pub at_block-absent : (b : Block) (change : PrivateQueue → List PrivateQueue) (qs : List PrivateQueue) → has_queue b qs ≡ false → at_block b change qs ≡ qs
at_block-absent b change [] none = refl
at_block-absent b change (q ∷ qs) none =
    let other : is_queue_of b q ≡ false = absent-first b q qs none in
    rw other (ap (λ r. q ∷ r) (at_block-absent b change qs (absent-rest b q qs none)))

-- one more place at which two lists are the same
pub take-next : (xs ys : List PrivateQueue) (i : ℕ) → take i xs ≡ take i ys → slice_get xs i ≡ slice_get ys i → take (suc i) xs ≡ take (suc i) ys
take-next [] [] i so_far next = refl
take-next [] (y ∷ ys) zero so_far next = cc
take-next [] (y ∷ ys) (suc i) so_far next = cc
take-next (x ∷ xs) [] zero so_far next = cc
take-next (x ∷ xs) [] (suc i) so_far next = cc
take-next (x ∷ xs) (y ∷ ys) zero so_far next = ap (λ (q : PrivateQueue). q ∷ []) (same_Some x y next)
take-next (x ∷ xs) (y ∷ ys) (suc i) so_far next =
    let first : x ≡ y = cc in
    let before : take i xs ≡ take i ys = cc in
    let rest : take (suc i) xs ≡ take (suc i) ys = take-next xs ys i before next in
    cc
