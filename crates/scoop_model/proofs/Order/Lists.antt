-- Lists of blocks, and lists that are left of others.
use Rattle.scoop_model.proofs.Names.{◌≡◌, ℕ, List, [], ◌∷◌, ◌++◌, Some, refl, ap, arith, true, if◌then◌else◌, zero, suc, slice_get, false, ◌||◌, ◌⊎◌, ⊤}
use Rattle.scoop_model.proofs.Names.{block_decides, NoRepeats, same_block, Block, by_test, IsSubsequence, nothing, left_out, joined, has_block}
use Rattle.scoop_model.specs.Safe.{taken}

pub same_block_is : (a b : Block) → same_block a b ≡ true → a ≡ b
same_block_is a b e = (block_decides a b).0 e

pub same_block_itself : (a : Block) → same_block a a ≡ true
same_block_itself a = (block_decides a a).1 refl

-- ---- blocks that are in a list

pub in_pushed : (bs : List Block) (x b : Block) → has_block (bs ++ x ∷ []) b ≡ true → (x ≡ b) ⊎ (has_block bs b ≡ true)
in_pushed [] x b e = grind (arith, same_block_is)
in_pushed (y ∷ ys) x b e = grind (arith, in_pushed ys x b)

pub in_last : (bs : List Block) (b : Block) → has_block (bs ++ b ∷ []) b ≡ true
in_last [] b = ap (λ t. t || false) (same_block_itself b)
in_last (y ∷ ys) b = by_test (λ t. (t || has_block (ys ++ b ∷ []) b) ≡ true) (same_block y b) (λ same. refl) (λ other. in_last ys b)

-- an item at a place is in the list
pub in_at : (bs : List Block) (k : ℕ) (b : Block) → slice_get bs k ≡ Some b → has_block bs b ≡ true
in_at [] k b e = absurd (cc)
in_at (y ∷ ys) zero b e = grind (arith, same_block_itself)
in_at (y ∷ ys) (suc k) b e = by_test (λ t. (t || has_block ys b) ≡ true) (same_block y b) (λ same. refl) (λ other. in_at ys k b e)

-- ---- lists without repeats

abbrev pub AreApart : List Block → Type 0
AreApart [] = ⊤
AreApart (b ∷ bs) = (has_block bs b ≡ false) × AreApart bs

pub apart_once : (bs : List Block) → AreApart bs → NoRepeats bs
apart_once [] d i j x e f = absurd (cc)
apart_once (b ∷ bs) d zero zero x e f = refl
apart_once (b ∷ bs) d zero (suc j) x e f = grind (arith, in_at, slice_get)
apart_once (b ∷ bs) d (suc i) zero x e f = grind (arith, in_at, slice_get)
apart_once (b ∷ bs) d (suc i) (suc j) x e f = ap suc (apart_once bs d.1 i j x e f)

pub apart_pushed : (bs : List Block) (x : Block) → AreApart bs → has_block bs x ≡ false → AreApart (bs ++ x ∷ [])
apart_pushed [] x d new = (refl, tt)
apart_pushed (y ∷ ys) x d new = grind (arith, in_pushed, same_block_itself, apart_pushed ys x)

-- ---- what is left of a list

module _ {A : Type 0} where
  pub none_left : (ys : List A) → IsSubsequence [] ys
  none_left [] = nothing
  none_left (y ∷ ys) = left_out y [] ys (none_left ys)

  pub left_of_more : {xs ys : List A} → IsSubsequence xs ys → (y : A) → IsSubsequence xs (ys ++ y ∷ [])
  left_of_more nothing y = left_out y [] [] nothing
  left_of_more (left_out z xs zs s) y = left_out z xs (zs ++ y ∷ []) (left_of_more s y)
  left_of_more (taken z xs zs s) y = taken z xs (zs ++ y ∷ []) (left_of_more s y)

  pub left_of_both : {xs ys : List A} → IsSubsequence xs ys → (y : A) → IsSubsequence (xs ++ y ∷ []) (ys ++ y ∷ [])
  left_of_both nothing y = taken y [] [] nothing
  left_of_both (left_out z xs zs s) y = left_out z (xs ++ y ∷ []) (zs ++ y ∷ []) (left_of_both s y)
  left_of_both (taken z xs zs s) y = taken z (xs ++ y ∷ []) (zs ++ y ∷ []) (left_of_both s y)

pub left_has : {xs ys : List Block} → IsSubsequence xs ys → (b : Block) → has_block xs b ≡ true → has_block ys b ≡ true
left_has nothing b e = e
left_has (left_out y xs ys s) b e = by_test (λ t. (t || has_block ys b) ≡ true) (same_block y b) (λ same. refl) (λ other. left_has s b e)
left_has (taken y xs ys s) b e =
    by_test (λ t. (t || has_block xs b) ≡ true → (t || has_block ys b) ≡ true) (same_block y b) (λ same _. refl) (λ other f. left_has s b f) e

-- ---- the common list as a block opens

abbrev pub with_block : List Block → Block → List Block
with_block bs b = joined bs (b ∷ [])

pub joined_has : (bs : List Block) (b x : Block) → has_block (with_block bs b) x ≡ true → (b ≡ x) ⊎ (has_block bs x ≡ true)
joined_has bs b x = grind (arith, in_pushed)

pub joined_apart : (bs : List Block) (b : Block) → AreApart bs → AreApart (with_block bs b)
joined_apart bs b d = grind (arith, apart_pushed)

pub joined_more : (bs : List Block) (b : Block) (xs : List Block) → IsSubsequence xs bs → IsSubsequence xs (with_block bs b)
joined_more bs b xs s = by_test (λ t. IsSubsequence xs (if t then bs else bs ++ b ∷ [])) (has_block bs b) (λ old. s) (λ new. left_of_more s b)

-- b comes last: where it is in the list already, it stands behind these
pub joined_last : (bs : List Block) (b : Block) (xs : List Block) → IsSubsequence xs bs → (has_block bs b ≡ true → IsSubsequence (xs ++ b ∷ []) bs)
    → IsSubsequence (xs ++ b ∷ []) (with_block bs b)
joined_last bs b xs s old = grind (arith, left_of_both)

-- x stays behind these
pub joined_next : (bs : List Block) (b x : Block) (xs : List Block) → IsSubsequence xs bs → (has_block bs x ≡ true → IsSubsequence (xs ++ x ∷ []) bs)
    → has_block (with_block bs b) x ≡ true → IsSubsequence (xs ++ x ∷ []) (with_block bs b)
joined_next bs b x xs s old e = grind (arith, joined_has, joined_last, joined_more)
