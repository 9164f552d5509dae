-- Private queues that differ in one alone, and the result of copying that one.
use Rattle.std.proofs.Common.{◌≡◌, ◌<◌, ℕ, zero, suc, List, [], ◌∷◌, length, slice_get, take, Some, refl, ap, ◌∙◌, arith}
use Rattle.std.proofs.lemmas.Option.{same_Some}
use Rattle.std.specs.Map.{values_of}
use Rattle.indexmap.specs.IndexMap.{set_value_at}
use Rattle.scoop_queue.specs.declared.key.Key.{Key}
use Rattle.scoop_queue.specs.declared.pending.Pending.{Pending}
use Rattle.scoop_queue.specs.Copying.{AgreeBut}
use Rattle.scoop_queue.specs.Queue.{PrivateQueue}
use Rattle.scoop_queue.specs.Kept.{block_of, queue_at, queue_kept, queues_kept}

-- lists of one length are the same if they are the same at each place
pub same-places : (xs ys : List PrivateQueue) → length xs ≡ length ys → ((j : ℕ) → j < length xs → slice_get xs j ≡ slice_get ys j) → xs ≡ ys
same-places [] [] as_many each = refl
same-places [] (y ∷ ys) as_many each = absurd (omega (arith, as_many))
same-places (x ∷ xs) [] as_many each = absurd (omega (arith, as_many))
same-places (x ∷ xs) (y ∷ ys) as_many each =
    let first : x ≡ y = same_Some x y (each 0 (omega arith)) in
    let rest : xs ≡ ys = same-places xs ys (omega (arith, as_many)) (λ j lt. each (suc j) (omega (arith, lt))) in
    cc

-- at one place they are of one block, and at each other place the same
pub agree-but : (i : ℕ) (xs ys : List PrivateQueue) → length xs ≡ length ys → i < length xs
    → ((q r : PrivateQueue) → slice_get xs i ≡ Some q → slice_get ys i ≡ Some r → q.block ≡ r.block)
    → ((j : ℕ) → j < length xs → (j ≡ i → ⊥) → slice_get xs j ≡ slice_get ys j) → AgreeBut i xs ys
agree-but i [] ys as_many within block each = absurd (omega (arith, within))
agree-but i (x ∷ xs) [] as_many within block each = absurd (omega (arith, as_many))
agree-but zero (x ∷ xs) (y ∷ ys) as_many within block each =
    (block x y refl refl, same-places xs ys (omega (arith, as_many)) (λ j lt. each (suc j) (omega (arith, lt)) (λ e. omega (arith, e))))
agree-but (suc i) (x ∷ xs) (y ∷ ys) as_many within block each =
    let first : x ≡ y = same_Some x y (each 0 (omega arith) (λ e. omega (arith, e))) in (
      first,
      agree-but i xs ys (omega (arith, as_many)) (omega (arith, within)) block
          (λ j lt other. each (suc j) (omega (arith, lt)) (λ e. other (omega (arith, e)))),
    )

-- lists that are the same before a place and after it are the same at each other place
pub same-but : (i : ℕ) (xs ys : List PrivateQueue) → take i xs ≡ take i ys → ((j : ℕ) → i < j → j < length xs → slice_get xs j ≡ slice_get ys j)
    → (j : ℕ) → j < length xs → (j ≡ i → ⊥) → slice_get xs j ≡ slice_get ys j
same-but zero xs ys before after zero within other = absurd (other refl)
same-but zero xs ys before after (suc j) within other = after (suc j) (omega arith) within
same-but (suc i) [] ys before after j within other = absurd (omega (arith, within))
same-but (suc i) (x ∷ xs) [] before after j within other = cc
same-but (suc i) (x ∷ xs) (y ∷ ys) before after zero within other =
    let first : x ≡ y = cc in
    ap Some first
same-but (suc i) (x ∷ xs) (y ∷ ys) before after (suc j) within other =
    let rest : take i xs ≡ take i ys = cc in
    same-but i xs ys rest (λ k behind inside. after (suc k) (omega (arith, behind)) (omega (arith, inside))) j (omega (arith, within))
    (λ e. other (omega (arith, e)))

module _ {A : Type 0} where
  -- the copy of what differs makes them the same
  pub kept-copied : (w : Pending A) (es ds : List (Key × Pending A)) (i : ℕ) → AgreeBut i (queues_kept es) (queues_kept ds)
      → ((p : Pending A) → slice_get (values_of ds) i ≡ Some p → (d : _) → queue_at d w ≡ queue_at d p) → queues_kept (set_value_at es i w) ≡ queues_kept ds
  kept-copied w [] ds i agree copy = absurd agree
  kept-copied w (e ∷ es) [] i agree copy = absurd agree
  kept-copied w (e ∷ es) (d ∷ ds) zero agree copy =
      let here : queue_at (block_of e.0) w ≡ queue_kept d = ap (λ b. queue_at b w) agree.0 ∙ copy d.1 refl (block_of d.0) in
      let rest : queues_kept es ≡ queues_kept ds = agree.1 in
      cc
  kept-copied w (e ∷ es) (d ∷ ds) (suc i) agree copy =
      let rest : queues_kept (set_value_at es i w) ≡ queues_kept ds = kept-copied w es ds i agree.1 copy in
      let first : queue_kept e ≡ queue_kept d = agree.0 in
      cc

  pub agree-within : (i : ℕ) (es ds : List (Key × Pending A)) → AgreeBut i (queues_kept es) (queues_kept ds) → (i < length es) × (i < length ds)
  agree-within i [] ds agree = absurd agree
  agree-within i (e ∷ es) [] agree = absurd agree
  agree-within zero (e ∷ es) (d ∷ ds) agree = (omega arith, omega arith)
  agree-within (suc i) (e ∷ es) (d ∷ ds) agree =
      let rest = agree-within i es ds agree.1 in
      (omega (arith, rest.0), omega (arith, rest.1))
