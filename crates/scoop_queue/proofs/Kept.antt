-- The map's calls, as changes of the private queues that it keeps. Its keys are the blocks, in the order of the queues.
-- The place of a block's key is that of its queue, and a write, an insertion or a removal there is that change of the
-- list.
use Rattle.std.proofs.Common.{◌≡◌, ℕ, zero, suc, ◌+◌, ◌<◌, ◌≤◌, Bool, true, false, cond, List, [], ◌∷◌, ◌++◌, length, remove, slice_get, get_or, Option, None}
use Rattle.std.proofs.Common.{Some, position, MatchOption, is_some, nat_lt, refl, sym, ap, ◌∙◌, subst, arith, append_assoc}
use Rattle.std.specs.List.{position_or_len}
use Rattle.std.specs.Option.{option_map_or}
use Rattle.std.specs.Map.{keys_of, values_of}
use Rattle.std.proofs.lemmas.Bool.{ltb-true, ltb-false}
use Rattle.std.proofs.lemmas.List.{length-map}
use Rattle.std.proofs.lemmas.Option.{same_Some}
use Rattle.indexmap.specs.IndexMap.{insert_entry, set_value_at}
use Rattle.scoop_message.specs.declared.name.Block.{Block}
use Rattle.scoop_message.specs.declared.request.Entry.{Entry}
use Rattle.scoop_queue.specs.contracts.key.KeyPartialEq.TheImpl as on_key
use Rattle.scoop_queue.specs.declared.key.Key.{Key}
use Rattle.scoop_queue.specs.declared.pending.Pending.{Pending}
use Rattle.scoop_queue.specs.Queue.{PrivateQueue, advance, at_block, first_of, front, has_open, has_queue, is_open, is_queue_of, left_by_first, pending}
use Rattle.scoop_queue.specs.Queue.{queue_of}
use Rattle.scoop_queue.specs.Refusal.{put_refusal, refusal_at}
use Rattle.scoop_queue.specs.Kept.{block_of, queue_at, queue_kept, queues_kept, IsPlaceOf}
use Rattle.scoop_queue.specs.Sound.{IsQueue, IsQueues}
use Rattle.scoop_queue.proofs.Keeping.{IsQueue-rebound}
use Rattle.scoop_queue.proofs.Lookup.{absent-first, absent-rest}

abbrev same_key : Key → Key → Bool
same_key = on_key.eq-value.it

module _ {A : Type 0} where
  -- the first key that passes is that of the block's queue
  place-first : (k : Key) (e : Key × Pending A) (es : List (Key × Pending A)) (n : ℕ) → position_or_len (same_key k) (keys_of (e ∷ es)) ≡ n
      → ((m : ℕ) → position_or_len (same_key k) (keys_of es) ≡ m → suc m ≡ n → IsPlaceOf (block_of k) (queues_kept es) m)
      → IsPlaceOf (block_of k) (queues_kept (e ∷ es)) n
  place-first k e es n is rest = by (same_key k e.0) refl
    where
      by : (t : Bool) → same_key k e.0 ≡ t → IsPlaceOf (block_of k) (queues_kept (e ∷ es)) n
      by true same = subst (IsPlaceOf (block_of k) (queues_kept (e ∷ es))) (rw same at is) same
      by false other =
          let m = position_or_len (same_key k) (keys_of es) in
          let later : 1 + m ≡ n = rw other at is in
          let next : suc m ≡ n = omega (arith, later) in
          subst (IsPlaceOf (block_of k) (queues_kept (e ∷ es))) next (other, rest m refl next)

  place-position : (k : Key) (es : List (Key × Pending A)) (n : ℕ) → position_or_len (same_key k) (keys_of es) ≡ n → n < length es
      → IsPlaceOf (block_of k) (queues_kept es) n
  place-position k [] n is within = absurd (omega arith)
  place-position k (e ∷ es) n is within =
      place-first k e es n is (λ m at next. place-position k es m at (omega (arith, next, within)))

  none-first : (k : Key) (e : Key × Pending A) (es : List (Key × Pending A)) → length (e ∷ es) ≤ position_or_len (same_key k) (keys_of (e ∷ es))
      → (length es ≤ position_or_len (same_key k) (keys_of es) → has_queue (block_of k) (queues_kept es) ≡ false)
      → has_queue (block_of k) (queues_kept (e ∷ es)) ≡ false
  none-first k e es past rest = by (same_key k e.0) refl
    where
      by : (t : Bool) → same_key k e.0 ≡ t → has_queue (block_of k) (queues_kept (e ∷ es)) ≡ false
      by true same = let none : length (e ∷ es) ≤ 0 = rw same at past in absurd (omega arith)
      by false other =
          let later : length (e ∷ es) ≤ 1 + position_or_len (same_key k) (keys_of es) = rw other at past in
          let is : is_queue_of (block_of k) (queue_kept e) ≡ false = other in
          rw is (rest (omega (arith, later)))

  none-position : (k : Key) (es : List (Key × Pending A)) → length es ≤ position_or_len (same_key k) (keys_of es)
      → has_queue (block_of k) (queues_kept es) ≡ false
  none-position k [] past = refl
  none-position k (e ∷ es) past = none-first k e es past (none-position k es)

  pub place-found : (k : Key) (es : List (Key × Pending A)) (r : Option ℕ) → r ≡ position (same_key k) (keys_of es)
      → MatchOption r (has_queue (block_of k) (queues_kept es) ≡ false) (IsPlaceOf (block_of k) (queues_kept es))
  place-found k es r is = by (nat_lt (position_or_len (same_key k) (keys_of es)) (length (keys_of es))) refl
    where
      by : (t : Bool) → nat_lt (position_or_len (same_key k) (keys_of es)) (length (keys_of es)) ≡ t
          → MatchOption r (has_queue (block_of k) (queues_kept es) ≡ false) (IsPlaceOf (block_of k) (queues_kept es))
      by true inside =
          let n = position_or_len (same_key k) (keys_of es) in
          let at : r ≡ Some n = is ∙ ap (λ t. cond t (Some n) None) inside in
          let within : n < length es = omega (arith, ltb-true _ _ inside, length-map es (λ (e : Key × Pending A). e.0)) in
          let P : Option ℕ → Type 0 = λ o. MatchOption o (has_queue (block_of k) (queues_kept es) ≡ false) (IsPlaceOf (block_of k) (queues_kept es)) in
          subst P (sym at) (place-position k es n refl within)
      by false outside =
          let n = position_or_len (same_key k) (keys_of es) in
          let none : r ≡ None = is ∙ ap (λ t. cond t (Some n) None) outside in
          let past : length es ≤ n = omega (arith, ltb-false _ _ outside, length-map es (λ (e : Key × Pending A). e.0)) in
          let P : Option ℕ → Type 0 = λ o. MatchOption o (has_queue (block_of k) (queues_kept es) ≡ false) (IsPlaceOf (block_of k) (queues_kept es)) in
          subst P (sym none) (none-position k es past)

  -- a key without a queue goes last
  pub kept-insert : (k : Key) (p : Pending A) (es : List (Key × Pending A)) → has_queue (block_of k) (queues_kept es) ≡ false
      → queues_kept (insert_entry same_key es k p) ≡ queues_kept es ++ queue_at (block_of k) p ∷ []
  kept-insert k p [] none = refl
  kept-insert k p (e ∷ es) none =
      let other : same_key k e.0 ≡ false = absent-first (block_of k) (queue_kept e) (queues_kept es) none in
      let rest : has_queue (block_of k) (queues_kept es) ≡ false = absent-rest (block_of k) (queue_kept e) (queues_kept es) none in
      rw other (ap (λ qs. queue_kept e ∷ qs) (kept-insert k p es rest))

  -- a write of a value at the block's place
  pub kept-set : (b : Block) (change : PrivateQueue → List PrivateQueue) (p w : Pending A) (es : List (Key × Pending A)) (i : ℕ)
      → IsPlaceOf b (queues_kept es) i → slice_get (values_of es) i ≡ Some p → ((d : Block) → change (queue_at d p) ≡ queue_at d w ∷ [])
      → queues_kept (set_value_at es i w) ≡ at_block b change (queues_kept es)
  kept-set b change p w [] i place is becomes = absurd place
  kept-set b change p w (e ∷ es) zero place is becomes =
      let here : e.1 ≡ p = cc in
      rw (place, here, becomes) refl
  kept-set b change p w (e ∷ es) (suc i) place is becomes =
      rw (place.0) (ap (λ qs. queue_kept e ∷ qs) (kept-set b change p w es i place.1 is becomes))

  -- a write that changes nothing visible
  pub kept-same : (p w : Pending A) (es : List (Key × Pending A)) (i : ℕ) → slice_get (values_of es) i ≡ Some p → ((d : Block) → queue_at d w ≡ queue_at d p)
      → queues_kept (set_value_at es i w) ≡ queues_kept es
  kept-same p w [] i is same = refl
  kept-same p w (e ∷ es) zero is same =
      let here : e.1 ≡ p = cc in
      rw (same, here) refl
  kept-same p w (e ∷ es) (suc i) is same = ap (λ qs. queue_kept e ∷ qs) (kept-same p w es i is same)

  -- a write of a value at the block's place, and then its removal
  pub kept-remove : (b : Block) (change : PrivateQueue → List PrivateQueue) (p w : Pending A) (es : List (Key × Pending A)) (i : ℕ)
      → IsPlaceOf b (queues_kept es) i → slice_get (values_of es) i ≡ Some p → ((d : Block) → change (queue_at d p) ≡ [])
      → queues_kept (remove (set_value_at es i w) i) ≡ at_block b change (queues_kept es)
  kept-remove b change p w [] i place is goes = absurd place
  kept-remove b change p w (e ∷ es) zero place is goes =
      let here : e.1 ≡ p = cc in
      rw (place, here, goes) refl
  kept-remove b change p w (e ∷ es) (suc i) place is goes =
      rw (place.0) (ap (λ qs. queue_kept e ∷ qs) (kept-remove b change p w es i place.1 is goes))

  -- a change of the block's queue that changes nothing
  pub kept-unchanged : (b : Block) (change : PrivateQueue → List PrivateQueue) (p : Pending A) (es : List (Key × Pending A)) (i : ℕ)
      → IsPlaceOf b (queues_kept es) i → slice_get (values_of es) i ≡ Some p → ((d : Block) → change (queue_at d p) ≡ queue_at d p ∷ [])
      → at_block b change (queues_kept es) ≡ queues_kept es
  kept-unchanged b change p [] i place is stays = absurd place
  kept-unchanged b change p (e ∷ es) zero place is stays =
      let here : e.1 ≡ p = cc in
      rw (place, here, stays) refl
  kept-unchanged b change p (e ∷ es) (suc i) place is stays =
      rw (place.0) (ap (λ qs. queue_kept e ∷ qs) (kept-unchanged b change p es i place.1 is stays))

  -- the value at the block's place is what its queue has
  pub queue_of-place : (b : Block) (p : Pending A) (es : List (Key × Pending A)) (i : ℕ) → IsPlaceOf b (queues_kept es) i → slice_get (values_of es) i ≡ Some p
      → (d : Block) × (queue_of b (queues_kept es) ≡ Some (queue_at d p))
  queue_of-place b p [] i place is = absurd place
  queue_of-place b p (e ∷ es) zero place is =
      let here : e.1 ≡ p = cc in
      (block_of e.0, rw (place, here) refl)
  queue_of-place b p (e ∷ es) (suc i) place is =
      let rest = queue_of-place b p es i place.1 is in
      (rest.0, rw (place.0) rest.1)

  pub has_open-place : (b : Block) (p : Pending A) (es : List (Key × Pending A)) (i : ℕ) → IsPlaceOf b (queues_kept es) i → slice_get (values_of es) i ≡ Some p
      → has_open b (queues_kept es) ≡ is_open p.state
  has_open-place b p es i place is =
      ap (λ (o : Option PrivateQueue). option_map_or (λ q. is_open q.state) o false) (queue_of-place b p es i place is).1

  pub pending-place : (b : Block) (p : Pending A) (es : List (Key × Pending A)) (i : ℕ) → IsPlaceOf b (queues_kept es) i → slice_get (values_of es) i ≡ Some p
      → pending b (queues_kept es) ≡ length p.entries.items
  pending-place b p es i place is =
      ap (λ (o : Option PrivateQueue). option_map_or (λ q. length q.entries) o 0) (queue_of-place b p es i place is).1

  pub put_refusal-place : (b : Block) (n : ℕ) (p : Pending A) (es : List (Key × Pending A)) (i : ℕ) → IsPlaceOf b (queues_kept es) i
      → slice_get (values_of es) i ≡ Some p
      → put_refusal b n (queues_kept es) ≡ refusal_at n (Some (queue_at b p))
  put_refusal-place b n p es i place is =
      ap (λ (o : Option PrivateQueue). refusal_at n o) (queue_of-place b p es i place is).1

  -- the rest of the first queue once its first entry is taken
  left-now : (b : Block) (p x : Pending A) (left : List PrivateQueue) → p ≡ x → left_by_first (queue_at b p) p.entries.items ≡ left
      → left_by_first (queue_at b x) x.entries.items ≡ left
  left-now b p x left is was = subst (λ (y : Pending A). left_by_first (queue_at b y) y.entries.items ≡ left) is was

  pub kept-stays : (p w : Pending A) (es : List (Key × Pending A)) → slice_get (values_of es) 0 ≡ Some p
      → ((d : Block) → left_by_first (queue_at d p) p.entries.items ≡ queue_at d w ∷ []) → queues_kept (set_value_at es 0 w) ≡ advance (queues_kept es)
  kept-stays p w [] is left = cc
  kept-stays p w (e ∷ es) is left =
      let here : p ≡ e.1 = cc in
      ap (λ (qs : List PrivateQueue). qs ++ queues_kept es) (sym (left-now (block_of e.0) p e.1 (queue_at (block_of e.0) w ∷ []) here (left (block_of e.0))))

  pub kept-goes : (p w : Pending A) (es : List (Key × Pending A)) → slice_get (values_of es) 0 ≡ Some p
      → ((d : Block) → left_by_first (queue_at d p) p.entries.items ≡ []) → queues_kept (remove (set_value_at es 0 w) 0) ≡ advance (queues_kept es)
  kept-goes p w [] is left = cc
  kept-goes p w (e ∷ es) is left =
      let here : p ≡ e.1 = cc in
      ap (λ (qs : List PrivateQueue). qs ++ queues_kept es) (sym (left-now (block_of e.0) p e.1 [] here (left (block_of e.0))))

  -- the first entry of the first queue
  pub front-at : (es : List (Key × Pending A)) (k : Key) (p : Pending A) → slice_get es 0 ≡ Some (k, p)
      → front (queues_kept es) ≡ first_of (queue_at (block_of k) p) p.entries.items
  front-at [] k p is = cc
  front-at (e ∷ es) k p is =
      let pair : Key × Pending A = (k, p) in
      let here : e ≡ pair = same_Some e pair is in
      ap (λ (x : Key × Pending A). first_of (queue_kept x) x.1.entries.items) here

  -- the first queue is sound, as all are
  pub first-sound : (p : Pending A) (es : List (Key × Pending A)) → slice_get (values_of es) 0 ≡ Some p → IsQueues (queues_kept es) → (b : Block)
      → IsQueue (queue_at b p)
  first-sound p [] is sound b = cc
  first-sound p (e ∷ es) is sound b =
      let here : e.1 ≡ p = same_Some e.1 p is in
      let first : IsQueue (queue_at (block_of e.0) e.1) = sound.each.0 in
      subst (λ (x : Pending A). IsQueue (queue_at b x)) here (IsQueue-rebound b (block_of e.0) e.1.first e.1.entries.items e.1.state first)

  -- a copy of the next queue goes after those that are copied
  pub next-copied : (done all : List PrivateQueue) (left rest : List (Key × Pending A)) (k : Key) (p : Pending A) → left ≡ (k, p) ∷ rest
      → done ++ queues_kept left ≡ all → done ++ queue_at (block_of k) p ∷ queues_kept rest ≡ all
  next-copied done all left rest k p next is =
      sym (ap (λ (es : List (Key × Pending A)). done ++ queues_kept es) next) ∙ is

  pub copied-next : (done new all : List PrivateQueue) (left rest : List (Key × Pending A)) (b : Block) (k : Key) (p copy : Pending A) → left ≡ (k, p) ∷ rest
      → b ≡ block_of k → ((d : Block) → queue_at d copy ≡ queue_at d p) → new ≡ done ++ queue_at b copy ∷ [] → done ++ queues_kept left ≡ all
      → new ++ queues_kept rest ≡ all
  copied-next done new all left rest b k p copy next of_key same is so_far =
      ap (λ (qs : List PrivateQueue). qs ++ queues_kept rest) is
      ∙ ap (λ (q : PrivateQueue). (done ++ q ∷ []) ++ queues_kept rest) (same b)
      ∙ ap (λ (d : Block). (done ++ queue_at d p ∷ []) ++ queues_kept rest) of_key
      ∙ append_assoc done (queue_at (block_of k) p ∷ []) (queues_kept rest)
      ∙ next-copied done all left rest k p next so_far

pub first-none : (q : PrivateQueue) (es : List Entry) → length es ≤ 0 → first_of q es ≡ None
first-none q [] none = refl
first-none q (e ∷ es) none = absurd (omega arith)

pub first-some : (q : PrivateQueue) (es : List Entry) (x : Entry) → 0 < length es → x ≡ get_or es 0 x → first_of q es ≡ Some (q.block, q.first, x)
first-some q [] x some is = absurd (omega arith)
first-some q (e ∷ es) x some is = rw is refl

place-has : (b : Block) (qs : List PrivateQueue) (i : ℕ) → IsPlaceOf b qs i → has_queue b qs ≡ true
place-has b [] i place = absurd place
place-has b (q ∷ qs) zero place = rw place refl
place-has b (q ∷ qs) (suc i) place = rw (place.0) (place-has b qs i place.1)

pub has-place : (b : Block) (qs : List PrivateQueue) (r : Option ℕ) → MatchOption r (has_queue b qs ≡ false) (IsPlaceOf b qs) → is_some r ≡ has_queue b qs
has-place b qs None none = sym none
has-place b qs (Some i) place = sym (place-has b qs i place)
