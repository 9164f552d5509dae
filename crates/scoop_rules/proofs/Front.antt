-- The place of the first private queue's block in the common list. The blocks that opened at a handler are the common list with some
-- left out, and the first slot with an entry splits it. Each block before that slot's is over there, is no block of this handler,
-- or can't open here any more.
use Rattle.scoop_rules.proofs.Names.{◌≡◌, ℕ, ◌+◌, List, [], ◌∷◌, ◌++◌, Some, None, refl, sym, ap, ◌∙◌, subst, Option, true, true≢false, ◌||◌, length, ◌⊎◌, inl}
use Rattle.scoop_rules.proofs.Names.{inr, ⊎_elim, flat_map, none-some, AllByRecursion, same_block, Block, Entry, front, first_of, by_test, IsSubsequence}
use Rattle.scoop_rules.proofs.Names.{nothing, left_out, has_block, same_block_itself, same_block_is, AreApart, in_last, Slot, slot_queue, queues_of, blocks_of}
use Rattle.scoop_rules.proofs.Names.{taken, Waiting}
use Rattle.scoop_model.proofs.Names.{QueueState}
use Rattle.scoop_model.proofs.Tape.Slots.{queue_at}
pub use Rattle.scoop_model.proofs.Order.Lists.{left_has}

-- ---- blocks that are left of a list

has_head : (b : Block) (bs : List Block) → has_block (b ∷ bs) b ≡ true
has_head b bs = ap (λ t. t || has_block bs b) (same_block_itself b)

-- ---- the first slot with an entry

pub record FirstSlot (u : Block × ℕ × Entry) (s : Slot) : Type 0 where
  pub later : List Entry
  pub rest : s.rest ≡ u.2 ∷ later
  pub block : s.block ≡ u.0
  pub number : length s.ran + 1 ≡ u.1

first_slot : (s : Slot) (t : QueueState) (u : Block × ℕ × Entry) (es : List Entry) → s.rest ≡ es → first_of (slot_queue s t) es ≡ Some u → FirstSlot u s
first_slot s t u [] is e = absurd (none-some _ e)
first_slot s t u (x ∷ es) is e =
    let same : (s.block, length s.ran + 1, x) ≡ u = cc in
    record {
      later = es;
      rest = is ∙ ap (λ (v : Block × ℕ × Entry). v.2 ∷ es) same;
      block = ap (λ (v : Block × ℕ × Entry). v.0) same;
      number = ap (λ (v : Block × ℕ × Entry). v.1) same;
    }

-- the first slot is gone, or it is the one with the first entry
first_or_later : (s : Slot) (o : Option QueueState) (ss : List Slot) (u : Block × ℕ × Entry) → s.state ≡ o → front (queue_at s o ++ queues_of ss) ≡ Some u
    → (s.state ≡ None × (front (queues_of ss) ≡ Some u)) ⊎ FirstSlot u s
first_or_later s None ss u is e = inl (is, e)
first_or_later s (Some t) ss u is e = inr (first_slot s t u s.rest refl e)

-- ---- the common list before and after the first slot's block

-- a block of the list has a slot, no queue, or a place behind all slots
abbrev pub IsPlaced : (Block → List Waiting) → List Block → List Block → Block → Type 0
IsPlaced f bs js b = (has_block bs b ≡ true) ⊎ ((f b ≡ []) ⊎ IsSubsequence (bs ++ b ∷ []) js)

pub record Parted (f : Block → List Waiting) (P : Slot → Type 0) (u : Block × ℕ × Entry) (js : List Block) : Type 0 where
  pub before : List Block
  pub slot : Slot
  pub behind : List Block
  pub has : P slot
  pub here : js ≡ before ++ slot.block ∷ behind
  pub empty : flat_map f before ≡ []
  pub first : FirstSlot u slot

-- the head of a list without repeats isn't further on
not_again : (y : Block) (ys : List Block) → AreApart (y ∷ ys) → has_block ys y ≡ true → ⊥
not_again y ys d e = true≢false (sym e ∙ d.0)

-- a list that is left of one with a head is left of the rest, or has that head too
left_cases : (xs : List Block) (y : Block) (ys : List Block) → IsSubsequence xs (y ∷ ys)
    → IsSubsequence xs ys ⊎ ((zs : List Block) × (xs ≡ y ∷ zs) × IsSubsequence zs ys)
left_cases xs y ys (left_out x zs ws s) = inl s
left_cases xs y ys (taken x zs ws s) = inr (zs, refl, s)

left_nothing : (c : Block) (cs : List Block) → IsSubsequence (c ∷ cs) [] → ⊥
left_nothing c cs s = of (c ∷ cs) s refl
  where
    of : (xs : List Block) → IsSubsequence xs [] → xs ≡ c ∷ cs → ⊥
    of xs nothing e = cc

-- past a block that has no slot
past : (f : Block → List Waiting) (c : Block) (cs : List Block) (y : Block) (ys : List Block) → AreApart (y ∷ ys) → IsSubsequence (c ∷ cs) ys → (b : Block)
    → IsPlaced f (c ∷ cs) (y ∷ ys) b → IsPlaced f (c ∷ cs) ys b
past f c cs y ys d sub b p = ⊎_elim
    (λ (q : has_block (c ∷ cs) b ≡ true). inl q)
    (λ (q : (f b ≡ []) ⊎ IsSubsequence (c ∷ cs ++ b ∷ []) (y ∷ ys)). ⊎_elim
    (λ (r : f b ≡ []). inr (inl r))
    (λ (r : IsSubsequence (c ∷ cs ++ b ∷ []) (y ∷ ys)). ⊎_elim
    (λ (t : IsSubsequence (c ∷ cs ++ b ∷ []) ys). inr (inr t))
    (λ (t : (zs : List Block) × (c ∷ cs ++ b ∷ [] ≡ y ∷ zs) × IsSubsequence zs ys).
    let e = t.1 in
    let same : c ≡ y = cc in
    absurd (not_again y ys d (left_has sub y (subst (λ z. has_block (c ∷ cs) z ≡ true) same (has_head c cs)))))
    (left_cases (c ∷ cs ++ b ∷ []) y ys r)) q) p

-- a block that is past and has no slot has no queue
no_queue_past : (f : Block → List Waiting) (c : Block) (cs : List Block) (y : Block) (ys : List Block) → AreApart (y ∷ ys) → IsSubsequence (c ∷ cs) ys
    → IsPlaced f (c ∷ cs) (y ∷ ys) y → f y ≡ []
no_queue_past f c cs y ys d sub p = ⊎_elim
    (λ (q : has_block (c ∷ cs) y ≡ true). absurd (not_again y ys d (left_has sub y q)))
    (λ (q : (f y ≡ []) ⊎ IsSubsequence (c ∷ cs ++ y ∷ []) (y ∷ ys)). ⊎_elim
    (λ (r : f y ≡ []). r)
    (λ (r : IsSubsequence (c ∷ cs ++ y ∷ []) (y ∷ ys)). ⊎_elim
    (λ (t : IsSubsequence (c ∷ cs ++ y ∷ []) ys). absurd (not_again y ys d (left_has t y (in_last (c ∷ cs) y))))
    (λ (t : (zs : List Block) × (c ∷ cs ++ y ∷ [] ≡ y ∷ zs) × IsSubsequence zs ys).
    let e = t.1 in
    let rest : cs ++ y ∷ [] ≡ t.0 = cc in
    absurd (not_again y ys d (left_has t.2 y (subst (λ zs. has_block zs y ≡ true) rest (in_last cs y)))))
    (left_cases (c ∷ cs ++ y ∷ []) y ys r)) q) p

-- past a block that has the first slot
behind_first : (f : Block → List Waiting) (c : Block) (cs : List Block) (ys : List Block) → AreApart (c ∷ ys) → (b : Block) → has_block ys b ≡ true
    → IsPlaced f (c ∷ cs) (c ∷ ys) b → IsPlaced f cs ys b
behind_first f c cs ys d b m p = ⊎_elim
    (λ (q : has_block (c ∷ cs) b ≡ true).
    by_test (λ t. (t || has_block cs b) ≡ true → same_block c b ≡ t → IsPlaced f cs ys b) (same_block c b)
    (λ _ _ is. absurd (not_again c ys d (subst (λ z. has_block ys z ≡ true) (sym (same_block_is c b is)) m)))
    (λ _ r _. inl r) q refl)
    (λ (q : (f b ≡ []) ⊎ IsSubsequence (c ∷ cs ++ b ∷ []) (c ∷ ys)). ⊎_elim
    (λ (r : f b ≡ []). inr (inl r))
    (λ (r : IsSubsequence (c ∷ cs ++ b ∷ []) (c ∷ ys)). ⊎_elim
    (λ (t : IsSubsequence (c ∷ cs ++ b ∷ []) ys). absurd (not_again c ys d (left_has t c (has_head c (cs ++ b ∷ [])))))
    (λ (t : (zs : List Block) × (c ∷ cs ++ b ∷ [] ≡ c ∷ zs) × IsSubsequence zs ys).
    let e = t.1 in
    let rest : cs ++ b ∷ [] ≡ t.0 = cc in
    inr (inr (subst (λ zs. IsSubsequence zs ys) (sym rest) t.2)))
    (left_cases (c ∷ cs ++ b ∷ []) c ys r)) q) p

later_in : (b y : Block) (ys : List Block) → has_block ys b ≡ true → has_block (y ∷ ys) b ≡ true
later_in b y ys m = by_test (λ t. (t || has_block ys b) ≡ true) (same_block y b) (λ same. refl) (λ other. m)

-- one block more before the slot's
parted_more :
    (f : Block → List Waiting) (P : Slot → Type 0) (u : Block × ℕ × Entry) (y : Block) (ys : List Block) → f y ≡ [] → Parted f P u ys → Parted f P u (y ∷ ys)
parted_more f P u y ys none r = record {
  before = y ∷ r.before;
  slot = r.slot;
  behind = r.behind;
  has = r.has;
  here = ap (λ bs. y ∷ bs) r.here;
  empty = λ i. none i ++ r.empty i;
  first = r.first;
}

-- where gone slots have no queue, the first slot's block is the first in the list that has one
pub parted : (f : Block → List Waiting) (P : Slot → Type 0) (u : Block × ℕ × Entry) → ((s : Slot) → P s → s.state ≡ None → f s.block ≡ [])
    → (ss : List Slot) (js : List Block)
    → IsSubsequence (blocks_of ss) js → AreApart js → ((b : Block) → has_block js b ≡ true → IsPlaced f (blocks_of ss) js b) → AllByRecursion P ss
    → front (queues_of ss) ≡ Some u
    → Parted f P u js
parted f P u gone [] js sub d placed all e = absurd (none-some _ e)
parted f P u gone (s ∷ ss) [] sub d placed all e = absurd (left_nothing s.block (blocks_of ss) sub)
parted f P u gone (s ∷ ss) (y ∷ ys) sub d placed all e = ⊎_elim
    (λ (t : IsSubsequence (blocks_of (s ∷ ss)) ys).
    parted_more f P u y ys (no_queue_past f s.block (blocks_of ss) y ys d t (placed y (has_head y ys)))
    (parted f P u gone (s ∷ ss) ys t d.1 (λ b m. past f s.block (blocks_of ss) y ys d t b (placed b (later_in b y ys m))) all e))
    (λ (t : (zs : List Block) × (blocks_of (s ∷ ss) ≡ y ∷ zs) × IsSubsequence zs ys).
    let both = t.1 in
    let same : s.block ≡ y = cc in
    let rest : blocks_of ss ≡ t.0 = cc in
    let left : IsSubsequence (blocks_of ss) ys = subst (λ zs. IsSubsequence zs ys) (sym rest) t.2 in
    subst (λ z. Parted f P u (z ∷ ys)) same
    (on (subst (λ z. AreApart (z ∷ ys)) (sym same) d) (subst (λ z. (b : Block) → has_block (z ∷ ys) b ≡ true → IsPlaced f (blocks_of (s ∷ ss)) (z ∷ ys) b)
    (sym same) placed)
    (λ apart at g. parted f P u gone ss ys left apart at all.1 g)
    (first_or_later s s.state ss u refl e)))
    (left_cases (blocks_of (s ∷ ss)) y ys sub)
  where
    on : AreApart (s.block ∷ ys) → ((b : Block) → has_block (s.block ∷ ys) b ≡ true → IsPlaced f (blocks_of (s ∷ ss)) (s.block ∷ ys) b)
        → (AreApart ys → ((b : Block) → has_block ys b ≡ true → IsPlaced f (blocks_of ss) ys b) → front (queues_of ss) ≡ Some u → Parted f P u ys)
        → (s.state ≡ None × (front (queues_of ss) ≡ Some u)) ⊎ FirstSlot u s → Parted f P u (s.block ∷ ys)
    on apart at later c = ⊎_elim
        (λ (q : s.state ≡ None × (front (queues_of ss) ≡ Some u)).
        parted_more f P u s.block ys (gone s all.0 q.0)
        (later apart.1 (λ b m. behind_first f s.block (blocks_of ss) ys apart b m (at b (later_in b s.block ys m))) q.1))
        (λ (q : FirstSlot u s). record { before = []; slot = s; behind = ys; has = all.0; here = refl; empty = refl; first = q })
        c
