-- A block as a world shows it at one handler, by its slot there. The rules' queue of a block is a function of five things that a world
-- shows: the log, the number of entries that ran, whether its End has run, whether a newer incarnation greeted, and the number of
-- entries reported as received. A slot gives all five, and so determines that queue.
use Rattle.scoop_rules.proofs.Names.{◌≡◌, ℕ, ◌+◌, List, [], ◌∷◌, ◌++◌, map, refl, sym, ap, ◌∙◌, arith, append-nil, true, if◌then◌else◌, ◌&&◌, take, false}
use Rattle.scoop_rules.proofs.Names.{true≢false, ◌||◌, length, Bool, ◌==◌, ◌⊎◌, nat_le, append_assoc, not, drop, length-append, IsTrue, take-append_seam}
use Rattle.scoop_rules.proofs.Names.{nat_tests, AllByRecursion, list_any, EndOnlyLast, is_end, same_block, Block, HandlerId, Entry, is_cut, Open, Ended, Cut}
use Rattle.scoop_rules.proofs.Names.{by_test, Ran, first_false, untold, numbered, World, ran_at, has_block, log_of, received, is_succeeded, has_end, and-false}
use Rattle.scoop_rules.proofs.Names.{le-leb, end_only_last, same_block_is, AreApart, IsToldAs, IsBegun, part_of, IsPart, slot_parts, length-part, none_ran}
use Rattle.scoop_rules.proofs.Names.{Slot, ran_of, blocks_of, count_of, Waiting, is_cut_off, is_gone, kept, queue_of, seen, Seen, state_of, has_ended, rest_of}
use Rattle.scoop_model.proofs.Names.{both}
use Rattle.std.proofs.Math.Seq.{drop-append_seam}
use Rattle.scoop_rules.proofs.Lists.{drop_more}

-- ---- where an End stands

not_so : (t : Bool) → IsTrue (not t) → t ≡ false
not_so true e = absurd (true≢false (sym e))
not_so false e = refl

-- in entries with an End only last there is none before the last
pub none_before : (xs : List Entry) (y : Entry) (ys : List Entry) → EndOnlyLast (xs ++ y ∷ ys) → has_end xs ≡ false
none_before [] y ys only = refl
none_before (x ∷ []) y ys only = ap (λ t. t || false) (not_so (is_end x) (both (not (is_end x)) (end_only_last (y ∷ ys)) only).0)
none_before (x ∷ z ∷ xs) y ys only =
    let b = both (not (is_end x)) (end_only_last (z ∷ xs ++ y ∷ ys)) only in (λ i. not_so (is_end x) b.0 i || has_end (z ∷ xs)) ∙ none_before (z ∷ xs) y ys b.1

pub no_end_left : (xs ys : List Entry) → has_end (xs ++ ys) ≡ false → has_end xs ≡ false
no_end_left [] ys e = refl
no_end_left (x ∷ xs) ys e =
    by_test (λ t. (t || has_end (xs ++ ys)) ≡ false → (t || has_end xs) ≡ false) (is_end x) (λ _ f. absurd (true≢false f)) (λ _ f. no_end_left xs ys f) e

-- ---- what ran of a block, by what ran

pub ended_part : (b : Block) (rs : List Ran) → has_ended b rs ≡ list_any (λ r. is_end r.entry) (part_of rs b)
ended_part b [] = refl
ended_part b (r ∷ rs) = grind (arith, has_ended, list_any, part_of, (ended_part b rs))

ended_told : (b : Block) (n : ℕ) (rs : List Ran) (es : List Entry) → map untold rs ≡ numbered b n es → list_any (λ r. is_end r.entry) rs ≡ has_end es
ended_told b n [] [] e = refl
ended_told b n (r ∷ rs) (x ∷ xs) e =
    let head : untold r ≡ (b, n, x) = cc in
    let tail : map untold rs ≡ numbered b (n + 1) xs = cc in
    λ i. is_end (head i).2 || ended_told b (n + 1) rs xs tail i
ended_told b n rs es e = absurd (cc)

pub count_slot : (rs : List Ran) (t : Slot) → IsPart rs t → count_of t.block rs ≡ length t.ran
count_slot rs t told = length-part (part_of rs t.block) t told

pub ended_slot : (rs : List Ran) (t : Slot) → IsPart rs t → has_ended t.block rs ≡ has_end t.ran
ended_slot rs t told = ended_part t.block rs ∙ ended_told t.block 1 (part_of rs t.block) t.ran told

-- ---- a block with a slot, as it is seen

-- the block as its slot has it, with what was logged and not received
abbrev pub slot_seen : List Entry → List Entry → List Entry → Bool → Seen
slot_seen ran rest more newer =
    record { logged = (ran ++ rest) ++ more; count = length ran; over = has_end ran; newer = newer; received = length (ran ++ rest) }

pub record IsSeen (w : World) (h : HandlerId) (t : Slot) : Type 0 where
  pub more : List Entry
  pub is : seen t.block h w ≡ slot_seen t.ran t.rest more (is_succeeded t.block h w)

seen_slot : (w : World) (h : HandlerId) (t : Slot) → IsPart (ran_at h w) t → IsBegun (λ b. log_of b h w) t → IsToldAs w h t → IsSeen w h t
seen_slot w h t part begun told = grind (arith, count_slot, ran_at, ended_slot, received)

pub all_seen : (w : World) (h : HandlerId) (ss : List Slot) → map untold (ran_at h w) ≡ ran_of ss → AreApart (blocks_of ss)
    → AllByRecursion (IsBegun (λ b. log_of b h w)) ss → AllByRecursion (IsToldAs w h) ss → AllByRecursion (IsSeen w h) ss
all_seen w h ss ran apart begun told = all ss (slot_parts (ran_at h w) ss ran apart) begun told
  where
    all : (ts : List Slot) → AllByRecursion (IsPart (ran_at h w)) ts → AllByRecursion (IsBegun (λ b. log_of b h w)) ts → AllByRecursion (IsToldAs w h) ts
        → AllByRecursion (IsSeen w h) ts
    all [] p b t = tt
    all (s ∷ ts) p b t = (seen_slot w h s p.0 b.0 t.0, all ts p.1 b.1 t.1)

-- a block without a slot
pub seen_none :
    (w : World) (h : HandlerId) (ss : List Slot) (b : Block) → map untold (ran_at h w) ≡ ran_of ss → has_block (blocks_of ss) b ≡ false → received b h w ≡ 0
    → seen b h w ≡ record { logged = log_of b h w; count = 0; over = false; newer = is_succeeded b h w; received = 0 }
seen_none w h ss b ran none told = grind (arith, part_of, ran_at, none_ran, has_ended, ended_part, list_any, received)

-- ---- the slot of a block

pub record SlotOf (P : Slot → Type 0) (b : Block) : Type 0 where
  pub slot : Slot
  pub block : slot.block ≡ b
  pub has : P slot

pub slot_at : (P : Slot → Type 0) (ss : List Slot) (b : Block) → has_block (blocks_of ss) b ≡ true → AllByRecursion P ss → SlotOf P b
slot_at P [] b e all = absurd (true≢false (sym e))
slot_at P (s ∷ ss) b e all =
    by_test (λ t. (t || has_block (blocks_of ss) b) ≡ true → same_block s.block b ≡ t → SlotOf P b) (same_block s.block b)
    (λ _ _ is. record { slot = s; block = same_block_is s.block b is; has = all.0 })
    (λ _ f _. slot_at P ss b f all.1) e refl

-- ---- the queue of a block

-- nothing was received, and a newer incarnation has greeted
pub none_queue : (b : Block) (log : List Entry) → queue_of b (record { logged = log; count = 0; over = false; newer = true; received = 0 }) ≡ []
none_queue b log = refl

-- the private queue is gone
pub gone_queue : (b : Block) (ran rest more : List Entry) (newer : Bool) → rest ≡ [] → (has_end ran ≡ true) ⊎ (newer ≡ true)
    → queue_of b (slot_seen ran rest more newer) ≡ []
gone_queue b ran rest more newer none why = grind (arith, received, take, take-append_seam, append-nil, nat_le, le-leb, kept)

-- the private queue has a first entry
pub record HasFirst (s : Seen) (x : Entry) : Type 0 where
  pub there : is_gone s ≡ false
  pub later : List Entry
  pub entries : drop s.count (kept s) ≡ x ∷ later

pub first_queue : (ran : List Entry) (x : Entry) (es more : List Entry) (newer : Bool) → has_end ran ≡ false → HasFirst (slot_seen ran (x ∷ es) more newer) x
first_queue ran x es more newer e =
    let s : Seen = slot_seen ran (x ∷ es) more newer in
    let took : take (length (ran ++ x ∷ es)) ((ran ++ x ∷ es) ++ more) ≡ ran ++ x ∷ es = take-append_seam (ran ++ x ∷ es) more in
    by_test (λ _. HasFirst s x) (is_cut_off s)
    (λ c. record {
      there = (λ i. e i || is_cut_off s && (ap (λ ys. nat_le (length ys) (length ran)) took ∙ longer) i) ∙ and-false (is_cut_off s);
      later = es;
      entries = ap (λ t. drop (length ran) (if t then take (length (ran ++ x ∷ es)) ((ran ++ x ∷ es) ++ more) else (ran ++ x ∷ es) ++ more)) c
          ∙ ap (drop (length ran)) took ∙ drop-append_seam ran (x ∷ es);
    })
    (λ c. record {
      there = (λ i. e i || is_cut_off s && (ap (λ ys. nat_le (length ys) (length ran)) took ∙ longer) i) ∙ and-false (is_cut_off s);
      later = es ++ more;
      entries = ap (λ t. drop (length ran) (if t then take (length (ran ++ x ∷ es)) ((ran ++ x ∷ es) ++ more) else (ran ++ x ∷ es) ++ more)) c
          ∙ ap (drop (length ran)) (append_assoc ran (x ∷ es) more) ∙ drop-append_seam ran (x ∷ es ++ more);
    })
  where
    longer : nat_le (length (ran ++ x ∷ es)) (length ran) ≡ false
    longer = let l = length-append ran (x ∷ es) in grind (arith, nat_tests)

-- ---- the queue once its first entry has run

pub ran_queue : (b : Block) (s : Seen) (x : Entry) (f : HasFirst s x)
    → queue_of b (record { logged = s.logged; count = s.count + 1; over = s.over || is_end x; newer = s.newer; received = s.received })
    ≡ rest_of record { block = b; entries = x ∷ f.later; state = state_of s } x f.later
ran_queue b s x f =
    let next = drop_more s.count (kept s) f.later x f.entries in
    let over : s.over ≡ false = first_false s.over (is_cut_off s && nat_le (length (take s.received s.logged)) s.count) f.there in
    let q : Waiting = record { block = b; entries = x ∷ f.later; state = state_of s } in
    (λ i.
    if (over i || is_end x) || is_cut_off s && nat_le (length (take s.received s.logged)) (s.count + 1) then []
    else record { block = b; entries = next.0 i; state = state_of s } ∷ [])
    ∙ by_test (λ t. (if is_end x || t && nat_le (length (take s.received s.logged)) (s.count + 1) then []
    else record { block = b; entries = f.later; state = state_of s } ∷ []) ≡ rest_of q x f.later)
    (is_cut_off s)
    (λ c.
    let long : length (take s.received s.logged) ≡ s.count + 1 + length f.later =
    ap (λ t. length (if t then take s.received s.logged else s.logged)) (sym c) ∙ next.1 in
    let same : nat_le (length (take s.received s.logged)) (s.count + 1) ≡ (is_cut (state_of s) && length f.later == 0) =
    same_length f.later (length (take s.received s.logged)) (s.count + 1) long
    ∙ sym (ap (λ t. is_cut (if t then Cut else if has_end s.logged then Ended else Open) && length f.later == 0) c) in
    λ i. if is_end x || same i then [] else record { block = b; entries = f.later; state = state_of s } ∷ [])
    (λ c.
    let same : false ≡ (is_cut (state_of s) && length f.later == 0) =
    uncut (has_end s.logged) (length f.later == 0)
    ∙ sym (ap (λ t. is_cut (if t then Cut else if has_end s.logged then Ended else Open) && length f.later == 0) c) in
    λ i. if is_end x || same i then [] else record { block = b; entries = f.later; state = state_of s } ∷ [])
  where
    uncut : (t u : Bool) → false ≡ (is_cut (if t then Ended else Open) && u)
    uncut true u = refl
    uncut false u = refl

    same_length : (ys : List Entry) (m n : ℕ) → m ≡ n + length ys → nat_le m n ≡ (length ys == 0)
    same_length [] m n e = grind (arith, nat_tests)
    same_length (y ∷ ys) m n e = grind (arith, nat_tests)
