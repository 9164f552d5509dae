-- The entries that ran at a handler, in the terms of its slots, are its tape: block after block in the order of their opening, a
-- beginning of each block's log.
use Rattle.scoop_model.proofs.Names.{◌≡◌, ℕ, ◌+◌, List, [], ◌∷◌, ◌++◌, map, Some, refl, sym, ap, ◌∙◌, subst, arith, append-nil, true, suc, take, slice_get}
use Rattle.scoop_model.proofs.Names.{false, true≢false, ◌||◌, length, Bool, append_assoc, filter, flat_map, take-append_seam, length-map, filter-append}
use Rattle.scoop_model.proofs.Names.{AllByRecursion, NoRepeats, same_block, Block, Entry, same_block-sym, PrivateQueue, by_test, Ran, IsSubsequence, nothing}
use Rattle.scoop_model.proofs.Names.{Tape, left_out, untold, numbered, World, Site, number_of, has_block, log_of, map-append, Message, job-front, row, hear}
use Rattle.scoop_model.proofs.Names.{Task, ran_of as ran_task, job_out, IsState, heard_site, finished_site, Placement, new_site}
use Rattle.scoop_model.specs.Safe.{taken}
use Rattle.scoop_model.proofs.Order.{AreApart, same_block_is, same_block_itself}
use Rattle.scoop_model.proofs.Tape.Slots.{Slot, ran_in, ran_of, blocks_of, slots_run}
use Rattle.scoop_model.proofs.Tape.Fits.{IsBegun, TapeFits, IsBeginningOf, tape_more, run_tape}
use Rattle.scoop_model.proofs.Tape.Taking.{StandsIfLog, slots_after, row_tape}

-- ---- blocks that don't repeat

block_at : (bs : List Block) (b : Block) → has_block bs b ≡ true → (k : ℕ) × (slice_get bs k ≡ Some b)
block_at [] b e = absurd (true≢false (sym e))
block_at (x ∷ xs) b e =
    by_test (λ t. (t || has_block xs b) ≡ true → same_block x b ≡ t → (k : ℕ) × (slice_get (x ∷ xs) k ≡ Some b)) (same_block x b)
    (λ same _ is. (0, ap Some (same_block_is x b is)))
    (λ other f _. let later = block_at xs b f in (suc later.0, later.1)) e refl

pub once_apart : (bs : List Block) → NoRepeats bs → AreApart bs
once_apart [] once = tt
once_apart (b ∷ bs) once = (
  by_test (λ t. t ≡ false) (has_block bs b)
      (λ e. let p = block_at bs b e in absurd (not_zero p.0 (once 0 (suc p.0) b refl p.1)))
      (λ e. refl),
  once_apart bs (λ i j x e f. let same = once (suc i) (suc j) x e f in omega (arith, same)),
)
  where
    not_zero : (k : ℕ) → 0 ≡ suc k → ⊥
    not_zero k e = omega (arith, e)

-- a list without a block leaves no list with it
pub left_without : {xs ys : List Block} → IsSubsequence xs ys → (b : Block) → has_block ys b ≡ false → has_block xs b ≡ false
left_without nothing b e = refl
left_without (left_out y xs ys s) b e =
    by_test (λ t. (t || has_block ys b) ≡ false → has_block xs b ≡ false) (same_block y b) (λ same f. absurd (true≢false f)) (λ other f. left_without s b f) e
left_without (taken y xs ys s) b e = grind (arith, left_without s b)

pub left_apart : {xs ys : List Block} → IsSubsequence xs ys → AreApart ys → AreApart xs
left_apart nothing d = tt
left_apart (left_out y xs ys s) d = left_apart s d.1
left_apart (taken y xs ys s) d = (left_without s y d.0, left_apart s d.1)

-- ---- parts of what ran

abbrev of_block : Block → Ran → Bool
of_block b r = same_block r.block b

-- of all that ran, what is of the block
abbrev pub part_of : List Ran → Block → List Ran
part_of rs b = filter (of_block b) rs

-- two parts, where what they tell are two parts
record Split (rs : List Ran) (us vs : List (Block × ℕ × Entry)) : Type 0 where
  first : List Ran
  later : List Ran
  all : first ++ later ≡ rs
  first_told : map untold first ≡ us
  later_told : map untold later ≡ vs

split_next : (r : Ran) (u : Block × ℕ × Entry) (rs : List Ran) (us vs : List (Block × ℕ × Entry)) → untold r ≡ u → Split rs us vs → Split (r ∷ rs) (u ∷ us) vs
split_next r u rs us vs head s = record {
  first = r ∷ s.first;
  later = s.later;
  all = ap (λ xs. r ∷ xs) s.all;
  first_told = λ i. head i ∷ s.first_told i;
  later_told = s.later_told;
}

split_at : (rs : List Ran) (us vs : List (Block × ℕ × Entry)) → map untold rs ≡ us ++ vs → Split rs us vs
split_at rs [] vs e = record { first = []; later = rs; all = refl; first_told = refl; later_told = e }
split_at [] (u ∷ us) vs e = absurd (cc)
split_at (r ∷ rs) (u ∷ us) vs e = grind (arith, split_next, split_at rs us vs)

-- the numbered entries of a block are of that block
all_of : (rs : List Ran) (b : Block) (n : ℕ) (es : List Entry) → map untold rs ≡ numbered b n es → part_of rs b ≡ rs
all_of [] b n es e = refl
all_of (r ∷ rs) b n [] e = absurd (cc)
all_of (r ∷ rs) b n (x ∷ xs) e = grind (arith, same_block_itself, all_of rs b)

-- and of no other
none_of : (rs : List Ran) (b c : Block) (n : ℕ) (es : List Entry) → map untold rs ≡ numbered b n es → same_block b c ≡ false → part_of rs c ≡ []
none_of [] b c n es e other = refl
none_of (r ∷ rs) b c n [] e other = absurd (cc)
none_of (r ∷ rs) b c n (x ∷ xs) e other = grind (arith, none_of rs b c)

-- a block that isn't among the slots has run nothing
pub none_ran : (rs : List Ran) (ss : List Slot) (b : Block) → map untold rs ≡ ran_of ss → has_block (blocks_of ss) b ≡ false → part_of rs b ≡ []
none_ran rs [] b e none = none_told rs e
  where
    none_told : (rs : List Ran) → map untold rs ≡ [] → part_of rs b ≡ []
    none_told [] e = refl
    none_told (r ∷ rs) e = absurd (cc)
none_ran rs (s ∷ ss) b e none =
    let p = split_at rs (ran_in s) (ran_of ss) e in
    by_test (λ t. (t || has_block (blocks_of ss) b) ≡ false → same_block s.block b ≡ t → part_of rs b ≡ []) (same_block s.block b)
    (λ same f _. absurd (true≢false f))
    (λ other f is.
    ap (λ xs. part_of xs b) (sym p.all) ∙ filter-append (of_block b) p.first p.later
    ∙ (λ i. none_of p.first s.block b 1 s.ran p.first_told is i ++ none_ran p.later ss b p.later_told f i)) none refl

-- ---- in turn

-- the parts of other blocks are those of the later part
parts_later : (rs qs : List Ran) (s : Slot) (bs : List Block) → map untold rs ≡ ran_in s → has_block bs s.block ≡ false
    → flat_map (part_of (rs ++ qs)) bs ≡ flat_map (part_of qs) bs
parts_later rs qs s [] e none = refl
parts_later rs qs s (b ∷ bs) e none = grind (arith, filter-append, none_of, same_block-sym, parts_later rs qs s bs e)

-- the first block's part is the first part
own_part : (rs qs : List Ran) (s : Slot) (ss : List Slot) → map untold rs ≡ ran_in s → map untold qs ≡ ran_of ss → has_block (blocks_of ss) s.block ≡ false
    → part_of (rs ++ qs) s.block ≡ rs
own_part rs qs s ss first later apart = grind (arith, filter-append, all_of, none_ran, append-nil)

in_turn : (rs : List Ran) (ss : List Slot) → map untold rs ≡ ran_of ss → AreApart (blocks_of ss) → rs ≡ flat_map (part_of rs) (blocks_of ss)
in_turn [] [] e apart = refl
in_turn (r ∷ rs) [] e apart = absurd (cc)
in_turn rs (s ∷ ss) e apart =
    let p = split_at rs (ran_in s) (ran_of ss) e in
    let here = own_part p.first p.later s ss p.first_told p.later_told apart.0 in
    let behind : flat_map (part_of (p.first ++ p.later)) (blocks_of ss) ≡ p.later =
    parts_later p.first p.later s (blocks_of ss) p.first_told apart.0 ∙ sym (in_turn p.later ss p.later_told apart.1) in
    sym p.all ∙ sym (λ i. here i ++ behind i) ∙ ap (λ xs. flat_map (part_of xs) (blocks_of (s ∷ ss))) p.all

-- ---- each slot's part

-- a property of each slot, if none is of the given block
all_others : (P Q : Slot → Type 0) (b : Block) (ss : List Slot) → has_block (blocks_of ss) b ≡ false → ((t : Slot) → same_block t.block b ≡ false → P t → Q t)
    → AllByRecursion P ss → AllByRecursion Q ss
all_others P Q b [] none f all = tt
all_others P Q b (t ∷ ts) none f all = grind (arith, all_others P Q b ts)

-- the slot has exactly the entries that ran of its block
abbrev pub IsPart : List Ran → Slot → Type 0
IsPart rs t = map untold (part_of rs t.block) ≡ ran_in t

pub slot_parts : (rs : List Ran) (ss : List Slot) → map untold rs ≡ ran_of ss → AreApart (blocks_of ss) → AllByRecursion (IsPart rs) ss
slot_parts rs [] e apart = tt
slot_parts rs (s ∷ ss) e apart =
    let p = split_at rs (ran_in s) (ran_of ss) e in
    subst (λ xs. AllByRecursion (IsPart xs) (s ∷ ss)) p.all (
      ap (map untold) (own_part p.first p.later s ss p.first_told p.later_told apart.0) ∙ p.first_told,
      all_others (IsPart p.later) (IsPart (p.first ++ p.later)) s.block ss apart.0
          (λ t other is.
          let same : part_of p.later t.block ≡ part_of (p.first ++ p.later) t.block =
          sym (filter-append (of_block t.block) p.first p.later
          ∙ ap (λ xs. xs ++ part_of p.later t.block) (none_of p.first s.block t.block 1 s.ran p.first_told (same_block-sym t.block s.block other))) in
          ap (map untold) (sym same) ∙ is)
          (slot_parts p.later ss p.later_told apart.1),
    )

-- ---- beginnings

-- the entries of the block that ran are the first of its log
abbrev IsFirst : (Block → List Entry) → List Ran → Block → Type 0
IsFirst log rs b = map untold (part_of rs b) ≡ numbered b 1 (take (length (part_of rs b)) (log b))

length-numbered : (b : Block) (n : ℕ) (es : List Entry) → length (numbered b n es) ≡ length es
length-numbered b n [] = refl
length-numbered b n (e ∷ es) = ap suc (length-numbered b (n + 1) es)

pub length-part : (rs : List Ran) (t : Slot) → map untold rs ≡ ran_in t → length rs ≡ length t.ran
length-part rs t told = sym (length-map rs untold) ∙ ap length told ∙ length-numbered t.block 1 t.ran

first_entries : (log : Block → List Entry) (rs : List Ran) (t : Slot) → map untold rs ≡ ran_in t → IsBegun log t
    → map untold rs ≡ numbered t.block 1 (take (length rs) (log t.block))
first_entries log rs t told i =
    let starts : take (length t.ran) (log t.block) ≡ t.ran =
    ap (take (length t.ran)) (sym (sym (append_assoc t.ran t.rest i.behind) ∙ i.all)) ∙ take-append_seam t.ran (t.rest ++ i.behind) in
    told ∙ ap (numbered t.block 1) (sym (ap (λ n. take n (log t.block)) (length-part rs t told) ∙ starts))

all_firsts : (log : Block → List Entry) (rs : List Ran) (ss : List Slot) → AllByRecursion (IsPart rs) ss → AllByRecursion (IsBegun log) ss
    → AllByRecursion (IsFirst log rs) (blocks_of ss)
all_firsts log rs [] parts begun = tt
all_firsts log rs (s ∷ ss) parts begun = (first_entries log (part_of rs s.block) s parts.0 begun.0, all_firsts log rs ss parts.1 begun.1)

-- ---- the tape of a site

pub tape_shown : (w : World) (s : Site) (qs : List PrivateQueue) (ss : List Slot) → AreApart s.opened
    → TapeFits (λ b. log_of b (number_of s) w) qs s.opened (map untold s.ran) ss → Tape w s
tape_shown w s qs ss apart f =
    let slots_apart : AreApart (blocks_of ss) = subst AreApart f.opened apart in
    let log : Block → List Entry = λ b. log_of b (number_of s) w in
    record {
      in_turn = in_turn s.ran ss f.ran slots_apart ∙ ap (flat_map (part_of s.ran)) (sym f.opened);
      beginnings = subst (AllByRecursion (IsFirst log s.ran)) (sym f.opened) (all_firsts log s.ran ss (slot_parts s.ran ss f.ran slots_apart) f.begun);
    }

-- ---- the slots of one site, as each kind of event changes it

-- the slots fit what the handler keeps, what opened there, and what has run there
abbrev pub SiteTape : (Block → List Entry) → Site → List Slot → Type 0
SiteTape log s ss = TapeFits log s.core.state.queues s.opened (map untold s.ran) ss

-- the log of each block at the site's handler
abbrev pub logs_at : World → Site → Block → List Entry
logs_at w s b = log_of b (number_of s) w

pub placed_tape : (log : Block → List Entry) (p : Placement) → SiteTape log (new_site p) []
placed_tape log p = record { opened = refl; queues = refl; ran = refl; turn = tt; begun = tt }

-- the slots after a message
abbrev pub slots_heard : Site → Message → List Slot → List Slot
slots_heard s m ss = slots_after s.core.state m (hear s.core.state m) (row s.core.state m) ss

module _ (log : Block → List Entry) (s : Site) (ss : List Slot) (f : SiteTape log s ss) where
  pub heard_tape : (m : Message) → IsState s.core.state → StandsIfLog log m → SiteTape log (heard_site s (hear s.core.state m)) (slots_heard s m ss)
  heard_tape m is stand = row_tape log s.core.state m (hear s.core.state m) (row s.core.state m) s.opened (map untold s.ran) ss is stand f

  pub finished_tape : (t : Task) → job_out s.core ≡ Some t → SiteTape log (finished_site s t) (slots_run ss)
  finished_tape t out =
      let u : Block × ℕ × Entry = (t.block, t.number, t.entry) in
      let runs = run_tape log s.core.state.queues s.opened (map untold s.ran) ss f u (job-front s.core t out) in
      subst (λ us. TapeFits log (finished_site s t).core.state.queues s.opened us (slots_run ss)) (sym (map-append untold s.ran (ran_task t ∷ []))) runs

  pub grown_tape : (more : Block → List Entry) → ((b : Block) → IsBeginningOf (log b) (more b)) → SiteTape more s ss
  grown_tape more grow = tape_more log more grow s.core.state.queues s.opened (map untold s.ran) ss f

-- the blocks that opened here are a part of the common list, so no block repeats
pub site_tape_shown :
    (w : World) (s : Site) (js : List Block) (ss : List Slot) → NoRepeats js → IsSubsequence s.opened js → SiteTape (logs_at w s) s ss → Tape w s
site_tape_shown w s js ss once left f = tape_shown w s s.core.state.queues ss (left_apart left (once_apart js once)) f
