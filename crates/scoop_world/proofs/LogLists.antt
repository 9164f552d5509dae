-- The calls on the map of blocks, as changes of the logs that it keeps. The map has each block once, in the order of
-- the reserves, which is the order of the logs. An insert of a new block puts its log at the end, and a write at a
-- block's place changes its log alone. A lookup finds the place of the block's first log, which is its only one.
use Rattle.std.proofs.Common.{◌≡◌, ℕ, zero, suc, ◌+◌, ◌<◌, ◌≤◌, Bool, true, false, ◌||◌, cond, List, [], ◌∷◌, ◌++◌, length, map, slice_get, Option, None, Some}
use Rattle.std.proofs.Common.{position, MatchOption, nat_lt, refl, sym, ap, ◌∙◌, subst, arith}
use Rattle.std.specs.List.{AllByRecursion, IsDistinct, list_any, position_or_len}
use Rattle.std.specs.Map.{keys_of, values_of}
use Rattle.std.specs.Prelude.{Vec, if◌then◌else◌}
use Rattle.std.proofs.lemmas.Bool.{ltb-true, ltb-false}
use Rattle.std.proofs.lemmas.Bool.Decides.{same_from_decides}
use Rattle.std.proofs.lemmas.List.{length-map}
use Rattle.std.proofs.lemmas.Option.{slice_get-map}
use Rattle.std.specs.Option.{option_map}
use Rattle.indexmap.specs.IndexMap.{insert_entry, set_value_at}
use Rattle.indexmap.specs.IndexSet.{insert_key}
use Rattle.scoop_message.specs.contracts.name.BlockPartialEq.TheImpl as on_block
use Rattle.scoop_message.specs.declared.name.Block.{Block}
use Rattle.scoop_message.specs.Message.{same_block}
use Rattle.scoop_message.proofs.Same.{block_decides}
use Rattle.scoop_world.specs.declared.logs.LoggedAt.{LoggedAt}
use Rattle.scoop_model.specs.World.{HandlerLog, BlockLog, has_block, is_log_of, shares_of}
use Rattle.scoop_model.specs.Step.{changed_log, joined}
use Rattle.scoop_world.specs.Kept.{has_log, logged_kept, block_log, log_kept, logs_kept, IsPlaceOf}

abbrev Entries : Type 0 → Type 0
Entries A = List (Block × Vec (LoggedAt A) A)

abbrev same_key : Block → Block → Bool
same_key = on_block.eq-value.it

-- the order in which two blocks are compared doesn't matter
flipped : (a b : Block) → same_block a b ≡ same_key b a
flipped a b = same_from_decides (same_block a b) (same_key b a) (block_decides a b) ((λ e. sym ((block_decides b a).0 e)), (λ e. (block_decides b a).1 (sym e)))

any_flipped : (b : Block) (bs : List Block) → list_any (same_key b) bs ≡ has_block bs b
any_flipped b [] = refl
any_flipped b (x ∷ xs) = ap (λ t. t || list_any (same_key b) xs) (sym (flipped x b)) ∙ ap (λ t. same_block x b || t) (any_flipped b xs)

-- a block that joins the set of the common list joins that list
pub inserted : (b : Block) (bs : List Block) → insert_key same_key bs b ≡ joined bs (b ∷ [])
inserted b bs = ap (λ t. if t then bs else bs ++ b ∷ []) (any_flipped b bs)

-- ---- the place of a block's log

-- the first key that passes is that of the block's log
place-first : {A : Type 0} → (b : Block) (e : Block × Vec (LoggedAt A) A) (es : Entries A) (n : ℕ) → position_or_len (same_key b) (keys_of (e ∷ es)) ≡ n
    → ((m : ℕ) → position_or_len (same_key b) (keys_of es) ≡ m → suc m ≡ n → IsPlaceOf b (logs_kept es) m) → IsPlaceOf b (logs_kept (e ∷ es)) n
place-first b e es n is rest = by (same_key b e.0) refl
  where
    by : (t : Bool) → same_key b e.0 ≡ t → IsPlaceOf b (logs_kept (e ∷ es)) n
    by true same = subst (IsPlaceOf b (logs_kept (e ∷ es))) (rw same at is) (flipped e.0 b ∙ same)
    by false other =
        let m = position_or_len (same_key b) (keys_of es) in
        let later : 1 + m ≡ n = rw other at is in
        let next : suc m ≡ n = omega (arith, later) in
        subst (IsPlaceOf b (logs_kept (e ∷ es))) next (flipped e.0 b ∙ other, rest m refl next)

place-position :
    {A : Type 0} → (b : Block) (es : Entries A) (n : ℕ) → position_or_len (same_key b) (keys_of es) ≡ n → n < length es → IsPlaceOf b (logs_kept es) n
place-position b [] n is within = absurd (omega arith)
place-position b (e ∷ es) n is within = place-first b e es n is (λ m at next. place-position b es m at (omega (arith, next, within)))

none-first : {A : Type 0} → (b : Block) (e : Block × Vec (LoggedAt A) A) (es : Entries A) → length (e ∷ es) ≤ position_or_len (same_key b) (keys_of (e ∷ es))
    → (length es ≤ position_or_len (same_key b) (keys_of es) → has_log b (logs_kept es) ≡ false) → has_log b (logs_kept (e ∷ es)) ≡ false
none-first b e es past rest = by (same_key b e.0) refl
  where
    by : (t : Bool) → same_key b e.0 ≡ t → has_log b (logs_kept (e ∷ es)) ≡ false
    by true same = let none : length (e ∷ es) ≤ 0 = rw same at past in absurd (omega arith)
    by false other =
        let later : length (e ∷ es) ≤ 1 + position_or_len (same_key b) (keys_of es) = rw other at past in
        let is : is_log_of b (log_kept e) ≡ false = flipped e.0 b ∙ other in
        rw is (rest (omega (arith, later)))

none-position : {A : Type 0} → (b : Block) (es : Entries A) → length es ≤ position_or_len (same_key b) (keys_of es) → has_log b (logs_kept es) ≡ false
none-position b [] past = refl
none-position b (e ∷ es) past = none-first b e es past (none-position b es)

pub place-found :
    {A : Type 0} → (b : Block) (es : Entries A) (r : Option ℕ) → r ≡ position (same_key b) (keys_of es)
    → MatchOption r (has_log b (logs_kept es) ≡ false) (IsPlaceOf b (logs_kept es))
place-found {A} b es r is = by (nat_lt (position_or_len (same_key b) (keys_of es)) (length (keys_of es))) refl
  where
    by :
        (t : Bool) → nat_lt (position_or_len (same_key b) (keys_of es)) (length (keys_of es)) ≡ t
        → MatchOption r (has_log b (logs_kept es) ≡ false) (IsPlaceOf b (logs_kept es))
    by true inside =
        let n = position_or_len (same_key b) (keys_of es) in
        let at : r ≡ Some n = is ∙ ap (λ t. cond t (Some n) None) inside in
        let within : n < length es = omega (arith, ltb-true _ _ inside, length-map es (λ (e : Block × Vec (LoggedAt A) A). e.0)) in
        let Q : Option ℕ → Type 0 = λ o. MatchOption o (has_log b (logs_kept es) ≡ false) (IsPlaceOf b (logs_kept es)) in
        subst Q (sym at) (place-position b es n refl within)
    by false outside =
        let n = position_or_len (same_key b) (keys_of es) in
        let none : r ≡ None = is ∙ ap (λ t. cond t (Some n) None) outside in
        let past : length es ≤ n = omega (arith, ltb-false _ _ outside, length-map es (λ (e : Block × Vec (LoggedAt A) A). e.0)) in
        let Q : Option ℕ → Type 0 = λ o. MatchOption o (has_log b (logs_kept es) ≡ false) (IsPlaceOf b (logs_kept es)) in
        subst Q (sym none) (none-position b es past)

-- ---- blocks without a log

-- a disjunction is false only if both its parts are
both_false : (t u : Bool) → (t || u) ≡ false → (t ≡ false) × (u ≡ false)
both_false true u e = absurd (cc)
both_false false u e = (refl, e)

pub no_shares : (b : Block) (logs : List BlockLog) → has_log b logs ≡ false → shares_of b logs ≡ []
no_shares b [] none = refl
no_shares b (l ∷ ls) none =
    let p = both_false (is_log_of b l) (has_log b ls) none in
    rw (p.0) (no_shares b ls p.1)

pub none_changed : (b : Block) (f : HandlerLog → HandlerLog) (logs : List BlockLog) → has_log b logs ≡ false → map (changed_log b f) logs ≡ logs
none_changed b f [] none = refl
none_changed b f (l ∷ ls) none =
    let p = both_false (is_log_of b l) (has_log b ls) none in
    rw (p.0) (ap (λ xs. l ∷ xs) (none_changed b f ls p.1))

-- a block without a log gets the last one
pub kept-insert : {A : Type 0} → (b : Block) (v : Vec (LoggedAt A) A) (es : Entries A) → has_log b (logs_kept es) ≡ false
    → logs_kept (insert_entry same_key es b v) ≡ logs_kept es ++ block_log b v.items ∷ []
kept-insert b v [] none = refl
kept-insert b v (e ∷ es) none =
    let p = both_false (is_log_of b (log_kept e)) (has_log b (logs_kept es)) none in
    let other : same_key b e.0 ≡ false = sym (flipped e.0 b) ∙ p.0 in
    rw other (ap (λ ls. log_kept e ∷ ls) (kept-insert b v es p.1))

-- ---- the log of a block

pub shares-place :
    {A : Type 0} → (b : Block) (p : Vec (LoggedAt A) A) (es : Entries A) (i : ℕ) → IsPlaceOf b (logs_kept es) i → slice_get (values_of es) i ≡ Some p
    → shares_of b (logs_kept es) ≡ map logged_kept p.items
shares-place b p [] i place is = absurd place
shares-place b p (e ∷ es) zero place is =
    let here : e.1 ≡ p = cc in
    rw (place, here) refl
shares-place b p (e ∷ es) (suc i) place is = rw (place.0) (shares-place b p es i place.1 is)

-- no other entry is of this block
others-stay :
    {A : Type 0} → (b : Block) (f : HandlerLog → HandlerLog) (k : Block) (es : Entries A) → k ≡ b → AllByRecursion (λ y. same_key k y ≡ false) (keys_of es)
    → map (changed_log b f) (logs_kept es) ≡ logs_kept es
others-stay b f k [] is apart = refl
others-stay b f k (e ∷ es) is apart =
    let other : same_block e.0 b ≡ false = flipped e.0 b ∙ (ap (λ c. same_key c e.0) (sym is) ∙ apart.0) in
    rw other (ap (λ ls. log_kept e ∷ ls) (others-stay b f k es is apart.1))

first_apart : (k : Block) (ks : List Block) → IsDistinct same_key (k ∷ ks) → AllByRecursion (λ y. same_key k y ≡ false) ks
unfolding IsDistinct
first_apart k ks d = d.0

rest_apart : (k : Block) (ks : List Block) → IsDistinct same_key (k ∷ ks) → IsDistinct same_key ks
unfolding IsDistinct
rest_apart k ks d = d.1

-- a write of a value at the block's place
pub kept-set : {A : Type 0} → (b : Block) (f : HandlerLog → HandlerLog) (p v : Vec (LoggedAt A) A) (es : Entries A) (i : ℕ) → IsDistinct same_key (keys_of es)
    → IsPlaceOf b (logs_kept es) i → slice_get (values_of es) i ≡ Some p → map logged_kept v.items ≡ map f (map logged_kept p.items)
    → logs_kept (set_value_at es i v) ≡ map (changed_log b f) (logs_kept es)
kept-set b f p v [] i apart place is becomes = absurd place
kept-set b f p v (e ∷ es) zero apart place is becomes =
    let here : e.1 ≡ p = cc in
    let own : e.0 ≡ b = (block_decides e.0 b).0 place in
    let rest = others-stay b f e.0 es own (first_apart e.0 (keys_of es) apart) in
    rw (place, here, becomes, rest) refl
kept-set b f p v (e ∷ es) (suc i) apart place is becomes =
    rw (place.0) (ap (λ ls. log_kept e ∷ ls) (kept-set b f p v es i (rest_apart e.0 (keys_of es) apart) place.1 is becomes))

-- a write of shares that look as they did
pub kept-same :
    {A : Type 0} → (p v : Vec (LoggedAt A) A) (es : Entries A) (i : ℕ) → slice_get (values_of es) i ≡ Some p → map logged_kept v.items ≡ map logged_kept p.items
    → logs_kept (set_value_at es i v) ≡ logs_kept es
kept-same p v [] i is same = refl
kept-same p v (e ∷ es) zero is same =
    let here : e.1 ≡ p = cc in
    rw (same, here) refl
kept-same p v (e ∷ es) (suc i) is same = ap (λ ls. log_kept e ∷ ls) (kept-same p v es i is same)

-- the block at a place of the map is that of the log there
pub block-there : {A : Type 0} → (es : Entries A) (i : ℕ) (o : Option (Block × Vec (LoggedAt A) A)) → o ≡ slice_get es i
    → option_map (λ e. e.0) o ≡ option_map (λ (l : BlockLog). l.block) (slice_get (logs_kept es) i)
block-there es i None at = sym (ap (option_map (λ (l : BlockLog). l.block)) (slice_get-map log_kept es i ∙ ap (option_map log_kept) (sym at)))
block-there es i (Some e) at = sym (ap (option_map (λ (l : BlockLog). l.block)) (slice_get-map log_kept es i ∙ ap (option_map log_kept) (sym at)))
