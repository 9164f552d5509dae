-- Look ups by key in a table with an integer key, in any order of its rows. The result of a query is the rows that its filter
-- leaves of the table, projected, in some order. A filter that compares the key leaves the rows with that key. So a single row
-- that is shown is that of the key, and no row is shown if there is none. A query without a filter shows each row. The look
-- ups of the record are these queries, by `Texts`.
use Rattle.std.proofs.Common.{◌≡◌, ◌≤◌, ℕ, nat_le, ◌^◌, pos, negsuc, List, [], ◌∷◌, map, length, Bool, true, false, ◌&&◌, cond, filter, find, slice_get, Some}
use Rattle.std.proofs.Common.{None, refl, sym, ap, ◌∙◌, subst, inl, inr, arith, ℤ, IsPermutation}
use Rattle.std.specs.List.{flat_map}
use Rattle.std.specs.Option.{option_to_list}
use Rattle.std.specs.Ordering.{is_eq, is_lt}
use Rattle.std.specs.Float.{minus_two_to}
use Rattle.std.proofs.lemmas.Bool.{cases_Bool, and_parts}
use Rattle.std.proofs.lemmas.Bool.Decides.{nat_tests}
use Rattle.std.proofs.lemmas.Cmp.{alike_right}
use Rattle.std.proofs.lemmas.Int.{ints}
use Rattle.std.proofs.lemmas.List.Sorted.{length_permutation, IsPermutation-map}
use Rattle.sqlite_value.specs.declared.value.Value.{Value}
use Rattle.sqlite_value.specs.declared.value.Value.TheVariants.{Null, Int, Real, Text, Blob}
use Rattle.sqlite_value.specs.declared.keys.Collation.TheVariants.{Binary}
use Rattle.sqlite_value.specs.Order.{Row, value_cmp}
use Rattle.sqlite_value.proofs.OrderLemmas.{value_cmp-Int, value_cmp-Null, value_cmp-apart, value_cmp_total}
use Rattle.sqlite_trees.specs.Tree.{Trees, has_rowid}
use Rattle.sqlite_trees.specs.View.{is_int}
use Rattle.sqlite_sql.specs.declared.ops.BinaryOp.TheVariants.{Compare}
use Rattle.sqlite_sql.specs.declared.ops.CompareOp.TheVariants.{Eq}
use Rattle.sqlite_sql.specs.Ops.{is_true, is_null, from_truth, unary, binary, to_int}
use Rattle.sqlite_sql.specs.Term.{Term, lit, col, op2, eval_all, holds}
use Rattle.sqlite_sql.specs.Query.{Query, inner, end, matches_as, IsAnswer, Output, output}
use Rattle.sqlite_sql.specs.Program.{overlay}
use Rattle.sqlite_schema.specs.declared.schema.Kind.TheVariants.{Integer}
use Rattle.sqlite_rules.specs.Cast.{cast}
use Rattle.sqlite.proofs.Callers.{one_permutation}
use Rattle.scoop_record.proofs.RowLemmas.{found_first, equal_is}

abbrev pub query_of : ℕ → Term → List Term → Query
query_of tree filter project = record {
  from = inner tree end;
  filter = filter ∷ [];
  group = None;
  project = project;
  distinct = false;
  collations = [];
  order = [];
  limit = lit (Int (negsuc 0));
  offset = lit (Int (pos 0));
}

abbrev pub key_is : ℕ → Term
key_is place = op2 (Compare Eq Binary) (col 1 0) (col 0 place)

abbrev pub first_key_is : Term
first_key_is = op2 (Compare Eq Binary) (col 1 0) (lit (Int (pos 1)))

truth_of : (b : Bool) → is_true (from_truth (Some b)) ≡ b
truth_of true = refl
truth_of false = refl

-- `=` as the order of values has it
tests : (v w : Value) → is_null w ≡ false → is_true (binary (Compare Eq Binary) v w) ≡ is_eq (value_cmp v w)
unfolding binary
tests Null Null h = absurd cc
tests Null (Int n) h = rw (value_cmp-Null (Int n)) refl
tests Null (Real x) h = rw (value_cmp-Null (Real x)) refl
tests Null (Text t) h = rw (value_cmp-Null (Text t)) refl
tests Null (Blob b) h = rw (value_cmp-Null (Blob b)) refl
tests (Int m) w h = rw h (truth_of (is_eq (value_cmp (Int m) w)))
tests (Real x) w h = rw h (truth_of (is_eq (value_cmp (Real x) w)))
tests (Text t) w h = rw h (truth_of (is_eq (value_cmp (Text t) w)))
tests (Blob b) w h = rw h (truth_of (is_eq (value_cmp (Blob b) w)))

never_null : (key : ℕ) (w : Value) → is_eq (value_cmp w (Int (pos key))) ≡ true → is_null w ≡ false
never_null key Null is = absurd (let e = rw (value_cmp-Null (Int (pos key))) at is in cc)
never_null key (Int n) is = refl
never_null key (Real x) is = refl
never_null key (Text t) is = refl
never_null key (Blob b) is = refl

-- `=` on a value that is the key
pub tests_key : (key : ℕ) (v w : Value) → is_eq (value_cmp w (Int (pos key))) ≡ true
    → is_true (binary (Compare Eq Binary) v w) ≡ is_eq (value_cmp v (Int (pos key)))
tests_key key v w is = tests v w (never_null key w is) ∙ ap is_eq (alike_right value_cmp_total w (Int (pos key)) v (equal_is _ is))

pub int_key : (key : ℕ) (m : ℤ) → is_eq (value_cmp (Int m) (Int (pos key))) ≡ true → Int m ≡ Int (pos key)
int_key key m is = let e = rw (value_cmp-Int m (pos key)) at is in let same : m ≡ pos key = grind (arith, ints, nat_tests) in ap Int same

-- a key that is stored as an integer is the key
pub cast_key : (key : ℕ) (v : Value) → is_eq (value_cmp v (Int (pos key))) ≡ true → is_int (cast Integer v) ≡ true → cast Integer v ≡ Int (pos key)
unfolding unary
cast_key key Null is int = absurd (let e = rw (value_cmp-Null (Int (pos key))) at is in cc)
cast_key key (Int m) is int = go (is_eq (value_cmp (Int m) (Int m)) && is_lt (value_cmp (Real (minus_two_to 63)) (Int m)))
  where
    go : (b : Bool) → cond b (Int m) (Int m) ≡ Int (pos key)
    go true = int_key key m is
    go false = int_key key m is
cast_key key (Real x) is int = go (is_eq (value_cmp (Int (to_int x)) (Real x)) && is_lt (value_cmp (Real (minus_two_to 63)) (Real x))) refl int
  where
    go : (b : Bool) → (is_eq (value_cmp (Int (to_int x)) (Real x)) && is_lt (value_cmp (Real (minus_two_to 63)) (Real x))) ≡ b
        → is_int (cond b (Int (to_int x)) (Real x)) ≡ true → cond b (Int (to_int x)) (Real x) ≡ Int (pos key)
    go true h int =
        let near = equal_is _ (and_parts _ _ h).0 in
        int_key key (to_int x) (ap is_eq (value_cmp_total.congr (Int (to_int x)) (Real x) (Int (pos key)) near) ∙ is)
    go false h int = absurd cc
cast_key key (Text t) is int = absurd (let e = rw (value_cmp-apart (Text t) (Int (pos key)) (λ e. omega (arith, e))) at is in cc)
cast_key key (Blob t) is int = absurd (let e = rw (value_cmp-apart (Blob t) (Int (pos key)) (λ e. omega (arith, e))) at is in cc)

-- the matches of a look up by key
module _ (lost : Value) (db : Trees) (key : ℕ) (filter_is : Term) (params : Row)
    (given : (r : Row) → holds (params ∷ r ∷ []) filter_is ≡ has_rowid (pos key) r) where
  matched : (rows : List Row) → flat_map (λ r. matches_as lost db (filter_is ∷ []) end (params ∷ r ∷ [])) rows
      ≡ map (λ r. params ∷ r ∷ []) (filter (has_rowid (pos key)) rows)
  matched [] = refl
  matched (r ∷ rows) =
      let same : holds (params ∷ r ∷ []) filter_is ≡ has_rowid (pos key) r = given r in
      elim (cases_Bool (has_rowid (pos key) r)) [
        | inl has ↦ rw (same, has, matched rows) refl
        | inr lacks ↦ rw (same, lacks, matched rows) refl
      ]

no_permutation : {X : Type 0} (ys : List X) → IsPermutation [] ys → ys ≡ []
no_permutation [] same = refl
no_permutation (y ∷ ys) same = absurd (omega (arith, length_permutation [] (y ∷ ys) same))

pub twice_mapped : {A B C : Type 0} (g : B → C) (f : A → B) (xs : List A) → map g (map f xs) ≡ map (λ x. g (f x)) xs
twice_mapped g f [] = refl
twice_mapped g f (x ∷ xs) = ap (λ ys. g (f x) ∷ ys) (twice_mapped g f xs)

-- the result of a look up by key
module _ (trees : Trees) (tree key : ℕ) (filter_is : Term) (low : nat_le (2 ^ 31) tree ≡ false) (params : Row)
    (given : (r : Row) → holds (params ∷ r ∷ []) filter_is ≡ has_rowid (pos key) r) (project : List Term) where
  abbrev shown_of : Row → Row
  shown_of r = eval_all project (params ∷ r ∷ [])

  -- the rows that have the key, in some order
  pub answered : (rows : List Row) → IsAnswer (query_of tree filter_is project) (overlay trees []) params rows
      → IsPermutation (map shown_of (filter (has_rowid (pos key)) (trees tree))) rows
  answered rows a =
      let q = query_of tree filter_is project in
      let staged : a.staged ≡ map (λ r. params ∷ r ∷ []) (filter (has_rowid (pos key)) (trees tree)) = a.grouped
      ∙ rw low (matched Null (overlay trees []) key filter_is params given (trees tree)) in
      let kept : map (λ (o : Output). o.1) a.kept ≡ map shown_of (filter (has_rowid (pos key)) (trees tree)) =
      ap (map (λ (o : Output). o.1)) (a.distinct ∙ ap (map (output q)) staged)
      ∙ ap (map (λ (o : Output). o.1)) (twice_mapped (output q) (λ r. params ∷ r ∷ []) (filter (has_rowid (pos key)) (trees tree)))
      ∙ twice_mapped (λ (o : Output). o.1) (λ r. output q (params ∷ r ∷ [])) (filter (has_rowid (pos key)) (trees tree)) in
      let same = IsPermutation-map (λ (o : Output). o.1) a.kept a.ordered a.same in
      subst (λ xs. IsPermutation xs rows) kept (subst (λ ys. IsPermutation (map (λ (o : Output). o.1) a.kept) ys) (sym a.shown) same)

  -- where no more than one row is shown, it is that of the key
  pub looked_up : (rows : List Row) → length rows ≤ 1 → IsAnswer (query_of tree filter_is project) (overlay trees []) params rows
      → rows ≡ map shown_of (option_to_list (find (has_rowid (pos key)) (trees tree)))
  looked_up rows few a = rw (found_first (has_rowid (pos key)) (trees tree)) (go (filter (has_rowid (pos key)) (trees tree)) (answered rows a))
    where
      go : (found : List Row) → IsPermutation (map shown_of found) rows → rows ≡ map shown_of (option_to_list (slice_get found 0))
      go [] same = no_permutation rows same
      go (r ∷ []) same = one_permutation (shown_of r) rows same
      go (r ∷ s ∷ found) same = absurd (omega (arith, few, length_permutation (map shown_of (r ∷ s ∷ found)) rows same))

pub all_matched : (lost : Value) (db : Trees) (params : Row) (rows : List Row)
    → flat_map (λ r. matches_as lost db [] end (params ∷ r ∷ [])) rows ≡ map (λ r. params ∷ r ∷ []) rows
all_matched lost db params [] = refl
all_matched lost db params (r ∷ rows) = rw (all_matched lost db params rows) refl
