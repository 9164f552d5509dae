-- The rows of a record of version 1, by their numbers. They were listed with their numbers rising, so no two rows have one
-- number, and the states read from them rise too. The first row whose image is no state's has the lowest such number.
use Rattle.std.proofs.Common.{◌≡◌, ◌≢◌, inl, inr, ◌<◌, ◌≤◌, ◌+◌, ◌^◌, ℕ, pos, List, [], ◌∷◌, ◌++◌, take, drop, map, find, Option, Some, None, option_map, refl}
use Rattle.std.proofs.Common.{sym, ap, ◌∙◌, subst, arith, IsPermutation, append_assoc, take-append-drop}
use Rattle.std.specs.List.{AllByRecursion, AllZip}
use Rattle.std.proofs.lemmas.List.Sorted.{IsPermutation-sym}
use Rattle.sqlite_value.specs.declared.value.Value.{Value}
use Rattle.sqlite_value.specs.declared.value.Value.TheVariants.{Int}
use Rattle.sqlite_value.specs.Order.{Row, column}
use Rattle.sqlite_trees.specs.Tree.{IsAscending, rowid, has_rowid}
use Rattle.sqlite_rules.specs.Lists.{Has}
use Rattle.sqlite_rules.proofs.ListLemmas.{all_from, all_has, has_found}
use Rattle.sqlite.specs.Effect.{Database}
use Rattle.scoop_handler.specs.State.{HandlerState}
use Rattle.scoop_keeper.specs.Keeper.{Stored, Missing, Holds, Damaged, stored_of, IsTheOne}
use Rattle.scoop_record.specs.Among.{handlers_tree}
use Rattle.scoop_record.specs.Store.{IsOfVersionOne}
use Rattle.scoop_record.specs.Tables.{value_at}
use Rattle.scoop_record.specs.Migrate.{FirstHas, IsFirstRowOf, IsFirstRow, IsRising, keyed_value, IsKeyBelow, IsNumber, AreNumbers}
use Rattle.scoop_record.specs.Migrate.{AreNumbered, AreHandlers, HasOtherNumber, IsBadRow, IsFirstBad, IsLowestBad}
use Rattle.scoop_keeper.proofs.Lists.{all_last, all_more, all_take}
use Rattle.scoop_record.proofs.RowLemmas.{find_own}
use Rattle.scoop_record.proofs.TableLemmas.{int_key}
use Rattle.scoop_record.proofs.MigrateLemmas.{has_mapped, has_source, has_permuted, held_found, missing_one, none_has, pos_same, state_of_row}

-- ---- the numbers, one after the other

-- the row's number, if it is one, is below this one
pub record IsUnder (low : ℕ) (row : Row) : Type 0 where
  pub under : (n : ℕ) → column row 0 ≡ Int (pos n) → n < low

-- the rows' numbers are those of handlers, rise, and are below this one
pub record AreUnder (low : ℕ) (rows : List Row) : Type 0 where
  pub numbered : AreNumbered rows
  pub under : AllByRecursion (IsUnder low) rows

pub none_under : AreUnder 0 []
none_under = record { numbered = record { known = tt; rising = tt }; under = tt }

-- the number of the row after those that were read
pub number_at : (rows : List Row) (at : ℕ) (row : Row) → take (at + 1) rows ≡ take at rows ++ row ∷ [] → AreNumbers rows → IsNumber (column row 0)
number_at rows at row next all =
    all_last (λ (x : Row). IsNumber (column x 0)) (take at rows) row
    (subst (AllByRecursion (λ (x : Row). IsNumber (column x 0))) next (all_take (λ (x : Row). IsNumber (column x 0)) (at + 1) rows all))

under_more : (low high : ℕ) (rows : List Row) → low ≤ high → AllByRecursion (IsUnder low) rows → AllByRecursion (IsUnder high) rows
under_more low high [] le all = tt
under_more low high (r ∷ rows) le all = (record { under = λ n is. omega (arith, le, all.0.under n is) }, under_more low high rows le all.1)

number_is : (row : Row) (m n : ℕ) → column row 0 ≡ Int (pos m) → column row 0 ≡ Int (pos n) → m ≡ n
number_is row m n a b = pos_same m n (sym a ∙ b)

rising_push : (low : ℕ) (rows : List Row) (row : Row) (number : ℕ) → IsAscending IsKeyBelow rows → AllByRecursion (IsUnder low) rows
    → column row 0 ≡ Int (pos number) → low ≤ number → IsAscending IsKeyBelow (rows ++ row ∷ [])
rising_push low [] row number rising under is le = (tt, tt)
rising_push low (r ∷ rows) row number rising under is le =
    let last : IsKeyBelow r row = record { below = λ m n first second. omega (arith, under.0.under m first, number_is row number n is second, le) } in
    (all_more (IsKeyBelow r) rows row rising.0 last, rising_push low rows row number rising.1 under.1 is le)

pub under_push : (low : ℕ) (rows : List Row) (row : Row) (number : ℕ) → AreUnder low rows → column row 0 ≡ Int (pos number) → number < 2 ^ 32 → low ≤ number
    → AreUnder (number + 1) (rows ++ row ∷ [])
under_push low rows row number all is small le = record {
  numbered = record {
    known = all_more (λ (r : Row). IsNumber (column r 0)) rows row all.numbered.known (record { number = number; small = small; is = is });
    rising = rising_push low rows row number all.numbered.rising all.under is le;
  };
  under = all_more (IsUnder (number + 1)) rows row (under_more low (number + 1) rows (omega (arith, le)) all.under)
      (record { under = λ n other. omega (arith, number_is row number n is other) });
}

-- ---- states of rows whose numbers rise

above : (r : Row) (s : HandlerState) (rows : List Row) (all : List HandlerState) → IsFirstRow r s → AllByRecursion (IsKeyBelow r) rows
    → AllZip IsFirstRow rows all → AllByRecursion (λ (b : HandlerState). s.number.0 < b.number.0) all
above r s [] [] is below zip = tt
above r s [] (b ∷ all) is below zip = absurd zip
above r s (q ∷ rows) [] is below zip = absurd zip
above r s (q ∷ rows) (b ∷ all) is below zip = (below.0.below s.number.0 b.number.0 is.key zip.0.key, above r s rows all is below.1 zip.1)

pub states_rise : (rows : List Row) (all : List HandlerState) → AllZip IsFirstRow rows all → IsAscending IsKeyBelow rows → IsRising all
states_rise [] [] zip rising = tt
states_rise [] (s ∷ all) zip rising = absurd zip
states_rise (r ∷ rows) [] zip rising = absurd zip
states_rise (r ∷ rows) (s ∷ all) zip rising = (above r s rows all zip.0 rising.0 zip.1, states_rise rows all zip.1 rising.1)

-- the row after those that were read is the first whose image is no state's
pub first_bad : (rows : List Row) (at handler : ℕ) (row : Row) (states : List HandlerState) → take (at + 1) rows ≡ take at rows ++ row ∷ [] → AreNumbered rows
    → AllZip IsFirstRow (take at rows) states → IsBadRow handler row → IsFirstBad rows handler
first_bad rows at handler row states next numbered read bad = record {
  numbered = numbered;
  before = take at rows;
  row = row;
  after = drop (at + 1) rows;
  split = sym (take-append-drop (at + 1) rows) ∙ ap (λ (xs : List Row). xs ++ drop (at + 1) rows) next
      ∙ append_assoc (take at rows) (row ∷ []) (drop (at + 1) rows);
  states = states;
  read = read;
  bad = bad;
}

-- ---- the lowest image that is no state's

-- rows with one number are one row
one_row : (rows : List Row) (a b : Row) (n : ℕ) → IsAscending IsKeyBelow rows → Has rows a → Has rows b → column a 0 ≡ Int (pos n) → column b 0 ≡ Int (pos n)
    → a ≡ b
one_row [] a b n rising ha hb ka kb = absurd ha
one_row (r ∷ rows) a b n rising (inl first) (inl second) ka kb = first ∙ sym second
one_row (r ∷ rows) a b n rising (inl first) (inr second) ka kb =
    absurd (omega (arith, (all_has (IsKeyBelow r) rows b rising.0 second).below n n (ap (λ (x : Row). column x 0) (sym first) ∙ ka) kb))
one_row (r ∷ rows) a b n rising (inr first) (inl second) ka kb =
    absurd (omega (arith, (all_has (IsKeyBelow r) rows a rising.0 first).below n n (ap (λ (x : Row). column x 0) (sym second) ∙ kb) ka))
one_row (r ∷ rows) a b n rising (inr first) (inr second) ka kb = one_row rows a b n rising.1 first second ka kb

has_middle : (before after : List Row) (row : Row) → Has (before ++ row ∷ after) row
has_middle [] after row = inl refl
has_middle (r ∷ before) after row = inr (has_middle before after row)

-- a row with a lower number than the one in the middle comes before it
comes_before : (before after : List Row) (row a : Row) (m n : ℕ) → IsAscending IsKeyBelow (before ++ row ∷ after) → Has (before ++ row ∷ after) a
    → column a 0 ≡ Int (pos m) → column row 0 ≡ Int (pos n) → m < n → Has before a
comes_before [] after row a m n rising (inl same) ka kr lt = absurd (omega (arith, lt, number_is row m n (ap (λ (x : Row). column x 0) (sym same) ∙ ka) kr))
comes_before [] after row a m n rising (inr later) ka kr lt = absurd (omega (arith, lt, (all_has (IsKeyBelow row) after a rising.0 later).below n m kr ka))
comes_before (r ∷ before) after row a m n rising (inl same) ka kr lt = inl same
comes_before (r ∷ before) after row a m n rising (inr later) ka kr lt = inr (comes_before before after row a m n rising.1 later ka kr lt)

damaged_first : (handler : ℕ) (value : Option Value) (v : Value) → value ≡ Some v → ((s : HandlerState) → IsFirstRowOf handler (Some v) s → ⊥)
    → IsTheOne (FirstHas handler value) Damaged
damaged_first handler value v is none = record { there = record { some = some; none = refuses }; only = only }
  where
    some : value ≢ None
    some e = absurd (let f = sym e ∙ is in cc)

    refuses : (s : HandlerState) → IsFirstRowOf handler value s → ⊥
    refuses s h = none s (subst (λ w. IsFirstRowOf handler w s) is h)

    only : (other : Stored) → FirstHas handler value other → other ≡ Damaged
    only Missing h = absurd (some h)
    only (Holds s) h = absurd (refuses s h)
    only Damaged h = refl

-- the rows of the images, and as they were listed
module _ (images rows : List Row) (same : IsPermutation (map keyed_value images) rows) where
  listed : (r : Row) → Has images r → Has rows (keyed_value r)
  listed r here = has_permuted (map keyed_value images) rows (keyed_value r) same (has_mapped keyed_value images r here)

  key_of : AreNumbered rows → (n : ℕ) (r : Row) → find (has_rowid (pos n)) images ≡ Some r → rowid r ≡ Int (pos n)
  key_of numbered n r some =
      let stands = has_found (has_rowid (pos n)) images r some in
      let own = all_has (λ (x : Row). IsNumber (column x 0)) rows (keyed_value r) numbered.known (listed r stands.0) in
      let key : rowid r ≡ Int (pos own.number) = own.is in
      key ∙ int_key n (pos own.number) (rw key at stands.1)

  bad_there : (handler : ℕ) → IsFirstBad rows handler → IsTheOne (FirstHas handler (value_at images handler)) Damaged
  bad_there handler bad = go (find (has_rowid (pos handler)) images) refl
    where
      there : Has rows bad.row
      there = subst (λ (xs : List Row). Has xs bad.row) (sym bad.split) (has_middle bad.before bad.after bad.row)

      go : (found : Option Row) → find (has_rowid (pos handler)) images ≡ found → IsTheOne (FirstHas handler (value_at images handler)) Damaged
      go None none =
          let source = has_source keyed_value images bad.row
          (has_permuted rows (map keyed_value images) bad.row (IsPermutation-sym (map keyed_value images) rows same) there) in
          let key : rowid source.0 ≡ Int (pos handler) = ap (λ (x : Row). column x 0) (sym source.2) ∙ bad.bad.key in
          absurd (none_has (has_rowid (pos handler)) images source.0 none source.1 (rw key (find_own handler)))
      go (Some r) some =
          let stands = has_found (has_rowid (pos handler)) images r some in
          let one : keyed_value r ≡ bad.row = one_row rows (keyed_value r) bad.row handler bad.numbered.rising (listed r stands.0) there
          (key_of bad.numbered handler r some) bad.bad.key in
          let value : value_at images handler ≡ Some (column bad.row 1) = ap (option_map (λ (x : Row). column x 2)) some
          ∙ ap (λ (x : Row). Some (column x 1)) one in
          damaged_first handler (value_at images handler) (column bad.row 1) value bad.bad.none

  good_below : (handler : ℕ) → IsFirstBad rows handler → (lower : ℕ) → lower < handler → (found : Option HandlerState)
      × IsTheOne (FirstHas lower (value_at images lower)) (stored_of found)
  good_below handler bad lower lt = go (find (has_rowid (pos lower)) images) refl
    where
      go : (found : Option Row) → find (has_rowid (pos lower)) images ≡ found → (found : Option HandlerState)
          × IsTheOne (FirstHas lower (value_at images lower)) (stored_of found)
      go None none = (None, missing_one lower (value_at images lower) (ap (option_map (λ (x : Row). column x 2)) none))
      go (Some r) some =
          let stands = has_found (has_rowid (pos lower)) images r some in
          let here : Has (bad.before ++ bad.row ∷ bad.after) (keyed_value r) =
          subst (λ (xs : List Row). Has xs (keyed_value r)) bad.split (listed r stands.0) in
          let earlier = comes_before bad.before bad.after bad.row (keyed_value r) lower handler
          (subst (IsAscending IsKeyBelow) bad.split bad.numbered.rising) here (key_of bad.numbered lower r some) bad.bad.key lt in
          let it = state_of_row bad.before bad.states bad.read (keyed_value r) earlier in
          (Some it.0, (held_found lower images r it.0 some it.2).1)

  listed_numbers : AreHandlers images → AreNumbers rows
  listed_numbers all = all_from (λ (x : Row). IsNumber (column x 0)) rows (λ row here.
      let source = has_source keyed_value images row (has_permuted rows (map keyed_value images) row
      (IsPermutation-sym (map keyed_value images) rows same) here) in
      subst (λ (x : Row). IsNumber (column x 0)) (sym source.2) (all_has (λ (x : Row). IsNumber (rowid x)) images source.0 all source.1))

  all_numbers : AreNumbered rows → AreHandlers images
  all_numbers numbered = all_from (λ (row : Row). IsNumber (rowid row)) images
      (λ r here. all_has (λ (x : Row). IsNumber (column x 0)) rows (keyed_value r) numbered.known (listed r here))

-- the first bad row that was listed is that of the lowest handler
pub lowest_bad : (old : Database) (rows : List Row) (handler : ℕ) → IsPermutation (map keyed_value (old.trees (handlers_tree old.schema))) rows
    → IsOfVersionOne old → IsFirstBad rows handler → IsLowestBad old handler
lowest_bad old rows handler same first bad = record {
  first = first;
  numbers = all_numbers (old.trees (handlers_tree old.schema)) rows same bad.numbered;
  bad = bad_there (old.trees (handlers_tree old.schema)) rows same handler bad;
  below = good_below (old.trees (handlers_tree old.schema)) rows same handler bad;
}

-- a number of the listed rows that is no handler's stands in the table
pub other_number : (old : Database) (rows : List Row) → IsPermutation (map keyed_value (old.trees (handlers_tree old.schema))) rows → IsOfVersionOne old
    → (AreNumbers rows → ⊥) → HasOtherNumber old
other_number old rows same first wrong = record {
  first = first;
  numbers = λ all. wrong (listed_numbers (old.trees (handlers_tree old.schema)) rows same all);
}
