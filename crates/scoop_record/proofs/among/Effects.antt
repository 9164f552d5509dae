-- The effects of the statements on a connection, whose database may have other tables.
use Rattle.std.proofs.lemmas.List.Sorted.{IsPermutation-map}
use Rattle.std.proofs.lemmas.Bool.{cases_Bool}
use Rattle.std.proofs.lemmas.Bool.Decides.{nat_tests}
use Rattle.std.proofs.Common.{IsPermutation, IsErr, IsTrue, ◌≡◌, ◌<◌, ◌≤◌, arith, length, ℕ, nat_le, ◌^◌, pos, List, [], ◌∷◌, codes, map, false, true, Ok}
use Rattle.std.proofs.Common.{Err, Result, OnOk, Some, None, inl, inr, refl, sym, ap, ◌∙◌, subst}
use Rattle.std.specs.Option.{option_to_list}
use Rattle.sqlite_value.specs.declared.value.Value.{Value}
use Rattle.sqlite_value.specs.declared.value.Value.TheVariants.{Null, Int}
use Rattle.sqlite_value.specs.Order.{Row}
use Rattle.sqlite_trees.specs.Tree.{Trees, rowid, put_row}
use Rattle.sqlite_schema.specs.declared.command.Command.TheVariants.{InsertOr, Insert, Select, CreateTable}
use Rattle.sqlite_schema.specs.declared.command.Conflict.TheVariants.{Abort}
use Rattle.sqlite_schema.specs.declared.schema.Kind.{Kind}
use Rattle.sqlite_schema.specs.declared.schema.Table.{Table}
use Rattle.sqlite_schema.specs.declared.schema.Schema.{Schema}
use Rattle.sqlite_sql.specs.Query.{IsAnswer, Output, output}
use Rattle.sqlite_sql.specs.Program.{overlay}
use Rattle.sqlite_catalog.specs.Change.{created}
use Rattle.sqlite_rules.specs.Cast.{cast}
use Rattle.sqlite.specs.Does.{Tally, lacks_sequence}
use Rattle.sqlite.specs.Effect.{Database, IsDatabase}
use Rattle.sqlite.specs.declared.error.Error.{Error}
use Rattle.sqlite.specs.Listing.{understood, reads_listing}
use Rattle.sqlite.specs.State.{State, HasCleanDisk, Shows, ExecutesInside, Shown, IsUnchanged, Writes, mode_of}
use Rattle.sqlite.proofs.Callers.{IsPlain, command_of, statement_of, runs_as, reads_as}
use Rattle.scoop_record.specs.Tables.{keyed_table, meta, value_at, row_of, Makes}
use Rattle.scoop_record.specs.Migrate.{keyed_value}
use Rattle.scoop_record.specs.Store.{IsSound}
use Rattle.scoop_record.specs.Among.{Stands, IsFree, HasTable, PutsAmong}
use Rattle.scoop_record.proofs.RowLemmas.{find_own}
use Rattle.scoop_record.proofs.TableLemmas.{key_is, first_key_is, tests_key, all_matched, twice_mapped}
use Rattle.scoop_record.proofs.StatementLemmas.{shows_where}
use Rattle.scoop_record.proofs.UpsertLemmas.{given_row, overwrites, went, same_value}
use Rattle.scoop_record.proofs.among.Selecting.{LooksUp}
use Rattle.scoop_record.proofs.among.Listing.{all_of}
use Rattle.scoop_record.proofs.among.Creating.{Creates}
use Rattle.scoop_record.proofs.among.Putting.{does_put_among}
use Rattle.scoop_record.proofs.among.Standing.{lacks_kept}
use Rattle.scoop_record.proofs.among.Version.{first_row, raises, does_first_among, does_raise_among}

-- the tree of a table is none of the overlay's
pub low_tree : (tree : ℕ) → tree < 2 ^ 31 → nat_le (2 ^ 31) tree ≡ false
low_tree tree low = grind (arith, nat_tests)

-- a plain query changes nothing
pub still_among : (s : Schema) (sql : List ℕ) (params : Row) (old new : State) (rows : List Row) → old.now.schema ≡ s → IsPlain (understood s sql)
    → Shown sql params old new rows → IsUnchanged old new
unfolding Shown
still_among s sql params old new rows has plain h =
    let known = sym h.1.is ∙ ap (λ s. understood s sql) has in
    let bare = subst IsPlain (sym known) plain in
    let it = rw bare.0 at h.2 in it.3

-- the result of a look up by key
pub shows_among : (s : Schema) (sql : List ℕ) (tree key : ℕ) (name : List ℕ) (old new : State) (rows : List Row) → nat_le (2 ^ 31) tree ≡ false
    → old.now.schema ≡ s → length rows ≤ 1 → LooksUp s sql tree (key_is 0) name → Shown sql (Int (pos key) ∷ []) old new rows
    → rows ≡ map (λ v. v ∷ []) (option_to_list (value_at (old.now.trees tree) key))
shows_among s sql tree key name old new rows low has few is h =
    shows_where s sql tree key (key_is 0) name (Int (pos key) ∷ []) (λ r. tests_key key (rowid r) (Int (pos key)) (find_own key)) old new rows low has few
    is.0 is.1 h

-- the result of the query of the version
pub shows_version_among : (s : Schema) (sql : List ℕ) (tree : ℕ) (old new : State) (rows : List Row) → nat_le (2 ^ 31) tree ≡ false → old.now.schema ≡ s
    → length rows ≤ 1 → LooksUp s sql tree first_key_is (codes "version") → Shown sql [] old new rows
    → rows ≡ map (λ v. v ∷ []) (option_to_list (value_at (old.now.trees tree) 1))
shows_version_among s sql tree old new rows low has few is h =
    shows_where s sql tree 1 first_key_is (codes "version") [] (λ r. tests_key 1 (rowid r) (Int (pos 1)) (find_own 1)) old new rows low has few is.0 is.1 h

-- the answer has each row's key and value, and no other
pub all_answered_of : (tree : ℕ) → nat_le (2 ^ 31) tree ≡ false → (trees : Trees) (rows : List Row) → IsAnswer (all_of tree) (overlay trees []) [] rows
    → IsPermutation (map keyed_value (trees tree)) rows
all_answered_of tree low trees rows a =
    let staged : a.staged ≡ map (λ r. [] ∷ r ∷ []) (trees tree) = a.grouped ∙ rw low (all_matched Null (overlay trees []) [] (trees tree)) in
    let kept : map (λ (o : Output). o.1) a.kept ≡ map keyed_value (trees tree) =
    ap (map (λ (o : Output). o.1)) (a.distinct ∙ ap (map (output (all_of tree))) staged)
    ∙ ap (map (λ (o : Output). o.1)) (twice_mapped (output (all_of tree)) (λ r. [] ∷ r ∷ []) (trees tree))
    ∙ twice_mapped (λ (o : Output). o.1) (λ r. output (all_of tree) ([] ∷ r ∷ [])) (trees tree) in
    let same = IsPermutation-map (λ (o : Output). o.1) a.kept a.ordered a.same in
    subst (λ xs. IsPermutation xs rows) kept (subst (λ ys. IsPermutation (map (λ (o : Output). o.1) a.kept) ys) (sym a.shown) same)

-- the result of the query of all images
pub shows_all_among : (s : Schema) (sql : List ℕ) (tree : ℕ) (old new : State) (rows : List Row) → nat_le (2 ^ 31) tree ≡ false → old.now.schema ≡ s
    → (command_of (understood s sql) ≡ Select (record { lets = []; body = all_of tree }) (codes "h" ∷ codes "image" ∷ []))
    × (reads_listing s sql ≡ false) → IsPlain (understood s sql) → Shown sql [] old new rows → IsPermutation (map keyed_value (old.now.trees tree)) rows
shows_all_among s sql tree old new rows low has is plain h =
    let read = reads_as sql [] old new s has _ is.0 plain is.1 rows h in
    all_answered_of tree low old.now.trees rows (read.answer Null)

-- the effect of an upsert, in the transaction
pub puts_among : (sql name key_name column_name : List ℕ) (kind : Kind) (tree : ℕ)
    → ((s : Schema) (at : ℕ) → Stands s at (keyed_table name tree key_name column_name kind)
    → (command_of (understood s sql) ≡ InsertOr at Abort given_row (overwrites tree ∷ [])) × IsPlain (understood s sql))
    → (key : ℕ) (value : Value) → cast kind value ≡ value → (old new : State) (r : Result ℕ Error) → HasCleanDisk old
    → (IsSound old → HasTable old.now.schema (keyed_table name tree key_name column_name kind))
    → (old.in_transaction ≡ false → IsErr r) → (IsTrue old.in_transaction → ExecutesInside 0 sql (Int (pos key) ∷ value ∷ []) old new r)
    → OnOk r (PutsAmong old.now new.now tree key value × Shows old new new.now old.committed true)
puts_among sql name key_name column_name kind tree text key value kept old new (Err e) clean ready ended runs = tt
puts_among sql name key_name column_name kind tree text key value kept old new (Ok count) clean ready ended runs =
    elim (cases_Bool old.in_transaction) [
      | inl inside ↦
          let ran = runs inside in
          let has = ready (clean, ran.1.was_open) in
          let s = old.now.schema in
          let is = text s has.at has.stands in
          let w = runs_as sql (Int (pos key) ∷ value ∷ []) old new s refl (InsertOr has.at Abort given_row (overwrites tree ∷ [])) is.0 is.1 count ran.0 in (
            does_put_among name key_name column_name kind has.at tree s has.stands has.alone old.step_limit (mode_of old) key value kept old.now new.now refl
                (statement_of sql (understood s sql)) w.tally w.changed,
            ran.1,
          )
      | inr outside ↦ absurd (let e = ended outside in cc)
    ]

-- the effect of CREATE TABLE, in the transaction
pub makes_among : (sql name : List ℕ) (table : Table) → table.is_counted ≡ false
    → ((s : Schema) → IsFree s name → Creates s sql table × IsPlain (understood s sql))
    → (old new : State) (r : Result ℕ Error) → HasCleanDisk old
    → (IsSound old → IsFree old.now.schema name × (lacks_sequence old.now.schema ≡ false))
    → (old.in_transaction ≡ false → IsErr r) → (IsTrue old.in_transaction → ExecutesInside 0 sql [] old new r)
    → OnOk r (Makes old.now new.now table × Shows old new new.now old.committed true)
makes_among sql name table bare text old new (Err e) clean ready ended runs = tt
makes_among sql name table bare text old new (Ok count) clean ready ended runs = elim (cases_Bool old.in_transaction) [
  | inl inside ↦
      let ran = runs inside in
      let free = ready (clean, ran.1.was_open) in
      let s = old.now.schema in
      let is = text s free.0 in
      let w = subst (λ t. Writes old new None CreateTable t [] count) is.0.1 (runs_as sql [] old new s refl CreateTable is.0.0 is.1 count ran.0) in
      let all = went w.changed in
      let first = went all.1 in
      let made = first.1 in
      let both : Ok made.table ≡ Ok table = sym made.defined ∙ is.0.2 in
      let same : made.table ≡ table = cc in
      let schema : first.0.schema ≡ created s table = made.is ∙ ap (created s) same in
      let plain : lacks_sequence first.0.schema ≡ false = ap lacks_sequence schema ∙ lacks_kept s table bare free.1 in
      let now : new.now ≡ first.0 = ap (λ (p : Tally × Database). p.1) (same_value all.2) ∙ same_value (rw plain at first.2) in
      (rw now (record { schema = schema; empty = made.empty; others = made.others }), ran.1)
  | inr outside ↦ absurd (let e = ended outside in cc)
]

-- the effect of the INSERT of the version, in the transaction
pub puts_version_among : (sql : List ℕ) (tree version : ℕ)
    → ((s : Schema) (at : ℕ) → Stands s at (meta tree) → (command_of (understood s sql) ≡ Insert at first_row) × IsPlain (understood s sql))
    → (old new : State) (r : Result ℕ Error) → HasCleanDisk old → (IsSound old → HasTable old.now.schema (meta tree))
    → (old.in_transaction ≡ false → IsErr r) → (IsTrue old.in_transaction → ExecutesInside 0 sql (Int (pos version) ∷ []) old new r)
    → OnOk r ((PutsAmong old.now new.now tree 1 (Int (pos version)) × IsDatabase new.now
    × (old.now.trees tree ≡ [] → new.now.trees tree ≡ row_of 1 (Int (pos version)) ∷ []))
    × Shows old new new.now old.committed true)
puts_version_among sql tree version text old new (Err e) clean ready ended runs = tt
puts_version_among sql tree version text old new (Ok count) clean ready ended runs = elim (cases_Bool old.in_transaction) [
  | inl inside ↦
      let ran = runs inside in
      let has = ready (clean, ran.1.was_open) in
      let s = old.now.schema in
      let is = text s has.at has.stands in
      let w = runs_as sql (Int (pos version) ∷ []) old new s refl (Insert has.at first_row) is.0 is.1 count ran.0 in
      let does = does_first_among has.at tree s has.stands has.alone old.step_limit (mode_of old) version old.now new.now refl
      (statement_of sql (understood s sql)) w.tally w.changed in
      ((does.0, w.sound, λ none. does.1 ∙ ap (put_row (row_of 1 (Int (pos version)))) none), ran.1)
  | inr outside ↦ absurd (let e = ended outside in cc)
]

-- the effect of the UPDATE of the version, in the transaction
pub raises_version_among : (sql : List ℕ) (tree version : ℕ) (before : Value)
    → ((s : Schema) (at : ℕ) → Stands s at (meta tree) → (command_of (understood s sql) ≡ raises at tree) × IsPlain (understood s sql))
    → (old new : State) (r : Result ℕ Error) → HasCleanDisk old
    → (IsSound old → HasTable old.now.schema (meta tree) × (value_at (old.now.trees tree) 1 ≡ Some before))
    → (old.in_transaction ≡ false → IsErr r) → (IsTrue old.in_transaction → ExecutesInside 0 sql (Int (pos version) ∷ []) old new r)
    → OnOk r ((PutsAmong old.now new.now tree 1 (Int (pos version)) × IsDatabase new.now) × Shows old new new.now old.committed true)
raises_version_among sql tree version before text old new (Err e) clean ready ended runs = tt
raises_version_among sql tree version before text old new (Ok count) clean ready ended runs = elim (cases_Bool old.in_transaction) [
  | inl inside ↦
      let ran = runs inside in
      let has = ready (clean, ran.1.was_open) in
      let s = old.now.schema in
      let is = text s has.0.at has.0.stands in
      let w = runs_as sql (Int (pos version) ∷ []) old new s refl (raises has.0.at tree) is.0 is.1 count ran.0 in (
        (
          does_raise_among has.0.at tree s has.0.stands has.0.alone old.step_limit (mode_of old) version old.now new.now before refl has.1
              (statement_of sql (understood s sql)) w.tally w.changed,
          w.sound,
        ),
        ran.1,
      )
  | inr outside ↦ absurd (let e = ended outside in cc)
]
