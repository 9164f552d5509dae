-- The texts of the version and their effects, under a schema that may have other tables.
use Rattle.std.proofs.Common.{◌≢◌, pos, map, filter, IsPermutation, ◌≡◌, ◌∙◌, ap, sym, subst, length, List, [], ◌∷◌, codes, false, true, ℕ, Ok, Some, None}
use Rattle.std.proofs.Common.{Option, refl, find}
use Rattle.std.specs.List.{AllByRecursion}
use Rattle.sqlite_value.specs.declared.value.Value.{Value}
use Rattle.sqlite_value.specs.Order.{Row}
use Rattle.sqlite_trees.specs.Tree.{Trees, rowid, has_rowid, put_row}
use Rattle.sqlite_schema.specs.declared.schema.Kind.TheVariants.{Integer}
use Rattle.sqlite_rules.specs.Edit.{Edit, edit_of, edited, IsNoIndex, taken_by}
use Rattle.sqlite_rules.specs.declared.error.Rowids.TheVariants.{Chosen}
use Rattle.sqlite_rules.specs.Lists.{Has}
use Rattle.sqlite_rules.proofs.ListLemmas.{has_found}
use Rattle.sqlite.specs.declared.run.Mode.{Mode}
use Rattle.sqlite.specs.Effect.{Database}
use Rattle.sqlite.specs.Rows.{Written}
use Rattle.sqlite.specs.Does.{Tally, Does, OnRows, AtPlace}
use Rattle.sqlite.proofs.Callers.{one_step}
use Rattle.scoop_record.specs.Tables.{value_at, row_of, meta}
use Rattle.scoop_record.proofs.RowLemmas.{find_own}
use Rattle.scoop_record.proofs.TableLemmas.{tests_key, answered, query_of, first_key_is}
use Rattle.scoop_record.proofs.UpsertLemmas.{went, same_value, cast_int}
use Rattle.sqlite_value.specs.declared.value.Value.TheVariants.{Null, Int}
use Rattle.sqlite.specs.Command.TheVariants.{Insert, Update}
use Rattle.sqlite.specs.Compile.{first}
use Rattle.sqlite.specs.Table.{Table}
use Rattle.sqlite.specs.Schema.{Schema}
use Rattle.sqlite.specs.Term.{col, lit}
use Rattle.sqlite_schema.specs.declared.schema.Column.{Column}
use Rattle.sqlite_resolve.specs.Select.{outermost}
use Rattle.sqlite_resolve.specs.Lowering.{fresh, max_budget, nothing}
use Rattle.sqlite_ast.specs.declared.Binary.TheVariants as binary
use Rattle.sqlite_resolve.specs.Body.{tests, all}
use Rattle.sqlite_draft.specs.declared.join.Step.TheVariants.{Inner}
use Rattle.sqlite_schema.specs.declared.command.Source.{Source as Filling}
use Rattle.sqlite_schema.specs.declared.command.Source.TheVariants.{Values as SomeValues}
use Rattle.sqlite_resolve.specs.Scope.{Name}
use Rattle.sqlite_resolve.specs.Program.{program}
use Rattle.sqlite_schema.specs.declared.command.Command.{Command}
use Rattle.sqlite_resolve.specs.Compile.{command, new_rows, source_of, values as compile_values, insert_or_abort}
use Rattle.sqlite_resolve.specs.Compile as compile
use Rattle.sqlite_ast.specs.declared.Expr.{Expr, out-Expr}
use Rattle.sqlite_ast.specs.declared.Expr.TheOpen.{Expr-F}
use Rattle.sqlite_ast.specs.declared.Statement.{Statement}
use Rattle.sqlite_ast.specs.declared.Statement.TheVariants as written
use Rattle.sqlite_resolve.specs.Write.{places, row, with_place, values, value_rows, value_row, inserted, place, assigned, sets, updated, updated_in, picked}
use Rattle.sqlite_resolve.specs.Write.{simple}
use Rattle.sqlite_resolve.specs.Reach.{any_scans}
use Rattle.sqlite_resolve.specs.declared.write.NewRows.TheVariants.{Values as NewValues}
use Rattle.sqlite_resolve.specs.Given.{given}
use Rattle.sqlite_ast.specs.declared.Conflict.TheVariants as conflict
use Rattle.sqlite_ast.specs.declared.Rows.TheVariants as rows
use Rattle.scoop_record.proofs.among.Lowering.{st_of, cx_of, HasKey, lower_given, lower_one, lower_is_one, stored}
use Rattle.scoop_record.proofs.among.Putting.{works_none, cast_null, put_over, renewed, edit, put_matches}
use Rattle.sqlite.specs.Listing.{understood}
use Rattle.sqlite.proofs.Callers.{IsPlain, command_of}
use Rattle.sqlite_syntax.specs.declared.statement.Parsed.{Parsed}
use Rattle.sqlite_resolve.specs.Compile.{compiled, planned, timed, meaning, returning, with_command, shows, small}
use Rattle.sqlite_resolve.specs.Write.{place, cell, given_or, absent, leaves_computed}
use Rattle.sqlite_resolve.specs.Given.{given}
use Rattle.sqlite_resolve.specs.Scope.{is_rowid}
use Rattle.sqlite_schema.specs.Names.{same_name}
use Rattle.scoop_record.proofs.Texts.{put_version, raise_version}
use Rattle.scoop_record.proofs.among.Syntax.{syntax, understood_as, Reads, reads}
use Rattle.scoop_record.specs.Among.{Stands, IsAlone, PutsAmong}

-- UPDATE table SET column = ?1 WHERE key = 1
pub record LooksUpdate (statement : Statement) (name key column : Name) : Type 0 where
  pub value : Expr
  pub test : Expr
  pub left : Expr
  pub right : Expr
  pub is : statement ≡ written.Update name ((column, value) ∷ []) (Some test) []
  pub is_value : out-Expr value ≡ Expr-F.Parameter 1
  pub equals : out-Expr test ≡ Expr-F.Binary binary.Eq left right
  pub is_key : out-Expr left ≡ Expr-F.Column None key
  pub is_one : out-Expr right ≡ Expr-F.Integer (codes "1")

abbrev pub raises : ℕ → ℕ → Command
raises at tree = Update at (record { lets = []; body = query_of tree first_key_is (col 1 0 ∷ col 1 0 ∷ lit Null ∷ col 0 0 ∷ []) })

module _ (s : Schema) (at : ℕ) (t : Table) (stands : Stands s at t) (key column : Name) (j : ℕ) (h : Column) (has_key : HasKey t key j h)
    (place : with_place t [] column ≡ Ok (2 ∷ [])) (renewed : row t None (2 ∷ []) (col 1 0 ∷ []) (col 0 0 ∷ [])
    ≡ Ok (col 1 0 ∷ col 1 0 ∷ lit Null ∷ col 0 0 ∷ []))
    (statement : Statement) (it : LooksUpdate statement t.name key column) where
  raise_assigned : assigned (cx_of s t.name at 1 [] false) t ((column, it.value) ∷ []) (fresh 2 max_budget) ≡ Ok ((2 ∷ [], col 0 0 ∷ []), st_of 2 99999 nothing)
  unfolding assigned sets any_scans
  raise_assigned = rw (place, lower_given (cx_of s t.name at 1 [] false) it.value 1 it.is_value 699 2 max_budget nothing refl) refl

  raise_updated : updated s at t ((column, it.value) ∷ []) (Some it.test)
      ≡ Ok (simple (Inner t.tree ∷ []) (first_key_is ∷ []) (col 1 0 ∷ col 1 0 ∷ lit Null ∷ col 0 0 ∷ []))
  unfolding updated updated_in picked tests
  raise_updated = rw (
    raise_assigned,
    renewed,
    lower_is_one s at t stands.there key j has_key.has.named h has_key.has.there has_key.first has_key.none it.test it.left it.right
        it.equals it.is_key it.is_one 698 t.name [] false 2 99999 nothing refl refl refl,
  ) refl

  raise_command : (base : ℕ) → command s [] base statement ≡ Ok (raises at t.tree)
  unfolding command compile.update program
  raise_command base = rw (it.is, stands.named, stands.there, raise_updated, stored s at t stands, stands.found) refl

  pub update_compiled : (text : List ℕ) (p : Parsed) → first text ≡ Ok p → p.statement ≡ statement → p.formats ≡ [] → small p.names ≡ 1
      → compiled s text ≡ Ok (with_command p ([], (raises at t.tree, None)))
  unfolding compiled planned timed meaning returning shows
  update_compiled text p parsed same formats one = rw (
    parsed,
    same,
    it.is,
    formats,
    one,
    subst (λ x. command s [] 1 x ≡ Ok (raises at t.tree)) it.is (raise_command 1),
  ) refl

pub record IsUpdateText (name key column : Name) (p : Parsed) : Type 0 where
  pub looks : LooksUpdate p.statement name key column
  pub formats : p.formats ≡ []
  pub one : small p.names ≡ 1

pub raise_version_reads : Reads (first raise_version) (IsUpdateText (codes "meta") (codes "id") (codes "version"))
unfolding syntax
raise_version_reads = record {
  looks = record { value = _; test = _; left = _; right = _; is = refl; is_value = refl; equals = refl; is_key = refl; is_one = refl };
  formats = refl;
  one = refl;
}

-- UPDATE meta SET version = ?1 WHERE id = 1
pub raise_version_is : (s : Schema) (at tree : ℕ) → Stands s at (meta tree)
    → (command_of (understood s raise_version) ≡ raises at tree) × IsPlain (understood s raise_version)
unfolding same_name places place row cell given_or absent leaves_computed with_place given is_rowid
raise_version_is s at tree stands =
    let it = reads (first raise_version) _ raise_version_reads in
    let made = understood_as s raise_version _ (update_compiled s at (meta tree) stands (codes "id") (codes "version") 0 _
    (record { has = record { named = refl; there = refl }; first = refl; none = refl }) refl refl it.0.statement it.2.looks raise_version it.0 it.1 refl
    it.2.formats it.2.one) in
    (rw made.0 refl, rw made.0 (refl, refl))

-- INSERT INTO table (key, column) VALUES (1, ?1)
pub record LooksInsert (statement : Statement) (name key column : Name) : Type 0 where
  pub first : Expr
  pub second : Expr
  pub is : statement ≡ written.Insert conflict.Abort name (key ∷ column ∷ []) (rows.Values ((first ∷ second ∷ []) ∷ [])) [] []
  pub is_first : out-Expr first ≡ Expr-F.Integer (codes "1")
  pub is_second : out-Expr second ≡ Expr-F.Parameter 1

abbrev pub first_row : Filling
first_row = SomeValues (lit (Int (pos 1)) ∷ lit Null ∷ col 0 0 ∷ []) 3

module _ (s : Schema) (at : ℕ) (t : Table) (stands : Stands s at t) (key column : Name) (put_at : places t (key ∷ column ∷ []) ≡ Ok (0 ∷ 2 ∷ []))
    (made : row t (Some 1) (0 ∷ 2 ∷ []) [] (lit (Int (pos 1)) ∷ col 0 0 ∷ []) ≡ Ok (lit (Int (pos 1)) ∷ lit Null ∷ col 0 0 ∷ [])) (width : length t.columns ≡ 2)
    (statement : Statement) (it : LooksInsert statement t.name key column) where
  first_values : values s t 1 (0 ∷ 2 ∷ []) ((it.first ∷ it.second ∷ []) ∷ []) ≡ Ok (NewValues (lit (Int (pos 1)) ∷ lit Null ∷ col 0 0 ∷ []))
  unfolding values value_rows value_row all
  first_values = rw (
    lower_one (outermost s) it.first it.is_first 699 1 max_budget nothing refl,
    lower_given (outermost s) it.second 1 it.is_second 699 1 99999 nothing refl,
    made,
  ) refl

  insert_command : command s [] 1 statement ≡ Ok (Insert at first_row)
  unfolding command insert_or_abort compile.insert new_rows inserted source_of compile_values
  insert_command = rw (it.is, stands.named, stands.there, put_at, first_values, width) refl

  pub insert_compiled : (text : List ℕ) (p : Parsed) → first text ≡ Ok p → p.statement ≡ statement → p.formats ≡ [] → small p.names ≡ 1 → t.stamps.formats ≡ []
      → compiled s text ≡ Ok (with_command p ([], (Insert at first_row, None)))
  unfolding compiled planned timed meaning returning shows
  insert_compiled text p parsed same formats one bare = rw (
    parsed,
    same,
    it.is,
    formats,
    one,
    stands.named,
    stands.there,
    bare,
    subst (λ x. command s [] 1 x ≡ Ok (Insert at first_row)) it.is insert_command,
  ) refl

pub record IsInsertText (name key column : Name) (p : Parsed) : Type 0 where
  pub looks : LooksInsert p.statement name key column
  pub formats : p.formats ≡ []
  pub one : small p.names ≡ 1

pub put_version_reads : Reads (first put_version) (IsInsertText (codes "meta") (codes "id") (codes "version"))
unfolding syntax
put_version_reads = record {
  looks = record { first = _; second = _; is = refl; is_first = refl; is_second = refl };
  formats = refl;
  one = refl;
}

-- INSERT INTO meta (id, version) VALUES (1, ?1)
pub put_version_is : (s : Schema) (at tree : ℕ) → Stands s at (meta tree)
    → (command_of (understood s put_version) ≡ Insert at first_row) × IsPlain (understood s put_version)
unfolding same_name places place row cell given_or absent leaves_computed with_place given is_rowid
put_version_is s at tree stands =
    let it = reads (first put_version) _ put_version_reads in
    let made = understood_as s put_version _ (insert_compiled s at (meta tree) stands (codes "id") (codes "version") refl refl refl it.0.statement it.2.looks
    put_version it.0 it.1 refl it.2.formats it.2.one refl) in
    (rw made.0 refl, rw made.0 (refl, refl))

pub does_first_among : (at tree : ℕ) (s : Schema) → Stands s at (meta tree) → IsAlone s (meta tree)
    → (limit : Option ℕ) (mode : Mode) (version : ℕ) (db after : Database) → db.schema ≡ s
    → (text : List ℕ) (tally : Tally) → Does limit mode (Int (pos version) ∷ []) db text None (Insert at first_row) (Ok (tally, after))
    → PutsAmong db after tree 1 (Int (pos version)) × (after.trees tree ≡ put_row (row_of 1 (Int (pos version))) (db.trees tree))
does_first_among at tree s stands alone limit mode version db after has text tally h =
    let given : Row = Int (pos version) ∷ [] in
    let command : Command = Insert at first_row in
    let under = subst (λ s. Does limit mode given (record db { schema = s }) text None command (Ok (tally, after))) has h in
    let done = went (subst (λ o. AtPlace (λ t. OnRows (record { limit = limit; keys = mode.keys; schema = s; table = t; params = given }) mode None
    command db.trees) o (Ok (tally, after))) stands.there under) in
    let now : after ≡ record { schema = s; trees = done.0.trees } = ap (λ (p : Tally × Database). p.1) (same_value (went (went done.2).2).2) in
    let sourced = went done.1 in
    let counter = went sourced.2 in
    let write = went counter.2 in
    let next = went write.2 in
    let trees : done.0.trees ≡ write.0 = ap (λ (w : Written). w.trees) (same_value next.2) ∙ same_value next.1 in
    let made : Edit = edit_of db.trees (meta tree) [] Chosen 0 sourced.0 in
    let step = one_step s mode.keys db.trees write.0 made
    (works_none s mode.keys 0 tree (taken_by db.trees made) made.news s.tables alone.unreferred) write.1 in
    let rows : write.0 tree ≡ put_row (row_of 1 (Int (pos version))) (db.trees tree) =
    step.rows ∙ ap (λ all. edited db.trees (edit_of db.trees (meta tree) [] Chosen 0 all)) sourced.1.1
    ∙ rw (cast_int (pos 1), cast_null, cast_int (pos version)) refl in
    let put = put_over (codes "meta") (codes "id") (codes "version") Integer tree (stored s at (meta tree) stands) limit mode 1 (Int (pos version))
    (cast_int (pos version)) db.trees s alone write.0
    (db.trees tree) rows (λ other apart. refl) (λ t apart free. step.others t apart free) step.tables in
    rw (now, trees) (
      record {
        schema = sym has;
        there = put.there;
        others = put.others;
        trees = λ t apart free. put.trees t apart (subst (λ s. IsNoIndex s t) has free);
        tables = subst (λ (s : Schema). AllByRecursion (λ (t : Table). t.tree ≢ tree → write.0 t.tree ≡ db.trees t.tree) s.tables) (sym has) put.tables;
      },
      rows,
    )

pub does_raise_among : (at tree : ℕ) (s : Schema) → Stands s at (meta tree) → IsAlone s (meta tree)
    → (limit : Option ℕ) (mode : Mode) (version : ℕ) (db after : Database) (before : Value)
    → db.schema ≡ s → value_at (db.trees tree) 1 ≡ Some before
    → (text : List ℕ) (tally : Tally) → Does limit mode (Int (pos version) ∷ []) db text None (raises at tree) (Ok (tally, after))
    → PutsAmong db after tree 1 (Int (pos version))
does_raise_among at tree s stands alone limit mode version db after before has there text tally h =
    let given : Row = Int (pos version) ∷ [] in
    let command : Command = raises at tree in
    let under = subst (λ s. Does limit mode given (record db { schema = s }) text None command (Ok (tally, after))) has h in
    let done = went (subst (λ o. AtPlace (λ t. OnRows (record { limit = limit; keys = mode.keys; schema = s; table = t; params = given }) mode None
    command db.trees) o (Ok (tally, after))) stands.there under) in
    let now : after ≡ record { schema = s; trees = done.0.trees } = ap (λ (p : Tally × Database). p.1) (same_value (went (went done.2).2).2) in
    let asked = went done.1 in
    let write = went asked.2 in
    let trees : done.0.trees ≡ write.0 = ap (λ (w : Written). w.trees) (same_value write.2) in
    let made = renewed (codes "meta") (codes "id") (codes "version") Integer tree (stored s at (meta tree) stands) limit mode 1 (Int (pos version))
    (cast_int (pos version)) db.trees s alone in
    let same : IsPermutation (map made (filter (has_rowid (pos 1)) (db.trees tree))) asked.0 =
    answered db.trees tree 1 first_key_is (stored s at (meta tree) stands) given (λ x. tests_key 1 (rowid x) (Int (pos 1)) (find_own 1))
    (col 1 0 ∷ col 1 0 ∷ lit Null ∷ col 0 0 ∷ []) asked.0
    (asked.1.answer Null) in
    let change : Edit = edit (codes "meta") (codes "id") (codes "version") Integer tree (stored s at (meta tree) stands) limit mode 1 (Int (pos version))
    (cast_int (pos version)) db.trees s alone asked.0 in
    let put = put_matches (codes "meta") (codes "id") (codes "version") Integer tree (stored s at (meta tree) stands) limit mode 1 (Int (pos version))
    (cast_int (pos version)) db.trees s alone asked.0 same (row_of_value db.trees before there) write.0
    (one_step s mode.keys db.trees write.0 change (works_none s mode.keys 0 tree (taken_by db.trees change) change.news s.tables alone.unreferred) write.1) in
    rw (now, trees) (record {
      schema = sym has;
      there = put.there;
      others = put.others;
      trees = λ t apart free. put.trees t apart (subst (λ s. IsNoIndex s t) has free);
      tables = subst (λ (s : Schema). AllByRecursion (λ (t : Table). t.tree ≢ tree → write.0 t.tree ≡ db.trees t.tree) s.tables) (sym has) put.tables;
    })
  where
    row_of_value : (trees : Trees) (before : Value) → value_at (trees tree) 1 ≡ Some before → (r : Row) × Has (trees tree) r × (has_rowid (pos 1) r ≡ true)
    row_of_value trees before there = go (find (has_rowid (pos 1)) (trees tree)) refl
      where
        go : (found : Option Row) → find (has_rowid (pos 1)) (trees tree) ≡ found → (r : Row) × Has (trees tree) r × (has_rowid (pos 1) r ≡ true)
        go None none = absurd (let e = rw none at there in cc)
        go (Some r) some = let stands = has_found (has_rowid (pos 1)) (trees tree) r some in (r, stands.0, stands.1)
