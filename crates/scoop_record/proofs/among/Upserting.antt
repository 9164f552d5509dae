-- The upserts, under a schema that may have other tables.
use Rattle.std.proofs.Common.{◌≡◌, ◌-◌, length, List, [], ◌∷◌, codes, false, true, ℕ, suc, Ok, Some, None, refl, slice_get, nat_lt}
use Rattle.sqlite_value.specs.declared.value.Value.TheVariants.{Null}
use Rattle.sqlite.specs.Command.TheVariants.{InsertOr}
use Rattle.sqlite.specs.Compile.{first}
use Rattle.sqlite.specs.Table.{Table}
use Rattle.sqlite.specs.Schema.{Schema}
use Rattle.sqlite.specs.Term.{col, lit}
use Rattle.sqlite_schema.specs.Names.{column_named, place_of, same_name}
use Rattle.sqlite_schema.specs.declared.schema.Column.{Column}
use Rattle.sqlite.specs.Listing.{understood}
use Rattle.sqlite.proofs.Callers.{IsPlain, command_of}
use Rattle.sqlite_resolve.specs.Select.{outermost}
use Rattle.sqlite_resolve.specs.Lowering.{fresh, max_budget, begin, finish, spend, nothing}
use Rattle.sqlite_resolve.specs.declared.state.Carried.{Carried}
use Rattle.sqlite_resolve.specs.Body.{tests, all}
use Rattle.sqlite_draft.specs.declared.join.Step.TheVariants.{Inner}
use Rattle.sqlite_resolve.specs.Scope as scope
use Rattle.sqlite_resolve.specs.Scope.{Context, Name, in_level, only, hit, column_in, term_of, column_at, is_rowid}
use Rattle.sqlite_resolve.specs.Expr.{opened, node, lower_to, passes}
use Rattle.sqlite_resolve.specs.Program.{program}
use Rattle.sqlite_resolve.specs.Compile.{command, compiled, planned, timed, meaning, returning, with_command, new_rows, source_of, values as compile_values}
use Rattle.sqlite_resolve.specs.Compile.{insert_or_abort, insert_or, shows, small}
use Rattle.sqlite_resolve.specs.declared.scope.Found.TheVariants as found
use Rattle.sqlite_ast.specs.declared.Expr.{Expr, out-Expr}
use Rattle.sqlite_ast.specs.declared.Expr.TheOpen.{Expr-F}
use Rattle.sqlite_ast.specs.declared.Statement.{Statement}
use Rattle.sqlite_ast.specs.declared.Statement.TheVariants as written
use Rattle.sqlite_syntax.specs.declared.statement.Parsed.{Parsed}
use Rattle.sqlite_resolve.specs.Write.{places, row, with_place, values, value_rows, value_row, inserted, level_of, place, cell, given_or, absent}
use Rattle.sqlite_resolve.specs.Write.{leaves_computed, assigned, sets, updated_in, picked, simple}
use Rattle.sqlite_resolve.specs.Reach.{any_scans}
use Rattle.sqlite_ast.specs.declared.Upsert.{Upsert as Clause}
use Rattle.sqlite_schema.specs.declared.command.Conflict.TheVariants.{Abort}
use Rattle.sqlite_resolve.specs.declared.write.NewRows.TheVariants.{Values as NewValues}
use Rattle.sqlite_resolve.specs.Given.{given, with_given, given_level, nested, update, do_update, upserts, upsert as upsert_one, key_meant, key_at}
use Rattle.sqlite_ast.specs.declared.Conflict.TheVariants as conflict
use Rattle.sqlite_ast.specs.declared.Rows.TheVariants as rows
use Rattle.scoop_record.proofs.UpsertLemmas.{given_row, overwrites}
use Rattle.scoop_record.specs.Tables.{handlers, clients, pending}
use Rattle.scoop_record.proofs.TableLemmas.{query_of, key_is}
use Rattle.scoop_record.proofs.Texts.{put_image, put_inc, put_entries}
use Rattle.scoop_record.proofs.among.Syntax.{syntax, understood_as, Reads, reads}
use Rattle.scoop_record.proofs.among.Lists.{slice_get_last}
use Rattle.scoop_record.proofs.among.Lowering.{st_of, lower_given, stored}
use Rattle.scoop_record.specs.Among.{Stands}

-- the columns of a table that takes the upsert
pub record TakesUpsert (t : Table) (key column : Name) (c : Column) : Type 0 where
  pub placed : places t (key ∷ column ∷ []) ≡ Ok (0 ∷ 2 ∷ [])
  pub at_key : places t (key ∷ []) ≡ Ok (0 ∷ [])
  pub fresh_row : row t (Some 2) (0 ∷ 2 ∷ []) [] (col 0 0 ∷ col 0 1 ∷ []) ≡ Ok (col 0 0 ∷ lit Null ∷ col 0 1 ∷ [])
  pub width : length t.columns ≡ 2
  pub apart : same_name t.name (codes "excluded") ≡ false
  pub place : with_place t [] column ≡ Ok (2 ∷ [])
  pub shown_at : column_named (given t 2) column ≡ Some 4
  pub there : slice_get (given t 2).columns 4 ≡ Some c
  pub renewed : row t None (2 ∷ []) (col 1 0 ∷ []) (col 0 5 ∷ []) ≡ Ok (col 1 0 ∷ col 1 0 ∷ lit Null ∷ col 0 5 ∷ [])
  pub no_rowid : is_rowid column ≡ false
  pub formats : t.stamps.formats ≡ []

abbrev pub excluded : Name
excluded = codes "excluded"

-- the upsert, as it is written
pub record LooksUpsert (statement : Statement) (name key column : Name) : Type 0 where
  pub first : Expr
  pub second : Expr
  pub value : Expr
  pub is : statement ≡ written.Insert conflict.Abort name (key ∷ column ∷ []) (rows.Values ((first ∷ second ∷ []) ∷ []))
      (record { target = key ∷ []; sets = (column, value) ∷ []; filter = None } ∷ []) []
  pub is_first : out-Expr first ≡ Expr-F.Parameter 1
  pub is_second : out-Expr second ≡ Expr-F.Parameter 2
  pub is_value : out-Expr value ≡ Expr-F.Column (Some excluded) column

module _ (s : Schema) (at : ℕ) (t : Table) (stands : Stands s at t) (key column : Name) (c : Column) (takes : TakesUpsert t key column c)
    (statement : Statement)
    (it : LooksUpsert statement t.name key column) where
  values_is : values s t 2 (0 ∷ 2 ∷ []) ((it.first ∷ it.second ∷ []) ∷ []) ≡ Ok (NewValues (col 0 0 ∷ lit Null ∷ col 0 1 ∷ []))
  unfolding values value_rows value_row all
  values_is = rw (
    lower_given (outermost s) it.first 1 it.is_first 699 1 max_budget nothing refl,
    lower_given (outermost s) it.second 2 it.is_second 699 1 99999 nothing refl,
    takes.fresh_row,
  ) refl

  new_rows_is : new_rows s t 2 (key ∷ column ∷ []) (rows.Values ((it.first ∷ it.second ∷ []) ∷ [])) ≡ Ok given_row
  unfolding new_rows inserted source_of compile_values
  new_rows_is = rw (takes.placed, values_is, takes.width) refl

  abbrev longer : Schema
  longer = with_given s t 2

  abbrev inner : Context
  inner = nested longer (level_of at t.name) (given_level s excluded [])

  outside_is : in_level longer (Some excluded) column 0 (level_of at t.name) ≡ Ok None
  unfolding in_level only hit
  outside_is = rw (takes.apart, takes.no_rowid) refl

  inside_is : in_level longer (Some excluded) column 1 (record {
    tables = record { name = excluded; table = length s.tables; slot = 0; shared = [] } ∷ [];
    shown = [];
  })
      ≡ Ok (Some (found.Column 0 (length s.tables) 4))
  unfolding in_level only hit column_in same_name
  inside_is = rw (slice_get_last s.tables (given t 2), takes.shown_at) refl

  excluded_is : scope.find inner (Some excluded) column ≡ Ok (found.Column 0 (length s.tables) 4)
  unfolding scope.find
  excluded_is = rw (outside_is, inside_is) refl

  value_is : (d next budget : ℕ) (last : Carried) → nat_lt 1 budget ≡ true
      → lower_to (suc d) inner it.value (st_of next budget last) ≡ Ok (col 0 (place_of (given t 2) 4), st_of next (budget - 1) (scope.declared (given t 2) 4 c))
  unfolding node opened lower_to spend begin finish passes scope.column term_of column_at
  value_is d next budget last some = rw (some, it.is_value, excluded_is, slice_get_last s.tables (given t 2), takes.there) refl

  assigned_is : assigned inner t ((column, it.value) ∷ []) (fresh 2 max_budget)
      ≡ Ok ((2 ∷ [], col 0 5 ∷ []), st_of 2 99999 (scope.declared (given t 2) 4 c))
  unfolding assigned sets any_scans given
  assigned_is = rw (takes.place, value_is 699 2 max_budget nothing refl) refl

  updated_is : updated_in inner t ((column, it.value) ∷ []) None
      ≡ Ok (simple (Inner t.tree ∷ []) [] (col 1 0 ∷ col 1 0 ∷ lit Null ∷ col 0 5 ∷ []))
  unfolding updated_in picked tests
  updated_is = rw (assigned_is, takes.renewed) refl

  abbrev clause : Clause
  clause = record { target = key ∷ []; sets = (column, it.value) ∷ []; filter = None }

  update_is : update s at t 2 clause
      ≡ Ok (Some (record { lets = []; body = query_of t.tree (key_is 2) (col 1 0 ∷ col 1 0 ∷ lit Null ∷ col 0 5 ∷ []) }))
  unfolding update do_update program
  update_is = rw (updated_is, stored s at t stands, stands.found) refl

  upserts_is : upserts s at t 2 (clause ∷ []) ≡ Ok (overwrites t.tree ∷ [])
  unfolding upserts upsert_one key_meant key_at
  upserts_is = rw (takes.at_key, update_is) refl

  abbrev form : Statement
  form = written.Insert conflict.Abort t.name (key ∷ column ∷ []) (rows.Values ((it.first ∷ it.second ∷ []) ∷ [])) (clause ∷ []) []

  insert_is : command s [] 2 form ≡ Ok (InsertOr at Abort given_row (overwrites t.tree ∷ []))
  unfolding command insert_or_abort insert_or
  insert_is = rw (stands.named, stands.there, new_rows_is, upserts_is) refl

  insert_compiled : (text : List ℕ) (p : Parsed) → first text ≡ Ok p → p.statement ≡ statement → p.formats ≡ [] → small p.names ≡ 2
      → compiled s text ≡ Ok (with_command p ([], (InsertOr at Abort given_row (overwrites t.tree ∷ []), None)))
  unfolding compiled planned timed meaning returning shows
  insert_compiled text p parsed same formats two =
      rw (parsed, same, it.is, formats, two, stands.named, stands.there, takes.formats, insert_is) refl

pub record IsUpsertText (name key column : Name) (p : Parsed) : Type 0 where
  pub looks : LooksUpsert p.statement name key column
  pub formats : p.formats ≡ []
  pub two : small p.names ≡ 2

pub put_image_reads : Reads (first put_image) (IsUpsertText (codes "handlers") (codes "h") (codes "image"))
unfolding syntax
put_image_reads = record {
  looks = record { first = _; second = _; value = _; is = refl; is_first = refl; is_second = refl; is_value = refl };
  formats = refl;
  two = refl;
}

pub upsert_text : (s : Schema) (at : ℕ) (t : Table) → Stands s at t → (text key column : List ℕ) (c : Column) → TakesUpsert t key column c
    → Reads (first text) (IsUpsertText t.name key column)
    → (command_of (understood s text) ≡ InsertOr at Abort given_row (overwrites t.tree ∷ [])) × IsPlain (understood s text)
upsert_text s at t stands text key column c takes form =
    let it = reads (first text) _ form in
    let made = understood_as s text _ (insert_compiled s at t stands key column c takes it.0.statement it.2.looks text it.0 it.1 refl it.2.formats it.2.two) in
    (rw made.0 refl, rw made.0 (refl, refl))

-- the upsert of an image
pub put_image_is : (s : Schema) (at tree : ℕ) → Stands s at (handlers tree)
    → (command_of (understood s put_image) ≡ InsertOr at Abort given_row (overwrites tree ∷ [])) × IsPlain (understood s put_image)
unfolding same_name places place row cell given_or absent leaves_computed with_place given is_rowid
put_image_is s at tree stands = upsert_text s at (handlers tree) stands put_image (codes "h") (codes "image") _ (record {
  placed = refl;
  at_key = refl;
  fresh_row = refl;
  width = refl;
  apart = refl;
  place = refl;
  shown_at = refl;
  there = refl;
  renewed = refl;
  no_rowid = refl;
  formats = refl;
}) put_image_reads

pub put_entries_reads : Reads (first put_entries) (IsUpsertText (codes "pending") (codes "h") (codes "entries"))
unfolding syntax
put_entries_reads = record {
  looks = record { first = _; second = _; value = _; is = refl; is_first = refl; is_second = refl; is_value = refl };
  formats = refl;
  two = refl;
}

-- the upsert of the pending entries
pub put_entries_is : (s : Schema) (at tree : ℕ) → Stands s at (pending tree)
    → (command_of (understood s put_entries) ≡ InsertOr at Abort given_row (overwrites tree ∷ [])) × IsPlain (understood s put_entries)
unfolding same_name places place row cell given_or absent leaves_computed with_place given is_rowid
put_entries_is s at tree stands = upsert_text s at (pending tree) stands put_entries (codes "h") (codes "entries") _ (record {
  placed = refl;
  at_key = refl;
  fresh_row = refl;
  width = refl;
  apart = refl;
  place = refl;
  shown_at = refl;
  there = refl;
  renewed = refl;
  no_rowid = refl;
  formats = refl;
}) put_entries_reads

pub put_inc_reads : Reads (first put_inc) (IsUpsertText (codes "clients") (codes "c") (codes "inc"))
unfolding syntax
put_inc_reads = record {
  looks = record { first = _; second = _; value = _; is = refl; is_first = refl; is_second = refl; is_value = refl };
  formats = refl;
  two = refl;
}

-- the upsert of an incarnation
pub put_inc_is : (s : Schema) (at tree : ℕ) → Stands s at (clients tree)
    → (command_of (understood s put_inc) ≡ InsertOr at Abort given_row (overwrites tree ∷ [])) × IsPlain (understood s put_inc)
unfolding same_name places place row cell given_or absent leaves_computed with_place given is_rowid
put_inc_is s at tree stands = upsert_text s at (clients tree) stands put_inc (codes "c") (codes "inc") _ (record {
  placed = refl;
  at_key = refl;
  fresh_row = refl;
  width = refl;
  apart = refl;
  place = refl;
  shown_at = refl;
  there = refl;
  renewed = refl;
  no_rowid = refl;
  formats = refl;
}) put_inc_reads
