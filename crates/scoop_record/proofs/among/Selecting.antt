-- The texts that look up a key, under a schema that may have other tables.
use Rattle.std.proofs.Common.{◌≡◌, ◌-◌, ap, is_some, List, [], ◌∷◌, codes, false, true, ℕ, Ok, Some, None, refl, slice_get, Bool, nat_lt, negsuc}
use Rattle.sqlite_value.specs.declared.value.Value.TheVariants.{Int}
use Rattle.sqlite.specs.Command.TheVariants.{Select}
use Rattle.sqlite.specs.Compile.{first}
use Rattle.sqlite.specs.Table.{Table}
use Rattle.sqlite.specs.Schema.{Schema}
use Rattle.sqlite.specs.Term.{Term, col, lit}
use Rattle.sqlite_schema.specs.Names.{place_of, same_name}
use Rattle.sqlite_schema.specs.declared.schema.Column.{Column}
use Rattle.sqlite.specs.Listing.{understood, reads_listing}
use Rattle.sqlite.proofs.Callers.{IsPlain, command_of}
use Rattle.sqlite_resolve.specs.Select.{named, outermost, parts, having, assembled, ungrouped}
use Rattle.sqlite_resolve.specs.Terms.{number}
use Rattle.sqlite_resolve.specs.Lowering.{fresh, max_budget, nothing}
use Rattle.sqlite_resolve.specs.declared.state.Carried.{Carried}
use Rattle.sqlite_resolve.specs.Body.{heading, declared, is_column, result, outputs, shown, joins, join, shared, inner_join, tests, matching, body}
use Rattle.sqlite_draft.specs.declared.join.Step.TheVariants.{Inner}
use Rattle.sqlite_ast.specs.declared.Shown.{Shown, out-Shown}
use Rattle.sqlite_resolve.specs.Order.{keys, sorts}
use Rattle.sqlite_resolve.specs.Scope as scope
use Rattle.sqlite_resolve.specs.Scope.{Name}
use Rattle.sqlite_resolve.specs.Expr.{lower}
use Rattle.sqlite_typing.specs.Types.{row_classes}
use Rattle.sqlite_resolve.specs.Compile.{read}
use Rattle.sqlite_resolve.specs.declared.state.State.{State}
use Rattle.sqlite_resolve.specs.declared.scope.Output.{Output}
use Rattle.sqlite_ast.specs.declared.Expr.{Expr, out-Expr}
use Rattle.sqlite_ast.specs.declared.Expr.TheOpen.{Expr-F, Shown-F}
use Rattle.sqlite_ast.specs.declared.Source.{Source}
use Rattle.sqlite_ast.specs.declared.Select as written_select
use Rattle.sqlite_ast.specs.declared.Statement.TheVariants as written
use Rattle.sqlite_ast.specs.declared.Core.{Core, out-Core}
use Rattle.sqlite_syntax.specs.declared.statement.Parsed.{Parsed}
use Rattle.scoop_record.specs.Tables.{meta, handlers, clients, pending}
use Rattle.scoop_record.proofs.TableLemmas.{query_of, key_is, first_key_is}
use Rattle.scoop_record.proofs.Texts.{select_image, select_entries, select_inc, select_version}
use Rattle.scoop_record.proofs.among.Syntax.{syntax, understood_as, Reads, reads}
use Rattle.scoop_record.proofs.among.Lowering.{Names, bound_of, bounds_is, find_is, st_of, cx_of, lower_column, HasColumn, output_of, Lowers, IsTest}
use Rattle.scoop_record.proofs.among.Lowering.{TestsKey, TestsOne, lowers_key, lowers_one}
use Rattle.scoop_record.proofs.among.Querying.{IsPlainSelect, query_is, program_is, select_compiled}
use Rattle.scoop_record.specs.Among.{Stands}

-- SELECT column FROM table WHERE test
pub record Looks (core : Core) (name column : Name) : Type 0 where
  pub distinct : (out-Core core).distinct ≡ false
  pub item : Shown
  pub items : (out-Core core).shown ≡ item ∷ []
  pub value : Expr
  pub heading : Name
  pub one : out-Shown item ≡ Shown-F.One value None heading
  pub is_column : out-Expr value ≡ Expr-F.Column None column
  pub source : Source
  pub sources : (out-Core core).from ≡ source ∷ []
  pub from : Names source name
  pub test : Expr
  pub tests : (out-Core core).filter ≡ Some test
  pub group : (out-Core core).group ≡ []
  pub having : (out-Core core).having ≡ None

module _ (s : Schema) (at : ℕ) (t : Table) (stands : Stands s at t) (core : Core) (column : Name) (it : Looks core t.name column)
    (wanted : Term) (tested : Lowers s at t it.test wanted) (fit : IsTest t wanted) (k : ℕ) (c : Column) (has : HasColumn t column k c) where
  heading_is : (shown : List Output) (aggregate : Bool) → heading (cx_of s t.name at 1 shown aggregate) it.value it.heading ≡ c.name
  unfolding heading declared
  heading_is shown aggregate = rw (it.is_column, find_is s at t stands.there column k has.named t.name 1 shown [] aggregate true, stands.there, has.there) refl

  is_column_is : is_column it.value ≡ true
  unfolding is_column
  is_column_is = rw it.is_column refl

  result_is : (budget : ℕ) (last : Carried) → nat_lt 1 budget ≡ true
      → result lower (outermost s) (record { tables = bound_of t.name at 1 ∷ []; shown = [] }) core (st_of 2 budget last)
      ≡ Ok (output_of t k c ∷ [], st_of 2 (budget - 1) (scope.declared t k c))
  unfolding result outputs shown
  result_is budget last some =
      rw (
        it.items,
        it.one,
        lower_column s at t stands.there column k has.named c has.there it.value it.is_column 699 t.name 1 [] true 2 budget last some,
        heading_is [] true,
        is_column_is,
      ) refl

  joins_is : (output : Output) (st : State) → joins lower (cx_of s t.name at 1 (output ∷ []) false) (bound_of t.name at 1 ∷ []) (out-Core core).from st
      ≡ Ok (record { steps = Inner t.tree ∷ []; filter = [] }, st)
  unfolding joins join shared inner_join tests
  joins_is output st = rw (it.sources, it.from.on, it.from.using, stands.there, it.from.is_left) refl

  matching_is : (output : Output) (budget : ℕ) (last : Carried) → nat_lt 1 budget ≡ true → nat_lt 1 (budget - 1) ≡ true → nat_lt 1 (budget - 1 - 1) ≡ true
      → matching lower (outermost s) (record { tables = bound_of t.name at 1 ∷ []; shown = output ∷ [] }) core (st_of 2 budget last)
      ≡ Ok (record { steps = Inner t.tree ∷ []; filter = wanted ∷ [] }, st_of 2 (budget - 1 - 1 - 1) nothing)
  unfolding matching tests
  matching_is output budget last one two three =
      rw (
        joins_is output (st_of 2 budget last),
        it.tests,
        tested (output ∷ []) budget last one two three,
        fit.whole,
      ) refl

  body_is : body lower (outermost s) core (fresh 1 max_budget) ≡ Ok (
    record {
      level = record { tables = bound_of t.name at 1 ∷ []; shown = output_of t k c ∷ [] };
      steps = Inner t.tree ∷ [];
      filter = wanted ∷ [];
    },
    st_of 2 99996 nothing,
  )
  unfolding body
  body_is = rw (
    it.sources,
    bounds_is s at t stands it.source it.from (fresh 1 max_budget) refl,
    result_is max_budget nothing refl,
    matching_is (output_of t k c) 99999 (scope.declared t k c) refl refl refl,
  ) refl

  abbrev page : Term × Term
  page = (lit (Int (negsuc 0)), number 0)

  pub named_is : named s core [] page ≡ Ok (
    ungrouped (Inner t.tree ∷ []) (wanted ∷ []) (output_of t k c ∷ []) false [] page.0 page.1,
    c.name ∷ [],
    (scope.declared t k c).collation ∷ [],
  )
  unfolding named parts keys having tests sorts assembled
  named_is = rw (body_is, it.group, it.having, it.distinct) refl

pub read_is : (s : Schema) (at : ℕ) (t : Table) → Stands s at t → (q : written_select.Select) (core : Core) (column : Name) (it : Looks core t.name column)
    (wanted : Term) → Lowers s at t it.test wanted → IsTest t wanted → (k : ℕ) (c : Column) → HasColumn t column k c → IsPlainSelect q core
    → (written_select.out-Select q).order ≡ []
    → is_some (slice_get (row_classes t) (place_of t k)) ≡ true
    → read s q ≡ Ok (Select (record { lets = []; body = query_of t.tree wanted (col 1 (place_of t k) ∷ []) }) (c.name ∷ []))
unfolding read
read_is s at t stands q core column it wanted tested fit k c has plain unsorted typed =
    rw (
      query_is s q core [] it.source t.name _ plain unsorted it.sources it.from (named_is s at t stands core column it wanted tested fit k c has),
      program_is s at t stands wanted fit.fit k c typed,
    ) refl

-- a text that looks up one value, by a test of this form
pub record IsSelectText (name column : Name) (Tests : Expr → Type 0) (p : Parsed) : Type 0 where
  pub query : written_select.Select
  pub is : p.statement ≡ written.Select query
  pub core : Core
  pub plain : IsPlainSelect query core
  pub unsorted : (written_select.out-Select query).order ≡ []
  pub looks : Looks core name column
  pub tests : Tests looks.test
  pub formats : p.formats ≡ []

-- the look up that the text means
abbrev pub LooksUp : Schema → List ℕ → ℕ → Term → List ℕ → Type 0
LooksUp s text tree wanted name = ((command_of (understood s text) ≡ Select (record { lets = []; body = query_of tree wanted (col 1 2 ∷ []) }) (name ∷ []))
    × (reads_listing s text ≡ false)) × IsPlain (understood s text)

pub select_text : (s : Schema) (at : ℕ) (t : Table) → Stands s at t → (text column : List ℕ) (Tests : Expr → Type 0) (wanted : Term)
    → ((e : Expr) → Tests e → Lowers s at t e wanted) → IsTest t wanted → (k : ℕ) (c : Column) → HasColumn t column k c → place_of t k ≡ 2
    → is_some (slice_get (row_classes t) (place_of t k)) ≡ true → Reads (first text) (IsSelectText t.name column Tests) → LooksUp s text t.tree wanted c.name
select_text s at t stands text column Tests wanted lowers fit k c has second typed form =
    let it = reads (first text) _ form in
    let is = it.2 in
    let read = read_is s at t stands is.query is.core column is.looks wanted (lowers is.looks.test is.tests) fit k c has is.plain is.unsorted typed in
    let made = understood_as s text _ (select_compiled s text it.0 is.query _ it.1 is.is read) in (
      (rw made.0 (ap (λ place. Select (record { lets = []; body = query_of t.tree wanted (col 1 place ∷ []) }) (c.name ∷ [])) second), made.1),
      rw (made.0, is.formats) (refl, refl),
    )

pub select_image_reads : Reads (first select_image) (IsSelectText (codes "handlers") (codes "image") (λ e. TestsKey e (codes "h")))
unfolding syntax
select_image_reads = record {
  query = _;
  is = refl;
  core = _;
  plain = record { with = refl; first = refl; others = refl; limit = refl; offset = refl };
  unsorted = refl;
  looks = record {
    distinct = refl;
    item = _;
    items = refl;
    value = _;
    heading = _;
    one = refl;
    is_column = refl;
    source = _;
    sources = refl;
    from = record { is_left = refl; origin = refl; alias = refl; on = refl; using = refl };
    test = _;
    tests = refl;
    group = refl;
    having = refl;
  };
  tests = record { left = _; right = _; equals = refl; is_key = refl; is_given = refl };
  formats = refl;
}

-- SELECT image FROM handlers WHERE h = ?1
pub select_image_is : (s : Schema) (at tree : ℕ) → Stands s at (handlers tree) → LooksUp s select_image tree (key_is 0) (codes "image")
unfolding same_name
select_image_is s at tree stands = select_text s at (handlers tree) stands select_image (codes "image") (λ e. TestsKey e (codes "h")) (key_is 0)
    (λ e tests. lowers_key s at (handlers tree) stands (codes "h") 0 _
    (record { has = record { named = refl; there = refl }; first = refl; none = refl }) e tests)
    (record { whole = refl; fit = refl }) 1 _ (record { named = refl; there = refl }) refl refl select_image_reads

pub select_entries_reads : Reads (first select_entries) (IsSelectText (codes "pending") (codes "entries") (λ e. TestsKey e (codes "h")))
unfolding syntax
select_entries_reads = record {
  query = _;
  is = refl;
  core = _;
  plain = record { with = refl; first = refl; others = refl; limit = refl; offset = refl };
  unsorted = refl;
  looks = record {
    distinct = refl;
    item = _;
    items = refl;
    value = _;
    heading = _;
    one = refl;
    is_column = refl;
    source = _;
    sources = refl;
    from = record { is_left = refl; origin = refl; alias = refl; on = refl; using = refl };
    test = _;
    tests = refl;
    group = refl;
    having = refl;
  };
  tests = record { left = _; right = _; equals = refl; is_key = refl; is_given = refl };
  formats = refl;
}

-- SELECT entries FROM pending WHERE h = ?1
pub select_entries_is : (s : Schema) (at tree : ℕ) → Stands s at (pending tree) → LooksUp s select_entries tree (key_is 0) (codes "entries")
unfolding same_name
select_entries_is s at tree stands = select_text s at (pending tree) stands select_entries (codes "entries") (λ e. TestsKey e (codes "h")) (key_is 0)
    (λ e tests. lowers_key s at (pending tree) stands (codes "h") 0 _
    (record { has = record { named = refl; there = refl }; first = refl; none = refl }) e tests)
    (record { whole = refl; fit = refl }) 1 _ (record { named = refl; there = refl }) refl refl select_entries_reads

pub select_inc_reads : Reads (first select_inc) (IsSelectText (codes "clients") (codes "inc") (λ e. TestsKey e (codes "c")))
unfolding syntax
select_inc_reads = record {
  query = _;
  is = refl;
  core = _;
  plain = record { with = refl; first = refl; others = refl; limit = refl; offset = refl };
  unsorted = refl;
  looks = record {
    distinct = refl;
    item = _;
    items = refl;
    value = _;
    heading = _;
    one = refl;
    is_column = refl;
    source = _;
    sources = refl;
    from = record { is_left = refl; origin = refl; alias = refl; on = refl; using = refl };
    test = _;
    tests = refl;
    group = refl;
    having = refl;
  };
  tests = record { left = _; right = _; equals = refl; is_key = refl; is_given = refl };
  formats = refl;
}

-- SELECT inc FROM clients WHERE c = ?1
pub select_inc_is : (s : Schema) (at tree : ℕ) → Stands s at (clients tree) → LooksUp s select_inc tree (key_is 0) (codes "inc")
unfolding same_name
select_inc_is s at tree stands = select_text s at (clients tree) stands select_inc (codes "inc") (λ e. TestsKey e (codes "c")) (key_is 0)
    (λ e tests. lowers_key s at (clients tree) stands (codes "c") 0 _
    (record { has = record { named = refl; there = refl }; first = refl; none = refl }) e tests)
    (record { whole = refl; fit = refl }) 1 _ (record { named = refl; there = refl }) refl refl select_inc_reads

pub select_version_reads : Reads (first select_version) (IsSelectText (codes "meta") (codes "version") (λ e. TestsOne e (codes "id")))
unfolding syntax
select_version_reads = record {
  query = _;
  is = refl;
  core = _;
  plain = record { with = refl; first = refl; others = refl; limit = refl; offset = refl };
  unsorted = refl;
  looks = record {
    distinct = refl;
    item = _;
    items = refl;
    value = _;
    heading = _;
    one = refl;
    is_column = refl;
    source = _;
    sources = refl;
    from = record { is_left = refl; origin = refl; alias = refl; on = refl; using = refl };
    test = _;
    tests = refl;
    group = refl;
    having = refl;
  };
  tests = record { left = _; right = _; equals = refl; is_key = refl; is_one = refl };
  formats = refl;
}

-- SELECT version FROM meta WHERE id = 1
pub select_version_is : (s : Schema) (at tree : ℕ) → Stands s at (meta tree) → LooksUp s select_version tree first_key_is (codes "version")
unfolding same_name
select_version_is s at tree stands = select_text s at (meta tree) stands select_version (codes "version") (λ e. TestsOne e (codes "id")) first_key_is
    (λ e tests. lowers_one s at (meta tree) stands (codes "id") 0 _ (record { has = record { named = refl; there = refl }; first = refl; none = refl }) e tests)
    (record { whole = refl; fit = refl }) 1 _ (record { named = refl; there = refl }) refl refl select_version_reads
