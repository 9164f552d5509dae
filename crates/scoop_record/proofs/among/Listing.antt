-- The text that lists a table by its key, under a schema that may have other tables.
use Rattle.std.proofs.Common.{◌≡◌, List, [], ◌∷◌, false, true, ℕ, Ok, None, refl, negsuc}
use Rattle.sqlite_value.specs.declared.value.Value.TheVariants.{Int}
use Rattle.sqlite_value.specs.declared.keys.Collation.TheVariants.{Binary}
use Rattle.sqlite.specs.Compile.{first}
use Rattle.sqlite.specs.Table.{Table}
use Rattle.sqlite.specs.Schema.{Schema}
use Rattle.sqlite.specs.Term.{Term, col, lit}
use Rattle.sqlite_schema.specs.declared.schema.Column.{Column}
use Rattle.sqlite_resolve.specs.Select.{named, outermost, parts, having, assembled, ungrouped}
use Rattle.sqlite_resolve.specs.Terms.{number}
use Rattle.sqlite_resolve.specs.Lowering.{fresh, max_budget, nothing, alone as sole}
use Rattle.sqlite_resolve.specs.Body.{heading, declared, is_column, result, outputs, shown, joins, join, shared, inner_join, tests, matching, body}
use Rattle.sqlite_draft.specs.declared.join.Step.TheVariants.{Inner}
use Rattle.sqlite_ast.specs.declared.Shown.{Shown, out-Shown}
use Rattle.sqlite_resolve.specs.Order.{keys, sorts, sort, key as sort_key, collation_of, placed, peeled, alias_in, is_numeral, written_on}
use Rattle.sqlite_value.specs.Keys.{ascending}
use Rattle.sqlite_resolve.specs.Scope as scope
use Rattle.sqlite_resolve.specs.Scope.{Name}
use Rattle.sqlite_resolve.specs.Expr.{lower}
use Rattle.sqlite_ast.specs.declared.Sort.{Sort, out-Sort}
use Rattle.sqlite_resolve.specs.declared.state.State.{State}
use Rattle.sqlite_resolve.specs.declared.scope.Output.{Output}
use Rattle.sqlite_ast.specs.declared.Expr.{Expr, out-Expr}
use Rattle.sqlite_ast.specs.declared.Expr.TheOpen.{Expr-F, Shown-F}
use Rattle.sqlite_ast.specs.declared.Source.{Source}
use Rattle.sqlite_ast.specs.declared.Core.{Core, out-Core}
use Rattle.scoop_record.proofs.among.Lowering.{Names, bound_of, bounds_is, find_is, st_of, cx_of, lower_column, HasColumn, HasKey, output_of, stored}
use Rattle.std.proofs.Common.{codes, is_some, slice_get, pos}
use Rattle.sqlite_sql.specs.Query.{Query, inner, end}
use Rattle.sqlite_schema.specs.Names.{place_of, same_name}
use Rattle.sqlite.specs.Command.TheVariants.{Select}
use Rattle.sqlite.specs.Listing.{understood, reads_listing}
use Rattle.sqlite.proofs.Callers.{IsPlain, command_of}
use Rattle.sqlite_resolve.specs.Program.{program}
use Rattle.sqlite_resolve.specs.Compile.{read}
use Rattle.sqlite_typing.specs.Types.{row_classes}
use Rattle.sqlite_ast.specs.declared.Select as written_select
use Rattle.sqlite_ast.specs.declared.Statement.TheVariants as written
use Rattle.sqlite_syntax.specs.declared.statement.Parsed.{Parsed}
use Rattle.scoop_record.specs.Tables.{handlers}
use Rattle.scoop_record.proofs.Texts.{select_images}
use Rattle.scoop_record.proofs.among.Syntax.{syntax, understood_as, Reads, reads}
use Rattle.scoop_record.proofs.among.Querying.{IsPlainSelect, query_is, select_compiled}
use Rattle.scoop_record.specs.Among.{Stands}

abbrev pub page_all : Term × Term
page_all = (lit (Int (negsuc 0)), number 0)

-- SELECT key, column FROM table ORDER BY key
pub record LooksAll (core : Core) (name key column : Name) : Type 0 where
  pub distinct : (out-Core core).distinct ≡ false
  pub item : Shown
  pub more : Shown
  pub items : (out-Core core).shown ≡ item ∷ more ∷ []
  pub first : Expr
  pub second : Expr
  pub heading : Name
  pub other : Name
  pub one : out-Shown item ≡ Shown-F.One first None heading
  pub two : out-Shown more ≡ Shown-F.One second None other
  pub is_first : out-Expr first ≡ Expr-F.Column None key
  pub is_second : out-Expr second ≡ Expr-F.Column None column
  pub source : Source
  pub sources : (out-Core core).from ≡ source ∷ []
  pub from : Names source name
  pub filter : (out-Core core).filter ≡ None
  pub group : (out-Core core).group ≡ []
  pub having : (out-Core core).having ≡ None

pub record IsSort (by : Sort) (key : Name) : Type 0 where
  pub is : out-Expr (out-Sort by).key ≡ Expr-F.Column None key
  pub descending : (out-Sort by).descending ≡ false
  pub nulls : (out-Sort by).nulls_first ≡ None

module _ (s : Schema) (at : ℕ) (t : Table) (stands : Stands s at t) (core : Core) (key column : Name) (it : LooksAll core t.name key column) (by : Sort)
    (sorted : IsSort by key)
    (k j : ℕ) (c h : Column) (has : HasColumn t column k c) (has_key : HasKey t key j h) where
  heading_of : (e : Expr) (name text : Name) (n : ℕ) (d : Column) → out-Expr e ≡ Expr-F.Column None name → HasColumn t name n d
      → heading (cx_of s t.name at 1 [] true) e text ≡ d.name
  unfolding heading declared
  heading_of e name text n d out own = rw (out, find_is s at t stands.there name n own.named t.name 1 [] [] true true, stands.there, own.there) refl

  column_of_is : (e : Expr) (name : Name) → out-Expr e ≡ Expr-F.Column None name → is_column e ≡ true
  unfolding is_column
  column_of_is e name out = rw out refl

  abbrev pub two_shown : List Output
  two_shown = record { name = h.name; is_alias = false; is_column = true; term = col 1 0; carried = nothing } ∷ output_of t k c ∷ []

  result_all : result lower (outermost s) (record { tables = bound_of t.name at 1 ∷ []; shown = [] }) core (st_of 2 max_budget nothing)
      ≡ Ok (two_shown, st_of 2 99998 (scope.declared t k c))
  unfolding result outputs shown
  result_all =
      rw (
        it.items,
        it.one,
        lower_column s at t stands.there key j has_key.has.named h has_key.has.there it.first it.is_first 699 t.name 1 [] true 2 max_budget nothing refl,
        heading_of it.first key it.heading j h it.is_first has_key.has,
        column_of_is it.first key it.is_first,
        has_key.first,
        has_key.none,
        it.two,
        lower_column s at t stands.there column k has.named c has.there it.second it.is_second 699 t.name 1 [] true 2 99999 nothing refl,
        heading_of it.second column it.other k c it.is_second has,
        column_of_is it.second column it.is_second,
      ) refl

  joins_all : (st : State) → joins lower (cx_of s t.name at 1 two_shown false) (bound_of t.name at 1 ∷ []) (out-Core core).from st
      ≡ Ok (record { steps = Inner t.tree ∷ []; filter = [] }, st)
  unfolding joins join shared inner_join tests
  joins_all st = rw (it.sources, it.from.on, it.from.using, stands.there, it.from.is_left) refl

  matching_all : (st : State) → matching lower (outermost s) (record { tables = bound_of t.name at 1 ∷ []; shown = two_shown }) core st
      ≡ Ok (record { steps = Inner t.tree ∷ []; filter = [] }, st)
  unfolding matching tests
  matching_all st = rw (joins_all st, it.filter) refl

  body_all : body lower (outermost s) core (fresh 1 max_budget) ≡ Ok (
    record {
      level = record { tables = bound_of t.name at 1 ∷ []; shown = two_shown };
      steps = Inner t.tree ∷ [];
      filter = [];
    },
    st_of 2 99998 (scope.declared t k c),
  )
  unfolding body
  body_all = rw (
    it.sources,
    bounds_is s at t stands it.source it.from (fresh 1 max_budget) refl,
    result_all,
    matching_all (st_of 2 99998 (scope.declared t k c)),
  ) refl

  peeled_is : peeled (out-Sort by).key ≡ (out-Sort by).key
  unfolding peeled
  peeled_is = rw sorted.is refl

  alias_is : alias_in two_shown (out-Sort by).key ≡ None
  unfolding alias_in
  alias_is = rw sorted.is refl

  numeral_is : is_numeral (out-Sort by).key ≡ false
  unfolding is_numeral
  numeral_is = rw sorted.is refl

  written_is : written_on (out-Sort by).key ≡ None
  unfolding written_on
  written_is = rw sorted.is refl

  sorts_all : sorts lower (cx_of s t.name at 1 two_shown false) two_shown (by ∷ []) (st_of 2 99998 (scope.declared t k c))
      ≡ Ok ((col 1 0, ascending Binary) ∷ [], st_of 2 99997 nothing)
  unfolding sorts sort sort_key collation_of placed sole
  sorts_all = rw (
    peeled_is,
    alias_is,
    lower_column s at t stands.there key j has_key.has.named h has_key.has.there (out-Sort by).key sorted.is 699 t.name 1 two_shown false 2 99998
        (scope.declared t k c) refl,
    has_key.first,
    has_key.none,
    numeral_is,
    written_is,
    sorted.descending,
    sorted.nulls,
  ) refl

  pub named_all : named s core (by ∷ []) page_all ≡ Ok (
    ungrouped (Inner t.tree ∷ []) [] two_shown false ((col 1 0, ascending Binary) ∷ []) page_all.0 page_all.1,
    h.name ∷ c.name ∷ [],
    None ∷ (scope.declared t k c).collation ∷ [],
  )
  unfolding named parts keys having tests assembled
  named_all = rw (body_all, it.group, it.having, sorts_all, it.distinct) refl

-- each row's key and value, by key
abbrev pub all_of : ℕ → Query
all_of tree = record {
  from = inner tree end;
  filter = [];
  group = None;
  project = col 1 0 ∷ col 1 2 ∷ [];
  distinct = false;
  collations = [];
  order = (col 1 0, ascending Binary) ∷ [];
  limit = lit (Int (negsuc 0));
  offset = lit (Int (pos 0));
}

module _ (s : Schema) (at : ℕ) (t : Table) (stands : Stands s at t) (q : written_select.Select) (core : Core) (key column : Name)
    (it : LooksAll core t.name key column)
    (by : Sort) (sorted : IsSort by key) (k j : ℕ) (c h : Column) (has : HasColumn t column k c) (has_key : HasKey t key j h)
    (second : place_of t k ≡ 2) (typed : is_some (slice_get (row_classes t) 2) ≡ true) where
  program_all : program s [] (ungrouped (Inner t.tree ∷ []) []
      (two_shown s at t stands core key column it by sorted k j c h has has_key) false ((col 1 0, ascending Binary) ∷ []) page_all.0 page_all.1)
      ≡ Ok (record { lets = []; body = all_of t.tree })
  unfolding program ungrouped
  program_all = rw (stored s at t stands, stands.found, second, typed) refl

  pub read_all : IsPlainSelect q core → (written_select.out-Select q).order ≡ by ∷ []
      → read s q ≡ Ok (Select (record { lets = []; body = all_of t.tree }) (h.name ∷ c.name ∷ []))
  unfolding read
  read_all plain ordered = rw (
    query_is s q core (by ∷ []) it.source t.name _ plain ordered it.sources it.from (named_all s at t stands core key column it by sorted k j c h has has_key),
    program_all,
  ) refl

-- a text that lists a table
pub record IsListText (name key column : Name) (p : Parsed) : Type 0 where
  pub query : written_select.Select
  pub is : p.statement ≡ written.Select query
  pub core : Core
  pub plain : IsPlainSelect query core
  pub by : Sort
  pub ordered : (written_select.out-Select query).order ≡ by ∷ []
  pub sorted : IsSort by key
  pub looks : LooksAll core name key column
  pub formats : p.formats ≡ []

pub select_images_reads : Reads (first select_images) (IsListText (codes "handlers") (codes "h") (codes "image"))
unfolding syntax
select_images_reads = record {
  query = _;
  is = refl;
  core = _;
  plain = record { with = refl; first = refl; others = refl; limit = refl; offset = refl };
  by = _;
  ordered = refl;
  sorted = record { is = refl; descending = refl; nulls = refl };
  looks = record {
    distinct = refl;
    item = _;
    more = _;
    items = refl;
    first = _;
    second = _;
    heading = _;
    other = _;
    one = refl;
    two = refl;
    is_first = refl;
    is_second = refl;
    source = _;
    sources = refl;
    from = record { is_left = refl; origin = refl; alias = refl; on = refl; using = refl };
    filter = refl;
    group = refl;
    having = refl;
  };
  formats = refl;
}

-- SELECT h, image FROM handlers ORDER BY h
pub select_images_is : (s : Schema) (at tree : ℕ) → Stands s at (handlers tree)
    → ((command_of (understood s select_images) ≡ Select (record { lets = []; body = all_of tree }) (codes "h" ∷ codes "image" ∷ []))
    × (reads_listing s select_images ≡ false)) × IsPlain (understood s select_images)
unfolding same_name
select_images_is s at tree stands =
    let it = reads (first select_images) _ select_images_reads in
    let is = it.2 in
    let read = read_all s at (handlers tree) stands is.query is.core (codes "h") (codes "image") is.looks is.by is.sorted 1 0 _ _
    (record { named = refl; there = refl }) (record { has = record { named = refl; there = refl }; first = refl; none = refl }) refl refl is.plain is.ordered in
    let made = understood_as s select_images _ (select_compiled s select_images it.0 is.query _ it.1 is.is read) in
    ((rw made.0 refl, made.1), rw (made.0, is.formats) (refl, refl))
