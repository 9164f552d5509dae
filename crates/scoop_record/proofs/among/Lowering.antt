-- The terms of the columns, parameters and tests of a text, under a schema that may have other tables.
use Rattle.std.proofs.Common.{pos, arith, ◌≡◌, ◌∙◌, ◌+◌, ◌-◌, List, [], ◌∷◌, codes, false, true, ℕ, suc, Ok, Some, None, refl, slice_get, Bool, nat_lt, ◌^◌}
use Rattle.std.proofs.Common.{nat_le}
use Rattle.std.proofs.lemmas.Bool.Decides.{nat_tests}
use Rattle.sqlite_value.specs.declared.value.Value.TheVariants.{Int}
use Rattle.sqlite.specs.Compile.{first}
use Rattle.sqlite.specs.Table.{Table}
use Rattle.sqlite.specs.Schema.{Schema}
use Rattle.sqlite.specs.Term.{Term, col, lit}
use Rattle.sqlite_schema.specs.Names.{column_named, place_of}
use Rattle.sqlite_schema.specs.declared.schema.Column.{Column}
use Rattle.sqlite_resolve.specs.Lowering.{max_slots, take_slot, begin, finish, spend, nothing, chosen, first_found}
use Rattle.sqlite_resolve.specs.declared.state.Carried.{Carried}
use Rattle.sqlite_ast.specs.declared.Binary.TheVariants as binary
use Rattle.sqlite_resolve.specs.Body.{table_in, bounds, bound, shown}
use Rattle.sqlite_resolve.specs.Literal.{integer, decimal, hexadecimal}
use Rattle.sqlite_resolve.specs.Scope as scope
use Rattle.sqlite_resolve.specs.Scope.{Context, Name, in_level, only, hit, column_in, is_among, term_of, column_at}
use Rattle.sqlite_resolve.specs.Expr.{opened, node, lower_to, passes, operation, both, combine, tests_truth, tests_alias, wanted_truth}
use Rattle.sqlite_resolve.specs.Compare.{compared, affinity_of, of_column, converted, may_be_text}
use Rattle.sqlite_resolve.specs.declared.state.State.{State}
use Rattle.sqlite_resolve.specs.declared.scope.Bound.{Bound}
use Rattle.sqlite_resolve.specs.declared.scope.Level.{Level}
use Rattle.sqlite_resolve.specs.declared.scope.Output.{Output}
use Rattle.sqlite_resolve.specs.declared.scope.Found.TheVariants as found
use Rattle.sqlite_ast.specs.declared.Expr.{Expr, out-Expr}
use Rattle.sqlite_ast.specs.declared.Expr.TheOpen.{Expr-F}
use Rattle.sqlite_ast.specs.declared.Source.{Source, out-Source}
use Rattle.sqlite_ast.specs.declared.Origin.TheVariants as origin
use Rattle.scoop_record.proofs.TableLemmas.{key_is, first_key_is}
use Rattle.sqlite_resolve.specs.Terms.{conjuncts}
use Rattle.sqlite_typing.specs.Types.{row_classes, are_tests}
use Rattle.scoop_record.specs.Among.{Stands}

-- a table's name in FROM
pub record Names (source : Source) (name : Name) : Type 0 where
  pub is_left : (out-Source source).is_left ≡ false
  pub origin : (out-Source source).origin ≡ origin.Table name
  pub alias : (out-Source source).alias ≡ None
  pub on : (out-Source source).on ≡ None
  pub using : (out-Source source).using ≡ []

abbrev pub bound_of : Name → ℕ → ℕ → Bound
bound_of name at slot = record { name = name; table = at; slot = slot; shared = [] }

pub table_in_is : (s : Schema) (at : ℕ) (t : Table) → Stands s at t → (slot : ℕ) → table_in s slot (origin.Table t.name) ≡ Ok (t.name, at)
unfolding table_in
table_in_is s at t h slot = rw h.named refl

pub bounds_is : (s : Schema) (at : ℕ) (t : Table) → Stands s at t → (source : Source) → Names source t.name → (st : State) → nat_lt st.next max_slots ≡ true
    → bounds s (source ∷ []) st ≡ Ok (bound_of t.name at st.next ∷ [], record st { next = st.next + 1 })
unfolding bounds bound take_slot
bounds_is s at t h source n st few = rw (few, n.origin, table_in_is s at t h st.next, n.alias, n.using) refl

pub find_is : (s : Schema) (at : ℕ) (t : Table) → slice_get s.tables at ≡ Some t → (name : Name) (k : ℕ) → column_named t name ≡ Some k
    → (own : Name) (slot : ℕ) (shown : List Output) (outer : List Level) (aggregate alias : Bool)
    → scope.find (record {
      schema = s;
      levels = record { tables = bound_of own at slot ∷ []; shown = shown } ∷ outer;
      may_aggregate = aggregate;
      may_alias = alias;
    }) None name
    ≡ Ok (found.Column slot at k)
unfolding scope.find in_level only hit column_in is_among
find_is s at t there name k is own slot shown outer aggregate alias = rw (there, is) refl

pub column_is : (s : Schema) (at : ℕ) (t : Table) → slice_get s.tables at ≡ Some t → (name : Name) (k : ℕ) → column_named t name ≡ Some k
    → (c : Column) → slice_get t.columns k ≡ Some c
    → (own : Name) (slot : ℕ) (shown : List Output) (outer : List Level) (aggregate alias : Bool) (st : State)
    → scope.column (record {
      schema = s;
      levels = record { tables = bound_of own at slot ∷ []; shown = shown } ∷ outer;
      may_aggregate = aggregate;
      may_alias = alias;
    }) None name st
    ≡ Ok (col slot (place_of t k), record st { last = scope.declared t k c })
unfolding scope.column term_of column_at
column_is s at t there name k is c has own slot shown outer aggregate alias st =
    rw (find_is s at t there name k is own slot shown outer aggregate alias, there, has) refl

abbrev pub st_of : ℕ → ℕ → Carried → State
st_of next budget last = record { next = next; steps = []; aggregates = []; budget = budget; written = None; last = last }

abbrev pub cx_of : Schema → Name → ℕ → ℕ → List Output → Bool → Context
cx_of s own at slot shown aggregate = record {
  schema = s;
  levels = record { tables = bound_of own at slot ∷ []; shown = shown } ∷ [];
  may_aggregate = aggregate;
  may_alias = true;
}

pub lower_column : (s : Schema) (at : ℕ) (t : Table) → slice_get s.tables at ≡ Some t → (name : Name) (k : ℕ) → column_named t name ≡ Some k
    → (c : Column) → slice_get t.columns k ≡ Some c → (e : Expr) → out-Expr e ≡ Expr-F.Column None name
    → (d : ℕ) (own : Name) (slot : ℕ) (shown : List Output) (aggregate : Bool) (next budget : ℕ) (last : Carried) → nat_lt 1 budget ≡ true
    → lower_to (suc d) (cx_of s own at slot shown aggregate) e (st_of next budget last)
    ≡ Ok (col slot (place_of t k), st_of next (budget - 1) (scope.declared t k c))
unfolding node opened lower_to spend begin finish passes
lower_column s at t there name k is c has e out d own slot shown aggregate next budget last some =
    rw (some, out, column_is s at t there name k is c has own slot shown [] aggregate true (st_of next (budget - 1) nothing)) refl

pub lower_parameter : (cx : Context) (e : Expr) → out-Expr e ≡ Expr-F.Parameter 1
    → (d next budget : ℕ) (last : Carried) → nat_lt 1 budget ≡ true
    → lower_to (suc d) cx e (st_of next budget last) ≡ Ok (col 0 0, st_of next (budget - 1) nothing)
unfolding node opened lower_to spend begin finish passes
lower_parameter cx e out d next budget last some = rw (some, out) refl

pub lower_suc : (d : ℕ) (cx : Context) (e : Expr) (st : State) → lower_to (suc d) cx e st ≡ node (lower_to d) cx e st
unfolding lower_to
lower_suc d cx e st = refl

pub lower_equal : (s : Schema) (at : ℕ) (t : Table) → slice_get s.tables at ≡ Some t → (name : Name) (k : ℕ) → column_named t name ≡ Some k
    → (c : Column) → slice_get t.columns k ≡ Some c → place_of t k ≡ 0 → scope.declared t k c ≡ nothing
    → (e a b : Expr) → out-Expr e ≡ Expr-F.Binary binary.Eq a b → out-Expr a ≡ Expr-F.Column None name → out-Expr b ≡ Expr-F.Parameter 1
    → (d : ℕ) (own : Name) (shown : List Output) (aggregate : Bool) (next budget : ℕ) (last : Carried) → nat_lt 1 budget ≡ true
    → nat_lt 1 (budget - 1) ≡ true → nat_lt 1 (budget - 1 - 1) ≡ true
    → lower_to (suc (suc d)) (cx_of s own at 1 shown aggregate) e (st_of next budget last)
    ≡ Ok (key_is 0, st_of next (budget - 1 - 1 - 1) nothing)
unfolding node opened spend begin finish passes operation both combine tests_truth tests_alias wanted_truth compared affinity_of of_column converted
    may_be_text chosen first_found
lower_equal s at t there name k is c has first none e a b out left right d own shown aggregate next budget last one two three =
    lower_suc (suc d) (cx_of s own at 1 shown aggregate) e (st_of next budget last) ∙
    rw (
      one,
      out,
      lower_column s at t there name k is c has a left d own 1 shown aggregate next (budget - 1) nothing two,
      first,
      none,
      lower_parameter (cx_of s own at 1 shown aggregate) b right d next (budget - 1 - 1) nothing three,
    ) refl

-- a column of the table, which is no key, and the key
pub record HasColumn (t : Table) (name : Name) (k : ℕ) (c : Column) : Type 0 where
  pub named : column_named t name ≡ Some k
  pub there : slice_get t.columns k ≡ Some c

pub record HasKey (t : Table) (name : Name) (k : ℕ) (c : Column) : Type 0 where
  pub has : HasColumn t name k c
  pub first : place_of t k ≡ 0
  pub none : scope.declared t k c ≡ nothing

abbrev pub output_of : Table → ℕ → Column → Output
output_of t k c = record { name = c.name; is_alias = false; is_column = true; term = col 1 (place_of t k); carried = scope.declared t k c }

pub lower_given : (cx : Context) (e : Expr) (n : ℕ) → out-Expr e ≡ Expr-F.Parameter n
    → (d next budget : ℕ) (last : Carried) → nat_lt 1 budget ≡ true
    → lower_to (suc d) cx e (st_of next budget last) ≡ Ok (col 0 (n - 1), st_of next (budget - 1) nothing)
unfolding node opened lower_to spend begin finish passes
lower_given cx e n out d next budget last some = rw (some, out) refl

pub lower_one : (cx : Context) (e : Expr) → out-Expr e ≡ Expr-F.Integer (codes "1")
    → (d next budget : ℕ) (last : Carried) → nat_lt 1 budget ≡ true
    → lower_to (suc d) cx e (st_of next budget last) ≡ Ok (lit (Int (pos 1)), st_of next (budget - 1) nothing)
unfolding node opened lower_to spend begin finish passes integer decimal hexadecimal
lower_one cx e out d next budget last some = rw (some, out) refl

pub lower_is_one : (s : Schema) (at : ℕ) (t : Table) → slice_get s.tables at ≡ Some t → (name : Name) (k : ℕ) → column_named t name ≡ Some k
    → (c : Column) → slice_get t.columns k ≡ Some c → place_of t k ≡ 0 → scope.declared t k c ≡ nothing
    → (e a b : Expr) → out-Expr e ≡ Expr-F.Binary binary.Eq a b → out-Expr a ≡ Expr-F.Column None name → out-Expr b ≡ Expr-F.Integer (codes "1")
    → (d : ℕ) (own : Name) (shown : List Output) (aggregate : Bool) (next budget : ℕ) (last : Carried) → nat_lt 1 budget ≡ true
    → nat_lt 1 (budget - 1) ≡ true → nat_lt 1 (budget - 1 - 1) ≡ true
    → lower_to (suc (suc d)) (cx_of s own at 1 shown aggregate) e (st_of next budget last)
    ≡ Ok (first_key_is, st_of next (budget - 1 - 1 - 1) nothing)
unfolding node opened spend begin finish passes operation both combine tests_truth tests_alias wanted_truth compared affinity_of of_column converted
    may_be_text chosen first_found
lower_is_one s at t there name k is c has first none e a b out left right d own shown aggregate next budget last one two three =
    lower_suc (suc d) (cx_of s own at 1 shown aggregate) e (st_of next budget last) ∙
    rw (
      one,
      out,
      lower_column s at t there name k is c has a left d own 1 shown aggregate next (budget - 1) nothing two,
      first,
      none,
      lower_one (cx_of s own at 1 shown aggregate) b right d next (budget - 1 - 1) nothing three,
    ) refl

-- the tree of a table is none of a program's own
pub stored : (s : Schema) (at : ℕ) (t : Table) → Stands s at t → nat_le (2 ^ 31) t.tree ≡ false
stored s at t h = let low = h.low in grind (arith, nat_tests)

-- a test whose term is known
abbrev pub Lowers : Schema → ℕ → Table → Expr → Term → Type 0
Lowers s at t e wanted = (shown : List Output) (budget : ℕ) (last : Carried) → nat_lt 1 budget ≡ true → nat_lt 1 (budget - 1) ≡ true
    → nat_lt 1 (budget - 1 - 1) ≡ true
    → lower_to 700 (cx_of s t.name at 1 shown false) e (st_of 2 budget last) ≡ Ok (wanted, st_of 2 (budget - 1 - 1 - 1) nothing)

-- key = ?1
pub record TestsKey (e : Expr) (key : Name) : Type 0 where
  pub left : Expr
  pub right : Expr
  pub equals : out-Expr e ≡ Expr-F.Binary binary.Eq left right
  pub is_key : out-Expr left ≡ Expr-F.Column None key
  pub is_given : out-Expr right ≡ Expr-F.Parameter 1

-- key = 1
pub record TestsOne (e : Expr) (key : Name) : Type 0 where
  pub left : Expr
  pub right : Expr
  pub equals : out-Expr e ≡ Expr-F.Binary binary.Eq left right
  pub is_key : out-Expr left ≡ Expr-F.Column None key
  pub is_one : out-Expr right ≡ Expr-F.Integer (codes "1")

pub lowers_key : (s : Schema) (at : ℕ) (t : Table) → Stands s at t → (key : Name) (j : ℕ) (h : Column) → HasKey t key j h
    → (e : Expr) → TestsKey e key → Lowers s at t e (key_is 0)
lowers_key s at t stands key j h own e it shown budget last one two three =
    lower_equal s at t stands.there key j own.has.named h own.has.there own.first own.none e it.left it.right it.equals it.is_key it.is_given
    698 t.name shown false 2 budget last one two three

pub lowers_one : (s : Schema) (at : ℕ) (t : Table) → Stands s at t → (key : Name) (j : ℕ) (h : Column) → HasKey t key j h
    → (e : Expr) → TestsOne e key → Lowers s at t e first_key_is
lowers_one s at t stands key j h own e it shown budget last one two three =
    lower_is_one s at t stands.there key j own.has.named h own.has.there own.first own.none e it.left it.right it.equals it.is_key it.is_one
    698 t.name shown false 2 budget last one two three

-- a single test of a table's row
pub record IsTest (t : Table) (wanted : Term) : Type 0 where
  pub whole : conjuncts wanted ≡ wanted ∷ []
  pub fit : are_tests [] (row_classes t ∷ []) (wanted ∷ []) ≡ true
