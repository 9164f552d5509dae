-- A record among other tables of a database.
use Rattle.std.specs.Prelude.{◌≡◌, ◌≢◌, ◌<◌, ◌≤◌, ◌+◌, ◌^◌, length, ◌==◌, ℕ, Bool, true, false, not, List, [], ◌∷◌, codes, Option, Some, None}
use Rattle.std.specs.Prelude.{unwrap_or, option_map, option_and_then, find, slice_get, nat_lt}
use Rattle.std.specs.List.{AllByRecursion, list_any, list_all}
use Rattle.sqlite_value.specs.declared.value.Value.{Value}
use Rattle.sqlite_schema.specs.Names.{table_named, index_named, view_named, same_name}
use Rattle.sqlite_schema.specs.Rules.{ParentKey, parent_key}
use Rattle.sqlite_schema.specs.declared.schema.Index.{Index}
use Rattle.sqlite_catalog.specs.Change.{next_tree, created}
use Rattle.sqlite_rules.specs.Edit.{IsNoIndex}
use Rattle.sqlite.specs.Effect.{Database}
use Rattle.sqlite.specs.Does.{lacks_sequence}
use Rattle.sqlite.specs.Table.{Table}
use Rattle.sqlite.specs.Schema.{Schema}
use Rattle.scoop_record.specs.Tables.{meta, handlers, clients, pending, value_at}

-- a table's place: its name and its tree lead to it and to no other table
pub record Stands (schema : Schema) (at : ℕ) (table : Table) : Type 0 where
  pub named : table_named schema table.name ≡ Some at
  pub there : slice_get schema.tables at ≡ Some table
  pub found : find (λ (t : Table). t.tree == table.tree) schema.tables ≡ Some table
  pub low : table.tree < 2 ^ 31

-- a name that no table, index or view has
pub record IsFree (schema : Schema) (name : List ℕ) : Type 0 where
  pub table : table_named schema name ≡ None
  pub index : index_named schema name ≡ None
  pub view : view_named schema name ≡ None

-- a foreign key's target in another tree, or none
abbrev pub is_apart : ℕ → Option ParentKey → Bool
is_apart tree None = true
is_apart tree (Some key) = not (key.0 == tree)

-- no foreign key leads to the tree
abbrev pub is_unreferred : Schema → ℕ → Bool
is_unreferred schema tree = list_all (λ (child : Table). list_all (λ ref. is_apart tree (parent_key schema.tables ref)) child.references) schema.tables

-- a table with no index, to which no foreign key leads
pub record IsAlone (schema : Schema) (table : Table) : Type 0 where
  pub unindexed : list_any (λ (i : Index). i.table == table.tree) schema.indexes ≡ false
  pub unreferred : is_unreferred schema table.tree ≡ true

-- each index is on a table below the next tree
abbrev pub are_indexes_below : Schema → Bool
are_indexes_below schema = list_all (λ (i : Index). nat_lt i.table (next_tree schema)) schema.indexes

-- no foreign key names the table
abbrev pub is_unnamed : Schema → List ℕ → Bool
is_unnamed schema name = list_all (λ (child : Table). list_all (λ ref. not (same_name name ref.parent)) child.references) schema.tables

-- the tree of the table with this name, or 0
abbrev pub tree_of : Schema → List ℕ → ℕ
tree_of schema name = unwrap_or (option_map (λ (t : Table). t.tree) (option_and_then (slice_get schema.tables) (table_named schema name))) 0

unfoldable pub meta_tree : Schema → ℕ
meta_tree schema = tree_of schema (codes "meta")

unfoldable pub handlers_tree : Schema → ℕ
handlers_tree schema = tree_of schema (codes "handlers")

unfoldable pub clients_tree : Schema → ℕ
clients_tree schema = tree_of schema (codes "clients")

unfoldable pub pending_tree : Schema → ℕ
pending_tree schema = tree_of schema (codes "pending")

-- a table that stands somewhere in the schema, alone
pub record HasTable (schema : Schema) (table : Table) : Type 0 where
  pub at : ℕ
  pub stands : Stands schema at table
  pub alone : IsAlone schema table

-- the tables of version 1
pub record HasFirstTables (schema : Schema) : Type 0 where
  pub has_meta : HasTable schema (meta (meta_tree schema))
  pub has_handlers : HasTable schema (handlers (handlers_tree schema))
  pub has_clients : HasTable schema (clients (clients_tree schema))

-- the tables of version 2
pub record HasRecordTables (schema : Schema) : Type 0 where
  pub first : HasFirstTables schema
  pub has_pending : HasTable schema (pending (pending_tree schema))

abbrev pub record_names : List (List ℕ)
record_names = codes "meta" ∷ codes "handlers" ∷ codes "clients" ∷ codes "pending" ∷ []

-- room for tables of these names: each is free, no foreign key names one, and there are trees for all. Each index has its table,
-- and each counted table its sequence
pub record HasRoom (schema : Schema) (names : List (List ℕ)) : Type 0 where
  pub free : AllByRecursion (IsFree schema) names
  pub unnamed : AllByRecursion (λ name. is_unnamed schema name ≡ true) names
  pub below : are_indexes_below schema ≡ true
  pub uncounted : lacks_sequence schema ≡ false
  pub low : next_tree schema + length names ≤ 2 ^ 31

-- the schema with the tables of a record made last
abbrev pub with_record : Schema → Schema
with_record schema = created (created (created (created schema (meta 0)) (handlers 0)) (clients 0)) (pending 0)

-- a value put at a key of a tree; each other tree that is no index's is as it was
pub record PutsAmong (old new : Database) (tree key : ℕ) (value : Value) : Type 0 where
  pub schema : new.schema ≡ old.schema
  pub there : value_at (new.trees tree) key ≡ Some value
  pub others : (other : ℕ) → other ≢ key → value_at (new.trees tree) other ≡ value_at (old.trees tree) other
  pub trees : (t : ℕ) → t ≢ tree → IsNoIndex old.schema t → new.trees t ≡ old.trees t
  pub tables : AllByRecursion (λ (t : Table). t.tree ≢ tree → new.trees t.tree ≡ old.trees t.tree) old.schema.tables

-- a tree that is none of these
abbrev pub IsNoneOf : List ℕ → ℕ → Type 0
IsNoneOf trees tree = AllByRecursion (λ own. tree ≢ own) trees

-- each table outside these trees has the rows it had
abbrev pub KeepsOthers : List ℕ → Database → Database → Type 0
KeepsOthers own old new = AllByRecursion (λ (t : Table). IsNoneOf own t.tree → new.trees t.tree ≡ old.trees t.tree) old.schema.tables
