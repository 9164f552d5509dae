-- A record's tables have four different trees, so a value that is put in one leaves the other three.
use Rattle.std.proofs.Common.{◌≡◌, ◌≢◌, ◌==◌, ap, arith, ℕ, unwrap_or, slice_get}
use Rattle.sqlite_value.specs.declared.value.Value.{Value}
use Rattle.sqlite_rules.proofs.ListLemmas.{all_has}
use Rattle.sqlite.specs.Effect.{Database}
use Rattle.sqlite.specs.Table.{Table}
use Rattle.sqlite.specs.Schema.{Schema}
use Rattle.scoop_record.specs.Tables.{meta, handlers, clients, pending}
use Rattle.scoop_record.specs.Among.{HasTable, HasFirstTables, HasRecordTables, PutsAmong, meta_tree, handlers_tree, clients_tree, pending_tree}
use Rattle.scoop_record.proofs.among.Alone.{is_listed}
use Rattle.scoop_record.proofs.among.Making.{trees_apart}

-- the table keeps its rows
pub kept_at : (old new : Database) (tree key : ℕ) (value : Value) → PutsAmong old new tree key value → (t : Table) → HasTable old.schema t → t.tree ≢ tree
    → new.trees t.tree ≡ old.trees t.tree
kept_at old new tree key value put t has apart =
    all_has (λ (u : Table). u.tree ≢ tree → new.trees u.tree ≡ old.trees u.tree) old.schema.tables t put.tables
    (is_listed old.schema t has) apart

-- the four names begin differently
abbrev initial : Table → ℕ
initial t = unwrap_or (slice_get t.name 0) 0

pub meta_handlers : (s : Schema) → HasFirstTables s → meta_tree s ≢ handlers_tree s
meta_handlers s has = trees_apart s (meta (meta_tree s)) (handlers (handlers_tree s)) has.has_meta has.has_handlers
    (λ same. let e : 109 ≡ 104 = ap initial same in omega (arith, e))

pub meta_clients : (s : Schema) → HasFirstTables s → meta_tree s ≢ clients_tree s
meta_clients s has = trees_apart s (meta (meta_tree s)) (clients (clients_tree s)) has.has_meta has.has_clients
    (λ same. let e : 109 ≡ 99 = ap initial same in omega (arith, e))

pub handlers_clients : (s : Schema) → HasFirstTables s → handlers_tree s ≢ clients_tree s
handlers_clients s has = trees_apart s (handlers (handlers_tree s)) (clients (clients_tree s)) has.has_handlers has.has_clients
    (λ same. let e : 104 ≡ 99 = ap initial same in omega (arith, e))

pub meta_pending : (s : Schema) → HasRecordTables s → meta_tree s ≢ pending_tree s
meta_pending s has = trees_apart s (meta (meta_tree s)) (pending (pending_tree s)) has.first.has_meta has.has_pending
    (λ same. let e : 109 ≡ 112 = ap initial same in omega (arith, e))

pub handlers_pending : (s : Schema) → HasRecordTables s → handlers_tree s ≢ pending_tree s
handlers_pending s has = trees_apart s (handlers (handlers_tree s)) (pending (pending_tree s)) has.first.has_handlers has.has_pending
    (λ same. let e : 104 ≡ 112 = ap initial same in omega (arith, e))

pub clients_pending : (s : Schema) → HasRecordTables s → clients_tree s ≢ pending_tree s
clients_pending s has = trees_apart s (clients (clients_tree s)) (pending (pending_tree s)) has.first.has_clients has.has_pending
    (λ same. let e : 99 ≡ 112 = ap initial same in omega (arith, e))
