-- The rows of tables while a record of version 1 is migrated: each step writes its own tables, and the others keep their rows.
use Rattle.std.proofs.Common.{◌≡◌, ◌≢◌, ◌∙◌, ap, sym, subst, List, [], ◌∷◌, codes, pos, Some, IsPermutation, map}
use Rattle.sqlite_value.specs.declared.value.Value.TheVariants.{Int}
use Rattle.sqlite_value.specs.Order.{Row}
use Rattle.sqlite_rules.specs.Lists.{Has}
use Rattle.sqlite_rules.proofs.ListLemmas.{all_from}
use Rattle.sqlite.specs.Effect.{Database}
use Rattle.sqlite.specs.Table.{Table}
use Rattle.sqlite.specs.Schema.{Schema}
use Rattle.scoop_handler.specs.State.{HandlerState}
use Rattle.scoop_record.specs.Tables.{meta, handlers, clients, pending, value_at, Makes}
use Rattle.scoop_record.specs.Among.{HasTable, HasRoom, HasRecordTables, PutsAmong, IsNoneOf, KeepsOthers, meta_tree, handlers_tree, clients_tree, pending_tree}
use Rattle.scoop_record.specs.Store.{IsRecord, IsOfVersionOne, SavesAll}
use Rattle.scoop_record.specs.Migrate.{keyed_value}
use Rattle.scoop_record.proofs.among.Alone.{is_listed}
use Rattle.scoop_record.proofs.among.MigratedTables.{meta_kept, handlers_kept, clients_kept, second_made, apart_from_pending}
use Rattle.scoop_record.proofs.among.Standing.{kept_beside}
use Rattle.scoop_record.proofs.among.Apart.{kept_at, meta_handlers, meta_clients, handlers_clients, meta_pending, clients_pending}
use Rattle.scoop_record.proofs.among.Others.{other_kept, put_others, all_others}

-- ---- the table of the pending entries is made

module _ (old db : Database) (first : IsOfVersionOne old) (room : HasRoom old.schema (codes "pending" ∷ [])) (makes : Makes old db (pending 0)) where
  pub is_second : IsRecord db
  is_second = subst HasRecordTables (sym makes.schema) (second_made old.schema room first.0.0)

  row_kept : (t : Table) → Has old.schema.tables t → db.trees t.tree ≡ old.trees t.tree
  row_kept t has = (kept_beside old db (pending 0) t makes has).0

  meta_same : meta_tree db.schema ≡ meta_tree old.schema
  meta_same = ap (λ (s : Schema). meta_tree s) makes.schema ∙ meta_kept old.schema first.0.0

  handlers_same : handlers_tree db.schema ≡ handlers_tree old.schema
  handlers_same = ap (λ (s : Schema). handlers_tree s) makes.schema ∙ handlers_kept old.schema first.0.0

  pub versions_kept : db.trees (meta_tree db.schema) ≡ old.trees (meta_tree old.schema)
  versions_kept = ap db.trees meta_same ∙ row_kept (meta (meta_tree old.schema)) (is_listed old.schema _ first.0.0.has_meta)

  pub images_kept : db.trees (handlers_tree db.schema) ≡ old.trees (handlers_tree old.schema)
  images_kept = ap db.trees handlers_same ∙ row_kept (handlers (handlers_tree old.schema)) (is_listed old.schema _ first.0.0.has_handlers)

  clients_same : clients_tree db.schema ≡ clients_tree old.schema
  clients_same = ap (λ (s : Schema). clients_tree s) makes.schema ∙ clients_kept old.schema first.0.0

  pub incs_kept : db.trees (clients_tree db.schema) ≡ old.trees (clients_tree old.schema)
  incs_kept = ap db.trees clients_same ∙ row_kept (clients (clients_tree old.schema)) (is_listed old.schema _ first.0.0.has_clients)

  -- the images were listed after the table was made
  pub listed_before : (rows : List Row) → IsPermutation (map keyed_value (db.trees (handlers_tree db.schema))) rows
      → IsPermutation (map keyed_value (old.trees (handlers_tree old.schema))) rows
  listed_before rows same = subst (λ (images : List Row). IsPermutation (map keyed_value images) rows) images_kept same

  -- no state is written to a table that stood there, but to that of the images
  beside : (t : Table) → Has old.schema.tables t → t.tree ≢ handlers_tree old.schema
      → IsNoneOf (handlers_tree db.schema ∷ pending_tree db.schema ∷ []) t.tree
  beside t has apart = (
    λ e. apart (e ∙ handlers_same),
    (subst (λ (s : Schema). t.tree ≢ pending_tree s) (sym makes.schema) (apart_from_pending old.schema room t has), tt),
  )

  listed_after : (t : Table) → Has old.schema.tables t → Has db.schema.tables t
  listed_after t has = (kept_beside old db (pending 0) t makes has).1

-- ---- states are put

pub schema_stays : (old new : Database) (all : List HandlerState) → SavesAll old new all → new.schema ≡ old.schema
schema_stays old new [] same = ap (λ (d : Database). d.schema) same
schema_stays old new (s ∷ more) (state, range, mid, (half, first, second), rest) = schema_stays mid new more rest ∙ second.schema ∙ first.schema

module _ (db mid : Database) (all : List HandlerState) (has : IsRecord db) (saves : SavesAll db mid all) where
  row_stays : (t : Table) → HasTable db.schema t → t.tree ≢ handlers_tree db.schema → t.tree ≢ pending_tree db.schema → mid.trees t.tree ≡ db.trees t.tree
  row_stays t there images entries = other_kept (handlers_tree db.schema ∷ pending_tree db.schema ∷ []) db mid (all_others db mid all saves) t
      (is_listed db.schema t there) (images, (entries, tt))

  pub versions_stay : mid.trees (meta_tree mid.schema) ≡ db.trees (meta_tree db.schema)
  versions_stay = ap (λ (s : Schema). mid.trees (meta_tree s)) (schema_stays db mid all saves)
      ∙ row_stays (meta (meta_tree db.schema)) has.first.has_meta (meta_handlers db.schema has.first) (meta_pending db.schema has)

  pub incs_stay : mid.trees (clients_tree mid.schema) ≡ db.trees (clients_tree db.schema)
  incs_stay = ap (λ (s : Schema). mid.trees (clients_tree s)) (schema_stays db mid all saves)
      ∙ row_stays (clients (clients_tree db.schema)) has.first.has_clients (λ e. handlers_clients db.schema has.first (sym e)) (clients_pending db.schema has)

-- ---- the version is raised

module _ (mid new : Database) (has : IsRecord mid) (put : PutsAmong mid new (meta_tree mid.schema) 1 (Int (pos 2))) where
  pub raised : value_at (new.trees (meta_tree new.schema)) 1 ≡ Some (Int (pos 2))
  raised = ap (λ (s : Schema). value_at (new.trees (meta_tree s)) 1) put.schema ∙ put.there

  row_last : (t : Table) → HasTable mid.schema t → t.tree ≢ meta_tree mid.schema → new.trees t.tree ≡ mid.trees t.tree
  row_last t there apart = kept_at mid new (meta_tree mid.schema) 1 (Int (pos 2)) put t there apart

  pub images_last : new.trees (handlers_tree new.schema) ≡ mid.trees (handlers_tree mid.schema)
  images_last = ap (λ (s : Schema). new.trees (handlers_tree s)) put.schema
      ∙ row_last (handlers (handlers_tree mid.schema)) has.first.has_handlers (λ e. meta_handlers mid.schema has.first (sym e))

  pub entries_last : new.trees (pending_tree new.schema) ≡ mid.trees (pending_tree mid.schema)
  entries_last = ap (λ (s : Schema). new.trees (pending_tree s)) put.schema
      ∙ row_last (pending (pending_tree mid.schema)) has.has_pending (λ e. meta_pending mid.schema has (sym e))

  pub incs_last : new.trees (clients_tree new.schema) ≡ mid.trees (clients_tree mid.schema)
  incs_last = ap (λ (s : Schema). new.trees (clients_tree s)) put.schema
      ∙ row_last (clients (clients_tree mid.schema)) has.first.has_clients (λ e. meta_clients mid.schema has.first (sym e))

-- each table but those of the images and the version has the rows it had
pub others_kept : (old db mid new : Database) (all : List HandlerState) → IsOfVersionOne old → HasRoom old.schema (codes "pending" ∷ [])
    → Makes old db (pending 0) → SavesAll db mid all → PutsAmong mid new (meta_tree mid.schema) 1 (Int (pos 2))
    → KeepsOthers (meta_tree old.schema ∷ handlers_tree old.schema ∷ []) old new
others_kept old db mid new all first room makes saves put =
    let same = schema_stays db mid all saves in
    let own : meta_tree mid.schema ≡ meta_tree old.schema = ap (λ (s : Schema). meta_tree s) same ∙ meta_same old db first room makes in
    all_from (λ (t : Table). IsNoneOf (meta_tree old.schema ∷ handlers_tree old.schema ∷ []) t.tree → new.trees t.tree ≡ old.trees t.tree) old.schema.tables
    (λ t listed none.
    let here = listed_after old db first room makes t listed in
    other_kept (meta_tree mid.schema ∷ []) mid new (put_others (meta_tree mid.schema ∷ []) mid new _ _ _ put (λ tree apart. apart.0)) t
    (subst (λ (s : Schema). Has s.tables t) (sym same) here) (λ e. none.0 (e ∙ own), tt)
    ∙ other_kept (handlers_tree db.schema ∷ pending_tree db.schema ∷ []) db mid (all_others db mid all saves) t here
    (beside old db first room makes t listed none.1.0)
    ∙ row_kept old db first room makes t listed)
