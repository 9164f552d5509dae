-- A record of version 1 has the tables of version 2 once that of the pending entries is made. Each table keeps its tree.
use Rattle.std.proofs.Common.{◌≡◌, ◌≢◌, ◌==◌, ◌∙◌, sym, subst, arith, [], ◌∷◌, codes, refl}
use Rattle.sqlite_rules.specs.Lists.{Has}
use Rattle.sqlite_catalog.specs.Change.{created, next_tree}
use Rattle.sqlite_catalog.proofs.StepLemmas.{table_below}
use Rattle.sqlite.specs.Table.{Table}
use Rattle.sqlite.specs.Schema.{Schema}
use Rattle.scoop_record.specs.Tables.{meta, handlers, clients, pending}
use Rattle.scoop_record.specs.Among.{HasTable, HasRoom, HasFirstTables, HasRecordTables, meta_tree, handlers_tree, clients_tree, pending_tree}
use Rattle.scoop_record.proofs.among.Alone.{IsBare, has_kept_table}
use Rattle.scoop_record.proofs.among.Making.{made_in_room, own_meta, own_handlers, own_clients, own_pending}

-- the schema of version 1 with the table of the pending entries
abbrev pub with_pending : Schema → Schema
with_pending s = created s (pending 0)

bare : IsBare (pending 0)
bare = record { uniques = refl; references = refl }

pub meta_kept : (s : Schema) → HasFirstTables s → meta_tree (with_pending s) ≡ meta_tree s
meta_kept s has = own_meta (with_pending s) (meta_tree s) (has_kept_table s _ (pending 0) bare has.has_meta)

pub handlers_kept : (s : Schema) → HasFirstTables s → handlers_tree (with_pending s) ≡ handlers_tree s
handlers_kept s has = own_handlers (with_pending s) (handlers_tree s) (has_kept_table s _ (pending 0) bare has.has_handlers)

pub clients_kept : (s : Schema) → HasFirstTables s → clients_tree (with_pending s) ≡ clients_tree s
clients_kept s has = own_clients (with_pending s) (clients_tree s) (has_kept_table s _ (pending 0) bare has.has_clients)

module _ (s : Schema) (room : HasRoom s (codes "pending" ∷ [])) where
  pending_made : HasTable (with_pending s) (pending (next_tree s))
  pending_made = made_in_room s (pending 0) [] bare room

  pub pending_is_next : pending_tree (with_pending s) ≡ next_tree s
  pending_is_next = own_pending (with_pending s) (next_tree s) pending_made

  -- the tables are those of version 2
  pub second_made : HasFirstTables s → HasRecordTables (with_pending s)
  second_made has = record {
    first = record {
      has_meta = subst (λ tree. HasTable (with_pending s) (meta tree)) (sym (meta_kept s has)) (has_kept_table s _ (pending 0) bare has.has_meta);
      has_handlers =
          subst (λ tree. HasTable (with_pending s) (handlers tree)) (sym (handlers_kept s has)) (has_kept_table s _ (pending 0) bare has.has_handlers);
      has_clients = subst (λ tree. HasTable (with_pending s) (clients tree)) (sym (clients_kept s has)) (has_kept_table s _ (pending 0) bare has.has_clients);
    };
    has_pending = subst (λ tree. HasTable (with_pending s) (pending tree)) (sym pending_is_next) pending_made;
  }

  -- no table that stood there has the new tree
  pub apart_from_pending : (t : Table) → Has s.tables t → t.tree ≢ pending_tree (with_pending s)
  apart_from_pending t has same = let low = table_below s t has in let next = pending_is_next in absurd (omega (arith, low, same, next))
