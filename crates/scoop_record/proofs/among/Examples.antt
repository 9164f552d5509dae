-- Computed examples of a record among other tables: one table stands before the record's four, and two after.
use Rattle.std.proofs.Common.{◌≡◌, ◌≢◌, ◌==◌, arith, List, [], ◌∷◌, codes, ℕ, false, cond, pos, refl}
use Rattle.std.proofs.lemmas.Bool.Decides.{nat_tests}
use Rattle.sqlite_value.specs.declared.value.Value.TheVariants.{Int}
use Rattle.sqlite_schema.specs.Names.{same_name}
use Rattle.sqlite.specs.Effect.{Database}
use Rattle.sqlite.specs.Kind.TheVariants.{Blob}
use Rattle.sqlite.specs.Table.{Table}
use Rattle.sqlite.specs.Schema.{Schema}
use Rattle.scoop_record.specs.Tables.{keyed_table, meta, handlers, clients, pending, row_of, value_at}
use Rattle.scoop_record.specs.Among.{Stands, IsFree, IsAlone, HasTable, HasRoom, PutsAmong, KeepsOthers, record_names, with_record, handlers_tree, meta_tree, clients_tree, pending_tree}
use Rattle.scoop_record.specs.Store.{IsRecord}
use Rattle.scoop_record.proofs.RowLemmas.{find_put, find_other}

abbrev book : List ℕ → ℕ → Table
book name tree = keyed_table name tree (codes "id") (codes "text") Blob

-- another program's tables
abbrev others : Schema
others = record { tables = book (codes "notes") 0 ∷ book (codes "tags") 1 ∷ []; indexes = []; views = [] }

-- a table before the record's and two after
abbrev shared : Schema
shared = record {
  tables = book (codes "notes") 0 ∷ meta 1 ∷ handlers 2 ∷ clients 3 ∷ pending 4 ∷ book (codes "tags") 5 ∷ book (codes "links") 6 ∷ [];
  indexes = [];
  views = [];
}

pub handlers_stand : Stands shared 2 (handlers 2)
unfolding same_name
handlers_stand = record { named = refl; there = refl; found = refl; low = omega arith }

handlers_alone : IsAlone shared (handlers 2)
handlers_alone = record { unindexed = refl; unreferred = refl }

handlers_found : handlers_tree shared ≡ 2
unfolding same_name handlers_tree
handlers_found = refl

spare_free : IsFree shared (codes "spare")
unfolding same_name
spare_free = record { table = refl; index = refl; view = refl }

others_have_room : HasRoom others record_names
unfolding same_name
others_have_room =
    let meta_free : IsFree others (codes "meta") = record { table = refl; index = refl; view = refl } in
    let handlers_free : IsFree others (codes "handlers") = record { table = refl; index = refl; view = refl } in
    let clients_free : IsFree others (codes "clients") = record { table = refl; index = refl; view = refl } in
    let pending_free : IsFree others (codes "pending") = record { table = refl; index = refl; view = refl } in
    record {
      free = (meta_free, (handlers_free, (clients_free, (pending_free, tt))));
      unnamed = (refl, (refl, (refl, (refl, tt))));
      below = refl;
      uncounted = refl;
      low = omega arith;
    }

others_with_record : with_record others
    ≡ record { tables = book (codes "notes") 0 ∷ book (codes "tags") 1 ∷ meta 2 ∷ handlers 3 ∷ clients 4 ∷ pending 5 ∷ []; indexes = []; views = [] }
others_with_record = refl

abbrev no_rows : Database
no_rows = record { schema = shared; trees = λ tree. [] }

empty_record : IsRecord no_rows
unfolding same_name meta_tree handlers_tree clients_tree pending_tree
empty_record =
    let has_meta : HasTable shared (meta 1) = record {
      at = 1;
      stands = record { named = refl; there = refl; found = refl; low = omega arith };
      alone = record { unindexed = refl; unreferred = refl };
    } in
    let has_handlers : HasTable shared (handlers 2) = record { at = 2; stands = handlers_stand; alone = handlers_alone } in
    let has_clients : HasTable shared (clients 3) = record {
      at = 3;
      stands = record { named = refl; there = refl; found = refl; low = omega arith };
      alone = record { unindexed = refl; unreferred = refl };
    } in
    let has_pending : HasTable shared (pending 4) = record {
      at = 4;
      stands = record { named = refl; there = refl; found = refl; low = omega arith };
      alone = record { unindexed = refl; unreferred = refl };
    } in
    record {
      first = record { has_meta = has_meta; has_handlers = has_handlers; has_clients = has_clients };
      has_pending = has_pending;
    }

-- client 7 got its first incarnation
abbrev one_row : Database
one_row = record { schema = shared; trees = λ tree. cond (tree == 3) (row_of 7 (Int (pos 1)) ∷ []) [] }

apart : (t : ℕ) → t ≢ 3 → (t == 3) ≡ false
apart t h = grind (arith, nat_tests)

no_other : (other : ℕ) → other ≢ 7 → value_at (row_of 7 (Int (pos 1)) ∷ []) other ≡ value_at [] other
no_other other h = rw (find_other 7 (row_of 7 (Int (pos 1))) refl other [] h) refl

incarnation_put : PutsAmong no_rows one_row 3 7 (Int (pos 1))
incarnation_put = record {
  schema = refl;
  there = rw (find_put 7 (row_of 7 (Int (pos 1))) refl []) refl;
  others = no_other;
  trees = λ t differs free. rw (apart t differs) refl;
  tables = (λ h. refl, (λ h. refl, (λ h. refl, (λ h. absurd (h refl), (λ h. refl, (λ h. refl, (λ h. refl, tt)))))));
}

others_kept : KeepsOthers (1 ∷ 2 ∷ 3 ∷ 4 ∷ []) no_rows one_row
others_kept = (λ h. refl, (λ h. refl, (λ h. refl, (λ h. absurd (h.1.1.0 refl), (λ h. refl, (λ h. refl, (λ h. refl, tt)))))))
