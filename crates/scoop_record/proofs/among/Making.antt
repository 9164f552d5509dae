-- The schema after the record's tables are made in turn: it has them among the tables that stood there.
use Rattle.std.proofs.Common.{◌≡◌, ◌≢◌, ◌∙◌, ◌<◌, ◌≤◌, ◌+◌, ◌++◌, ◌^◌, ap, sym, subst, arith, List, [], ◌∷◌, codes, ℕ, suc, true, false, length, max, fold}
use Rattle.std.proofs.Common.{find, ◌==◌, ◌⊎◌, Option, Some, inl, inr, refl}
use Rattle.std.specs.List.{AllByRecursion}
use Rattle.sqlite_schema.specs.Names.{same_name}
use Rattle.sqlite_schema.specs.declared.schema.Index.{Index}
use Rattle.sqlite_rules.specs.Lists.{Has}
use Rattle.sqlite_rules.proofs.ListLemmas.{has_either}
use Rattle.sqlite_catalog.specs.Change.{created, next_tree, past_views}
use Rattle.sqlite_catalog.proofs.StepLemmas.{table_below, index_below, same_itself}
use Rattle.sqlite_catalog.proofs.ListFacts.{most_from, most_below}
use Rattle.sqlite.specs.Kind.{Kind}
use Rattle.sqlite.specs.Table.{Table}
use Rattle.sqlite.specs.Schema.{Schema}
use Rattle.scoop_record.specs.Tables.{keyed_table, meta, handlers, clients, pending}
use Rattle.scoop_record.specs.Among.{IsFree, HasTable, HasRoom, HasRecordTables, is_unnamed, tree_of, record_names, with_record}
use Rattle.scoop_record.specs.Among.{meta_tree, handlers_tree, clients_tree, pending_tree}
use Rattle.scoop_record.proofs.among.Standing.{placed_at, lacks_kept}
use Rattle.scoop_record.proofs.among.Alone.{IsBare, indexes_same, below_kept, free_kept, unnamed_kept, has_kept_table, has_created_table}

-- ---- the tree that comes next

pub next_kept : (s : Schema) (u : Table) → u.uniques ≡ [] → next_tree (created s u) ≤ next_tree s + 1
next_kept s u bare =
    let first : past_views s ≤ next_tree s + 1 = omega (
      arith,
      most_from (λ (t : Table). t.tree) (past_views s) s.tables,
      most_from (λ (i : Index). i.tree) (fold (λ n t. max n (t.tree + 1)) (past_views s) s.tables) s.indexes,
    ) in
    let tables = most_below (λ (t : Table). t.tree) (past_views s) (next_tree s + 1) (s.tables ++ placed_at u (next_tree s) ∷ []) first
    (λ t has. go t (has_either s.tables (placed_at u (next_tree s) ∷ []) t has)) in
    subst (λ (indexes : List Index). fold (λ n i. max n (i.tree + 1))
    (fold (λ n t. max n (t.tree + 1)) (past_views s) (s.tables ++ placed_at u (next_tree s) ∷ [])) indexes
    ≤ next_tree s + 1) (sym (indexes_same s u bare))
    (most_below (λ (i : Index). i.tree) _ (next_tree s + 1) s.indexes tables (λ i has. let low = index_below s i has in omega (arith, low)))
  where
    go : (t : Table) → Has s.tables t ⊎ Has (placed_at u (next_tree s) ∷ []) t → t.tree < next_tree s + 1
    go t (inl has) = let low = table_below s t has in omega (arith, low)
    go t (inr (inl is)) = let same : t.tree ≡ next_tree s = ap (λ (v : Table). v.tree) is in omega (arith, same)
    go t (inr (inr none)) = absurd none

-- ---- room

all_free : (s : Schema) (u : Table) (names : List (List ℕ)) → u.uniques ≡ [] → AllByRecursion (λ name. same_name u.name name ≡ false) names
    → AllByRecursion (IsFree s) names → AllByRecursion (IsFree (created s u)) names
all_free s u [] bare differ h = tt
all_free s u (name ∷ names) bare differ h = (free_kept s u name bare differ.0 h.0, all_free s u names bare differ.1 h.1)

all_unnamed : (s : Schema) (u : Table) (names : List (List ℕ)) → u.references ≡ [] → AllByRecursion (λ name. is_unnamed s name ≡ true) names
    → AllByRecursion (λ name. is_unnamed (created s u) name ≡ true) names
all_unnamed s u [] bare h = tt
all_unnamed s u (name ∷ names) bare h = (unnamed_kept s u name bare h.0, all_unnamed s u names bare h.1)

-- a table that is created leaves room for the names after its own
pub room_kept : (s : Schema) (u : Table) (names : List (List ℕ)) → IsBare u → u.is_counted ≡ false
    → AllByRecursion (λ name. same_name u.name name ≡ false) names
    → HasRoom s (u.name ∷ names) → HasRoom (created s u) names
room_kept s u names bare uncounted differ h = record {
  free = all_free s u names bare.uniques differ h.free.1;
  unnamed = all_unnamed s u names bare.references h.unnamed.1;
  below = below_kept s u bare.uniques h.below;
  uncounted = lacks_kept s u uncounted h.uncounted;
  low = let step = next_kept s u bare.uniques in let low : next_tree s + suc (length names) ≤ 2 ^ 31 = h.low in omega (arith, step, low);
}

pub made_in_room : (s : Schema) (u : Table) (names : List (List ℕ)) → IsBare u → HasRoom s (u.name ∷ names) → HasTable (created s u) (placed_at u (next_tree s))
made_in_room s u names bare h = has_created_table s u bare h.free.0 (same_itself u.name)
    (let low : next_tree s + suc (length names) ≤ 2 ^ 31 = h.low in omega (arith, low)) h.below h.unnamed.0

-- a table's own tree is found by its name
own_tree : (s : Schema) (t : Table) → HasTable s t → tree_of s t.name ≡ t.tree
own_tree s t h = rw (h.stands.named, h.stands.there) refl

pub own_meta : (s : Schema) (tree : ℕ) → HasTable s (meta tree) → meta_tree s ≡ tree
unfolding meta_tree
own_meta s tree h = own_tree s (meta tree) h

pub own_handlers : (s : Schema) (tree : ℕ) → HasTable s (handlers tree) → handlers_tree s ≡ tree
unfolding handlers_tree
own_handlers s tree h = own_tree s (handlers tree) h

pub own_clients : (s : Schema) (tree : ℕ) → HasTable s (clients tree) → clients_tree s ≡ tree
unfolding clients_tree
own_clients s tree h = own_tree s (clients tree) h

pub own_pending : (s : Schema) (tree : ℕ) → HasTable s (pending tree) → pending_tree s ≡ tree
unfolding pending_tree
own_pending s tree h = own_tree s (pending tree) h

-- two tables of the schema have different trees
pub trees_apart : (s : Schema) (t u : Table) → HasTable s t → HasTable s u → t ≢ u → t.tree ≢ u.tree
trees_apart s t u one two differ same =
    let found : Some u ≡ Some t = sym two.stands.found ∙ subst
    (λ tree. ◌≡◌ {A = Option Table} (find (λ (v : Table). v.tree == tree) s.tables) (Some t)) same one.stands.found in
    differ (cc)

-- the four tables stand where they were made
pub record IsMade (s : Schema) : Type 0 where
  pub has_meta : HasTable (with_record s) (meta (next_tree s))
  pub has_handlers : HasTable (with_record s) (handlers (next_tree (created s (meta 0))))
  pub has_clients : HasTable (with_record s) (clients (next_tree (created (created s (meta 0)) (handlers 0))))
  pub has_pending : HasTable (with_record s) (pending (next_tree (created (created (created s (meta 0)) (handlers 0)) (clients 0))))

pub bare_table : (name key column : List ℕ) (kind : Kind) → IsBare (keyed_table name 0 key column kind)
bare_table name key column kind = record { uniques = refl; references = refl }

-- room after a table of the record is made
pub room_after_meta : (s : Schema) → HasRoom s record_names → HasRoom (created s (meta 0)) (codes "handlers" ∷ codes "clients" ∷ codes "pending" ∷ [])
unfolding same_name
room_after_meta s = room_kept s (meta 0) (codes "handlers" ∷ codes "clients" ∷ codes "pending" ∷ []) (bare_table _ _ _ _) refl (refl, (refl, (refl, tt)))

pub room_after_handlers : (s : Schema) → HasRoom s (codes "handlers" ∷ codes "clients" ∷ codes "pending" ∷ [])
    → HasRoom (created s (handlers 0)) (codes "clients" ∷ codes "pending" ∷ [])
unfolding same_name
room_after_handlers s = room_kept s (handlers 0) (codes "clients" ∷ codes "pending" ∷ []) (bare_table _ _ _ _) refl (refl, (refl, tt))

pub room_after_clients : (s : Schema) → HasRoom s (codes "clients" ∷ codes "pending" ∷ []) → HasRoom (created s (clients 0)) (codes "pending" ∷ [])
unfolding same_name
room_after_clients s = room_kept s (clients 0) (codes "pending" ∷ []) (bare_table _ _ _ _) refl (refl, tt)

pub made_in_turn : (s : Schema) → HasRoom s record_names → IsMade s
made_in_turn s h =
    let a = created s (meta 0) in
    let b = created a (handlers 0) in
    let c = created b (clients 0) in
    let in_a = room_after_meta s h in
    let in_b = room_after_handlers a in_a in
    let in_c = room_after_clients b in_b in
    let meta_a = made_in_room s (meta 0) _ (bare_table _ _ _ _) h in
    let handlers_b = made_in_room a (handlers 0) _ (bare_table _ _ _ _) in_a in
    let clients_c = made_in_room b (clients 0) _ (bare_table _ _ _ _) in_b in
    let meta_b = has_kept_table a _ (handlers 0) (bare_table _ _ _ _) meta_a in
    record {
      has_meta = has_kept_table c _ (pending 0) (bare_table _ _ _ _) (has_kept_table b _ (clients 0) (bare_table _ _ _ _) meta_b);
      has_handlers = has_kept_table c _ (pending 0) (bare_table _ _ _ _) (has_kept_table b _ (clients 0) (bare_table _ _ _ _) handlers_b);
      has_clients = has_kept_table c _ (pending 0) (bare_table _ _ _ _) clients_c;
      has_pending = made_in_room c (pending 0) _ (bare_table _ _ _ _) in_c;
    }

pub record_made : (s : Schema) → HasRoom s record_names → HasRecordTables (with_record s)
record_made s h =
    let d = with_record s in
    let made = made_in_turn s h in
    record {
      first = record {
        has_meta = subst (λ tree. HasTable d (meta tree)) (sym (own_meta d _ made.has_meta)) made.has_meta;
        has_handlers = subst (λ tree. HasTable d (handlers tree)) (sym (own_handlers d _ made.has_handlers)) made.has_handlers;
        has_clients = subst (λ tree. HasTable d (clients tree)) (sym (own_clients d _ made.has_clients)) made.has_clients;
      };
      has_pending = subst (λ tree. HasTable d (pending tree)) (sym (own_pending d _ made.has_pending)) made.has_pending;
    }
