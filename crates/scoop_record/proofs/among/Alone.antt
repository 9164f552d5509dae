-- The premises of a record's tables after a table is created: the new one is alone, those before it stay alone, and names stay free.
use Rattle.std.proofs.Common.{◌≡◌, ◌<◌, ◌++◌, ap, sym, subst, arith, List, [], ◌∷◌, ℕ, Bool, true, false, not, cond, ◌==◌, nat_lt, ◌^◌, Option, Some, None}
use Rattle.std.proofs.Common.{option_map, option_and_then, find, inl, refl}
use Rattle.std.specs.List.{list_any, list_all, position_from}
use Rattle.std.proofs.lemmas.Bool.{and_parts}
use Rattle.std.proofs.lemmas.Bool.Decides.{nat_tests}
use Rattle.sqlite_schema.specs.Names.{same_name}
use Rattle.sqlite_schema.specs.Rules.{ParentKey, parent_key, key_in, key_places, declared_order}
use Rattle.sqlite_schema.specs.declared.schema.Index.{Index}
use Rattle.sqlite_schema.specs.declared.schema.Reference.{Reference}
use Rattle.sqlite_rules.specs.Lists.{Has}
use Rattle.sqlite_rules.proofs.ListLemmas.{has_found, has_right}
use Rattle.sqlite_catalog.specs.Change.{created, next_tree}
use Rattle.sqlite_catalog.proofs.StepLemmas.{table_below}
use Rattle.sqlite.specs.Table.{Table}
use Rattle.sqlite.specs.Schema.{Schema}
use Rattle.scoop_record.specs.Among.{IsFree, IsAlone, HasTable, is_apart, are_indexes_below, is_unnamed}
use Rattle.scoop_record.proofs.among.Lists.{all_last, find_front, find_past, position_past, append_nil}
use Rattle.scoop_record.proofs.among.Standing.{placed_at, stands_kept, stands_created}

-- a table with no unique columns and no foreign keys
pub record IsBare (t : Table) : Type 0 where
  pub uniques : t.uniques ≡ []
  pub references : t.references ≡ []

-- ---- indexes

pub indexes_same : (s : Schema) (u : Table) → u.uniques ≡ [] → (created s u).indexes ≡ s.indexes
indexes_same s u bare = rw bare (append_nil s.indexes)

next_above : (s : Schema) (u : Table) → next_tree s < next_tree (created s u)
next_above s u = table_below (created s u) (placed_at u (next_tree s))
    (has_right s.tables (placed_at u (next_tree s) ∷ []) (placed_at u (next_tree s)) (inl refl))

still_below : (indexes : List Index) (low high : ℕ) → low < high → list_all (λ (i : Index). nat_lt i.table low) indexes ≡ true
    → list_all (λ (i : Index). nat_lt i.table high) indexes ≡ true
still_below [] low high more h = refl
still_below (i ∷ indexes) low high more h =
    let both = and_parts (nat_lt i.table low) (list_all (λ (i : Index). nat_lt i.table low) indexes) h in
    let first : nat_lt i.table high ≡ true = (let here = both.0 in grind (arith, nat_tests)) in
    rw (first, still_below indexes low high more both.1) refl

pub below_kept : (s : Schema) (u : Table) → u.uniques ≡ [] → are_indexes_below s ≡ true → are_indexes_below (created s u) ≡ true
below_kept s u bare h = subst (λ indexes. list_all (λ (i : Index). nat_lt i.table (next_tree (created s u))) indexes ≡ true) (sym (indexes_same s u bare))
    (still_below s.indexes (next_tree s) (next_tree (created s u)) (next_above s u) h)

none_at : (indexes : List Index) (tree : ℕ) → list_all (λ (i : Index). nat_lt i.table tree) indexes ≡ true
    → list_any (λ (i : Index). i.table == tree) indexes ≡ false
none_at [] tree h = refl
none_at (i ∷ indexes) tree h =
    let both = and_parts (nat_lt i.table tree) (list_all (λ (i : Index). nat_lt i.table tree) indexes) h in
    let first : (i.table == tree) ≡ false = (let here = both.0 in grind (arith, nat_tests)) in
    rw (first, none_at indexes tree both.1) refl

-- ---- foreign keys

after_then : {A : Type 0} (tree : ℕ) (o : Option A) (key : A → Option ParentKey) → ((a : A) → is_apart tree (key a) ≡ true)
    → is_apart tree (option_and_then key o) ≡ true
after_then tree None key h = refl
after_then tree (Some a) key h = h a

after_map : {A : Type 0} (tree : ℕ) (o : Option A) (key : A → ParentKey) → ((a : A) → not ((key a).0 == tree) ≡ true) → is_apart tree (option_map key o) ≡ true
after_map tree None key h = refl
after_map tree (Some a) key h = h a

abbrev pub key_of : Reference → Table → Option ParentKey
key_of ref t = option_and_then (key_in t) (key_places t ref.parent_columns)

pub key_apart : (tree : ℕ) (t : Table) → not (t.tree == tree) ≡ true → (ref : Reference) → is_apart tree (key_of ref t) ≡ true
key_apart tree t h ref = after_then tree (key_places t ref.parent_columns) (key_in t)
    (λ places. after_map tree (declared_order t places) (λ o. (t.tree, places, o)) (λ o. h))

parent_kept : (tables : List Table) (tree : ℕ) (new : Table) (ref : Reference) → not (new.tree == tree) ≡ true
    → is_apart tree (parent_key tables ref) ≡ true → is_apart tree (parent_key (tables ++ new ∷ []) ref) ≡ true
parent_kept tables tree new ref apart h = go (find (λ (t : Table). same_name t.name ref.parent) tables) refl h
  where
    last : (b : Bool) → is_apart tree (option_and_then (key_of ref) (cond b (Some new) None)) ≡ true
    last true = key_apart tree new apart ref
    last false = refl

    go : (o : Option Table) → find (λ (t : Table). same_name t.name ref.parent) tables ≡ o → is_apart tree (option_and_then (key_of ref) o) ≡ true
        → is_apart tree (parent_key (tables ++ new ∷ []) ref) ≡ true
    go None is h = rw (find_past (λ (t : Table). same_name t.name ref.parent) tables (new ∷ []) is) (last (same_name new.name ref.parent))
    go (Some x) is h = rw (find_front (λ (t : Table). same_name t.name ref.parent) tables (new ∷ []) x is) h

parent_new : (tables : List Table) (new : Table) (ref : Reference) → ((x : Table) → Has tables x → not (x.tree == new.tree) ≡ true)
    → same_name new.name ref.parent ≡ false → is_apart new.tree (parent_key (tables ++ new ∷ []) ref) ≡ true
parent_new tables new ref apart unnamed = go (find (λ (t : Table). same_name t.name ref.parent) tables) refl
  where
    go : (o : Option Table) → find (λ (t : Table). same_name t.name ref.parent) tables ≡ o → is_apart new.tree (parent_key (tables ++ new ∷ []) ref) ≡ true
    go None is = rw (find_past (λ (t : Table). same_name t.name ref.parent) tables (new ∷ []) is, unnamed) refl
    go (Some x) is =
        let has = has_found (λ (t : Table). same_name t.name ref.parent) tables x is in
        rw (find_front (λ (t : Table). same_name t.name ref.parent) tables (new ∷ []) x is) (key_apart new.tree x (apart x has.0) ref)

references_so : (P Q : Reference → Bool) → ((r : Reference) → P r ≡ true → Q r ≡ true) → (refs : List Reference) → list_all P refs ≡ true
    → list_all Q refs ≡ true
references_so P Q so [] h = refl
references_so P Q so (r ∷ refs) h = let both = and_parts (P r) (list_all P refs) h in rw (so r both.0, references_so P Q so refs both.1) refl

children_so : (P Q : Reference → Bool) → ((r : Reference) → P r ≡ true → Q r ≡ true) → (children : List Table)
    → list_all (λ (child : Table). list_all P child.references) children ≡ true → list_all (λ (child : Table). list_all Q child.references) children ≡ true
children_so P Q so [] h = refl
children_so P Q so (c ∷ children) h =
    let both = and_parts (list_all P c.references) (list_all (λ (child : Table). list_all P child.references) children) h in
    rw (references_so P Q so c.references both.0, children_so P Q so children both.1) refl

with_last : (P : Reference → Bool) (tables : List Table) (new : Table) → new.references ≡ []
    → list_all (λ (child : Table). list_all P child.references) tables ≡ true
    → list_all (λ (child : Table). list_all P child.references) (tables ++ new ∷ []) ≡ true
with_last P tables new bare h = all_last (λ (child : Table). list_all P child.references) tables new h (ap (list_all P) bare)

is_false : (b : Bool) → not b ≡ true → b ≡ false
is_false true h = absurd (let e = h in cc)
is_false false h = refl

-- ---- the premises

-- a table that is alone stays alone
pub alone_kept : (s : Schema) (t u : Table) → IsBare u → t.tree < next_tree s → IsAlone s t → IsAlone (created s u) t
alone_kept s t u bare low h = record {
  unindexed = subst (λ indexes. list_any (λ (i : Index). i.table == t.tree) indexes ≡ false) (sym (indexes_same s u bare.uniques)) h.unindexed;
  unreferred = with_last (λ ref. is_apart t.tree (parent_key (created s u).tables ref)) s.tables (placed_at u (next_tree s)) bare.references
      (children_so (λ ref. is_apart t.tree (parent_key s.tables ref)) (λ ref. is_apart t.tree (parent_key (created s u).tables ref))
      (λ ref h. parent_kept s.tables t.tree (placed_at u (next_tree s)) ref (grind (arith, nat_tests)) h) s.tables h.unreferred);
}

-- a table that is created is alone
pub alone_created : (s : Schema) (u : Table) → IsBare u → are_indexes_below s ≡ true → is_unnamed s u.name ≡ true
    → IsAlone (created s u) (placed_at u (next_tree s))
alone_created s u bare below unnamed = record {
  unindexed = subst (λ indexes. list_any (λ (i : Index). i.table == next_tree s) indexes ≡ false) (sym (indexes_same s u bare.uniques))
      (none_at s.indexes (next_tree s) below);
  unreferred = with_last (λ ref. is_apart (next_tree s) (parent_key (created s u).tables ref)) s.tables (placed_at u (next_tree s)) bare.references
      (children_so (λ ref. not (same_name u.name ref.parent)) (λ ref. is_apart (next_tree s) (parent_key (created s u).tables ref))
      (λ ref h. parent_new s.tables (placed_at u (next_tree s)) ref (λ x has. let low = table_below s x has in grind (arith, nat_tests))
      (is_false (same_name u.name ref.parent) h)) s.tables unnamed);
}

pub free_kept : (s : Schema) (u : Table) (name : List ℕ) → u.uniques ≡ [] → same_name u.name name ≡ false → IsFree s name → IsFree (created s u) name
free_kept s u name bare differs h = record {
  table = position_past (λ (t : Table). same_name t.name name) 0 s.tables (placed_at u (next_tree s)) h.table differs;
  index = subst (λ indexes. position_from (λ (i : Index). same_name i.name name) 0 indexes ≡ None) (sym (indexes_same s u bare)) h.index;
  view = h.view;
}

pub unnamed_kept : (s : Schema) (u : Table) (name : List ℕ) → u.references ≡ [] → is_unnamed s name ≡ true → is_unnamed (created s u) name ≡ true
unnamed_kept s u name bare h = with_last (λ ref. not (same_name name ref.parent)) s.tables (placed_at u (next_tree s)) bare h

-- a table that stands is one of the schema's
pub is_listed : (s : Schema) (t : Table) → HasTable s t → Has s.tables t
is_listed s t h = (has_found (λ (u : Table). u.tree == t.tree) s.tables t h.stands.found).0

-- a table of the record stays so
pub has_kept_table : (s : Schema) (t u : Table) → IsBare u → HasTable s t → HasTable (created s u) t
has_kept_table s t u bare h = record {
  at = h.at;
  stands = stands_kept s h.at t u h.stands;
  alone = alone_kept s t u bare (table_below s t (is_listed s t h)) h.alone;
}

-- a table that is created is one of the record's
pub has_created_table : (s : Schema) (u : Table) → IsBare u → IsFree s u.name → same_name u.name u.name ≡ true → next_tree s < 2 ^ 31
    → are_indexes_below s ≡ true → is_unnamed s u.name ≡ true → HasTable (created s u) (placed_at u (next_tree s))
has_created_table s u bare free own low below unnamed = record {
  at = _;
  stands = stands_created s u free own low;
  alone = alone_created s u bare below unnamed;
}
