-- A table stands alone if each table of its tree has its name, no index is on it, and no foreign key names it.
use Rattle.std.proofs.Common.{◌≡◌, ◌∙◌, ◌<◌, ◌+◌, ◌^◌, ◌==◌, ◌||◌, ap, sym, refl, inl, inr, arith, List, [], ◌∷◌, ℕ, zero, suc, Bool, true, false, not}
use Rattle.std.proofs.Common.{find, slice_get, Option, Some, None, option_and_then}
use Rattle.std.specs.List.{list_any, list_all, position_from}
use Rattle.std.proofs.lemmas.Bool.{cases_Bool, or_cases, not-true}
use Rattle.sqlite_schema.specs.Names.{same_name, table_named}
use Rattle.sqlite_schema.specs.Rules.{parent_key}
use Rattle.sqlite_schema.specs.declared.schema.Index.{Index}
use Rattle.sqlite_schema.specs.declared.schema.Reference.{Reference}
use Rattle.sqlite_rules.specs.Lists.{Has}
use Rattle.sqlite_rules.proofs.ListLemmas.{test_has, test_from, has_found}
use Rattle.sqlite_catalog.proofs.SoundLemmas.{lowered}
use Rattle.sqlite.specs.Kind.{Kind}
use Rattle.sqlite.specs.Table.{Table}
use Rattle.sqlite.specs.Schema.{Schema}
use Rattle.scoop_record.specs.Tables.{keyed_table}
use Rattle.scoop_record.specs.Among.{HasTable, is_apart, is_unnamed, is_unreferred, tree_of}
use Rattle.scoop_record.proofs.among.Alone.{key_of, key_apart}
use Rattle.scoop_record.proofs.among.Standing.{nat_eq_self}

-- the table has the name if it has the tree
abbrev named_by : List ℕ → ℕ → Table → Bool
named_by name tree t = not (t.tree == tree) || same_name t.name name

-- an element that passes, after elements that pass neither test, is the first that the other test finds
found_at : {A : Type 0} (p q : A → Bool) (i at : ℕ) (xs : List A) (x : A) → ((y : A) → Has xs y → p y ≡ false → q y ≡ false)
    → position_from p i xs ≡ Some (i + at) → slice_get xs at ≡ Some x → q x ≡ true → find q xs ≡ Some x
found_at p q i at [] x so first there is = absurd (let e = there in cc)
found_at p q i zero (y ∷ xs) x so first there is = let same : y ≡ x = cc in rw (ap q same ∙ is) there
found_at p q i (suc at) (y ∷ xs) x so first there is = elim (cases_Bool (p y)) [
  | inl passes ↦ absurd (let here : Some i ≡ Some (i + suc at) = rw passes at first in let same : i ≡ i + suc at = cc in omega arith)
  | inr fails ↦ rw (so y (inl refl) fails) (found_at p q (i + 1) at xs x (λ z h. so z (inr h)) (rw fails at first ∙ ap Some (omega arith)) there is)
]

parent_apart : (tables : List Table) (tree : ℕ) (ref : Reference)
    → ((x : Table) → Has tables x → same_name x.name ref.parent ≡ true → not (x.tree == tree) ≡ true) → is_apart tree (parent_key tables ref) ≡ true
parent_apart tables tree ref apart = go (find (λ (t : Table). same_name t.name ref.parent) tables) refl
  where
    go : (o : Option Table) → find (λ (t : Table). same_name t.name ref.parent) tables ≡ o → is_apart tree (option_and_then (key_of ref) o) ≡ true
    go None is = refl
    go (Some x) is = let has = has_found (λ (t : Table). same_name t.name ref.parent) tables x is in key_apart tree x (apart x has.0 has.1) ref

-- a name that equals one of two equal names equals the other
same_then : (name a b : List ℕ) → same_name a name ≡ true → same_name a b ≡ true → same_name name b ≡ true
same_then name a b one two = (lowered name b).1 (sym ((lowered a name).0 one) ∙ (lowered a b).0 two)

unreferred : (s : Schema) (name : List ℕ) (tree : ℕ) → list_all (named_by name tree) s.tables ≡ true → is_unnamed s name ≡ true → is_unreferred s tree ≡ true
unreferred s name tree owned unnamed = test_from _ s.tables (λ child has. test_from _ child.references (λ ref refers.
    parent_apart s.tables tree ref (λ x there leads. apart x there ref
    leads (test_has (λ (r : Reference). not (same_name name r.parent)) child.references ref
    (test_has (λ (c : Table). list_all (λ (r : Reference). not (same_name name r.parent)) c.references) s.tables child unnamed has) refers))))
  where
    apart : (x : Table) → Has s.tables x → (ref : Reference) → same_name x.name ref.parent ≡ true → not (same_name name ref.parent) ≡ true
        → not (x.tree == tree) ≡ true
    apart x there ref leads elsewhere = elim (or_cases _ _ (test_has (named_by name tree) s.tables x owned there)) [
      | inl other ↦ other
      | inr named ↦ absurd (let same = same_then name x.name ref.parent named leads in let differs = rw same at elsewhere in cc)
    ]

-- a table of this form is one of the record's
pub has_table_at : (s : Schema) (at : ℕ) (t : Table) (name key column : List ℕ) (kind : Kind) → table_named s name ≡ Some at → slice_get s.tables at ≡ Some t
    → t ≡ keyed_table name t.tree key column kind → t.tree < 2 ^ 31 → list_all (named_by name t.tree) s.tables ≡ true
    → list_any (λ (i : Index). i.table == t.tree) s.indexes ≡ false → is_unnamed s name ≡ true → HasTable s (keyed_table name (tree_of s name) key column kind)
has_table_at s at t name key column kind named there is low owned unindexed unnamed =
    let own : tree_of s name ≡ t.tree = rw (named, there) refl in
    let here : Some t ≡ Some (keyed_table name (tree_of s name) key column kind) =
    ap Some (is ∙ ap (λ tree. keyed_table name tree key column kind) (sym own)) in
    record {
      at = at;
      stands = record {
        named = named;
        there = there ∙ here;
        found = rw own (found_at (λ (u : Table). same_name u.name name) (λ (u : Table). u.tree == t.tree) 0 at s.tables t
            (λ u has unlike. elim (or_cases _ _ (test_has (named_by name t.tree) s.tables u owned has)) [
              | inl other ↦ not-true (u.tree == t.tree) other
              | inr like ↦ absurd (let e = rw like at unlike in cc)
            ]) (named ∙ ap Some (omega arith)) there (nat_eq_self t.tree) ∙ rw own at here);
        low = rw own low;
      };
      alone = record {
        unindexed = rw own unindexed;
        unreferred = rw own (unreferred s name t.tree owned unnamed);
      };
    }
