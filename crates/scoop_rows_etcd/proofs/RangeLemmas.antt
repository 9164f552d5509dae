-- Ranges by the parts of the pairs that they find.
use Rattle.std.proofs.Common.{◌≡◌, List, map, Option, Some, option_map, Contains, IfSome, sym, subst}
use Rattle.std.specs.Prelude.{codes}
use Rattle.std.specs.List.{AllByRecursion}
use Rattle.std.specs.List.Sorted.{IsStrictlySortedBy}
use Rattle.scoop_etcd_calls.specs.declared.calls.Range.{Range}
use Rattle.scoop_etcd_calls.specs.declared.calls.Found.{Found}
use Rattle.scoop_etcd.specs.Etcd.{Bytes, Kept, byte_order, AsksFor, Finds}
use Rattle.scoop_rows_etcd.specs.Examples.{AreFound, IsPrefix, after, end, pair_of}
use Rattle.scoop_rows_etcd.proofs.ExampleLemmas.{all_pairs, keys_are, pairs_all}

abbrev pub keys : List (Bytes × Kept) → List Bytes
keys pairs = map (λ e. e.0) pairs

-- the parts of `Finds`, over keys and values in place of pairs
pub record FindsParts (from : Bytes) (to : Option Bytes) (pairs : List (Bytes × Kept)) : Type 0 where
  pub own : AllByRecursion (λ e. AsksFor from to e.0 × (after.under e.0 ≡ Some e.1)) pairs
  pub all : (key : Bytes) → AsksFor from to key → IfSome (after.under key) (λ k. Contains (keys pairs) key)
  pub ascending : IsStrictlySortedBy byte_order (keys pairs)

module _ (range : Range) (found : Found) (pairs : List (Bytes × Kept)) (is : IsPrefix range) (are : AreFound found pairs) where
  abbrev items : List (Bytes × Kept)
  items = map pair_of found.pairs.items

  abbrev to : Option Bytes
  to = option_map (λ v. v.items) range.to

  pub by_pairs : FindsParts (codes "h/") (Some end) pairs → Finds after range found
  by_pairs plain = record {
    revision = are.0;
    own = all_pairs _ found.pairs.items parts.own;
    all = λ key asks. subst (λ (ks : List Bytes). IfSome (after.under key) (λ k. Contains ks key)) (sym (keys_are found.pairs.items)) (parts.all key asks);
    ascending = subst (λ (ks : List Bytes). IsStrictlySortedBy byte_order ks) (sym (keys_are found.pairs.items)) parts.ascending;
  }
    where
      parts : FindsParts range.from.items to items
      parts = subst (λ from. FindsParts from to items) (sym is.0)
          (subst (λ to. FindsParts (codes "h/") to items) (sym is.1) (subst (λ ps. FindsParts (codes "h/") (Some end) ps) (sym are.1) plain))

  pub pairs_by : Finds after range found → FindsParts (codes "h/") (Some end) pairs
  pairs_by finds = subst (λ ps. FindsParts (codes "h/") (Some end) ps) are.1
      (subst (λ to. FindsParts (codes "h/") to items) is.1 (subst (λ from. FindsParts from to items) is.0 parts))
    where
      parts : FindsParts range.from.items to items
      parts = record {
        own = pairs_all _ found.pairs.items finds.own;
        all = λ key asks. subst (λ (ks : List Bytes). IfSome (after.under key) (λ k. Contains ks key)) (keys_are found.pairs.items) (finds.all key asks);
        ascending = subst (λ (ks : List Bytes). IsStrictlySortedBy byte_order ks) (keys_are found.pairs.items) finds.ascending;
      }
