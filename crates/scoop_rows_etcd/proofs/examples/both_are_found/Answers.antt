use Rattle.std.proofs.Common.{◌≡◌, ℕ, zero, suc, ◌<◌, [], ◌∷◌, Option, Some, None, Contains, IfSome, get_or, refl, ap, arith}
use Rattle.std.specs.Prelude.{codes, slice_index_or}
use Rattle.std.specs.List.Sorted.{IsStrictlySortedBy}
use Rattle.std.specs.Option.{unwrap_or}
use Rattle.std.specs.declared.cmp.Ordering.TheVariants.{Less, Equal, Greater}
use Rattle.scoop_etcd.specs.Etcd.{Bytes, Kept, AsksFor, byte_order, value_of}
use Rattle.scoop_rows_etcd.specs.Examples.{after, end, first, one, rest, second, two, third, with_key}
use Rattle.scoop_rows_etcd.proofs.ExampleLemmas.{at_key}
use Rattle.scoop_rows_etcd.proofs.RangeLemmas.{FindsParts, by_pairs, pairs_by}
use Rattle.scoop_rows_etcd.proofs.examples.both_are_found.Goals as goal

abbrev Asked : Bytes → Type 0
Asked key = AsksFor (codes "h/") (Some end) key

less : Less ≡ Greater → ⊥
less e = absurd (cc)

-- each key that is asked for and stands is one of the two
standing : (key : Bytes) → Asked key → IfSome (after.under key) (λ k. Contains (one ∷ two ∷ []) key)
standing key =
    at_key Is one (codes "y") 5 (with_key two (codes "z") 5 rest) key (λ asks. (0, omega arith, refl))
    (at_key Is two (codes "z") 5 rest key (λ asks. (1, omega arith, refl))
    (at_key Is end (codes "t") 4 (λ _. None) key (λ asks. let no : Equal ≡ Less = asks.1 in absurd (cc)) (λ asks. tt)))
  where
    Is : Bytes → Option Kept → Type 0
    Is key found = Asked key → IfSome found (λ k. Contains (one ∷ two ∷ []) key)

both : FindsParts (codes "h/") (Some end) (first ∷ second ∷ [])
unfolding IsStrictlySortedBy
both = record {
  own = (((less, refl), refl), (((less, refl), refl), tt));
  all = standing;
  ascending = ((refl, tt), (tt, tt));
}

-- the second key isn't the first one
other : (k : ℕ) → k < 1 → slice_index_or (one ∷ []) k two ≡ two → ⊥
other zero lt e = let no : ◌≡◌ {A = ℕ} 49 50 = ap (λ (key : Bytes). get_or key 2 0) e in omega arith
other (suc k) lt e = omega arith

one_lacks : FindsParts (codes "h/") (Some end) (first ∷ []) → ⊥
one_lacks f = let has : Contains (one ∷ []) two = f.all two (less, refl) in other has.0 has.1 has.2

turned : IsStrictlySortedBy byte_order (two ∷ one ∷ []) → ⊥
unfolding IsStrictlySortedBy
turned sorted = let no : Greater ≡ Less = sorted.0.0 in absurd (cc)

pub returns : goal.returns
returns c = record {
  finds = λ range found is are. by_pairs range found (first ∷ second ∷ []) is are both;
  not_one = λ range found is are f. one_lacks (pairs_by range found (first ∷ []) is are f);
  not_turned = λ range found is are f. turned (pairs_by range found (second ∷ first ∷ []) is are f).ascending;
  not_more = λ range found is are f.
      let no : Equal ≡ Less = (pairs_by range found (first ∷ second ∷ third ∷ []) is are f).own.1.1.0.0.1 in absurd (cc);
  not_other = λ range found is are f.
      let no : ◌≡◌ {A = ℕ} 122 120 = ap (λ (o : Option Kept). get_or (unwrap_or (value_of o) []) 0 0) (pairs_by range found _ is are f).own.1.0.1 in omega arith;
}
