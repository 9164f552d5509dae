-- Transactions by their conditions and puts, and lists of pairs by their parts.
use Rattle.std.proofs.Common.{◌≡◌, ℕ, Bool, true, false, List, [], ◌∷◌, map, Option, Some, bytes_eq, refl, sym, ap, subst, ◌∙◌}
use Rattle.std.specs.Prelude.{codes, if◌then◌else◌}
use Rattle.std.specs.Cmp.Lexicographic.{bytes_decides}
use Rattle.std.specs.List.{AllByRecursion}
use Rattle.scoop_etcd_calls.specs.declared.calls.Pair.{Pair}
use Rattle.scoop_etcd_calls.specs.declared.calls.Txn.{Txn}
use Rattle.scoop_etcd_calls.specs.declared.calls.Outcome.{Outcome}
use Rattle.scoop_etcd.specs.Etcd.{Bytes, Kept, kept, Contents, Condition, conditions_of, entries_of, key_of, kept_of, TransactsAs, Transacts}
use Rattle.scoop_rows_etcd.specs.Examples.{PutsBothIf, before, after, both, met, one, two, outcome, pair_of, rest, with_key}

module _ (old new : Contents) (txn : Txn) (outcome : Outcome) (conditions : List Condition) (is : PutsBothIf txn conditions) where
  pub by_parts : TransactsAs outcome.succeeded old new conditions both → outcome.revision ≡ new.revision → Transacts old new txn outcome
  by_parts transacts revision = record {
    result = subst (λ es. TransactsAs outcome.succeeded old new (conditions_of txn) es) (sym is.1)
        (subst (λ cs. TransactsAs outcome.succeeded old new cs both) (sym is.0) transacts);
    revision = revision;
  }

  pub parts : Transacts old new txn outcome → TransactsAs outcome.succeeded old new conditions both
  parts transacts = subst (λ es. TransactsAs outcome.succeeded old new conditions es) is.1
      (subst (λ cs. TransactsAs outcome.succeeded old new cs (entries_of txn)) is.0 transacts.result)

-- another key has what it had
pub past : (key value : Bytes) (revision : ℕ) (under : Bytes → Option Kept) (asked : Bytes) → (key ≡ asked → ⊥) → with_key key value revision under asked ≡ under asked
past key value revision under asked other = at (bytes_eq asked key) refl
  where
    at : (b : Bool) → bytes_eq asked key ≡ b → (if b then Some (kept value revision) else under asked) ≡ under asked
    at true e = absurd (other (sym ((bytes_decides asked key).0 e)))
    at false e = refl

pub both_put : (txn : Txn) → PutsBothIf txn met → Transacts before after txn (outcome true 5)
both_put txn is =
    by_parts before after txn (outcome true 5) met is (
      (refl, (refl, (refl, tt))),
      record {
        revision = refl;
        there = (refl, (refl, tt));
        others = λ key other. past one (codes "y") 5 (with_key two (codes "z") 5 rest) key other.0 ∙ past two (codes "z") 5 rest key other.1.0 ∙ sym (past one (codes "x") 3 rest key other.0);
      },
    ) refl

-- a key has what was put there, or is another
pub at_key : (P : Bytes → Option Kept → Type 0) (key value : Bytes) (revision : ℕ) (under : Bytes → Option Kept) (asked : Bytes)
    → P key (Some (kept value revision)) → P asked (under asked) → P asked (with_key key value revision under asked)
at_key P key value revision under asked here there = at (bytes_eq asked key) refl
  where
    at : (b : Bool) → bytes_eq asked key ≡ b → P asked (if b then Some (kept value revision) else under asked)
    at true e = subst (λ k. P k (Some (kept value revision))) (sym ((bytes_decides asked key).0 e)) here
    at false e = there

-- pairs by their parts
pub all_pairs : (P : Bytes → Kept → Type 0) (pairs : List Pair) → AllByRecursion (λ e. P e.0 e.1) (map pair_of pairs)
    → AllByRecursion (λ p. P (key_of p) (kept_of p)) pairs
all_pairs P [] all = tt
all_pairs P (p ∷ pairs) all = (all.0, all_pairs P pairs all.1)

pub pairs_all : (P : Bytes → Kept → Type 0) (pairs : List Pair) → AllByRecursion (λ p. P (key_of p) (kept_of p)) pairs
    → AllByRecursion (λ e. P e.0 e.1) (map pair_of pairs)
pairs_all P [] all = tt
pairs_all P (p ∷ pairs) all = (all.0, pairs_all P pairs all.1)

pub keys_are : (pairs : List Pair) → map key_of pairs ≡ map (λ e. e.0) (map pair_of pairs)
keys_are [] = refl
keys_are (p ∷ pairs) = ap (λ keys. key_of p ∷ keys) (keys_are pairs)
