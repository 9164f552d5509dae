-- Pairs as the lists that they hold.
use Rattle.std.specs.Prelude.{ℕ, ◌&&◌, Bool, true, List, [], ◌∷◌, map, string_bytes}
use Rattle.std.specs.Ordering.{nat_cmp, is_lt}
use Rattle.std.specs.Cmp.Lexicographic.{slice_cmp}
use Rattle.scoop_etcd_calls.specs.declared.calls.Pair.{Pair}
use Rattle.scoop_etcd_calls.specs.declared.calls.Found.{Found}
use Rattle.scoop_etcd_calls.specs.declared.calls.Refusal.{Refusal}

-- a key, the bytes stored under it, and the revision at which they were put
pub record Stored : Type 0 where
  pub key : List ℕ
  pub value : List ℕ
  pub revision : ℕ

abbrev pub stored : Pair → Stored
stored p = record { key = p.key.items; value = p.value.items; revision = p.revision }

-- the store's revision, and the pairs of a range
pub record Listed : Type 0 where
  pub revision : ℕ
  pub pairs : List Stored

abbrev pub listed : Found → Listed
listed f = record { revision = f.revision; pairs = map stored f.pairs.items }

-- by the bytes, from the left
abbrev pub is_below : List ℕ → List ℕ → Bool
is_below a b = is_lt (slice_cmp nat_cmp a b)

abbrev pub ascends_from : Stored → List Stored → Bool
ascends_from p [] = true
ascends_from p (q ∷ qs) = is_below p.key q.key && ascends_from q qs

-- each key is below the next
abbrev pub ascends : List Stored → Bool
ascends [] = true
ascends (p ∷ ps) = ascends_from p ps

-- the code and the words of a refusal
pub record Refused : Type 0 where
  pub code : ℕ
  pub message : List ℕ

abbrev pub refused : Refusal → Refused
refused r = record { code = r.code; message = string_bytes r.message }
