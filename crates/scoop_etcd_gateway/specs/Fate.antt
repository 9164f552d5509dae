-- The fate of a transaction whose answer was lost, by a look-up.
use Rattle.std.specs.Prelude.{ℕ, ◌==◌, Bool, if◌then◌else◌, List, [], ◌∷◌, Option, Some, None}
use Rattle.std.specs.Cmp.Lexicographic.{pointwise}
use Rattle.scoop_etcd_calls.specs.declared.calls.Compare.{Compare}
use Rattle.scoop_etcd_calls.specs.declared.calls.Compare.TheVariants.{Value, Revision}
use Rattle.scoop_etcd_calls.specs.declared.calls.Put.{Put}
use Rattle.scoop_etcd_calls.specs.Stored.{Stored}
use Rattle.scoop_etcd_gateway.specs.declared.fate.Fate.{Fate}
use Rattle.scoop_etcd_gateway.specs.declared.fate.Fate.TheVariants.{Unmade, Made, Overtaken}

abbrev pub same_bytes : List ℕ → List ℕ → Bool
same_bytes = pointwise ◌==◌

-- the revision that a key must have
abbrev pub asked_revision : List ℕ → List Compare → Option ℕ
asked_revision key [] = None
asked_revision key (Value k value ∷ compares) = asked_revision key compares
asked_revision key (Revision k revision ∷ compares) = if same_bytes k.items key then Some revision else asked_revision key compares

abbrev pub guard_or : Put → Option ℕ → Option (Put × ℕ) → Option (Put × ℕ)
guard_or put None others = others
guard_or put (Some revision) others = Some (put, revision)

-- the first put whose key must have a certain revision, and that revision
abbrev pub guard_among : List Compare → List Put → Option (Put × ℕ)
guard_among compares [] = None
guard_among compares (put ∷ puts) = guard_or put (asked_revision put.key.items compares) (guard_among compares puts)

-- The transaction stores this value under a key, which must have this revision before. It was made if the value stands there
-- at another revision, and not yet made if the key has the old revision.
abbrev pub fate_of : List ℕ → ℕ → Option Stored → Fate
fate_of value revision None = if revision == 0 then Unmade else Overtaken
fate_of value revision (Some s) =
    if s.revision == revision then Unmade
    else (if same_bytes s.value value then Made s.revision
    else Overtaken)
