-- The JSON of answers, with the members that are read.
use Rattle.std.specs.Prelude.{◌≡◌, ◌≢◌, ℕ, ◌<◌, ◌^◌, true, [], map, codes}
use Rattle.std.specs.List.{AllByRecursion}
use Rattle.base64.specs.GeneralPurpose.{IsBytes}
use Rattle.serde_json.specs.Data.{Data, boolean, array, object, no_members, member}
use Rattle.serde_json.specs.View.{items_of}
use Rattle.scoop_etcd_calls.specs.declared.calls.Outcome.{Outcome}
use Rattle.scoop_etcd_calls.specs.Asking.{bytes_data, number_data}
use Rattle.scoop_etcd_calls.specs.Stored.{Stored, Listed, ascends}

abbrev pub header_data : ℕ → Data
header_data revision = object (member (codes "revision") (number_data revision) no_members)

abbrev pub pair_data : Stored → Data
pair_data s =
    object (member (codes "key") (bytes_data s.key)
    (member (codes "mod_revision") (number_data s.revision)
    (member (codes "value") (bytes_data s.value) no_members)))

-- the answer to a range
abbrev pub listed_data : Listed → Data
listed_data l =
    object (member (codes "header") (header_data l.revision)
    (member (codes "kvs") (array (items_of (map pair_data l.pairs))) no_members))

-- the answer to a transaction
abbrev pub outcome_data : Outcome → Data
outcome_data o =
    object (member (codes "header") (header_data o.revision)
    (member (codes "succeeded") (boolean o.succeeded) no_members))

-- a number of 64 bits from 1 on
abbrev pub IsRevision : ℕ → Type 0
IsRevision n = (0 < n) × (n < 2 ^ 64)

-- bytes under a key of one byte or more, at a revision
pub record IsStored (s : Stored) : Type 0 where
  pub some : s.key ≢ []
  pub key : IsBytes s.key
  pub value : IsBytes s.value
  pub revision : IsRevision s.revision

-- pairs by ascending keys, at a revision
pub record IsListed (l : Listed) : Type 0 where
  pub revision : IsRevision l.revision
  pub pairs : AllByRecursion IsStored l.pairs
  pub ascend : ascends l.pairs ≡ true
