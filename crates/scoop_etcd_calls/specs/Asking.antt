-- The JSON of a call. Bytes are base64, numbers are decimal digits in a string.
use Rattle.std.specs.Prelude.{ℕ, List, map, codes, decimal, Option, Some, None}
use Rattle.base64.specs.Engines.{standard}
use Rattle.base64.specs.GeneralPurpose.{encode_of}
use Rattle.serde_json.specs.Data.{Data, string, array, object, no_members, member}
use Rattle.serde_json.specs.View.{items_of}
use Rattle.std.specs.declared.vec.Vec.{Vec}
use Rattle.std.specs.declared.alloc.Global.{Global}
use Rattle.scoop_etcd_calls.specs.declared.calls.Range.{Range}
use Rattle.scoop_etcd_calls.specs.declared.calls.Compare.{Compare}
use Rattle.scoop_etcd_calls.specs.declared.calls.Compare.TheVariants.{Value, Revision}
use Rattle.scoop_etcd_calls.specs.declared.calls.Put.{Put}
use Rattle.scoop_etcd_calls.specs.declared.calls.Txn.{Txn}

abbrev pub bytes_data : List ℕ → Data
bytes_data bytes = string (encode_of standard bytes)

abbrev pub number_data : ℕ → Data
number_data number = string (decimal number)

abbrev pub keys_data : List ℕ → Option (Vec ℕ Global) → Data
keys_data from None = object (member (codes "key") (bytes_data from) no_members)
keys_data from (Some to) = object (member (codes "key") (bytes_data from) (member (codes "range_end") (bytes_data to.items) no_members))

-- the body of a range
abbrev pub range_data : Range → Data
range_data r = keys_data r.from.items r.to

abbrev pub compare_data : Compare → Data
compare_data (Value key value) =
    object (member (codes "key") (bytes_data key.items)
    (member (codes "target") (string (codes "VALUE"))
    (member (codes "value") (bytes_data value.items) no_members)))
compare_data (Revision key revision) =
    object (member (codes "key") (bytes_data key.items)
    (member (codes "mod_revision") (number_data revision)
    (member (codes "target") (string (codes "MOD")) no_members)))

abbrev pub put_data : Put → Data
put_data p =
    object (member (codes "request_put")
    (object (member (codes "key") (bytes_data p.key.items)
    (member (codes "value") (bytes_data p.value.items) no_members))) no_members)

-- the body of a transaction
abbrev pub txn_data : Txn → Data
txn_data t =
    object (member (codes "compare") (array (items_of (map compare_data t.compares.items)))
    (member (codes "success") (array (items_of (map put_data t.puts.items))) no_members))
