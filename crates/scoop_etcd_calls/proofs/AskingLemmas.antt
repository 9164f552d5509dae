-- The body of a transaction has no float, and isn't deep.
use Rattle.std.proofs.Common.{◌≡◌, ◌≤◌, suc, max, false, List, [], ◌∷◌, map, refl, arith}
use Rattle.std.proofs.Math.Nat.{max-le}
use Rattle.serde_json.specs.Data.{depth, items_depth}
use Rattle.serde_json.specs.Read.{max_depth}
use Rattle.serde_json.specs.View.{items_of}
use Rattle.serde_json.specs.Written.{has_float, items_have_float}
use Rattle.scoop_etcd_calls.specs.declared.calls.Compare.{Compare}
use Rattle.scoop_etcd_calls.specs.declared.calls.Compare.TheVariants.{Value, Revision}
use Rattle.scoop_etcd_calls.specs.declared.calls.Put.{Put}
use Rattle.scoop_etcd_calls.specs.declared.calls.Txn.{Txn}
use Rattle.scoop_etcd_calls.specs.Asking.{compare_data, put_data, txn_data}

compares_float : (cs : List Compare) → items_have_float (items_of (map compare_data cs)) ≡ false
compares_float [] = refl
compares_float (Value key value ∷ cs) = compares_float cs
compares_float (Revision key revision ∷ cs) = compares_float cs

puts_float : (ps : List Put) → items_have_float (items_of (map put_data ps)) ≡ false
puts_float [] = refl
puts_float (p ∷ ps) = puts_float ps

pub txn_float : (t : Txn) → has_float (txn_data t) ≡ false
txn_float t = rw (compares_float t.compares.items, puts_float t.puts.items) refl

compares_depth : (cs : List Compare) → items_depth (items_of (map compare_data cs)) ≤ 2
compares_depth [] = omega arith
compares_depth (Value key value ∷ cs) = max-le (omega arith) (compares_depth cs)
compares_depth (Revision key revision ∷ cs) = max-le (omega arith) (compares_depth cs)

puts_depth : (ps : List Put) → items_depth (items_of (map put_data ps)) ≤ 2
puts_depth [] = omega arith
puts_depth (p ∷ ps) = max-le (omega arith) (puts_depth ps)

pub txn_depth : (t : Txn) → depth (txn_data t) ≤ max_depth
txn_depth t =
    let compares = compares_depth t.compares.items in
    let puts = puts_depth t.puts.items in
    let a = items_depth (items_of (map compare_data t.compares.items)) in
    let b = items_depth (items_of (map put_data t.puts.items)) in
    let few : max (suc a) (max (suc b) 0) ≤ 3 = max-le (omega arith) (max-le (omega arith) (omega arith)) in
    omega arith
