use Rattle.std.proofs.Common.{◌≡◌, take, map}
use Rattle.serde_json.specs.View.{view}
use Rattle.scoop_etcd_calls.specs.Asking.{compare_data}
use Rattle.scoop_etcd_calls.proofs.asking.compare_values.Given as goal

abbrev pub invariant-loop-compare : goal.invariant-loop-compare
invariant-loop-compare l = map view l.values.items ≡ map compare_data (take l.compare-index l.compares)
