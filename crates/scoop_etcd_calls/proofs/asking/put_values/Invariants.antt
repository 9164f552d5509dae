use Rattle.std.proofs.Common.{◌≡◌, take, map}
use Rattle.serde_json.specs.View.{view}
use Rattle.scoop_etcd_calls.specs.Asking.{put_data}
use Rattle.scoop_etcd_calls.proofs.asking.put_values.Given as goal

abbrev pub invariant-loop-put : goal.invariant-loop-put
invariant-loop-put l = map view l.values.items ≡ map put_data (take l.put-index l.puts)
