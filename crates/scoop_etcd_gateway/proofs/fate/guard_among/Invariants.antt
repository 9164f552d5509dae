use Rattle.std.proofs.Common.{◌≡◌, drop}
use Rattle.scoop_etcd_gateway.specs.Fate.{guard_among}
use Rattle.scoop_etcd_gateway.proofs.fate.guard_among.Given as goal

abbrev pub invariant-loop-put : goal.invariant-loop-put
invariant-loop-put l = guard_among l.compares l.puts ≡ guard_among l.compares (drop l.put-index l.puts)
