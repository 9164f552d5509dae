use Rattle.std.proofs.Common.{◌≡◌, map, drop}
use Rattle.scoop_etcd_calls.specs.Stored.{stored, ascends_from}
use Rattle.scoop_etcd_calls.proofs.reading.ascends_from.Given as goal

abbrev pub invariant-loop-pair : goal.invariant-loop-pair
invariant-loop-pair l = ascends_from (stored l.fn.first) (map stored l.rest) ≡ ascends_from (stored l.last) (map stored (drop l.pair-index l.rest))
