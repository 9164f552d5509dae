use Rattle.std.proofs.Common.{◌≡◌, map, drop}
use Rattle.serde_json.specs.View.{view}
use Rattle.scoop_lines.specs.Reading.{each_of}
use Rattle.scoop_lines.proofs.ReadingLemmas.{joined}
use Rattle.scoop_etcd_calls.specs.Stored.{stored}
use Rattle.scoop_etcd_calls.specs.Answer.{pair_of}
use Rattle.scoop_etcd_calls.proofs.reading.read_pairs.Given as goal

abbrev pub invariant-loop-value : goal.invariant-loop-value
invariant-loop-value l =
    each_of pair_of (map view l.values) ≡ joined (map stored l.pairs.items) (each_of pair_of (map view (drop l.value-index l.values)))
