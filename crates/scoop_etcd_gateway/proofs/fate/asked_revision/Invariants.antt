use Rattle.std.proofs.Common.{◌≡◌, drop}
use Rattle.scoop_etcd_gateway.specs.Fate.{asked_revision}
use Rattle.scoop_etcd_gateway.proofs.fate.asked_revision.Given as goal

abbrev pub invariant-loop-compare : goal.invariant-loop-compare
invariant-loop-compare l = asked_revision l.key l.compares ≡ asked_revision l.key (drop l.compare-index l.compares)
