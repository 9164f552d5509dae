-- Nothing has changed, if the caller is alone.
use Rattle.scoop_etcd.specs.Etcd.{SameKeys}
use Rattle.scoop_etcd.proofs.committing.reread.Given as goal

abbrev pub invariant-loop-state : goal.invariant-loop-state
invariant-loop-state g l = record {
  stays : g.E.Etcd.is_alone l.etcd → SameKeys (g.E.Etcd.contents l.fn.etcd) (g.E.Etcd.contents l.etcd);
  honest : g.E.Etcd.is_honest l.etcd → g.E.Etcd.is_honest l.fn.etcd;
  alone : g.E.Etcd.is_alone l.etcd → g.E.Etcd.is_alone l.fn.etcd;
}
