use Rattle.scoop_etcd.proofs.StateLemmas.{commits_by}
use Rattle.scoop_etcd.proofs.committing.try_storing.Goals as goal

pub returns-then-outcome-clause-commits : goal.returns-then-outcome-clause-commits
returns-then-outcome-clause-commits g c honest =
    commits_by _ _ _ _ _ _ c.in_ok-outcome.outcome c.in_ok-txn.ensures.conditions c.in_ok-txn.ensures.entries c.in_ok-txn.ensures.writable
    (c.in_ok-outcome.ensures.answered honest) c.if-outcome.true
