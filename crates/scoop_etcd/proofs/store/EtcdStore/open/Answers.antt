use Rattle.scoop_etcd.specs.Owning.{keys_of}
use Rattle.scoop_etcd.proofs.StoreLemmas.{replaced_states, replaced_incs}
use Rattle.scoop_etcd.proofs.store.EtcdStore.open.Goals as goal

pub returns-clause-handlers : goal.returns-clause-handlers
returns-clause-handlers g c honest alone =
    replaced_states c.args.name.now c.args.owner c.args.token (keys_of c.in_ok-keys.keys) c.in_ok-keys.ensures.keys _ _
    (c.in_ok-keys.ensures.taken honest) alone

pub returns-clause-incarnations : goal.returns-clause-incarnations
returns-clause-incarnations g c honest alone =
    replaced_incs c.args.name.now c.args.owner c.args.token (keys_of c.in_ok-keys.keys) c.in_ok-keys.ensures.keys _ _
    (c.in_ok-keys.ensures.taken honest) alone
