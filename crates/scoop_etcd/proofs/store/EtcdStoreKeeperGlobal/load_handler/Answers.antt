use Rattle.std.proofs.Common.{◌≡◌, None, IfOk, find, ap, ◌∙◌, subst}
use Rattle.scoop_keeper.specs.Keyed.{IsFirst}
use Rattle.scoop_keeper.specs.Keeper.{Damaged, Holds, IsTheOne, stored_of}
use Rattle.scoop_record.specs.Gathering.{Over, is_of}
use Rattle.scoop_record.proofs.GatheringLemmas.{below_if, below_one, waits_one}
use Rattle.scoop_etcd.specs.Owning.{keys_of}
use Rattle.scoop_etcd.specs.States.{Has, handlers_in, state_value}
use Rattle.scoop_etcd.proofs.StoreLemmas.{with_keys}
use Rattle.scoop_etcd.proofs.store.EtcdStoreKeeperGlobal.load_handler.Goals as goal

pub returns-in-Some-clause-loaded : goal.returns-in-Some-clause-loaded
returns-in-Some-clause-loaded g c sound =
    let pending = ap (λ r. r.pending) (c.self.view_is ∙ c.in_ok-begin.ensures.ok.0) in
    let first = subst (λ ys. IsFirst (is_of c.args.handler) ys c.in-Some.at) c.deref.ensures.value c.in-Some.ensures in
    let below = handlers_in c.args.self.now.keys.name (g.E.Etcd.contents c.args.self.now.etcd) in
    subst (λ xs. IsTheOne (Over xs below c.args.handler.0) (Holds c.in_ok-copy.field-0)) pending
    (rw c.in_ok-copy.ensures (waits_one c.self.inside.pending.items c.in-Some.at c.args.handler c.index.result.now below c.self.invariant.0 first
    c.index.ensures).1)

pub returns-in-Some-clause-own : goal.returns-in-Some-clause-own
returns-in-Some-clause-own g c =
    let first = subst (λ ys. IsFirst (is_of c.args.handler) ys c.in-Some.at) c.deref.ensures.value c.in-Some.ensures in
    rw c.in_ok-copy.ensures
    (waits_one c.self.inside.pending.items c.in-Some.at c.args.handler c.index.result.now
    (handlers_in c.args.self.now.keys.name (g.E.Etcd.contents c.args.self.now.etcd)) c.self.invariant.0 first c.index.ensures).0

pub returns-in-Ok-clause-loaded : goal.returns-in-Ok-clause-loaded
returns-in-Ok-clause-loaded g c sound =
    let same = c.self.view_is ∙ c.in_ok-begin.ensures.ok.0 in
    let none = subst (λ ys. find (is_of c.args.handler) ys ≡ None) c.deref.ensures.value c.in_default.ensures in
    let below = handlers_in c.args.self.now.keys.name (g.E.Etcd.contents c.args.self.now.etcd) in
    let value = c.in-Ok.ensures.value sound.0
    ∙ ap (λ under. state_value (keys_of c.self.inside.keys).name (with_keys under) c.args.handler.0) (c.in-Ok.ensures.stays sound.1)
    ∙ ap (λ r. state_value r.keys.name (g.E.Etcd.contents r.etcd) c.args.handler.0) same in
    subst (λ xs. IfOk c.state_of.result (λ found. IsTheOne (Over xs below c.args.handler.0) (stored_of found))) (ap (λ r. r.pending) same)
    (below_if c.state_of.result c.self.inside.pending.items c.args.handler below c.self.invariant.0 none
    (subst (λ v. IfOk c.state_of.result (λ found. IsTheOne (Has c.args.handler.0 v) (stored_of found))) value c.state_of.ensures.loaded))

pub returns-in-Ok-clause-bad : goal.returns-in-Ok-clause-bad
returns-in-Ok-clause-bad g c sound is =
    let same = c.self.view_is ∙ c.in_ok-begin.ensures.ok.0 in
    let none = subst (λ ys. find (is_of c.args.handler) ys ≡ None) c.deref.ensures.value c.in_default.ensures in
    let below = handlers_in c.args.self.now.keys.name (g.E.Etcd.contents c.args.self.now.etcd) in
    let value = c.in-Ok.ensures.value sound.0
    ∙ ap (λ under. state_value (keys_of c.self.inside.keys).name (with_keys under) c.args.handler.0) (c.in-Ok.ensures.stays sound.1)
    ∙ ap (λ r. state_value r.keys.name (g.E.Etcd.contents r.etcd) c.args.handler.0) same in
    subst (λ xs. IsTheOne (Over xs below c.args.handler.0) Damaged) (ap (λ r. r.pending) same)
    (below_one c.self.inside.pending.items c.args.handler below Damaged c.self.invariant.0 none
    (subst (λ v. IsTheOne (Has c.args.handler.0 v) Damaged) value (c.state_of.ensures.bad is)))
