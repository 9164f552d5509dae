use Rattle.scoop_etcd_gateway.proofs.HistoryLemmas.{txn_answers, txn_leaves}
use Rattle.scoop_etcd_gateway.proofs.gateway.GatewayEtcd.transact.Goals as goal

pub returns-in-Ok-clause-answered : goal.returns-in-Ok-clause-answered
returns-in-Ok-clause-answered g c =
    let t = c.in-Ok.transacted in
    rw c.and-self.ensures (txn_answers g.W.World.after c.args.self.now.calls.items c.args.txn.now t.call t.answer t.outcome c.in-Ok.ensures)

pub returns-in-Ok-clause-stays : goal.returns-in-Ok-clause-stays
returns-in-Ok-clause-stays g c =
    let t = c.in-Ok.transacted in
    rw c.and-self.ensures (txn_leaves g.W.World.after c.args.self.now.calls.items c.args.txn.now t.call t.answer t.outcome c.in-Ok.ensures)
