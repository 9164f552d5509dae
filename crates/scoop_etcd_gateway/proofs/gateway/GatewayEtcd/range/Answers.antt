use Rattle.scoop_etcd_gateway.proofs.HistoryLemmas.{range_finds, range_leaves}
use Rattle.scoop_etcd_gateway.proofs.gateway.GatewayEtcd.range.Goals as goal

pub returns-in-Ok-clause-found : goal.returns-in-Ok-clause-found
returns-in-Ok-clause-found g c =
    let r = c.in-Ok.ranged in
    rw c.and-self.ensures (range_finds g.W.World.after c.args.self.now.calls.items c.args.range.now r.call r.answer r.found c.in-Ok.ensures)

pub returns-in-Ok-clause-stays : goal.returns-in-Ok-clause-stays
returns-in-Ok-clause-stays g c =
    let r = c.in-Ok.ranged in
    rw c.and-self.ensures (range_leaves g.W.World.after c.args.self.now.calls.items c.args.range.now r.call r.answer r.found c.in-Ok.ensures)
