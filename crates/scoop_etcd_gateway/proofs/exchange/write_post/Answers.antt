use Rattle.scoop_etcd_gateway.specs.declared.exchange.TheConstants.{LIMITS}
use Rattle.scoop_etcd_gateway.proofs.PostLemmas.{posted}
use Rattle.scoop_etcd_gateway.proofs.exchange.write_post.Goals as goal

pub returns : goal.returns
returns c =
    posted LIMITS c.args.host.now c.args.path.now c.args.body.now c.args.out.now.items c.write_request.new.output.items c.write_data.new.output.items
    c.write_end.new.output.items c.args.client.now c.write_request.new.self c.write_data.new.self c.write_end.result c.requires
    c.in_ok-write_request.ensures.ok c.in_ok-write_request.ensures.next c.in_ok-write_data.ensures.ok c.in_ok-write_data.ensures.counted c.write_end.ensures.ok
