use Rattle.scoop_weaver.proofs.Along.{grows_both}
use Rattle.scoop_audit.proofs.Clients.{end_told}
use Rattle.scoop_audit.proofs.client.go_on.Goals as goal

pub returns-clause-grows : goal.returns-clause-grows
returns-clause-grows c = grows_both _ _ _ c.in_ok-last_turn.ensures.grows c.in-Ok.ensures.grows

pub returns-clause-told : goal.returns-clause-told
returns-clause-told c last bytes rest first sent up =
    end_told c.args.id c.args.batch last bytes rest first c.args.replay.now c.last_turn.new.replay c.restart.new.self sent c.args.post.now c.last_turn.new.post
    c.restart.new.post up c.in_ok-last_turn.ensures.turned c.in-Ok.ensures.restarts
