use Rattle.std.proofs.Common.{sym, subst}
use Rattle.scoop_weaver.proofs.Along.{grows_same}
use Rattle.scoop_audit.specs.Client.{ClientUpTo}
use Rattle.scoop_audit.proofs.Clients.{client_nothing}
use Rattle.scoop_audit.proofs.Texts.{next_line}
use Rattle.scoop_audit.proofs.client.replay_client.Goals as goal

pub loop-text-init : goal.loop-text-init
loop-text-init c =
    let id = c.args.joined.now.id in
    let batch = c.args.joined.now.batch in (
      grows_same _,
      subst (λ r. ClientUpTo id batch 0 c.args.bytes.now r c.args.replay.now c.args.replay.now c.args.post.now c.args.post.now) (sym c.new-cursor.ensures)
          (client_nothing id batch c.args.bytes.now c.args.replay.now c.args.post.now),
    )

pub returns-in-Err-take_line-clause-stops : goal.returns-in-Err-take_line-clause-stops
returns-in-Err-take_line-clause-stops c =
    let id = c.args.joined.now.id in
    let batch = c.args.joined.now.batch in
    let after = c.next_text.new.self.rest.now in
    let line = c.in-Ok.line in
    c.in-Err-take_line.ensures.stops c.args.bytes.now after c.args.replay.now c.args.post.now
    (subst (λ r. ClientUpTo id batch c.loop-text.last c.args.bytes.now r c.args.replay.now c.loop-text.replay c.args.post.now c.loop-text.post)
    (next_line c.loop-text.cursor.rest.now c.in-Some.text.now after line c.in-Some.ensures c.in-Ok.ensures.line) c.loop-text.invariant.1)
