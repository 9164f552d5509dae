use Rattle.std.proofs.Common.{[], refl, sym, subst}
use Rattle.scoop_client.specs.Beginning.{greeting}
use Rattle.scoop_replay.specs.Client.{client_value}
use Rattle.scoop_audit.specs.Client.{ClientRead}
use Rattle.scoop_audit.specs.Told.{TellsClientLife, joining}
use Rattle.scoop_audit.specs.Wrong.{ClientStops, IfWrong, StopsClient}
use Rattle.scoop_audit.proofs.Stops.{client_stops, if_wrong}
use Rattle.scoop_audit.proofs.Told.{client_told}
use Rattle.scoop_audit.proofs.auditing.read_client.Goals as goal

pub returns-in-Ok-replay_client-clause-told : goal.returns-in-Ok-replay_client-clause-told
returns-in-Ok-replay_client-clause-told c =
    let j = c.args.joined.now in
    let n = joining c.args.known.now j.id j.batch in
    let bytes = c.args.bytes.now in
    let new = c.replay_client.new.replay in
    let more = c.replay_client.new.post in
    subst (TellsClientLife n bytes more) (sym c.into_trail.ensures)
    (client_told n bytes new c.args.post.now more refl
    (subst (λ v. ClientRead j.id j.batch bytes v new c.args.post.now more) c.in-Ok.ensures c.in-Ok-replay_client.ensures.told))

pub returns-in-Err-replay_client-clause-stops : goal.returns-in-Err-replay_client-clause-stops
returns-in-Err-replay_client-clause-stops c =
    let j = c.args.joined.now in
    let n = joining c.args.known.now j.id j.batch in
    let bytes = c.args.bytes.now in
    let post = c.args.post.now in
    let t = c.in-Err-replay_client.trouble in
    if_wrong t (ClientStops j.id j.batch bytes (client_value (greeting j.id 1 c.args.known.now 0 j.batch) []) post) (StopsClient n bytes)
    (subst (λ v. IfWrong (ClientStops j.id j.batch bytes v post) t) c.in-Ok.ensures c.in-Err-replay_client.ensures.stops)
    (λ w. client_stops n bytes post w refl)
