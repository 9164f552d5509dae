use Rattle.std.proofs.Common.{[], map, sym, subst}
use Rattle.scoop_replay.specs.Node.{node_value, placed_local}
use Rattle.scoop_audit.specs.Node.{NodeRead}
use Rattle.scoop_audit.specs.Told.{TellsLife}
use Rattle.scoop_audit.specs.Wrong.{IfWrong, NodeStops, StopsNode}
use Rattle.scoop_audit.proofs.Stops.{if_wrong, node_stops}
use Rattle.scoop_audit.proofs.Told.{node_told}
use Rattle.scoop_audit.proofs.auditing.read_node.Goals as goal

pub returns-in-Ok-clause-told : goal.returns-in-Ok-clause-told
returns-in-Ok-clause-told c words =
    let n = c.args.number in
    let ps = c.args.placed.now in
    let bytes = c.args.bytes.now in
    let new = c.replay_node.new.node in
    let more = c.replay_node.new.post in
    subst (TellsLife words n ps bytes more) (sym c.into_trail.ensures)
    (node_told words n ps bytes new c.args.post.now more c.requires
    (subst (λ v. NodeRead bytes v new c.args.post.now more) (rw c.in-Ok-Some.field-0-is at c.in-Ok-Some.ensures) c.in-Ok.ensures.told))

pub returns-in-Err-clause-stops : goal.returns-in-Err-clause-stops
returns-in-Err-clause-stops c words =
    let n = c.args.number in
    let ps = c.args.placed.now in
    let bytes = c.args.bytes.now in
    let post = c.args.post.now in
    let t = c.in-Err.trouble in
    if_wrong t (NodeStops bytes (node_value n (map placed_local ps) []) post) (StopsNode words n ps bytes)
    (subst (λ v. IfWrong (NodeStops bytes v post) t) (rw c.in-Ok-Some.field-0-is at c.in-Ok-Some.ensures) c.in-Err.ensures.stops)
    (λ w. node_stops words n ps bytes post w)
