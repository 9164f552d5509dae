use Rattle.std.proofs.Common.{◌≡◌, ◌∙◌, List, map, sym, subst}
use Rattle.scoop_replay.specs.declared.node.Placed.{Placed}
use Rattle.scoop_system.specs.declared.place.HandlerPlace.{HandlerPlace}
use Rattle.scoop_system.specs.Known.{handlers_on}
use Rattle.scoop_audit.proofs.Paged.{node_read}
use Rattle.scoop_audit.proofs.Unexplained.{node_party}
use Rattle.scoop_audit.proofs.auditing.tell_node.Goals as goal

pub returns-clause-told : goal.returns-clause-told
returns-clause-told c =
    let s = c.args.system.now in
    let n = c.args.number in
    let placed = rw c.in-Some.is at c.in_ok-placed.ensures.placed in
    let all = rw c.in-Some.is at c.in_ok-placed.ensures.all in
    let same = c.deref.ensures.value in
    node_read s n c.deref.result.now c.args.bytes.now c.read_node.new.post c.read_node.result (same ∙ placed)
    (subst (λ (ps : List Placed). map (λ (p : Placed). p.handler) ps ≡ map (λ (h : HandlerPlace). h.handler) (handlers_on n s.handlers)) (sym same) all)
    c.read_node.ensures.told

pub returns-clause-stops : goal.returns-clause-stops
returns-clause-stops c =
    node_party c.args.system.now c.args.number c.deref.result.now c.args.bytes.now c.read_node.result
    (c.deref.ensures.value ∙ rw c.in-Some.is at c.in_ok-placed.ensures.placed) c.read_node.ensures.stops
