use Rattle.std.proofs.Common.{◌++◌, subst}
use Rattle.scoop_journal.specs.Journal.{ended}
use Rattle.scoop_audit.specs.Node.{PassesOver}
use Rattle.scoop_audit.proofs.Nodes.{passes_first}
use Rattle.scoop_audit.proofs.Stops.{begun_stops, begun_told}
use Rattle.scoop_audit.proofs.node.leave_out.Goals as goal

pub returns-in-Ok-Some-NodeLife-clause-told : goal.returns-in-Ok-Some-NodeLife-clause-told
returns-in-Ok-Some-NodeLife-clause-told c bytes first sent =
    let old = c.args.cursor.now.rest.now in
    let next = rw c.in-Ok-Some-NodeLife.field-0-0-is at (rw c.in-Ok-Some-NodeLife.field-0-is at c.in-Ok-Some-NodeLife.ensures.next) in
    begun_told first c.args.node.now sent c.args.post.now bytes (ended c.args.line.now ++ old) c.in-Ok-Some-NodeLife.number c.next.new.self.rest.now
    (passes_first old _ c.args.line.now c.requires (subst (PassesOver old) next c.in-Ok.ensures.passes))
    c.begin_life.new.node c.begin_life.new.post c.begin_life.result c.begin_life.new.cursor.rest.now c.begin_life.ensures.begins

pub returns-in-Ok-Some-NodeLife-clause-stops : goal.returns-in-Ok-Some-NodeLife-clause-stops
returns-in-Ok-Some-NodeLife-clause-stops c bytes first sent =
    let old = c.args.cursor.now.rest.now in
    let next = rw c.in-Ok-Some-NodeLife.field-0-0-is at (rw c.in-Ok-Some-NodeLife.field-0-is at c.in-Ok-Some-NodeLife.ensures.next) in
    begun_stops first c.args.node.now sent c.args.post.now bytes (ended c.args.line.now ++ old) c.in-Ok-Some-NodeLife.number c.next.new.self.rest.now
    (passes_first old _ c.args.line.now c.requires (subst (PassesOver old) next c.in-Ok.ensures.passes)) c.begin_life.result c.begin_life.ensures.stops
