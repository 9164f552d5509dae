use Rattle.std.proofs.Common.{◌++◌, ap, subst}
use Rattle.scoop_journal.specs.Journal.{ended}
use Rattle.scoop_audit.specs.Node.{PassesOver}
use Rattle.scoop_audit.proofs.Nodes.{passes_none}
use Rattle.scoop_audit.proofs.Stops.{begun_stops, begun_told}
use Rattle.scoop_audit.proofs.node.take.Goals as goal

pub returns-in-NodeLife-clause-told : goal.returns-in-NodeLife-clause-told
returns-in-NodeLife-clause-told c bytes first sent =
    let before = ended c.args.line.now ++ c.args.cursor.now.rest.now in
    begun_told first c.args.node.now sent c.args.post.now bytes before c.in-NodeLife.number c.args.cursor.now.rest.now
    (subst (PassesOver before) (ap (λ l. ended l ++ c.args.cursor.now.rest.now) c.in-NodeLife.is) (passes_none before))
    c.begin_life.new.node c.begin_life.new.post c.begin_life.result c.begin_life.new.cursor.rest.now c.begin_life.ensures.begins

pub returns-in-NodeLife-clause-stops : goal.returns-in-NodeLife-clause-stops
returns-in-NodeLife-clause-stops c bytes first sent =
    let before = ended c.args.line.now ++ c.args.cursor.now.rest.now in
    begun_stops first c.args.node.now sent c.args.post.now bytes before c.in-NodeLife.number c.args.cursor.now.rest.now
    (subst (PassesOver before) (ap (λ l. ended l ++ c.args.cursor.now.rest.now) c.in-NodeLife.is) (passes_none before)) c.begin_life.result
    c.begin_life.ensures.stops
