use Rattle.std.proofs.Common.{◌∙◌}
use Rattle.scoop_audit.proofs.Stops.{life_stops}
use Rattle.scoop_audit.proofs.node.begin_life.Goals as goal

pub returns-in-Err-clause-stops : goal.returns-in-Err-clause-stops
returns-in-Err-clause-stops c =
    let opened = c.in_ok-reopen.ensures in
    life_stops c.args.number c.args.cursor.now.rest.now c.args.node.now c.reopen.new.node c.args.post.now c.reopen.new.post c.in-Err.trouble
    (c.if-number.false ∙ c.number.ensures) opened.number opened.opens c.in-Err.ensures.stops
