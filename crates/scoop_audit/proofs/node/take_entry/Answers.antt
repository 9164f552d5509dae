use Rattle.scoop_audit.proofs.Nodes.{entered_so}
use Rattle.scoop_audit.proofs.node.take_entry.Goals as goal

pub returns-else-has_left_out-clause-told : goal.returns-else-has_left_out-clause-told
returns-else-has_left_out-clause-told c bytes first sent =
    entered_so first c.args.node.now c.enter.new.node sent c.args.post.now c.enter.new.post c.enter.result c.args.line.now bytes c.args.cursor.now.rest.now
    c.enter.ensures.number c.enter.ensures.enters
