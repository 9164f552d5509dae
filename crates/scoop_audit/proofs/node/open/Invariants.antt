-- The handlers so far were opened.
use Rattle.scoop_audit.proofs.Nodes.{OpenedTo}
use Rattle.scoop_audit.proofs.node.open.Given as goal

abbrev pub invariant-loop-place : goal.invariant-loop-place
invariant-loop-place l = OpenedTo l.fn.cursor.rest.now l.cursor.rest.now l.node.handlers l.place
