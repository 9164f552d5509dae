-- The lines so far tell entries.
use Rattle.std.specs.Prelude.{◌≤◌, length}
use Rattle.scoop_audit.specs.Node.{PassesOver}
use Rattle.scoop_audit.proofs.node.pass_over.Given as goal

abbrev pub invariant-loop : goal.invariant-loop
invariant-loop l = PassesOver l.fn.cursor.rest.now l.cursor.rest.now × (length l.cursor.rest.now ≤ length l.fn.cursor.rest.now)
