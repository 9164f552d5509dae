-- The session has gone on so far.
use Rattle.scoop_session.specs.Obeying.{Drives}
use Rattle.scoop_runtime.proofs.client.obey_lines.Given as goal

abbrev pub invariant-loop : goal.invariant-loop
invariant-loop g l = Drives l.initial.session.driver.seen l.session.driver.seen
