use Rattle.scoop_driver.proofs.Turns.{turned_not}
use Rattle.scoop_driver.proofs.sending.take_turn.Goals as goal

pub returns-then-is_err-clause-does : goal.returns-then-is_err-clause-does
returns-then-is_err-clause-does g c = turned_not _ _ _ _ _ c.prepare.ensures.steps
