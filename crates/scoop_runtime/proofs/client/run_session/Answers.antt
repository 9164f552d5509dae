use Rattle.scoop_session.proofs.Driven.{drives_turned_then}
use Rattle.scoop_runtime.proofs.client.run_session.Goals as goal

-- after the greeting the lines were obeyed
pub returns-in-Err-obey_lines-clause-drives : goal.returns-in-Err-obey_lines-clause-drives
returns-in-Err-obey_lines-clause-drives g c = drives_turned_then _ _ _ c.greet_all.ensures.turned c.obey_lines.ensures

pub returns-in-Ok-input_ended-clause-drives : goal.returns-in-Ok-input_ended-clause-drives
returns-in-Ok-input_ended-clause-drives g c = drives_turned_then _ _ _ c.greet_all.ensures.turned c.obey_lines.ensures

pub returns-in-Err-input_ended-clause-drives : goal.returns-in-Err-input_ended-clause-drives
returns-in-Err-input_ended-clause-drives g c = drives_turned_then _ _ _ c.greet_all.ensures.turned c.obey_lines.ensures
