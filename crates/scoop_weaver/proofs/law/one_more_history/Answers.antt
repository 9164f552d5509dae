use Rattle.scoop_weaver.proofs.Anew.{node_anew}
use Rattle.scoop_weaver.proofs.law.one_more_history.Goals as goal

pub returns : goal.returns
returns c = node_anew
