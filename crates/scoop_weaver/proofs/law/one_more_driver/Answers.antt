use Rattle.scoop_weaver.proofs.Anew.{client_anew}
use Rattle.scoop_weaver.proofs.law.one_more_driver.Goals as goal

pub returns : goal.returns
returns c = client_anew
