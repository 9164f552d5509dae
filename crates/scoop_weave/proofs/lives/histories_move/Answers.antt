use Rattle.scoop_weave.proofs.NodeHistories.{replays_run}
use Rattle.scoop_weave.proofs.lives.histories_move.Goals as goal

pub returns : goal.returns
returns c = λ words n hs es ks r. replays_run words n hs es ks r
