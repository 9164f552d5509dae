use Rattle.scoop_runtime.proofs.ClientLives.{lives_on}
use Rattle.scoop_runtime.proofs.client.run_life.Goals as goal

pub returns : goal.returns
returns g c =
    let ran = c.run_session-ended.ensures in
    let left = c.leave-left.ensures in
    lives_on _ _ _ _ _ _ _ c.new-session.ensures ran.drives ran.ended left.leaves left.drives left.ended
