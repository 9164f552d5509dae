-- The traffic of the steps so far is noted, and the client is where they led it.
use Rattle.std.proofs.Common.{◌≡◌, take}
use Rattle.scoop_driver.specs.Steps.{walk}
use Rattle.scoop_weave.specs.ClientSteps.{moves_by}
use Rattle.scoop_weaver.proofs.Anew.{passed}
use Rattle.scoop_weaver.proofs.traffic.Party.of_client.Given as goal

abbrev pub invariant-loop-step : goal.invariant-loop-step
invariant-loop-step g l = (l.moves.items ≡ passed (moves_by l.fn.client (take l.step-index l.steps)))
    × (l.current ≡ walk l.fn.client (take l.step-index l.steps))
