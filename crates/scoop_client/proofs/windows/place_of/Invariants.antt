use Rattle.scoop_client.proofs.Places.{NoneBefore}
use Rattle.scoop_client.proofs.windows.place_of.Given as goal

abbrev pub invariant-loop-i : goal.invariant-loop-i
invariant-loop-i g l = NoneBefore l.handler l.windows l.i
