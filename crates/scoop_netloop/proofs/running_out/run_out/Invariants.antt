-- The entries so far have run, and each was pending. For the other handlers the keeper has the same states.
use Rattle.scoop_netloop.specs.RunningOut.{KeepsOthers, RunsEntries}
use Rattle.scoop_netloop.proofs.Dry.{pending_at}
use Rattle.scoop_netloop.proofs.running_out.run_out.Given as goal

abbrev pub invariant-loop-error : goal.invariant-loop-error
invariant-loop-error g l =
    RunsEntries l.pass l.handler l.initial.book l.book
    × KeepsOthers g.K.Keeper.handlers g.K.Keeper.incarnations g.K.Keeper.is_honest l.handler l.initial.book.keeper l.book.keeper

abbrev pub decreases-loop-error : goal.decreases-loop-error
decreases-loop-error g l = pending_at l.handler l.book.handlers
