-- The gains of the handlers so far.
use Rattle.std.proofs.Common.{ℕ}
use Rattle.scoop_runtime.specs.NodeLives.{GainedAt}
use Rattle.scoop_runtime.proofs.openings.store_openings.Given as goal

abbrev pub invariant-loop-member : goal.invariant-loop-member
invariant-loop-member g l = record {
  gained : g.K.Keeper.is_honest l.keeper → (h : ℕ) → GainedAt (g.K.Keeper.handlers l.fn.keeper) (g.K.Keeper.handlers l.keeper) l.plan.members.items h;
  honest : g.K.Keeper.is_honest l.keeper → g.K.Keeper.is_honest l.fn.keeper;
}
