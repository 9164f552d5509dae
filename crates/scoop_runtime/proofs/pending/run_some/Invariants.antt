-- The book has opened with these handlers.
use Rattle.std.proofs.Common.{◌≡◌}
use Rattle.scoop_runtime.proofs.pending.run_some.Given as goal

abbrev pub invariant-loop-place : goal.invariant-loop-place
invariant-loop-place g l = record {
  opening : l.book.opening ≡ l.fn.book.opening;
  honest : g.K.Keeper.is_honest l.book.keeper → g.K.Keeper.is_honest l.fn.book.keeper;
}
