-- The handlers so far have their stored states again, and the others are as they were.
use Rattle.std.proofs.Common.{◌≡◌, ◌++◌, map, take, drop, length}
use Rattle.scoop_model.specs.Step.{reopened}
use Rattle.scoop_world.specs.Kept.{stored_on}
use Rattle.scoop_world.proofs.parts.restarting.reopen_all.Given as goal

abbrev pub invariant-loop-i : goal.invariant-loop-i
invariant-loop-i g l = record {
  states : drop l.i l.states.items ≡ drop l.i (map (stored_on l.node) l.fn.sites);
  size : length l.states.items ≡ length l.fn.sites;
  done : l.sites ≡ map (reopened l.node) (take l.i l.fn.sites) ++ drop l.i l.fn.sites;
  rest : drop l.i l.sites ≡ drop l.i l.fn.sites;
}
