use Rattle.std.proofs.Common.{◌≡◌, [], length, take, drop, map}
use Rattle.toml.specs.View.{view}
use Rattle.scoop_message.specs.declared.limits.TheConstants.{MAX_HANDLERS}
use Rattle.scoop_system.specs.Used.{used_from}
use Rattle.scoop_system.proofs.reading.used.read_used.Given as goal

abbrev pub invariant-loop-place : goal.invariant-loop-place
invariant-loop-place l = record {
  read : used_from l.handlers [] (map view l.values) ≡ used_from l.handlers (take l.place l.used) (map view (drop l.place l.values));
  size : length l.used ≡ MAX_HANDLERS;
}
