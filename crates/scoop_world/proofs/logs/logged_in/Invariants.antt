-- The share is among those that are left.
use Rattle.std.proofs.Common.{◌≡◌, map, drop}
use Rattle.scoop_world.specs.Kept.{entries_in, logged_kept}
use Rattle.scoop_world.proofs.logs.logged_in.Given as goal

abbrev pub invariant-loop-share : goal.invariant-loop-share
invariant-loop-share g l = entries_in l.handler (map logged_kept (drop l.share-index l.shares)) ≡ entries_in l.handler (map logged_kept l.shares)
