-- The shares so far have room, and no share has changed.
use Rattle.std.proofs.Common.{◌≡◌, map, take}
use Rattle.std.specs.List.{All}
use Rattle.scoop_world.specs.Kept.{HasRoom, logged_kept}
use Rattle.scoop_world.proofs.logs.make_room.Given as goal

abbrev pub invariant-loop-share : goal.invariant-loop-share
invariant-loop-share g l = record {
  room : All HasRoom (take l.share-index l.shares);
  same : map logged_kept l.shares ≡ map logged_kept l.fn.shares;
}
