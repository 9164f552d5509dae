use Rattle.std.proofs.Common.{subst, arith}
use Rattle.std.specs.List.{All}
use Rattle.std.proofs.lemmas.List.{take_all}
use Rattle.scoop_world.specs.Kept.{HasRoom, logged_kept}
use Rattle.scoop_world.proofs.SeenLists.{seen_same, all_so_far}
use Rattle.scoop_world.proofs.logs.make_room.Goals as goal

pub returns-in_err-make_room_at-clause-same : goal.returns-in_err-make_room_at-clause-same
returns-in_err-make_room_at-clause-same g c =
    seen_same logged_kept c.args.shares.now c.loop-share.shares c.loop-share.share-index c.share-item.result c.make_room_at.new.share c.make_room_at.ensures.same
    c.loop-share.invariant.same

pub loop-share-preserved : goal.loop-share-preserved
loop-share-preserved g c = record {
  room = all_so_far HasRoom c.loop-share.shares c.loop-share.share-index c.make_room_at.new.share
      (omega arith) c.loop-share.invariant.room c.in_ok-make_room_at.ensures.ok;
  same = seen_same logged_kept c.args.shares.now c.loop-share.shares c.loop-share.share-index c.share-item.result c.make_room_at.new.share c.make_room_at.ensures.same
      c.loop-share.invariant.same;
}

pub returns-clause-ok : goal.returns-clause-ok
returns-clause-ok g c = subst (All HasRoom) (take_all c.loop-share.share-index c.loop-share.shares (omega arith)) c.loop-share.invariant.room
