use Rattle.std.proofs.Common.{sym, subst, arith}
use Rattle.scoop_world.specs.Kept.{HasRoom, logged_kept, with_entry_for}
use Rattle.scoop_world.proofs.SeenLists.{seen_changed, left_same, next_same}
use Rattle.scoop_world.proofs.logs.log.Goals as goal

pub log_at-requires : goal.log_at-requires
log_at-requires g c =
    let i = c.loop-share.share-index in
    let x = c.share-item.result in
    subst HasRoom (sym (next_same c.args.shares.now c.loop-share.shares i x c.loop-share.invariant.rest)) (c.requires i x (omega arith))

pub loop-share-preserved : goal.loop-share-preserved
loop-share-preserved g c =
    let i = c.loop-share.share-index in
    record {
      done = seen_changed logged_kept (with_entry_for c.args.only c.args.entry.now) c.args.shares.now c.loop-share.shares i c.share-item.result c.log_at.new.share
          (omega arith) (c.loop-share.auto.shares) c.loop-share.invariant.done c.log_at.ensures;
      rest = left_same c.args.shares.now c.loop-share.shares i c.log_at.new.share c.loop-share.invariant.rest;
    }
