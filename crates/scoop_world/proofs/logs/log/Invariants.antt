-- The shares so far have the entry, and those that are left have not changed.
use Rattle.std.proofs.Common.{◌≡◌, ◌++◌, map, take, drop}
use Rattle.scoop_world.specs.Kept.{logged_kept, with_entry_for}
use Rattle.scoop_world.proofs.logs.log.Given as goal

abbrev pub invariant-loop-share : goal.invariant-loop-share
invariant-loop-share g l = record {
  done : map logged_kept l.shares ≡ map (with_entry_for l.only l.entry) (take l.share-index (map logged_kept l.fn.shares)) ++ drop l.share-index
      (map logged_kept l.fn.shares);
  rest : drop l.share-index l.shares ≡ drop l.share-index l.fn.shares;
}
