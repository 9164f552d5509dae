use Rattle.std.proofs.Common.{◌++◌, ◌∷◌, sym, subst, rules}
use Rattle.scoop_queue.specs.Sound.{AreApart}
use Rattle.scoop_queue.specs.Kept.{block_of, queue_at, queues_kept}
use Rattle.scoop_queue.proofs.Keeping.{apart-before}
use Rattle.scoop_queue.proofs.Kept.{copied-next, next-copied}
use Rattle.scoop_queue.proofs.table.copied.Goals as goal

pub add-requires : goal.add-requires
add-requires g c =
    let done = queues_kept c.loop-key.copy.entries in
    let k = c.in-Some.key.now in
    let p = c.in-Some.pending.now in
    let rest = c.next.new.self in
    let all = next-copied done (queues_kept c.args.table.now.entries) c.loop-key.key-iterator rest k p c.in-Some.ensures.steps c.loop-key.invariant.2 in
    let apart : AreApart (done ++ queue_at (block_of k) p ∷ queues_kept rest) = subst AreApart (sym all) c.requires in
    rw (c.block.ensures) (apart-before (queue_at (block_of k) p) done (queues_kept rest) apart)

pub loop-key-preserved : goal.loop-key-preserved
loop-key-preserved g c =
    let k = c.in-Some.key.now in
    let p = c.in-Some.pending.now in
    let next = copied-next (queues_kept c.loop-key.copy.entries) (queues_kept c.add.new.table.entries)
    (queues_kept c.args.table.now.entries) c.loop-key.key-iterator c.next.new.self
    c.block.result k p c.in_ok-entries.entries c.in-Some.ensures.steps c.block.ensures c.in_ok-entries.ensures c.in_ok-add.ensures.ok c.loop-key.invariant.2 in
    (search rules, search rules, next)
