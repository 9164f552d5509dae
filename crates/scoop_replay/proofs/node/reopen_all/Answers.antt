use Rattle.scoop_handler.specs.Local.{number_in}
use Rattle.scoop_replay.proofs.Lists.{mapped_pushed}
use Rattle.scoop_weave.specs.NodeHistories.{reopened}
use Rattle.scoop_replay.proofs.Lists.{mapped_more}
use Rattle.scoop_replay.proofs.node.reopen_all.Goals as goal

pub loop-local-preserved : goal.loop-local-preserved
loop-local-preserved c =
    let i = c.loop-local.local-index in
    let ls = c.args.locals.now in
    let x = c.local-item.result in (
      λ words.
          mapped_more (reopened words) ls i x c.loop-local.opened.items c.push.new.self.items c.in_ok-next.next c.loop-local-test.true c.local-item.is
          (c.loop-local.invariant.0 words) (c.in_ok-next.ensures.again words) c.in_ok-push.ensures.items,
      mapped_more number_in ls i x _ _ (number_in c.in_ok-next.next) c.loop-local-test.true c.local-item.is c.loop-local.invariant.1
          c.in_ok-next.ensures.number (mapped_pushed number_in c.loop-local.opened.items c.push.new.self.items c.in_ok-next.next c.in_ok-push.ensures.items),
    )
