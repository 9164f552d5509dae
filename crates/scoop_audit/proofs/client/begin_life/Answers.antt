use Rattle.scoop_weaver.proofs.Along.{grows_both, grows_same}
use Rattle.scoop_audit.proofs.client.begin_life.Goals as goal

pub loop-init : goal.loop-init
loop-init c = (grows_same _, λ last bytes rest first sent up. up)

pub loop-preserved : goal.loop-preserved
loop-preserved c = (
  grows_both _ _ _ c.loop.invariant.0 c.in-Ok.ensures.grows,
  λ last bytes rest first sent up. c.in-Ok.ensures.told last bytes rest first sent (c.loop.invariant.1 last bytes rest first sent up),
)

pub returns-then-inc-clause-grows : goal.returns-then-inc-clause-grows
returns-then-inc-clause-grows c = c.loop.invariant.0

pub returns-then-inc-clause-told : goal.returns-then-inc-clause-told
returns-then-inc-clause-told c last bytes rest first sent up = c.loop.invariant.1 last bytes rest first sent up
