use Rattle.std.proofs.Common.{arith}
use Rattle.scoop_runtime.proofs.pending.open_node.Goals as goal

pub returns-in-Ok-clause-opened : goal.returns-in-Ok-clause-opened
returns-in-Ok-clause-opened g c =
    let reopened = c.in-Ok.ensures.reopened in
    record {
      opening = reopened.opened.opening;
      again = reopened.again;
      first = reopened.opened.fresh 0 (omega (arith, c.passes-passes.ensures.enough));
    }
