use Rattle.scoop_record.proofs.GatheringLemmas.{gathered_keeps, gathers_apart_if}
use Rattle.scoop_record.proofs.gathering.GatheringStoreKeeperGlobal.put_handler.Goals as goal

pub invariant_of-self-2 : goal.invariant_of-self-2
invariant_of-self-2 g c =
    gathers_apart_if c.gather.result c.self.inside.pending.items c.gather.new.pending.items c.args.state.now c.self.invariant c.gather.ensures.ok
    c.gather.ensures.err

pub returns-clause-stored : goal.returns-clause-stored
returns-clause-stored g c =
    rw (← c.self.view_is) (gathered_keeps c.self.inside.pending.items c.gather.new.pending.items c.args.state.now _ c.self.invariant c.in_ok-gather.ensures.ok)
