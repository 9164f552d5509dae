use Rattle.scoop_record.proofs.GatheringLemmas.{gathers_if}
use Rattle.scoop_record.proofs.gathering.gather.Goals as goal

pub returns-in-Some-clause-ok : goal.returns-in-Some-clause-ok
returns-in-Some-clause-ok c =
    gathers_if c.copy_from.result c.args.pending.now.items c.deref.result.now c.in-Some.at c.handler.result c.copy_from.new.self c.args.state.now c.requires
    c.deref.ensures.value c.handler.ensures.value c.in-Some.ensures c.copy_from.ensures.ok
