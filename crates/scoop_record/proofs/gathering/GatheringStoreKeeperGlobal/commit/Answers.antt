use Rattle.scoop_record.proofs.gathering.GatheringStoreKeeperGlobal.commit.Goals as goal

pub returns-clause-handlers : goal.returns-clause-handlers
returns-clause-handlers g c sound =
    rw (← c.self.view_is, c.clear.ensures.items) (rw c.deref.ensures.value at (c.in_ok-put_all.ensures.stored sound))
