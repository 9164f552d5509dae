use Rattle.std.proofs.Common.{refl}
use Rattle.scoop_keeper.proofs.MemoryLemmas.{own_put, keeps_updated}
use Rattle.scoop_keeper.specs.Memory.{MemoryRecord, memory_record}
use Rattle.scoop_keeper.proofs.memory.MemoryKeeperKeeper.put_handler.Goals as goal

pub invariant_of-self : goal.invariant_of-self
invariant_of-self g c =
    let old : MemoryRecord = memory_record c.self.inside.states.entries c.self.inside.incarnations.entries in
    let new : MemoryRecord = memory_record c.keep.new.states.entries c.self.inside.incarnations.entries in
    own_put c.keep.result old new c.args.state.now.number c.args.state.now c.args.state.now refl refl c.self.invariant
    (λ h. h) c.keep.ensures.ok c.keep.ensures.err

pub returns-clause-stored : goal.returns-clause-stored
returns-clause-stored g c =
    let old : MemoryRecord = memory_record c.self.inside.states.entries c.self.inside.incarnations.entries in
    let new : MemoryRecord = memory_record c.keep.new.states.entries c.self.inside.incarnations.entries in
    rw (← c.self.view_is) (keeps_updated old new c.args.state.now.number c.args.state.now c.args.state.now refl refl c.in_ok-keep.ensures.ok)
