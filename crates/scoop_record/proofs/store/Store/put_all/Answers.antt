use Rattle.sqlite.specs.Held.{state}
use Rattle.scoop_record.proofs.Gathered.{all_saved_if, all_incs_if, all_others_if}
use Rattle.scoop_record.proofs.store.Store.put_all.Goals as goal

pub returns-clause-stored : goal.returns-clause-stored
returns-clause-stored g c sound =
    let old = (state g.S.Store c.args.self.now).now in
    let new = (state g.S.Store c.write_states.new.conn).now in
    let idle = rw c.self.view_is at c.self.invariant in
    all_saved_if c.write_states.result old new c.args.states.now (idle.1 (rw c.self.view_is at (c.write_states.ensures.sound sound))).0
    (rw c.self.view_is at (c.write_states.ensures.written sound))

pub returns-clause-incarnations : goal.returns-clause-incarnations
returns-clause-incarnations g c sound =
    let old = (state g.S.Store c.args.self.now).now in
    let new = (state g.S.Store c.write_states.new.conn).now in
    let idle = rw c.self.view_is at c.self.invariant in
    all_incs_if c.write_states.result old new c.args.states.now (idle.1 (rw c.self.view_is at (c.write_states.ensures.sound sound))).0
    (rw c.self.view_is at (c.write_states.ensures.written sound)) (rw c.self.view_is at (c.write_states.ensures.refused sound))

pub returns-clause-others : goal.returns-clause-others
returns-clause-others g c sound =
    let old = (state g.S.Store c.args.self.now).now in
    let new = (state g.S.Store c.write_states.new.conn).now in
    all_others_if c.write_states.result old new c.args.states.now (rw c.self.view_is at (c.write_states.ensures.written sound))
