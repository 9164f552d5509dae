use Rattle.std.proofs.Common.{ap}
use Rattle.sqlite.specs.Held.{state}
use Rattle.scoop_message.specs.declared.name.HandlerId.{HandlerId}
use Rattle.scoop_record.proofs.MapLemmas.{saved_if, saved_incs_if, saved_others_if}
use Rattle.scoop_record.proofs.store.StoreKeeperGlobal.put_handler.Goals as goal

pub returns-clause-stored : goal.returns-clause-stored
returns-clause-stored g c sound =
    let old = (state g.S.Store c.args.self.now).now in
    let new = (state g.S.Store c.write_state.new.conn).now in
    let idle = rw c.self.view_is at c.self.invariant in
    saved_if c.write_state.result old new c.args.state.now c.handler.result.0 c.as_slice.result.now c.as_slice-2.result.now c.in-Ok.bytes.items
    c.in-Ok.row.items
    (ap (λ (n : HandlerId). n.0) c.handler.ensures.value) c.as_slice.ensures.value c.as_slice-2.ensures.value
    (idle.1 (rw c.self.view_is at (c.write_state.ensures.sound sound))).0 c.in-Ok.ensures
    (rw c.self.view_is at (c.write_state.ensures.written sound))

pub returns-clause-incarnations : goal.returns-clause-incarnations
returns-clause-incarnations g c sound =
    let old = (state g.S.Store c.args.self.now).now in
    let new = (state g.S.Store c.write_state.new.conn).now in
    let idle = rw c.self.view_is at c.self.invariant in
    saved_incs_if c.write_state.result old new c.handler.result.0 c.as_slice.result.now c.as_slice-2.result.now
    (idle.1 (rw c.self.view_is at (c.write_state.ensures.sound sound))).0
    (rw c.self.view_is at (c.write_state.ensures.written sound)) (rw c.self.view_is at (c.write_state.ensures.refused sound))

pub returns-clause-others : goal.returns-clause-others
returns-clause-others g c sound =
    let old = (state g.S.Store c.args.self.now).now in
    let new = (state g.S.Store c.write_state.new.conn).now in
    saved_others_if c.write_state.result old new c.handler.result.0 c.as_slice.result.now c.as_slice-2.result.now
    (rw c.self.view_is at (c.write_state.ensures.written sound))
