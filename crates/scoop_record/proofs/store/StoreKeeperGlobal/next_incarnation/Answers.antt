use Rattle.sqlite.specs.Held.{state}
use Rattle.scoop_record.proofs.MapLemmas.{advanced_stay_if, advanced_others_if}
use Rattle.scoop_record.proofs.store.StoreKeeperGlobal.next_incarnation.Goals as goal

pub returns-clause-handlers : goal.returns-clause-handlers
returns-clause-handlers g c sound =
    let old = (state g.S.Store c.args.self.now).now in
    let new = (state g.S.Store c.advance.new.conn).now in
    let idle = rw c.self.view_is at c.self.invariant in
    advanced_stay_if c.advance.result old new c.args.client.0 _ (idle.1 (rw c.self.view_is at (c.advance.ensures.sound sound))).0
    (rw c.self.view_is at (c.advance.ensures.next sound)) (rw c.self.view_is at (c.advance.ensures.refused sound))

pub returns-clause-others : goal.returns-clause-others
returns-clause-others g c sound =
    let old = (state g.S.Store c.args.self.now).now in
    let new = (state g.S.Store c.advance.new.conn).now in
    advanced_others_if c.advance.result old new c.args.client.0 _ (rw c.self.view_is at (c.advance.ensures.next sound))
