use Rattle.std.proofs.Common.{◌≡◌, None, find, subst}
use Rattle.sqlite.specs.Held.{state}
use Rattle.scoop_keeper.specs.Keyed.{IsFirst}
use Rattle.scoop_keeper.specs.Keeper.{Damaged}
use Rattle.scoop_record.specs.Store.{handlers_in}
use Rattle.scoop_record.specs.Gathering.{is_of}
use Rattle.scoop_record.proofs.GatheringLemmas.{below_if, below_one, waits_one}
use Rattle.scoop_record.proofs.gathering.GatheringStoreKeeperGlobal.load_handler.Goals as goal

pub returns-in_ok-copy-in-Some-clause-loaded : goal.returns-in_ok-copy-in-Some-clause-loaded
returns-in_ok-copy-in-Some-clause-loaded g c sound =
    let first = subst (λ ys. IsFirst (is_of c.args.handler) ys c.in-Some.at) c.deref.ensures.value c.in-Some.ensures in
    rw (← c.self.view_is, c.in_ok-copy-in-Some.ensures)
    (waits_one c.self.inside.pending.items c.in-Some.at c.args.handler c.index.result.now
    (handlers_in (state g.S.Store c.self.inside.store).now) c.self.invariant first c.index.ensures).1

pub returns-in_ok-copy-in-Some-clause-own : goal.returns-in_ok-copy-in-Some-clause-own
returns-in_ok-copy-in-Some-clause-own g c =
    let first = subst (λ ys. IsFirst (is_of c.args.handler) ys c.in-Some.at) c.deref.ensures.value c.in-Some.ensures in
    rw c.in_ok-copy-in-Some.ensures
    (waits_one c.self.inside.pending.items c.in-Some.at c.args.handler c.index.result.now
    (handlers_in (state g.S.Store c.self.inside.store).now) c.self.invariant first c.index.ensures).0

pub returns-in-None-clause-loaded : goal.returns-in-None-clause-loaded
returns-in-None-clause-loaded g c sound =
    let none = subst (λ ys. find (is_of c.args.handler) ys ≡ None) c.deref.ensures.value c.in-None.ensures in
    rw (← c.self.view_is)
    (below_if c.load_handler.result c.self.inside.pending.items c.args.handler
    (handlers_in (state g.S.Store c.self.inside.store).now) c.self.invariant none (c.load_handler.ensures.loaded sound.0))

pub returns-in-None-clause-bad : goal.returns-in-None-clause-bad
returns-in-None-clause-bad g c sound is =
    let none = subst (λ ys. find (is_of c.args.handler) ys ≡ None) c.deref.ensures.value c.in-None.ensures in
    rw (← c.self.view_is) (below_one c.self.inside.pending.items c.args.handler
    (handlers_in (state g.S.Store c.self.inside.store).now) Damaged c.self.invariant none (c.load_handler.ensures.bad sound.0 is))
