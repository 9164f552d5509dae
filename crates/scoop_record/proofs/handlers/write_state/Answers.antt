use Rattle.std.proofs.Common.{◌≡◌, rules}
use Rattle.sqlite.specs.Held.{state}
use Rattle.scoop_record.specs.Store.{IsSound}
use Rattle.scoop_record.proofs.MapLemmas.{ready_again}
use Rattle.scoop_record.proofs.handlers.write_state.Goals as goal

pub returns-in-Err-clause-ready : goal.returns-in-Err-clause-ready
returns-in-Err-clause-ready g c =
    let old = state g.S.Store c.args.conn.now in
    let new = state g.S.Store c.conn-2-1.given.0 in
    let honest : IsSound new → IsSound old = search rules in
    let same : IsSound new → new.now ≡ old.now = search rules in
    let settled : IsSound new → new.now ≡ new.committed = search rules in
    ready_again old new c.requires.ready honest same settled
