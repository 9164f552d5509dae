use Rattle.std.proofs.Common.{◌≡◌, take}
use Rattle.sqlite.specs.Held.{state}
use Rattle.scoop_record.proofs.StoringLemmas.{HasStored}
use Rattle.scoop_record.proofs.handlers.put_states.Given as goal

abbrev pub invariant-loop-it : goal.invariant-loop-it
invariant-loop-it g l =
    (l.tx.conn.ghost_name ≡ l.fn.tx.conn.ghost_name) × HasStored (state g.S.Store l.fn.tx.conn.now) (state g.S.Store l.tx.conn.now) (take l.it-index l.all)
