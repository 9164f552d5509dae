use Rattle.std.proofs.Common.{◌<◌, length, arith, ap, ◌∙◌}
use Rattle.std.proofs.lemmas.Bool.Decides.{nat_tests}
use Rattle.scoop_client.proofs.Batches.{is_batch}
use Rattle.scoop_client.proofs.window.Window.due.Goals as goal

pub returns-in-Ok-clause-fits : goal.returns-in-Ok-clause-fits
returns-in-Ok-clause-fits g c = λ numbered.
    let unacked = c.self.inside.unacked.items in
    let some : 0 < length unacked = grind (arith, nat_tests) in
    let batch = is_batch c.args.batch unacked c.requires.some some in
    let first = rw (c.from.ensures, c.deref.ensures.value) at c.first_entries-first.ensures in
    let count = ap length (c.in-Ok.ensures.1 ∙ first) in
    record {
      entry = record { block = numbered; number = omega arith };
      last = omega (arith, batch.all, count, c.self.invariant.1.last);
    }

pub returns-in-Err-clause-value : goal.returns-in-Err-clause-value
returns-in-Err-clause-value g c =
    let unacked = c.self.inside.unacked.items in
    let some : 0 < length unacked = grind (arith, nat_tests) in
    let batch = is_batch c.args.batch unacked c.requires.some some in
    let first = rw (c.from.ensures, c.deref.ensures.value) at c.first_entries-first.ensures in
    let refused = rw first at c.in-Err.ensures in
    absurd (refused (batch.some, omega (arith, batch.limit, c.requires.limit), batch.end))
