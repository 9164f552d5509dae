use Rattle.std.proofs.Common.{◌≡◌, ◌≤◌, ◌<◌, ◌^◌, ◌∷◌, ◌++◌, ◌+◌, [], take, arith, rules, sym, subst, ap, Err}
use Rattle.std.proofs.lemmas.List.{take_more}
use Rattle.std.proofs.lemmas.Grind.{common_steps}
use Rattle.scoop_record.proofs.NumberLemmas.{AreUnder, number_at, under_push}
use Rattle.scoop_record.proofs.migrate.check_numbers.Goals as goal

pub loop-row-preserved : goal.loop-row-preserved
loop-row-preserved c =
    let row = c.row-item.result in
    let number = c.in_ok-handler.handler.0 in
    let cut : take (c.loop-row.row-index + 1) c.args.rows.now ≡ take c.loop-row.row-index c.args.rows.now ++ row ∷ [] =
    grind (arith, common_steps, take_more) in
    let small : number < 2 ^ 32 = search rules in
    let low : c.loop-row.low ≤ number = omega (arith, c.if-from-low.false, c.from-low.ensures) in
    let more = under_push c.loop-row.low (take c.loop-row.row-index c.args.rows.now) row number c.loop-row.invariant c.in_ok-handler.ensures.number small low in
    rw cut (subst (λ n. AreUnder (n + 1) (take c.loop-row.row-index c.args.rows.now ++ row ∷ [])) (sym c.from-low.ensures) more)

pub returns-in_err-handler-clause-wrong : goal.returns-in_err-handler-clause-wrong
returns-in_err-handler-clause-wrong c is numbers =
    let own = rw is at c.from_residual.ensures in
    c.in_err-handler.ensures.wrong (ap Err (sym own.1)) (number_at c.args.rows.now c.loop-row.row-index c.row-item.result
    (grind (arith, common_steps, take_more)) numbers)
