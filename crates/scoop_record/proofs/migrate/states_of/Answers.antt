use Rattle.std.proofs.Common.{◌≡◌, ◌∷◌, ◌++◌, ◌+◌, [], take, arith, sym, ap, Err}
use Rattle.std.proofs.lemmas.List.{take_more}
use Rattle.std.proofs.lemmas.Grind.{common_steps}
use Rattle.scoop_record.proofs.MigrateLemmas.{zip_push}
use Rattle.scoop_record.proofs.NumberLemmas.{first_bad, number_at, states_rise}
use Rattle.scoop_record.proofs.migrate.states_of.Goals as goal

pub loop-row-preserved : goal.loop-row-preserved
loop-row-preserved c =
    let row = c.row-item.result in
    let it = c.in_ok-state.state in
    let cut : take (c.loop-row.row-index + 1) c.args.rows.now ≡ take c.loop-row.row-index c.args.rows.now ++ row ∷ [] =
    grind (arith, common_steps, take_more) in
    let items : c.push.new.self.items ≡ c.loop-row.all.items ++ it ∷ [] = grind (arith, common_steps) in
    rw (cut, items) (zip_push _ _ row it c.loop-row.invariant c.in_ok-state.ensures.state)

pub returns-in_err-state-clause-bad : goal.returns-in_err-state-clause-bad
returns-in_err-state-clause-bad c handler is =
    let own = rw is at c.from_residual-in_err-state.ensures in
    first_bad c.args.rows.now c.loop-row.row-index handler.0 c.row-item.result c.loop-row.all.items
    (grind (arith, common_steps, take_more)) c.in_ok-check_numbers.ensures.numbered c.loop-row.invariant
    (c.in_err-state.ensures.bad handler (ap Err (sym own.1)))

pub returns-clause-rises : goal.returns-clause-rises
returns-clause-rises c =
    let whole : take c.loop-row.row-index c.args.rows.now ≡ c.args.rows.now = grind (arith, common_steps) in
    states_rise c.args.rows.now c.loop-row.all.items (rw whole at c.loop-row.invariant) c.in_ok-check_numbers.ensures.numbered.rising

pub returns-in_err-state-clause-wrong : goal.returns-in_err-state-clause-wrong
returns-in_err-state-clause-wrong c is numbers =
    let own = rw is at c.from_residual-in_err-state.ensures in
    c.in_err-state.ensures.wrong (ap Err (sym own.1)) (number_at c.args.rows.now c.loop-row.row-index c.row-item.result
    (grind (arith, common_steps, take_more)) numbers)
