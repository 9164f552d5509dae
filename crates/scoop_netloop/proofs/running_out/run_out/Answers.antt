use Rattle.scoop_netloop.specs.RunningOut.{RunsEntry, FindsNothing, none_ran, then_ran}
use Rattle.std.proofs.Common.{refl}
use Rattle.scoop_netloop.proofs.Dry.{entry_fewer}
use Rattle.scoop_netloop.proofs.Keeping.{breaks_back, others_more, others_same}
use Rattle.scoop_netloop.proofs.running_out.run_out.Goals as goal

pub loop-error-init : goal.loop-error-init
loop-error-init g c =
    (none_ran _, others_same g.K.Keeper.handlers g.K.Keeper.incarnations g.K.Keeper.is_honest c.args.handler c.args.book.now.keeper c.args.book.now.keeper refl)

pub loop-error-smaller : goal.loop-error-smaller
loop-error-smaller g c =
    let runs : RunsEntry c.args.pass c.args.handler c.loop-error.book c.run_next.new.book = rw c.in-Ok-true.field-0-test at c.in-Ok-true.ensures.ok in
    entry_fewer c.args.pass c.args.handler c.loop-error.book c.run_next.new.book runs

pub loop-error-preserved : goal.loop-error-preserved
loop-error-preserved g c =
    let runs : RunsEntry c.args.pass c.args.handler c.loop-error.book c.run_next.new.book = rw c.in-Ok-true.field-0-test at c.in-Ok-true.ensures.ok in (
      then_ran c.args.book.now c.loop-error.book c.run_next.new.book c.loop-error.invariant.0 runs,
      others_more g.K.Keeper.handlers g.K.Keeper.incarnations
          g.K.Keeper.is_honest c.args.handler c.args.book.now.keeper c.loop-error.book.keeper c.run_next.new.book.keeper c.loop-error.invariant.1
          c.in-Ok-true.ensures.others,
    )

pub returns-in-Ok-false-clause-ok : goal.returns-in-Ok-false-clause-ok
returns-in-Ok-false-clause-ok g c =
    let nothing : FindsNothing c.args.pass c.args.handler c.loop-error.book c.run_next.new.book = rw c.in-Ok-false.field-0-test at c.in-Ok-false.ensures.ok in
    record { last = c.loop-error.book; ran = c.loop-error.invariant.0; nothing = nothing }

pub returns-in-Ok-false-clause-others : goal.returns-in-Ok-false-clause-others
returns-in-Ok-false-clause-others g c =
    others_more g.K.Keeper.handlers g.K.Keeper.incarnations g.K.Keeper.is_honest c.args.handler c.args.book.now.keeper c.loop-error.book.keeper
    c.run_next.new.book.keeper c.loop-error.invariant.1 c.in-Ok-false.ensures.others

pub returns-in-Err-clause-err : goal.returns-in-Err-clause-err
returns-in-Err-clause-err g c = record { last = c.loop-error.book; ran = c.loop-error.invariant.0; breaks = c.in-Err.ensures.err }

pub returns-in-Err-clause-refused : goal.returns-in-Err-clause-refused
returns-in-Err-clause-refused g c =
    breaks_back c.args.pass c.args.handler c.args.book.now c.loop-error.book c.run_next.new.book c.in-Err.error c.loop-error.invariant.0
    c.in-Err.ensures.refused

pub returns-in-Err-clause-others : goal.returns-in-Err-clause-others
returns-in-Err-clause-others g c =
    others_more g.K.Keeper.handlers g.K.Keeper.incarnations g.K.Keeper.is_honest c.args.handler c.args.book.now.keeper c.loop-error.book.keeper
    c.run_next.new.book.keeper c.loop-error.invariant.1 c.in-Err.ensures.others
