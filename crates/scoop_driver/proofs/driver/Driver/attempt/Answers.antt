use Rattle.std.proofs.Common.{◌∙◌, map}
use Rattle.scoop_driver.specs.Wishes.{wish_for}
use Rattle.scoop_driver.proofs.Waits.{block_broke_asking, block_broke_body, block_broke_ending, block_broke_reserving, block_done, logged_as, room_for, tested}
use Rattle.scoop_driver.proofs.driver.Driver.attempt.Goals as goal

pub log_all-requires : goal.log_all-requires
log_all-requires g c =
    room_for (wish_for c.args.handlers.now c.args.condition.now (map g.E.AsEntry.entry c.args.body.now)) c.in-Ok-ask_all.held _ _ c.logged.ensures c.requires

pub returns-in-Err-clause-does : goal.returns-in-Err-clause-does
returns-in-Err-clause-does g c =
    block_broke_reserving (wish_for c.args.handlers.now c.args.condition.now (map g.E.AsEntry.entry c.args.body.now)) _ _ c.in-Err.error _ _ c.in-Err.ensures.does

pub returns-in-Err-ask_all-clause-does : goal.returns-in-Err-ask_all-clause-does
returns-in-Err-ask_all-clause-does g c =
    block_broke_asking (wish_for c.args.handlers.now c.args.condition.now (map g.E.AsEntry.entry c.args.body.now)) _ _ c.in-Err-ask_all.error _ _ _ c.in-Ok.ensures.does
    (rw c.in-Ok.ensures.turns at c.in-Err-ask_all.ensures.does)

pub returns-in-Err-log_all-clause-does : goal.returns-in-Err-log_all-clause-does
returns-in-Err-log_all-clause-does g c =
    let w = wish_for c.args.handlers.now c.args.condition.now (map g.E.AsEntry.entry c.args.body.now) in
    let turns = c.in-Ok-ask_all.ensures.turns ∙ c.in-Ok.ensures.turns in
    block_broke_body w c.in-Ok-ask_all.held _ _ c.in-Err-log_all.error _ _ _
    (tested w c.in-Ok-ask_all.held _ _ _ _ c.in-Ok.ensures.does c.in-Ok.ensures.runs (rw c.in-Ok.ensures.turns at c.in-Ok-ask_all.ensures.does))
    (logged_as _ _ _ _ _ _ _ c.logged.ensures (rw turns at c.in-Err-log_all.ensures.does))

pub returns-in-Ok-end-clause-does : goal.returns-in-Ok-end-clause-does
returns-in-Ok-end-clause-does g c =
    let w = wish_for c.args.handlers.now c.args.condition.now (map g.E.AsEntry.entry c.args.body.now) in
    let turns = c.in-Ok-ask_all.ensures.turns ∙ c.in-Ok.ensures.turns in
    let later = c.in-Ok-log_all.ensures.turns ∙ turns in
    block_done w c.in-Ok-ask_all.held _ _ _ _ _ _
    (tested w c.in-Ok-ask_all.held _ _ _ _ c.in-Ok.ensures.does c.in-Ok.ensures.runs (rw c.in-Ok.ensures.turns at c.in-Ok-ask_all.ensures.does))
    (logged_as _ _ _ _ _ _ _ c.logged.ensures (rw turns at c.in-Ok-log_all.ensures.does)) (rw later at c.in-Ok-end.ensures.does) c.in-Ok-end.ensures.ends

pub returns-in-Err-end-clause-does : goal.returns-in-Err-end-clause-does
returns-in-Err-end-clause-does g c =
    let w = wish_for c.args.handlers.now c.args.condition.now (map g.E.AsEntry.entry c.args.body.now) in
    let turns = c.in-Ok-ask_all.ensures.turns ∙ c.in-Ok.ensures.turns in
    let later = c.in-Ok-log_all.ensures.turns ∙ turns in
    block_broke_ending w c.in-Ok-ask_all.held _ _ _ c.in-Err-end.error _ _ _ _
    (tested w c.in-Ok-ask_all.held _ _ _ _ c.in-Ok.ensures.does c.in-Ok.ensures.runs (rw c.in-Ok.ensures.turns at c.in-Ok-ask_all.ensures.does))
    (logged_as _ _ _ _ _ _ _ c.logged.ensures (rw turns at c.in-Ok-log_all.ensures.does)) (rw later at c.in-Err-end.ensures.does)
