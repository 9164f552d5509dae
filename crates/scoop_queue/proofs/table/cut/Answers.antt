use Rattle.std.proofs.Common.{◌≡◌, false, refl, sym, ◌∙◌}
use Rattle.scoop_queue.specs.Kept.{queues_kept}
use Rattle.scoop_queue.specs.Queue.{is_open, left_by_cut}
use Rattle.scoop_queue.proofs.Kept.{has_open-place, kept-remove, kept-set, kept-unchanged, kept-same}
use Rattle.scoop_queue.proofs.Lookup.{at_block-absent}
use Rattle.scoop_queue.proofs.Results.{on-true, on-false}
use Rattle.scoop_queue.proofs.table.cut.Goals as goal

pub returns-in_default-clause-cut : goal.returns-in_default-clause-cut
returns-in_default-clause-cut g c =
    sym (at_block-absent c.args.block left_by_cut (queues_kept c.args.table.now.entries) c.in_default.ensures.place)

pub returns-then-not-is_open-clause-was_open : goal.returns-then-not-is_open-clause-was_open
returns-then-not-is_open-clause-was_open g c =
    let place = has_open-place c.args.block c.index_mut-pending.result.now c.args.table.now.entries c.in-Some.place c.in-Some.ensures.place
    c.index_mut-pending.ensures.value in
    sym (place ∙ sym c.is_open.ensures ∙ c.if-not-is_open.true)

pub returns-then-not-is_open-clause-cut : goal.returns-then-not-is_open-clause-cut
returns-then-not-is_open-clause-cut g c =
    let p = c.index_mut-pending.result.now in
    let es = c.args.table.now.entries in
    let shut : is_open p.state ≡ false = sym c.is_open.ensures ∙ c.if-not-is_open.true in
    kept-same p p es c.in-Some.place c.index_mut-pending.ensures.value (λ d. refl)
    ∙ sym (kept-unchanged c.args.block left_by_cut p es c.in-Some.place c.in-Some.ensures.place c.index_mut-pending.ensures.value (λ d. rw shut refl))

pub returns-then-cut-clause-was_open : goal.returns-then-cut-clause-was_open
returns-then-cut-clause-was_open g c =
    let place = has_open-place c.args.block c.index_mut-pending.result.now c.args.table.now.entries c.in-Some.place c.in-Some.ensures.place
    c.index_mut-pending.ensures.value in
    sym (place ∙ sym c.is_open.ensures ∙ c.if-not-is_open.false)

pub returns-then-cut-clause-cut : goal.returns-then-cut-clause-cut
returns-then-cut-clause-cut g c =
    rw (c.remove_at.ensures)
    (kept-remove c.args.block left_by_cut c.index_mut-pending.result.now c.cut.new.self c.args.table.now.entries c.in-Some.place c.in-Some.ensures.place
    c.index_mut-pending.ensures.value
    (on-true c.cut.result c.if-cut.true c.cut.ensures.gone))

pub returns-else-cut-clause-was_open : goal.returns-else-cut-clause-was_open
returns-else-cut-clause-was_open g c =
    let place = has_open-place c.args.block c.index_mut-pending.result.now c.args.table.now.entries c.in-Some.place c.in-Some.ensures.place
    c.index_mut-pending.ensures.value in
    sym (place ∙ sym c.is_open.ensures ∙ c.if-not-is_open.false)

pub returns-else-cut-clause-cut : goal.returns-else-cut-clause-cut
returns-else-cut-clause-cut g c =
    kept-set c.args.block left_by_cut c.index_mut-pending.result.now c.cut.new.self c.args.table.now.entries c.in-Some.place c.in-Some.ensures.place
    c.index_mut-pending.ensures.value
    (on-false c.cut.result c.if-cut.false c.cut.ensures.left)
