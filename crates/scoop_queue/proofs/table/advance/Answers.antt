use Rattle.scoop_queue.proofs.Kept.{first-sound, kept-goes, kept-stays}
use Rattle.scoop_queue.proofs.Results.{on-true, on-false}
use Rattle.scoop_queue.proofs.table.advance.Goals as goal
use Rattle.scoop_queue.proofs.table.advance.Goals.{then-take_first, else-take_first}

pub take_first-requires : goal.take_first-requires
take_first-requires g c = first-sound c.index_mut-first.result.now c.args.table.now.entries c.index_mut-first.ensures.value c.requires

pub returns-clause-left : goal.returns-clause-left
returns-clause-left g c =
    let p = c.index_mut-first.result.now in
    let w = c.take_first.new.self in
    let es = c.args.table.now.entries in
    elim c.if-take_first.branch [
      | then-take_first w' ↦ rw (w'.table-is, w'.remove_at.ensures)
          (kept-goes p w es c.index_mut-first.ensures.value (on-true c.take_first.result w'.if-take_first.true c.take_first.ensures.gone))
      | else-take_first w' ↦ rw (w'.table-is) (kept-stays p w es c.index_mut-first.ensures.value
          (on-false c.take_first.result w'.if-take_first.false c.take_first.ensures.left))
    ]
