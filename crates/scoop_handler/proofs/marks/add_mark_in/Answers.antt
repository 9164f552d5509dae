use Rattle.scoop_handler.proofs.MarkLists.{insert-add_mark}
use Rattle.scoop_handler.proofs.marks.add_mark_in.Goals as goal

pub returns-clause-ok : goal.returns-clause-ok
returns-clause-ok g c =
    let at = insert-add_mark c.args.mark c.args.marks.now.items in
    rw (c.in_ok-insert.ensures.items, c.place_of_client-place.ensures.place, c.deref.ensures.value) at
