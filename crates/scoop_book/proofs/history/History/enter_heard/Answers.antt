use Rattle.std.proofs.Common.{arith}
use Rattle.scoop_book.proofs.Packed.{count_fits, lines_more, packed_more}
use Rattle.scoop_book.proofs.history.History.enter_heard.Goals as goal

pub overflow_add-self : goal.overflow_add-self
overflow_add-self g c = omega (arith, count_fits c.self.inside.count c.self.inside.words.items c.self.invariant, c.put_heard_line.ensures.grows)

pub invariant_of-self : goal.invariant_of-self
invariant_of-self g c =
    rw c.put_heard_line.ensures.words (packed_more c.self.inside.count c.self.inside.words.items c.self.invariant _ c.put_heard_line.ensures.sized)

pub returns : goal.returns
returns g c =
    rw (c.put_heard_line.ensures.words, ← c.self.view_is)
    (lines_more c.self.inside.count c.self.inside.words.items c.self.invariant _ c.put_heard_line.ensures.sized)
