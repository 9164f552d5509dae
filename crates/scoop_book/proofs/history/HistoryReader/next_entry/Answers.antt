use Rattle.std.proofs.Common.{arith}
use Rattle.scoop_book.proofs.Packed.{front, line_packed, next_line}
use Rattle.scoop_book.proofs.history.HistoryReader.next_entry.Goals as goal

pub invariant_of-self : goal.invariant_of-self
invariant_of-self c =
    let next = front c.self.inside.left c.self.inside.words c.self.invariant (omega arith) in
    rw c.line_from.ensures.left (line_packed c.self.inside.left c.self.inside.words next)

pub returns-clause-some : goal.returns-clause-some
returns-clause-some c =
    rw (← c.self.view_is, c.line_from.ensures.line, c.line_from.ensures.left) (next_line c.self.inside.left c.self.inside.words (omega arith))
