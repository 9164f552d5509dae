use Rattle.std.proofs.Common.{arith}
use Rattle.scoop_book.proofs.Packed.{Front, front, moved_fits, moved_packed, next_moved, taken_is_moved}
use Rattle.scoop_book.proofs.history.HistoryReader.next_words.Goals as goal

next : (c : goal.After-rest) → Front c.self.inside.left c.self.inside.words
next c = front c.self.inside.left c.self.inside.words c.self.invariant (omega arith)

pub overflow_sub-len : goal.overflow_sub-len
overflow_sub-len c =
    rw (c.rest.ensures, c.skip_moved.ensures, c.rest-words.ensures, c.word-pass.ensures.left)
    (moved_fits c.self.inside.left c.self.inside.words (next c))

pub invariant_of-self : goal.invariant_of-self
invariant_of-self c =
    rw (c.skip_moved.ensures, c.word-pass.ensures.left) (moved_packed c.self.inside.left c.self.inside.words (next c))

pub returns-clause-some : goal.returns-clause-some
returns-clause-some c =
    rw (← c.self.view_is, c.rest.ensures, c.skip_moved.ensures, c.rest-words.ensures, c.word-pass.ensures.left, c.word-pass.ensures.word)
    (next_moved c.self.inside.left c.self.inside.words (next c) (omega arith))

pub returns-clause-moved : goal.returns-clause-moved
returns-clause-moved c =
    rw (c.rest.ensures, c.skip_moved.ensures, c.rest-words.ensures, c.word-pass.ensures.left)
    (taken_is_moved c.self.inside.left c.self.inside.words (next c))
