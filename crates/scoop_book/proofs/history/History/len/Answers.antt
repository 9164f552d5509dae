use Rattle.std.proofs.Common.{ap, sym, ◌∙◌, length}
use Rattle.scoop_book.specs.Lines.{HistoryValue}
use Rattle.scoop_book.proofs.Packed.{lines_count}
use Rattle.scoop_book.proofs.history.History.len.Goals as goal

pub returns : goal.returns
returns g c =
    sym (lines_count c.self.inside.count c.self.inside.words.items c.self.invariant) ∙ ap (λ (h : HistoryValue). length h.entries) c.self.view_is
