use Rattle.std.proofs.Common.{map, sym, ap, ◌∙◌}
use Rattle.scoop_book.specs.Kept.{HandlersValue}
use Rattle.scoop_book.specs.Reopening.{class_in}
use Rattle.scoop_book.proofs.ReopeningLemmas.{classes_stay}
use Rattle.scoop_book.proofs.book.Book.into_standing.Goals as goal

pub new-requires : goal.new-requires
new-requires g c =
    classes_stay c.self.inside.opening.items c.self.inside.history.entries c.self.inside.handlers.handlers c.self.invariant.apart c.self.invariant.replays
    ∙ ap (λ (h : HandlersValue g.row.K.Denot). map class_in h.handlers) (sym c.into_parts-locals.ensures)
