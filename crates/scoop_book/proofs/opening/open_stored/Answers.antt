use Rattle.std.proofs.Common.{inr, refl, sym, true≢false}
use Rattle.scoop_book.proofs.opening.open_stored.Goals as goal

pub returns-in-Err-clause-refused : goal.returns-in-Err-clause-refused
returns-in-Err-clause-refused g c = inr (refl, λ fits. true≢false (sym (c.in-Err.ensures.accepted.1 (c.requires, fits))))
