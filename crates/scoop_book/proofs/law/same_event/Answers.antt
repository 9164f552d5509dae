use Rattle.std.proofs.Common.{◌≡◌, Bool, subst, sym}
use Rattle.std.specs.Bool.{Decides}
use Rattle.scoop_book.proofs.Same.{event_decides}
use Rattle.scoop_book.proofs.law.same_event.Goals as goal

pub returns : goal.returns
returns c = let P : Bool → Type 0 = λ t. Decides t (c.args.left.now ≡ c.args.right.now) in
    subst P (sym c.eq.ensures) (event_decides c.args.left.now c.args.right.now)
