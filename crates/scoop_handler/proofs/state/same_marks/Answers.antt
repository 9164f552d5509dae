use Rattle.std.proofs.Common.{◌≡◌, Bool, refl, subst, sym}
use Rattle.std.specs.Bool.{Decides}
use Rattle.std.proofs.lemmas.Slice.Eq.{slice_eq-Decides}
use Rattle.scoop_handler.proofs.Same.{mark_decides}
use Rattle.scoop_handler.proofs.state.same_marks.Goals as goal

pub returns : goal.returns
returns c =
    let P : Bool → Type 0 = λ t. Decides t (c.args.left.now ≡ c.args.right.now) in
    subst P (sym c.eq.ensures) (slice_eq-Decides mark_decides c.args.left.now c.args.right.now _ refl)
