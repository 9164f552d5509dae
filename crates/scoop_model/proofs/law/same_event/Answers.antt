use Rattle.std.proofs.Common.{◌≡◌, Bool, subst, sym}
use Rattle.std.specs.Bool.{Decides}
use Rattle.scoop_model.proofs.Same.{event_decides}
use Rattle.scoop_model.proofs.law.same_event.Goals as goal

pub returns : goal.returns
returns c = let P : Bool → Type 0 = λ t. Decides t (c.args.event.now ≡ c.args.other.now) in
    subst P (sym c.eq.ensures) (event_decides c.args.event.now c.args.other.now)
