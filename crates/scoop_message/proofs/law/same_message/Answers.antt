use Rattle.std.proofs.Common.{◌≡◌, Bool, subst, sym}
use Rattle.std.specs.Bool.{Decides}
use Rattle.scoop_message.proofs.Same.{message_decides}
use Rattle.scoop_message.proofs.law.same_message.Goals as goal

pub returns : goal.returns
returns c = let P : Bool → Type 0 = λ t. Decides t (c.args.left.now ≡ c.args.right.now) in
    subst P (sym c.eq.ensures) (message_decides c.args.left.now c.args.right.now)
