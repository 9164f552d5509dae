use Rattle.std.proofs.Common.{◌≡◌, Bool, subst, sym}
use Rattle.std.specs.Bool.{Decides}
use Rattle.scoop_message.proofs.Same.{block_decides}
use Rattle.scoop_handler.proofs.Same.{option_decides}
use Rattle.scoop_handler.proofs.state.same_holder.Goals as goal

pub returns : goal.returns
returns c =
    let P : Bool → Type 0 = λ t. Decides t (c.args.left ≡ c.args.right) in
    subst P (sym c.eq.ensures) (option_decides _ block_decides c.args.left c.args.right)
