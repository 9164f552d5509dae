use Rattle.std.proofs.Common.{◌≡◌, ◌<◌, ℕ, List, Some, slice_get, subst}
use Rattle.scoop_book.specs.Moves.{LocalHandler}
use Rattle.scoop_book.specs.Passes.{fresh_pass}
use Rattle.scoop_book.proofs.node.Node.share.Goals as goal

pub returns-clause-fresh : goal.returns-clause-fresh
returns-clause-fresh g c =
    subst (λ (hs : List LocalHandler). (n : ℕ) → n < c.args.passes → slice_get c.in-Ok.fresh.items n ≡ Some (fresh_pass hs n))
    c.opening.ensures c.in-Ok.ensures.fresh
