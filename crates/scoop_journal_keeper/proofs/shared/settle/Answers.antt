use Rattle.std.proofs.Common.{inr, subst}
use Rattle.scoop_journal_keeper.specs.Shared.{IsConfirmed}
use Rattle.scoop_journal_keeper.proofs.shared.settle.Goals as goal

pub returns-clause-asked : goal.returns-clause-asked
returns-clause-asked g c =
    inr (subst (λ j. IsConfirmed g.K.SharedKeeper.confirm_gives j.keeper) c.shared.view_is (c.confirm.new.self, c.in-Ok.ensures.gives))
