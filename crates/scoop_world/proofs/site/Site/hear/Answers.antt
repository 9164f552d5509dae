use Rattle.std.proofs.Common.{◌≡◌, sym, ap, subst}
use Rattle.scoop_model.specs.World.{Site, number_of}
use Rattle.scoop_handler.specs.Core.{Core}
use Rattle.scoop_handler.specs.Hearing.{hear}
use Rattle.scoop_keeper.specs.Keeper.{Holds, stored_of}
use Rattle.scoop_keeper.specs.Memory.{state_at}
use Rattle.scoop_keeper.proofs.KeeperLemmas.{is_same_same, stays_same}
use Rattle.scoop_world.specs.Kept.{Stores}
use Rattle.scoop_world.proofs.site.Site.hear.Goals as goal

pub hear_beside-told-requires-clause-stored : goal.hear_beside-told-requires-clause-stored
hear_beside-told-requires-clause-stored g c = λ known honest.
    subst (λ (s : Site). stored_of (state_at c.args.keeper.now (number_of s).0) ≡ Holds s.stored) (sym c.self.view_is) (ap stored_of c.requires.state)

pub returns-clause-stored : goal.returns-clause-stored
returns-clause-stored g c =
    let core : c.self.inside.handler ≡ c.args.self.now.core = ap (λ (s : Site). s.core) c.self.view_is in
    subst (λ (k : Core). Stores c.args.keeper.now c.hear_beside-told.new.keeper (hear k.state c.args.message.now).0) core
    (record { states = c.in-Ok.ensures.stored tt; incarnations = c.hear_beside-told.ensures.incarnations tt })
