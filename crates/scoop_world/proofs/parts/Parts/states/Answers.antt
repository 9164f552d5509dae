use Rattle.std.proofs.Common.{◌≡◌, List, map, ap, ◌∙◌, subst}
use Rattle.std.specs.Prelude.{IfOk}
use Rattle.scoop_model.specs.World.{World, Site}
use Rattle.scoop_world.specs.Standing.{standing}
use Rattle.scoop_world.proofs.parts.Parts.states.Goals as goal

pub returns : goal.returns
returns g c =
    subst (λ (sites : List Site). IfOk c.states_of.result (λ states. states.items ≡ map standing sites))
    (c.deref.ensures.value ∙ ap (λ (w : World). w.sites) c.self.view_is) c.states_of.ensures
