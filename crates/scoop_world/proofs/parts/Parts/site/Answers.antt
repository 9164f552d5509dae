use Rattle.scoop_keeper.specs.Keyed.{IsFirst}
use Rattle.scoop_keeper.proofs.Keyed.{item_at}
use Rattle.scoop_model.specs.World.{Site, is_site, site_of}
use Rattle.std.proofs.Common.{List, sym, ap, ◌∙◌, subst}
use Rattle.scoop_world.proofs.parts.Parts.site.Goals as goal

pub returns-in-Some : goal.returns-in-Some
returns-in-Some g c =
    let h = c.args.handler in
    let sites = c.self.inside.sites.items in
    let first : IsFirst (is_site h) sites c.in-Some.at =
    subst (λ (xs : List Site). IsFirst (is_site h) xs c.in-Some.at) c.deref.ensures.value c.in-Some.ensures in
    sym (item_at sites c.in-Some.at c.index.result.now first.within c.index.ensures) ∙ sym first.found ∙ ap (site_of h) c.self.view_is
