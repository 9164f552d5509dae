use Rattle.std.proofs.Common.{◌∙◌, arith}
use Rattle.scoop_world.proofs.SitesMade.{states_more}
use Rattle.scoop_world.proofs.opening.sites.store_all.Goals as goal

pub loop-site-preserved : goal.loop-site-preserved
loop-site-preserved g c =
    let stores = c.in_ok-store.ensures.ok in
    record {
      states = states_more c.loop-site.keeper c.store.new.keeper c.args.sites.now c.loop-site.site-index c.site-item.result
          (omega arith) c.site-item.is c.requires.apart c.requires.own stores c.loop-site.invariant.states;
      incarnations = c.store.ensures.incarnations ∙ c.loop-site.invariant.incarnations;
    }
