use Rattle.std.proofs.Common.{ap, ◌∙◌}
use Rattle.scoop_calm.specs.Bound.{site_left}
use Rattle.scoop_calm.specs.Capped.{capped, standing_left}
use Rattle.scoop_calm.specs.Left.{clients_left, total}
use Rattle.scoop_calm.proofs.Sums.{both_are, total_standing}
use Rattle.scoop_calm.proofs.counting.all_in.Goals as goal

pub returns : goal.returns
returns g c =
    let w = c.args.world.now in
    let sites = c.all_left.ensures ∙ ap (λ ss. capped (total (standing_left w) ss)) c.requires ∙ ap capped (total_standing (standing_left w) w.sites) in
    both_are (clients_left w) (total (site_left w.logs w.parties) w.sites) _ _ _ c.clients_left.ensures sites c.saturating_add.ensures
