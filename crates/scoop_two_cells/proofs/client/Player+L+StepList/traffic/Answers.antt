use Rattle.std.proofs.Common.{◌≡◌, IfOk, sym, subst, ◌∙◌}
use Rattle.scoop_two_cells.specs.Orders.{as_begun, client_traffic}
use Rattle.scoop_two_cells.proofs.client.Player+L+StepList.traffic.Goals as goal

pub returns : goal.returns
returns g c =
    let same : c.steps.result.now ≡ c.args.self.now.driver.diary.steps = cc in
    let who = c.args.self.now in
    subst (λ steps. IfOk c.of_client.result (λ p. p ≡ client_traffic who.number who.inc who.waits steps)) same
    (c.of_client.ensures (record { client = as_begun who.number who.inc who.waits; stored = who.inc }) (sym c.in_ok-client.ensures))
