use Rattle.std.proofs.Common.{◌≡◌, ◌+◌, ap, subst, ◌∙◌}
use Rattle.scoop_client.specs.Beginning.{greeting}
use Rattle.scoop_replay.specs.Client.{ClientValue, RestartsOn, client_value}
use Rattle.scoop_replay.proofs.Clients.{restarts_on}
use Rattle.scoop_replay.proofs.client.ClientReplay.restart.Goals as goal

pub returns-clause-restarts : goal.returns-clause-restarts
returns-clause-restarts c =
    let client = c.self.inside.client in
    let old : ClientValue = client_value client c.self.inside.trail in
    let new : ClientValue = client_value c.in-Ok.client c.add.new.self in
    subst (λ v. RestartsOn v new c.args.post.now c.add.new.post) c.self.view_is
    (restarts_on old new c.args.post.now c.add.new.post (λ e. c.if-inc.false (c.inc.ensures ∙ e))
    (c.in-Ok.ensures ∙ ap (λ i. greeting i (client.inc + 1) client.handlers 0 client.batch) (c.self.invariant c.if-has_failed.false))
    c.in_ok-add.ensures.adds)
