use Rattle.std.proofs.Common.{◌≡◌, sym, subst, ◌∙◌}
use Rattle.scoop_client.specs.State.{ClientState}
use Rattle.scoop_driver.specs.Steps.{Can}
use Rattle.scoop_replay.specs.Client.{ClientValue, StepsOn, client_value}
use Rattle.scoop_replay.proofs.Clients.{steps_on}
use Rattle.scoop_replay.proofs.client.ClientReplay.step.Goals as goal

pub returns-clause-steps : goal.returns-clause-steps
returns-clause-steps c =
    let old : ClientValue = client_value c.self.inside.client c.self.inside.trail in
    let new : ClientValue = client_value c.make_step.new.client c.add_all.new.trail in
    subst (λ v. StepsOn c.args.made.now v new c.args.post.now c.add_all.new.post) c.self.view_is
    (steps_on c.args.made.now old new c.args.post.now c.add_all.new.post c.deref.result.now
    (subst (λ (v : ClientValue). Can v.client c.args.made.now) (sym c.self.view_is) c.requires) c.in_ok-make_step.ensures
    (c.deref.ensures.value ∙ c.in_ok-moves.ensures) c.in_ok-add_all.ensures.adds)
