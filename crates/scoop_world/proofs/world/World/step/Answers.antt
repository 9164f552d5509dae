use Rattle.std.proofs.Common.{subst}
use Rattle.scoop_model.specs.World.{World}
use Rattle.scoop_rules.specs.Paper.{FollowsRules}
use Rattle.scoop_world.proofs.Reached.{reached_takes}
use Rattle.scoop_rules.proofs.Follows.Runs.{follows_rules}
use Rattle.scoop_world.proofs.world.World.step.Goals as goal

pub invariant_of-self : goal.invariant_of-self
invariant_of-self g c = reached_takes c.self.inside.parts c.happen.new.parts c.args.event c.happen.result c.self.invariant c.happen.ensures

pub returns-clause-reached : goal.returns-clause-reached
returns-clause-reached g c = reached_takes c.self.inside.parts c.happen.new.parts c.args.event c.happen.result c.self.invariant c.happen.ensures

pub returns-clause-follows : goal.returns-clause-follows
returns-clause-follows g c = subst (λ (w : World). FollowsRules w c.args.event) c.self.view_is (follows_rules c.self.inside.parts c.args.event c.self.invariant)
