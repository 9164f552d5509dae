use Rattle.std.proofs.Common.{subst}
use Rattle.scoop_message.specs.Lists.{NoRepeats}
use Rattle.scoop_weaver.proofs.Numbers.{once}
use Rattle.scoop_weaver.proofs.post.Post.len.Goals as goal

pub returns-clause-once : goal.returns-clause-once
returns-clause-once g c = subst NoRepeats c.self.view_is (once c.self.inside.messages.keys c.len.ensures.unique)
