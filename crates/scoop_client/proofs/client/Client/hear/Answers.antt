use Rattle.std.proofs.Common.{subst}
use Rattle.scoop_client.specs.Hearing.{Notice}
use Rattle.scoop_client.specs.Laws.{AcceptsOnce}
use Rattle.scoop_client.proofs.Ordering.{accepts_once}
use Rattle.scoop_client.proofs.client.Client.hear.Goals as goal

pub returns-clause-once : goal.returns-clause-once
returns-clause-once g c =
    let P : Notice → Type 0 = λ n. AcceptsOnce c.args.self.now n.0 n.1 in
    subst P c.take.ensures (accepts_once c.args.self.now c.args.message.now)
