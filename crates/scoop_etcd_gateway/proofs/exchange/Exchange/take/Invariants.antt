use Rattle.scoop_etcd_gateway.specs.Reading.{Comes, Runs}
use Rattle.scoop_etcd_gateway.proofs.exchange.Exchange.take.Given as goal

abbrev pub invariant-loop : goal.invariant-loop
invariant-loop l = Comes l.fn.self l.piece l.initial.self × Runs l.initial.self l.self
