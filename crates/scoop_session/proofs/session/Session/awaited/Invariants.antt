use Rattle.std.proofs.Common.{◌≡◌, take}
use Rattle.std.specs.List.{filter}
use Rattle.scoop_session.specs.Parting.{is_awaited}
use Rattle.scoop_session.proofs.session.Session.awaited.Given as goal

abbrev pub invariant-loop-handler : goal.invariant-loop-handler
invariant-loop-handler g l = l.awaited.items ≡ filter (is_awaited l.self.driver.seen.client) (take l.handler-index l.handlers)
