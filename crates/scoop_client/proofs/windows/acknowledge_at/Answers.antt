use Rattle.std.proofs.Common.{sym}
use Rattle.scoop_client.specs.Window.{acknowledged}
use Rattle.scoop_client.proofs.windows.acknowledge_at.Goals as goal

pub returns-in-Some : goal.returns-in-Some
returns-in-Some g c = rw c.acknowledge.ensures (sym (c.in-Some.ensures.change (acknowledged c.args.number) c.index-windows-place.result))
