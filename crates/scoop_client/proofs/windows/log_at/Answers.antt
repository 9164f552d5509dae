use Rattle.std.proofs.Common.{sym}
use Rattle.scoop_client.specs.Window.{with_entry}
use Rattle.scoop_client.proofs.windows.log_at.Goals as goal

pub returns-in-Some : goal.returns-in-Some
returns-in-Some g c = rw c.log.ensures (sym (c.in-Some.ensures.change (with_entry c.args.entry) c.index-windows-place.result))
