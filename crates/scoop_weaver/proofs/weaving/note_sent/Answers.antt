use Rattle.std.proofs.Common.{◌≡◌, Some}
use Rattle.std.specs.Prelude.{Contains}
use Rattle.scoop_weaver.proofs.Taking.{noted}
use Rattle.scoop_weaver.proofs.weaving.note_sent.Goals as goal

pub returns-in-Ok-clause-sent : goal.returns-in-Ok-clause-sent
returns-in-Ok-clause-sent g c =
    let is : c.args.next.now.sent ≡ Some c.in-Some.message = cc in
    noted (Contains c.add.new.self) (Contains c.args.sent.now) c.args.next.now.sent c.in-Some.message is c.in-Ok.ensures
