use Rattle.scoop_weaver.proofs.Found.{found_iff}
use Rattle.scoop_weaver.proofs.sent.Sent.has.Goals as goal

pub returns : goal.returns
returns g c = found_iff c.self.inside.messages.keys c.args.self.now c.args.message.now c.contains.result c.self.view_is c.contains.ensures
