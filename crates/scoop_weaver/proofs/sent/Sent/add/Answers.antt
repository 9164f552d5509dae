use Rattle.scoop_weaver.proofs.Found.{added_iff}
use Rattle.scoop_weaver.proofs.sent.Sent.add.Goals as goal

pub returns : goal.returns
returns g c m =
    added_iff c.self.inside.messages.keys c.insert.new.self.keys c.args.self.now c.args.message.now m c.self.view_is c.in_ok-insert.ensures.keys
