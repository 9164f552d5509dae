use Rattle.std.proofs.Common.{Some, None}
use Rattle.scoop_weaver.proofs.Numbers.{message_read}
use Rattle.scoop_weaver.proofs.post.Post.message.Goals as goal

pub returns-in-Some : goal.returns-in-Some
returns-in-Some g c =
    message_read c.self.inside.messages.keys c.args.self.now c.args.number (Some c.in-Some.key.now) c.self.view_is c.if-number-eq0.false c.in-Some.ensures.key

pub returns-in-None : goal.returns-in-None
returns-in-None g c =
    message_read c.self.inside.messages.keys c.args.self.now c.args.number None c.self.view_is c.if-number-eq0.false c.in-None.ensures.key
