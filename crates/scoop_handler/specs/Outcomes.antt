-- The effect of a message on a handler, without the names that the message has.
use Rattle.std.specs.Prelude.{ℕ}
use Rattle.std.specs.Option.{option_map}
use Rattle.scoop_message.specs.declared.name.Block.{Block}
use Rattle.scoop_message.specs.declared.name.ClientId.{ClientId}
use Rattle.scoop_message.specs.declared.name.HandlerId.{HandlerId}
use Rattle.scoop_message.specs.declared.message.Message.{Message}
use Rattle.scoop_message.specs.declared.message.Message.TheVariants as of_message
use Rattle.scoop_handler.specs.declared.note.Heard.{Heard}
use Rattle.scoop_handler.specs.declared.outcome.Outcome.{Outcome}
use Rattle.scoop_handler.specs.declared.outcome.ReplyKind.{ReplyKind}
use Rattle.scoop_handler.specs.declared.outcome.ReplyKind.TheVariants.{Welcome, Locked, Busy, Opened, Unlocked, Logged, Answer}
use Rattle.scoop_handler.specs.Hearing.{greeting_block}

-- the block that a message is about
abbrev pub asked_block : Message → Block
asked_block (of_message.Hello h c inc) = greeting_block c inc
asked_block (of_message.Welcome h c inc) = greeting_block c inc
asked_block (of_message.Lock h b) = b
asked_block (of_message.Locked h b) = b
asked_block (of_message.Busy h b) = b
asked_block (of_message.Open h b) = b
asked_block (of_message.Opened h b) = b
asked_block (of_message.Unlock h b) = b
asked_block (of_message.Unlocked h b) = b
asked_block (of_message.Log h b n es) = b
asked_block (of_message.Logged h b n) = b
asked_block (of_message.Answer h b n a) = b

-- the reply of a handler about a block
abbrev pub reply_about : HandlerId → Block → ReplyKind → Message
reply_about h b Welcome = of_message.Welcome h b.client b.inc
reply_about h b Locked = of_message.Locked h b
reply_about h b Busy = of_message.Busy h b
reply_about h b Opened = of_message.Opened h b
reply_about h b Unlocked = of_message.Unlocked h b
reply_about h b (Logged n) = of_message.Logged h b n
reply_about h b (Answer n a) = of_message.Answer h b n a

abbrev pub heard_about : HandlerId → Block → Outcome → Heard
heard_about h b o = record { reply = option_map (reply_about h b) o.reply; note = o.note }
