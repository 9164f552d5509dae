-- Facts of every reply.
use Rattle.std.specs.Prelude.{⊤, ◌≡◌, ◌<◌, length, Some, IsFalse}
use Rattle.scoop_message.specs.declared.message.Message.{Message}
use Rattle.scoop_message.specs.declared.message.Message.TheVariants.{Log}
use Rattle.scoop_message.specs.Entries.{EndOnlyLast}
use Rattle.scoop_message.specs.Message.{Fits, handler_of, client_of, inc_of, is_for_handler}
pub use Rattle.scoop_message.specs.Message.{named_block}
use Rattle.scoop_handler.specs.declared.note.Heard.{Heard}

-- the reply goes to the message's client, from the handler that the message names, about the same block; it fits if the
-- message does
pub record IsReplyTo (m reply : Message) : Type 0 where
  pub handler : handler_of reply ≡ handler_of m
  pub client : client_of reply ≡ client_of m
  pub incarnation : inc_of reply ≡ inc_of m
  pub block : named_block reply ≡ named_block m
  pub to_client : IsFalse (is_for_handler reply)
  pub fits : Fits m → Fits reply

abbrev pub RepliesTo : Message → Heard → Type 0
RepliesTo m heard = (reply : Message) → heard.reply ≡ Some reply → IsReplyTo m reply

-- a Log has entries, and only the last may be an End, as in every Log that a program holds
abbrev pub HasEntries : Message → Type 0
HasEntries (Log h b n es) = (0 < length es) × EndOnlyLast es
HasEntries m = ⊤
