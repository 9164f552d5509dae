-- `==` on events and replies decides whether two are the same.
use Rattle.std.proofs.Common.{◌≡◌, ◌&&◌, ◌==◌, ℕ, ap}
use Rattle.std.proofs.lemmas.Bool.Decides.{Decides-like, Decides-eqb}
use Rattle.std.specs.Bool.{Decides}
use Rattle.scoop_message.specs.declared.name.Block.{Block}
use Rattle.scoop_message.specs.contracts.name.BlockPartialEq.TheImpl as on_block
use Rattle.scoop_message.proofs.Same.{pair_decides, handler_decides, block_decides, message_decides}
use Rattle.scoop_handler.proofs.Same.{option_decides, heard_decides, ran_decides}
use Rattle.scoop_book.specs.declared.event.Event.{Event}
use Rattle.scoop_book.specs.declared.event.Event.TheVariants.{Hear, Begin, Finish}
use Rattle.scoop_book.specs.declared.event.Reply.{Reply}
use Rattle.scoop_book.specs.declared.event.Reply.TheVariants.{Heard, Began, Finished}
use Rattle.scoop_book.specs.contracts.event.EventPartialEq.TheImpl as on_event
use Rattle.scoop_book.specs.contracts.event.ReplyPartialEq.TheImpl as on_reply

pub event_decides : (a b : Event) → Decides (on_event.eq-value.it a b) (a ≡ b)
event_decides (Hear m) (Hear n) = Decides-like _ (ap Hear) (λ e. cc) (message_decides m n)
event_decides (Hear m) e = ((λ e. cc), (λ e. cc))
event_decides (Begin h) (Begin k) = Decides-like _ (ap Begin) (λ e. cc) (handler_decides h k)
event_decides (Begin h) e = ((λ e. cc), (λ e. cc))
event_decides (Finish h) (Finish k) = Decides-like _ (ap Finish) (λ e. cc) (handler_decides h k)
event_decides (Finish h) e = ((λ e. cc), (λ e. cc))

abbrev Leaving : Type 0
Leaving = Block × ℕ

leaving_decides : (a b : Leaving) → Decides (on_block.eq-value.it a.0 b.0 && a.1 == b.1) (a ≡ b)
leaving_decides a b = pair_decides a.0 b.0 a.1 b.1 (block_decides a.0 b.0) (Decides-eqb a.1 b.1)

pub reply_decides : (a b : Reply) → Decides (on_reply.eq-value.it a b) (a ≡ b)
reply_decides (Heard r) (Heard s) = Decides-like _ (ap Heard) (λ e. cc) (heard_decides r s)
reply_decides (Heard r) e = ((λ e. cc), (λ e. cc))
reply_decides (Began o) (Began p) = Decides-like _ (ap Began) (λ e. cc) (option_decides _ leaving_decides o p)
reply_decides (Began o) e = ((λ e. cc), (λ e. cc))
reply_decides (Finished r) (Finished s) = Decides-like _ (ap Finished) (λ e. cc) (ran_decides r s)
reply_decides (Finished r) e = ((λ e. cc), (λ e. cc))
