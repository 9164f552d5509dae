-- Laws of the lock that its users rely on.
use Rattle.std.specs.Prelude.{◌≡◌, ◌<◌, ⊤, Option, Some, None}
use Rattle.scoop_message.specs.declared.name.Block.{Block}
use Rattle.scoop_message.specs.declared.name.HandlerId.{HandlerId}
use Rattle.scoop_message.specs.declared.message.Message.{Message}
use Rattle.scoop_message.specs.declared.message.Message.TheVariants.{Hello, Lock, Locked, Unlock}
use Rattle.scoop_handler.specs.declared.note.Heard.{Heard}
use Rattle.scoop_handler.specs.declared.note.Note.TheVariants.{Dropped}
use Rattle.scoop_handler.specs.declared.note.Reason.{Reason}
use Rattle.scoop_handler.specs.State.{HandlerState}

-- a lock is confirmed only to the block that holds it afterwards
abbrev pub ConfirmsOnlyHolder : HandlerState → Heard → Type 0
ConfirmsOnlyHolder new heard = (h : HandlerId) (b : Block) → heard.reply ≡ Some (Locked h b) → new.holder ≡ Some b

-- the message asks for the lock of this block
abbrev pub AsksFor : Block → Message → Type 0
AsksFor b (Lock h x) = x ≡ b
AsksFor b m = ⊥

-- the message is the block's own Unlock, or a greeting by a newer incarnation of its client
abbrev pub EndsHold : Block → Message → Type 0
EndsHold b (Hello h c inc) = (c ≡ b.client) × (b.inc < inc)
EndsHold b (Unlock h x) = x ≡ b
EndsHold b m = ⊥

-- the holder's changes: from none to a block that asks, and to none by a message that ends its hold
abbrev pub HolderMoves : Option Block → Message → Option Block → Type 0
HolderMoves None m None = ⊤
HolderMoves None m (Some b) = AsksFor b m
HolderMoves (Some b) m None = EndsHold b m
HolderMoves (Some b) m (Some x) = x ≡ b

-- a message that is dropped changes nothing and has no reply
abbrev pub DroppedChangesNothing : HandlerState → HandlerState → Heard → Type 0
DroppedChangesNothing old new heard = (why : Reason) → heard.note ≡ Dropped why → (new ≡ old) × (heard.reply ≡ None)
