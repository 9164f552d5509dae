-- Events at one handler, and the histories of a node's handlers.
use Rattle.std.specs.Prelude.{◌≡◌, ℕ, ◌==◌, if◌then◌else◌, List, [], ◌∷◌, Some}
use Rattle.scoop_message.specs.declared.name.HandlerId.{HandlerId}
use Rattle.scoop_message.specs.Message.{handler_of}
use Rattle.scoop_book.specs.declared.event.Event.{Event}
use Rattle.scoop_book.specs.declared.event.Event.TheVariants.{Hear, Begin, Finish}
use Rattle.scoop_book.specs.declared.event.Reply.{Reply}
use Rattle.scoop_book.specs.declared.event.Reply.TheVariants.{Heard as HeardReply, Began, Finished}
pub use Rattle.scoop_handler.specs.Local.{LocalHandler, local_handler, number_in, is_handler, handler_in, newer_handler, with_handler, after_hearing}
pub use Rattle.scoop_handler.specs.Local.{after_begin, after_finish, Hears, leaves, Begins, Finishes}

-- the event, with this reply, takes a handler from the one to the other
abbrev pub HandlerMoves : Event → Reply → LocalHandler → LocalHandler → Type 0
HandlerMoves (Hear m) (HeardReply told) s t = Hears m told s t
HandlerMoves (Hear m) (Began told) s t = ⊥
HandlerMoves (Hear m) (Finished ran) s t = ⊥
HandlerMoves (Begin h) (HeardReply told) s t = ⊥
HandlerMoves (Begin h) (Began told) s t = Begins told s t
HandlerMoves (Begin h) (Finished ran) s t = ⊥
HandlerMoves (Finish h) (HeardReply told) s t = ⊥
HandlerMoves (Finish h) (Began told) s t = ⊥
HandlerMoves (Finish h) (Finished ran) s t = Finishes ran s t

-- ---- one move among the handlers of a node

-- the handler at which the event happens
abbrev pub handler_at : Event → HandlerId
handler_at (Hear m) = handler_of m
handler_at (Begin h) = h
handler_at (Finish h) = h

-- the event's handler moves, and all others stay
pub record Moves (event : Event) (reply : Reply) (hs ks : List LocalHandler) : Type 0 where
  pub handler : LocalHandler
  pub here : handler_in (handler_at event) hs ≡ Some handler
  pub new : LocalHandler
  pub moves : HandlerMoves event reply handler new
  pub after : ks ≡ with_handler new hs

-- ---- histories

-- an event with the number of the pass that made it, and its reply
abbrev pub Entry : Type 0
Entry = ℕ × Event × Reply

-- the event and its reply
abbrev pub moved : Entry → Event × Reply
moved e = (e.1, e.2)

-- the entries, one after another, take the handlers from the ones to the others
abbrev pub Replays : List LocalHandler → List Entry → List LocalHandler → Type 0
Replays hs [] ks = hs ≡ ks
Replays hs (e ∷ es) ks = (between : List LocalHandler) × Moves e.1 e.2 hs between × Replays between es ks

-- the events of one pass with their replies, in order
abbrev pub made_by : ℕ → List Entry → List (Event × Reply)
made_by n [] = []
made_by n (e ∷ es) = if e.0 == n then (e.1, e.2) ∷ made_by n es else made_by n es
