-- A node's histories as moves: the entries of its book, one history after another, with a reopening between.
use Rattle.std.specs.Prelude.{◌≡◌, ◌⊎◌, ℕ, List, [], ◌∷◌, ◌++◌, map, Some, None}
use Rattle.std.specs.List.{AllZip}
use Rattle.scoop_message.specs.declared.name.HandlerId.{HandlerId}
use Rattle.scoop_message.specs.Message.{handler_of}
use Rattle.scoop_model.specs.Step.{Placement}
use Rattle.scoop_book.specs.declared.event.Event.{Event}
use Rattle.scoop_book.specs.declared.event.Event.TheVariants.{Hear, Begin, Finish}
use Rattle.scoop_book.specs.declared.event.Reply.{Reply}
use Rattle.scoop_book.specs.declared.event.Reply.TheVariants as reply
use Rattle.scoop_book.specs.Moves.{Entry, Replays}
use Rattle.scoop_handler.specs.State.{new_state}
use Rattle.scoop_handler.specs.Local.{LocalHandler, local_handler, number_in, opening_state, opening_handler}
use Rattle.scoop_weave.specs.System.{PlacedHandler}
use Rattle.scoop_weave.specs.Moves.{LocalMove, Heard, Began, Finished, NodeReopened}

-- ---- an entry

-- the event with its reply, which is of the event's kind in every history that replays
abbrev pub move_of : Event → Reply → LocalMove
move_of (Hear m) (reply.Heard told) = Heard (handler_of m) m told
move_of (Hear m) (reply.Began told) = Began (handler_of m) told
move_of (Hear m) (reply.Finished ran) = Finished (handler_of m) ran
move_of (Begin h) (reply.Heard told) = Began h None
move_of (Begin h) (reply.Began told) = Began h told
move_of (Begin h) (reply.Finished ran) = Finished h ran
move_of (Finish h) (reply.Heard told) = Began h None
move_of (Finish h) (reply.Began told) = Began h told
move_of (Finish h) (reply.Finished ran) = Finished h ran

abbrev pub move_in : Entry → LocalMove
move_in e = move_of e.1 e.2

-- ---- all histories of a node

abbrev pub moves_of : ℕ → List Entry → List (List Entry) → List LocalMove
moves_of n first [] = map move_in first
moves_of n first (es ∷ more) = map move_in first ++ NodeReopened n ∷ moves_of n es more

-- the handler opens for the first time: of it nothing is stored, or the state of a new one
pub record OpensFirst (p : Placement) (s : LocalHandler) : Type 0 where
  pub stored : (s.stored ≡ None) ⊎ (s.stored ≡ Some (new_state p.handler p.words))
  pub opens : s ≡ opening_handler p.handler p.class p.words s.stored

-- so does each, place by place
abbrev pub AllOpenFirst : List Placement → List LocalHandler → Type 0
AllOpenFirst ps hs = AllZip OpensFirst ps hs

-- the handler as it opens again, with the same class, the same words and what was stored of it last
abbrev pub reopened : (HandlerId → List ℕ) → LocalHandler → LocalHandler
reopened words s = opening_handler (number_in s) s.core.class (words (number_in s)) s.stored

-- each history replays, the first from these handlers, each further one from those of the last as they open again
abbrev pub Lives : (HandlerId → List ℕ) → List LocalHandler → List Entry → List (List Entry) → List LocalHandler → Type 0
Lives words opening first [] now = Replays opening first now
Lives words opening first (es ∷ more) now =
    (last : List LocalHandler) × Replays opening first last × Lives words (map (reopened words) last) es more now

-- ---- a node's handler in a system

-- on this node and with the words with which it was placed; nothing that is stored counts as the state of a new one
abbrev pub local_of : (HandlerId → List ℕ) → ℕ → LocalHandler → PlacedHandler
local_of words n s =
    let h : HandlerId = number_in s in
    record { node = n; placed = words h; local = local_handler s.core (Some (opening_state h (words h) s.stored)) }
