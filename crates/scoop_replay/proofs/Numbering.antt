-- A handler's event among the handlers of its node.
use Rattle.std.proofs.Common.{◌≡◌, ℕ, zero, suc, List, [], ◌∷◌, map, set, get_or, slice_get, Option, Some, None, Result, Ok, Err, refl, sym, ap, ◌∙◌}
use Rattle.std.specs.Prelude.{IfOk, IfSome, OnErr}
use Rattle.scoop_message.specs.declared.memory.OutOfMemory.{OutOfMemory}
use Rattle.scoop_message.specs.declared.message.Message.{Message}
use Rattle.scoop_message.specs.declared.name.HandlerId.{HandlerId}
use Rattle.scoop_message.specs.Message.{handler_of}
use Rattle.scoop_handler.specs.declared.note.Heard.{Heard}
use Rattle.scoop_handler.specs.declared.ran.Ran.{Ran}
use Rattle.scoop_handler.specs.Local.{Hears, Finishes}
use Rattle.scoop_book.specs.declared.event.Event.TheVariants as event
use Rattle.scoop_book.specs.declared.event.Reply.TheVariants as reply
use Rattle.scoop_message.specs.Lists.{NoRepeats}
use Rattle.scoop_keeper.specs.Keyed.{IsFirst}
use Rattle.scoop_keeper.proofs.Keyed.{item_at}
use Rattle.scoop_book.specs.declared.event.Event.{Event}
use Rattle.scoop_book.specs.declared.event.Reply.{Reply}
use Rattle.scoop_book.specs.Moves.{LocalHandler, HandlerMoves, Moves, number_in, is_handler, handler_at}
use Rattle.scoop_book.proofs.BookLemmas.{moved_number, moves_at}

numbers_set : (hs : List LocalHandler) (i : ℕ) (old new : LocalHandler) → slice_get hs i ≡ Some old → number_in new ≡ number_in old
    → map number_in (set hs i new) ≡ map number_in hs
numbers_set [] i old new at same = absurd (cc)
numbers_set (h ∷ hs) zero old new at same = let is : h ≡ old = cc in ap (λ n. n ∷ map number_in hs) (same ∙ ap number_in (sym is))
numbers_set (h ∷ hs) (suc i) old new at same = ap (λ ns. number_in h ∷ ns) (numbers_set hs i old new at same)

-- the numbers stay as a handler moves
pub numbers_moved :
    (hs : List LocalHandler) (i : ℕ) (old new : LocalHandler) (event : Event) (reply : Reply) → IsFirst (is_handler (handler_at event)) hs i
    → old ≡ get_or hs i old → HandlerMoves event reply old new → map number_in (set hs i new) ≡ map number_in hs
numbers_moved hs i old new event reply first is moves =
    numbers_set hs i old new (item_at hs i old first.within is) (moved_number event reply old new moves)

-- and as it stays as it was
pub numbers_same :
    (hs : List LocalHandler) (i : ℕ) (old new : LocalHandler) (event : Event) → IsFirst (is_handler (handler_at event)) hs i
    → old ≡ get_or hs i old → new ≡ old → map number_in (set hs i new) ≡ map number_in hs
numbers_same hs i old new event first is same = numbers_set hs i old new (item_at hs i old first.within is) (ap number_in same)

-- ---- by the outcomes of a call

pub heard_at :
    (hs : List LocalHandler) (i : ℕ) (old new : LocalHandler) (m : Message) (res : Result Heard OutOfMemory) → NoRepeats (map number_in hs)
    → IsFirst (is_handler (handler_of m)) hs i → old ≡ get_or hs i old → IfOk res (λ told. Hears m told old new)
    → IfOk res (λ told. Moves (event.Hear m) (reply.Heard told) hs (set hs i new))
heard_at hs i old new m (Ok told) apart first is hears = moves_at hs i old new (event.Hear m) (reply.Heard told) apart first is hears
heard_at hs i old new m (Err e) apart first is hears = tt

pub heard_numbers :
    (hs : List LocalHandler) (i : ℕ) (old new : LocalHandler) (m : Message) (res : Result Heard OutOfMemory) → IsFirst (is_handler (handler_of m)) hs i
    → old ≡ get_or hs i old → IfOk res (λ told. Hears m told old new) → OnErr res (new ≡ old) → map number_in (set hs i new) ≡ map number_in hs
heard_numbers hs i old new m (Ok told) first is hears same = numbers_moved hs i old new (event.Hear m) (reply.Heard told) first is hears
heard_numbers hs i old new m (Err e) first is hears same = numbers_same hs i old new (event.Hear m) first is same

pub ran_at :
    (hs : List LocalHandler) (i : ℕ) (old new : LocalHandler) (h : HandlerId) (res : Option Ran) → NoRepeats (map number_in hs)
    → IsFirst (is_handler h) hs i → old ≡ get_or hs i old → IfSome res (λ ran. Finishes ran old new)
    → IfSome res (λ ran. Moves (event.Finish h) (reply.Finished ran) hs (set hs i new))
ran_at hs i old new h (Some ran) apart first is finishes = moves_at hs i old new (event.Finish h) (reply.Finished ran) apart first is finishes
ran_at hs i old new h None apart first is finishes = tt

pub ran_numbers :
    (hs : List LocalHandler) (i : ℕ) (old new : LocalHandler) (h : HandlerId) (res : Option Ran) → IsFirst (is_handler h) hs i → old ≡ get_or hs i old
    → IfSome res (λ ran. Finishes ran old new) → (res ≡ None → new ≡ old) → map number_in (set hs i new) ≡ map number_in hs
ran_numbers hs i old new h (Some ran) first is finishes same = numbers_moved hs i old new (event.Finish h) (reply.Finished ran) first is finishes
ran_numbers hs i old new h None first is finishes same = numbers_same hs i old new (event.Finish h) first is (same refl)
