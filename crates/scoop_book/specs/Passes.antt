-- Passes.
use Rattle.std.specs.Prelude.{ℕ, ◌==◌, if◌then◌else◌, List, [], ◌∷◌, ◌++◌, Option, Some, None}
use Rattle.scoop_book.specs.declared.event.Event.{Event}
use Rattle.scoop_book.specs.declared.event.Reply.{Reply}
use Rattle.scoop_book.specs.Moves.{LocalHandler}

-- its number, the handlers as they opened where it keeps them, and its events with their replies
pub record PassValue : Type 0 where
  pub number : ℕ
  pub opening : Option (List LocalHandler)
  pub events : List (Event × Reply)

abbrev pub pass_value : ℕ → Option (List LocalHandler) → List (Event × Reply) → PassValue
pass_value number opening events = record { number = number; opening = opening; events = events }

-- the pass of this number as the node opens: the first keeps the handlers
abbrev pub fresh_pass : List LocalHandler → ℕ → PassValue
fresh_pass opening n = record { number = n; opening = if n == 0 then Some opening else None; events = [] }

-- the pass with one more event and its reply
abbrev pub with_event : Event → Reply → PassValue → PassValue
with_event event reply p = record p { events = p.events ++ (event, reply) ∷ [] }

-- how many passes a node has
pub record NodeValue : Type 0 where
  pub passes : ℕ

abbrev pub node_value : ℕ → NodeValue
node_value passes = record { passes = passes }
