-- The events of a node since they were last taken.
use Rattle.std.specs.Prelude.{ℕ, ◌+◌, ◌-◌, ◌^◌, min, nat_lt, List, [], ◌∷◌, ◌++◌, length, if◌then◌else◌}
use Rattle.scoop_watch.specs.declared.event.Event.{Event}
use Rattle.scoop_watch.specs.declared.event_list.TheConstants.{MAX_EVENTS}

-- the first events, and how many came after these
pub record Events : Type 0 where
  pub first : List Event
  pub left_out : ℕ

abbrev pub no_events : Events
no_events = record { first = []; left_out = 0 }

-- one more event: it is listed if there is room, and counted if not
abbrev pub with_event : Event → Events → Events
with_event e l =
    if nat_lt (length l.first) MAX_EVENTS
    then record l { first = l.first ++ e ∷ [] }
    else record l { left_out = min (l.left_out + 1) (2 ^ 64 - 1) }
