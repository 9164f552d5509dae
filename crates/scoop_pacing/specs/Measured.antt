-- A link that measures round trips.
use Rattle.std.specs.Prelude.{ℕ, nat_lt, List, length, slice_index, ◌∷◌, [], Option, Some, None, Result, Ok, Err, if◌then◌else◌}
use Rattle.std.specs.Int.{w32, from_be_bytes}
use Rattle.scoop_message.specs.declared.name.HandlerId.{HandlerId}
use Rattle.scoop_link.specs.declared.party.Party.{Party}
use Rattle.scoop_link.specs.declared.party.Party.TheVariants.{Handler}
use Rattle.scoop_link.specs.declared.link.LinkFault.{LinkFault}
use Rattle.scoop_pacing.specs.Pacing.{PacingValue, after_passing, after_reply}

-- the inner link, the clock, and the last datagrams
pub record MeasuredValue (L C : Type 0) : Type 0 where
  pub inner : L
  pub clock : C
  pub pacing : PacingValue

abbrev pub measures : {L C : Type 0} → L → C → PacingValue → MeasuredValue L C
measures inner clock pacing = record { inner = inner; clock = clock; pacing = pacing }

abbrev pub handler_number : List ℕ → ℕ
handler_number bytes = from_be_bytes w32 (slice_index bytes 4 ∷ slice_index bytes 5 ∷ slice_index bytes 6 ∷ slice_index bytes 7 ∷ [])

-- the handler that the bytes name where a frame has its handler; none if they are too short for a frame
abbrev pub sender_in : List ℕ → Option Party
sender_in bytes = if nat_lt (length bytes) 26 then None else Some (Handler (record { 0 = handler_number bytes }))

-- a send that the inner link made, or that failed
abbrev pub after_send : PacingValue → ℕ → Party → List ℕ → Result (Unit {0}) LinkFault → PacingValue
after_send p now to datagram (Ok done) = after_passing p now to datagram
after_send p now to datagram (Err fault) = p

-- a datagram that came
abbrev pub after_receive : PacingValue → ℕ → Option Party → PacingValue
after_receive p now None = p
after_receive p now (Some from) = after_reply p now from
