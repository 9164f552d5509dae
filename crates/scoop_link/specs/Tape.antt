-- A tape link, the datagrams that it records and those that it keeps.
use Rattle.std.specs.Prelude.{ℕ, ◌+◌, ◌-◌, ◌^◌, ◌==◌, nat_lt, min, List, [], ◌∷◌, ◌++◌, length, Option, Some, None, if◌then◌else◌}
use Rattle.scoop_link.specs.declared.party.Party.{Party}
use Rattle.scoop_link.specs.Datagram.{kept}
use Rattle.scoop_link.specs.Link.{Datagrams, Told}

-- the datagrams to come, those sent with their receivers, the room for sent ones, and the count of faults
pub record TapeValue : Type 0 where
  pub to_come : List (List ℕ)
  pub sent : Datagrams
  pub room : ℕ
  pub faults : ℕ

abbrev pub empty_tape : ℕ → TapeValue
empty_tape room = record { to_come = []; sent = []; room = room; faults = 0 }

-- it records its datagrams while its count of faults can rise
abbrev pub told : TapeValue → Option Told
told t = if t.faults == 2 ^ 64 - 1 then None else Some (record { to_come = t.to_come; sent = t.sent })

-- a datagram that finds no room is a fault
abbrev pub after_send : TapeValue → Party → List ℕ → TapeValue
after_send t to bytes =
    if nat_lt (length t.sent) t.room
    then record t { sent = t.sent ++ (to, kept bytes) ∷ [] }
    else record t { faults = min (t.faults + 1) (2 ^ 64 - 1) }
