-- A lane, and the datagrams that it drops, doubles and keeps.
use Rattle.std.specs.Prelude.{ℕ, ◌+◌, ◌-◌, ◌^◌, min, List, [], ◌++◌, take, replicate}
use Rattle.scoop_link.specs.declared.script.Script.{Script}
use Rattle.scoop_link.specs.Datagram.{kept}
use Rattle.scoop_link.specs.Script.{copies}

-- the script, the room for datagrams, the number of puts, and the datagrams under way
pub record LaneValue : Type 0 where
  pub script : Script
  pub room : ℕ
  pub puts : ℕ
  pub datagrams : List (List ℕ)

abbrev pub empty_lane : Script → ℕ → LaneValue
empty_lane script room = record { script = script; room = room; puts = 0; datagrams = [] }

-- the copies of the put go last; a copy that finds no room is lost
abbrev pub after_put : LaneValue → List ℕ → LaneValue
after_put l bytes =
    let k = min (l.puts + 1) (2 ^ 64 - 1) in
    record l { puts = k; datagrams = take l.room (l.datagrams ++ replicate (copies l.script k) (kept bytes)) }
