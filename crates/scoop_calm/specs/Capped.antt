-- Sums in 64 bits: one that doesn't fit stays at the greatest number.
use Rattle.std.specs.Prelude.{ℕ, min, nat_lt, ◌-◌, ◌^◌, if◌then◌else◌, Option, Some, None}
use Rattle.scoop_model.specs.World.{World}
use Rattle.scoop_world.specs.Standing.{Standing}
use Rattle.scoop_calm.specs.Bound.{handler_left}

abbrev pub capped : ℕ → ℕ
capped n = min n (2 ^ 64 - 1)

-- the number, if it is below the greatest one
abbrev pub if_below : ℕ → Option ℕ
if_below n = if nat_lt n (2 ^ 64 - 1) then Some n else None

-- the number left at a handler, by how it stands
abbrev pub standing_left : World → Standing → ℕ
standing_left w s = handler_left w.logs w.parties s.state s.is_out
