-- Pauses that double.
use Rattle.std.specs.Prelude.{ℕ, ◌-◌, ◌*◌, ◌^◌, min, max}

-- The longest pause after this many failed tries, the last of which took this long. In microseconds: 1 ms after the first,
-- then doubled up to 100 ms, and eight times the last try, up to a second, if that is longer.
abbrev pub longest_after : ℕ → ℕ → ℕ
longest_after failed tried = max (min (1000 * 2 ^ min (failed - 1) 7) 100000) (min (8 * tried) 1000000)
