-- Notes that come at most once a second.
use Rattle.std.specs.Prelude.{ℕ, ◌-◌, nat_le, Bool, true, Option, Some, None}
use Rattle.scoop_pacing.specs.declared.slow_notes.TheConstants.{BETWEEN}

-- a line passes if none has passed, or a second after the last one
abbrev pub may_note : Option ℕ → ℕ → Bool
may_note None now = true
may_note (Some last) now = nat_le BETWEEN (now - last)
