-- How many lines of one kind a log may have.
use Rattle.std.specs.Prelude.{ℕ, ◌+◌, ◌/◌}
use Rattle.scoop_status.specs.declared.budget.TheConstants.{AT_ONCE, SECONDS_EACH}

-- the most lines until a second: so many at once, and one more after each further time
abbrev pub allowance : ℕ → ℕ
allowance second = AT_ONCE + second / SECONDS_EACH
