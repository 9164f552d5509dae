-- The round trips of one party by RFC 6298, in microseconds.
use Rattle.std.specs.Prelude.{ℕ, ◌+◌, ◌*◌, ◌/◌, min, max}
use Rattle.std.specs.Int.{abs_diff}
use Rattle.scoop_pacing.specs.declared.estimate.Estimate.{Estimate}
use Rattle.scoop_pacing.specs.declared.estimate.TheConstants.{MIN_TIMEOUT, MAX_TIMEOUT, MIN_MARGIN}

-- the first round trip
abbrev pub first_estimate : ℕ → Estimate
first_estimate trip = record { smooth = trip; variation = trip / 2 }

-- one more: an eighth of it enters the smoothed round trip, a quarter of its distance the variation
abbrev pub next_estimate : Estimate → ℕ → Estimate
next_estimate e trip = record { smooth = (7 * e.smooth + trip) / 8; variation = (3 * e.variation + abs_diff e.smooth trip) / 4 }

-- the smoothed round trip and four variations, at least MIN_MARGIN; from MIN_TIMEOUT to MAX_TIMEOUT
abbrev pub timeout : Estimate → ℕ
timeout e = min (max (e.smooth + max (4 * e.variation) MIN_MARGIN) MIN_TIMEOUT) MAX_TIMEOUT
