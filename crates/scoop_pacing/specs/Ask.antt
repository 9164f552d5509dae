-- The last datagram to a party, whether it may go again, and what its reply tells.
use Rattle.std.specs.Prelude.{ℕ, ◌+◌, ◌-◌, ◌*◌, ◌/◌, ◌%◌, ◌^◌, min, max, nat_lt, nat_le, ◌==◌, ◌||◌, Bool, List, bytes_eq, Option, Some, None, if◌then◌else◌}
use Rattle.scoop_link.specs.declared.party.Party.{Party}
use Rattle.scoop_pacing.specs.declared.estimate.Estimate.{Estimate}
use Rattle.scoop_pacing.specs.declared.estimate.TheConstants.{MAX_TIMEOUT}
use Rattle.scoop_pacing.specs.declared.ask.TheConstants.{FIRST_TIMEOUT, AT_ONCE, MIN_POLL}
use Rattle.scoop_pacing.specs.declared.ask.Ask.{Ask}
use Rattle.scoop_pacing.specs.Estimate.{first_estimate, next_estimate, timeout}

-- a timeout and up to an eighth of it, by a number at random
abbrev pub pause_of : ℕ → ℕ → ℕ
pause_of timeout seed = timeout + timeout * (seed % 64) / 512

-- the first datagram to a party
abbrev pub asked_first : Party → List ℕ → ℕ → ℕ → Ask
asked_first party datagram now seed = record {
  party = party;
  datagram = datagram;
  sent = now;
  repeated = 0;
  answered = None;
  pause = pause_of FIRST_TIMEOUT seed;
  timeout = FIRST_TIMEOUT;
  estimate = None;
}

-- the time between two later repeats: a round trip, if it isn't too short
abbrev pub poll_of : Option Estimate → ℕ
poll_of None = MIN_POLL
poll_of (Some e) = max e.smooth MIN_POLL

abbrev pub may_repeat_by : Ask → ℕ → Option ℕ → Bool
may_repeat_by a now None = nat_le a.pause (now - a.sent)
may_repeat_by a now (Some answered) = nat_lt a.repeated AT_ONCE || nat_le (poll_of a.estimate) (now - answered)

-- Whether it may go again: without a reply after its pause; with one at once, and after AT_ONCE repeats a round trip later.
abbrev pub may_repeat : Ask → ℕ → Bool
may_repeat a now = may_repeat_by a now a.answered

-- the timeout of a repeat: twice the last one, unless that one was answered
abbrev pub repeat_timeout : Option ℕ → ℕ → ℕ
repeat_timeout None timeout = min (timeout * 2) MAX_TIMEOUT
repeat_timeout (Some at) timeout = timeout

-- the repetitions and the timeout of the next datagram: a repeat, or another one
abbrev pub counts_of : Ask → List ℕ → ℕ × ℕ
counts_of a datagram =
    if bytes_eq a.datagram datagram then (min (a.repeated + 1) (2 ^ 64 - 1), repeat_timeout a.answered a.timeout) else (0, a.timeout)

abbrev pub sent_at : Ask → List ℕ → ℕ → ℕ → ℕ × ℕ → Ask
sent_at a datagram now seed counts = record {
  party = a.party;
  datagram = datagram;
  sent = now;
  repeated = counts.0;
  answered = None;
  pause = pause_of counts.1 seed;
  timeout = counts.1;
  estimate = a.estimate;
}

-- the next datagram to the party
abbrev pub asked_again : Ask → List ℕ → ℕ → ℕ → Ask
asked_again a datagram now seed = sent_at a datagram now seed (counts_of a datagram)

-- how long a round trip took
abbrev pub trip_of : ℕ → ℕ → ℕ
trip_of sent now = min (now - sent) MAX_TIMEOUT

abbrev pub estimate_after : Option Estimate → ℕ → Estimate
estimate_after None trip = first_estimate trip
estimate_after (Some e) trip = next_estimate e trip

abbrev pub measured : Ask → ℕ → Estimate → Ask
measured a now e = record a { answered = Some now; timeout = timeout e; estimate = Some e }

-- the first reply: it measures a round trip if the datagram went once
abbrev pub answered_at : Ask → ℕ → Ask
answered_at a now = if a.repeated == 0 then measured a now (estimate_after a.estimate (trip_of a.sent now)) else record a { answered = Some now }

abbrev pub after_answer_to : Option ℕ → ℕ → Ask → Ask
after_answer_to None now a = answered_at a now
after_answer_to (Some at) now a = a

-- a reply of the party; only the first one counts
abbrev pub after_answer : ℕ → Ask → Ask
after_answer now a = after_answer_to a.answered now a
