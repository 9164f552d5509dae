-- A retransmission limit: the datagrams that a rate-limited link passes on, and its records of those passed on and
-- received.
use Rattle.std.specs.Prelude.{ℕ, ◌+◌, ◌-◌, ◌^◌, min, nat_lt, nat_le, not, ◌&&◌, ◌||◌, Bool, true, false, List, [], ◌∷◌, ◌++◌, length, map, find, position}
use Rattle.std.specs.Prelude.{slice_set, bytes_eq, Option, Some, None, Result, Ok, Err, if◌then◌else◌}
use Rattle.scoop_link.specs.declared.party.Party.{Party}
use Rattle.scoop_link.specs.declared.link.LinkFault.{LinkFault}
use Rattle.scoop_link.specs.declared.pace.TheConstants.{MAX_IN_A_ROW}
use Rattle.scoop_link.specs.declared.pace.Last.{Last}
use Rattle.scoop_link.specs.Party.{same_party}

-- The last datagram of each party, as far as there is room; the limit on repeating one in a row while nothing is on its
-- way; and the numbers of datagrams passed on and received since the last receive timeout.
pub record PaceValue : Type 0 where
  pub lasts : List Last
  pub room : ℕ
  pub repeats : ℕ
  pub passed : ℕ
  pub received : ℕ

abbrev pub fresh_pace : ℕ → ℕ → PaceValue
fresh_pace room repeats =
    record { lasts = []; room = room; repeats = repeats; passed = 0; received = 0 }

-- the last datagram passed on to a party
abbrev pub last_to : List Last → Party → Option Last
last_to lasts to = find (λ l. same_party l.party to) lasts

-- Whether a party's last datagram may go again: a receive timeout came since, or nothing is on its way and it was not
-- repeated too often.
abbrev pub may_repeat : PaceValue → Last → Bool
may_repeat p l = l.silent || (nat_le p.passed p.received && nat_lt l.repeated p.repeats)

abbrev pub passes_after : PaceValue → List ℕ → Option Last → Bool
passes_after p datagram None = true
passes_after p datagram (Some l) = not (bytes_eq l.datagram datagram) || may_repeat p l

-- whether a datagram to a party is passed on: it isn't the party's last one, or that one may go again
abbrev pub passes : PaceValue → Party → List ℕ → Bool
passes p to datagram = passes_after p datagram (last_to p.lasts to)

-- the number of repetitions in a row once a datagram goes; a different one than the last begins a new row
abbrev pub repeated_after : List ℕ → Option Last → ℕ
repeated_after datagram None = 0
repeated_after datagram (Some l) = if bytes_eq l.datagram datagram then min (l.repeated + 1) (2 ^ 64 - 1) else 0

-- a party's last datagram, once this one was passed on
abbrev pub next_last : List Last → Party → List ℕ → Last
next_last lasts to datagram =
    record { party = to; datagram = datagram; repeated = repeated_after datagram (last_to lasts to); silent = false }

abbrev pub put_at : ℕ → List Last → Last → Option ℕ → List Last
put_at room lasts last (Some i) = slice_set lasts i last
put_at room lasts last None = if nat_lt (length lasts) room then lasts ++ last ∷ [] else lasts

-- a last datagram in place of its party's, or after the others if there is room
abbrev pub put_last : ℕ → List Last → Last → List Last
put_last room lasts last =
    put_at room lasts last (position (λ l. same_party l.party last.party) lasts)

abbrev pub after_passing : PaceValue → Party → List ℕ → PaceValue
after_passing p to datagram = record p {
  lasts = put_last p.room p.lasts (next_last p.lasts to datagram);
  passed = min (p.passed + 1) (2 ^ 64 - 1);
}

-- a last datagram, followed by a receive timeout
abbrev pub silenced : Last → Last
silenced l = record l { silent = true }

abbrev pub after_silence : PaceValue → PaceValue
after_silence p = record p { lasts = map silenced p.lasts; passed = 0; received = 0 }

-- the last of MAX_IN_A_ROW datagrams in a row counts as a receive timeout
abbrev pub after_datagram : PaceValue → PaceValue
after_datagram p = if nat_lt p.received (MAX_IN_A_ROW - 1) then record p { received = p.received + 1 } else after_silence p

-- a call that fails changes nothing

abbrev pub after_send : PaceValue → Party → List ℕ → Result (Unit {0}) LinkFault → PaceValue
after_send p to datagram (Ok done) = after_passing p to datagram
after_send p to datagram (Err fault) = p

abbrev pub after_receive : PaceValue → Result (Option ℕ) LinkFault → PaceValue
after_receive p (Ok (Some n)) = after_datagram p
after_receive p (Ok None) = after_silence p
after_receive p (Err fault) = p
