-- The last datagrams to all parties, and which datagrams pass.
use Rattle.std.specs.Prelude.{ℕ, ◌+◌, ◌*◌, ◌/◌, ◌%◌, nat_lt, not, ◌||◌, Bool, true, List, [], ◌∷◌, ◌++◌, length, map, find, position}
use Rattle.std.specs.Prelude.{slice_set, bytes_eq, Option, Some, None, if◌then◌else◌}
use Rattle.scoop_link.specs.declared.party.Party.{Party}
use Rattle.scoop_link.specs.Party.{same_party}
use Rattle.scoop_pacing.specs.declared.ask.Ask.{Ask}
use Rattle.scoop_pacing.specs.Ask.{may_repeat, asked_first, asked_again, after_answer}

-- the last datagram of each party, as far as there is room, and the seed of the parts at random
pub record PacingValue : Type 0 where
  pub asks : List Ask
  pub room : ℕ
  pub seed : ℕ

abbrev pub fresh_pacing : ℕ → ℕ → PacingValue
fresh_pacing room seed = record { asks = []; room = room; seed = seed }

-- the last datagram to a party, and its place
abbrev pub last_to : List Ask → Party → Option Ask
last_to asks to = find (λ a. same_party a.party to) asks

abbrev pub place_to : List Ask → Party → Option ℕ
place_to asks to = position (λ a. same_party a.party to) asks

abbrev pub passes_after : ℕ → List ℕ → Option Ask → Bool
passes_after now datagram None = true
passes_after now datagram (Some a) = not (bytes_eq a.datagram datagram) || may_repeat a now

-- whether a datagram to a party passes at this time: it isn't the party's last one, or that one may go again
abbrev pub passes : PacingValue → ℕ → Party → List ℕ → Bool
passes p now to datagram = passes_after now datagram (last_to p.asks to)

abbrev pub next_after : Party → List ℕ → ℕ → ℕ → Option Ask → Ask
next_after to datagram now seed None = asked_first to datagram now seed
next_after to datagram now seed (Some a) = asked_again a datagram now seed

-- a party's last datagram, once this one is passed on
abbrev pub next_ask : List Ask → Party → List ℕ → ℕ → ℕ → Ask
next_ask asks to datagram now seed = next_after to datagram now seed (last_to asks to)

abbrev pub put_at : ℕ → List Ask → Ask → Option ℕ → List Ask
put_at room asks ask (Some i) = slice_set asks i ask
put_at room asks ask None = if nat_lt (length asks) room then asks ++ ask ∷ [] else asks

-- a last datagram in place of its party's, or after the others if there is room
abbrev pub put_ask : ℕ → List Ask → Ask → List Ask
put_ask room asks ask = put_at room asks ask (place_to asks ask.party)

-- the next seed
abbrev pub next_seed : ℕ → ℕ
next_seed seed = (seed * 1103515245 + 12345) / 65536 % 32768

abbrev pub after_passing : PacingValue → ℕ → Party → List ℕ → PacingValue
after_passing p now to datagram = record p {
  asks = put_ask p.room p.asks (next_ask p.asks to datagram now p.seed);
  seed = next_seed p.seed;
}

-- a last datagram, after a reply of some party
abbrev pub hears : Party → ℕ → Ask → Ask
hears from now a = if same_party a.party from then after_answer now a else a

abbrev pub after_reply : PacingValue → ℕ → Party → PacingValue
after_reply p now from = record p { asks = map (hears from now) p.asks }
