-- The effect of links on datagrams.
use Rattle.std.specs.Prelude.{◌≡◌, ◌+◌, ℕ, List, [], ◌∷◌, ◌++◌, take, Option, Some, None, Result, Ok, Err}
use Rattle.scoop_link.specs.declared.party.Party.{Party}
use Rattle.scoop_link.specs.declared.link.LinkFault.{LinkFault}
use Rattle.scoop_link.specs.Datagram.{kept}

-- datagrams with their receivers
abbrev pub Datagrams : Type 0
Datagrams = List (Party × List ℕ)

-- the datagrams that are still to come, and those that were sent
pub record Told : Type 0 where
  pub to_come : List (List ℕ)
  pub sent : Datagrams

-- the count of faults rises by one exactly if the call fails
abbrev pub CountsFault : {T : Type 0} → Result T LinkFault → ℕ → ℕ → Type 0
CountsFault (Ok _) old new = new ≡ old
CountsFault (Err _) old new = new ≡ old + 1

-- these were taken from the front of those to come, and these were sent
pub record Exchanged (before after : Told) (taken : List (List ℕ)) (gone : Datagrams) : Type 0 where
  pub to_come : before.to_come ≡ taken ++ after.to_come
  pub sent : after.sent ≡ before.sent ++ gone

-- If a link records its datagrams afterwards, it recorded them before, and these were taken and sent, in order.
pub record Exchanges (before after : Option Told) (taken : List (List ℕ)) (gone : Datagrams) : Type 0 where
  pub telling : (now : Told) → after ≡ Some now → (was : Told) × (before ≡ Some was) × Exchanged was now taken gone

-- the datagrams of a send
abbrev pub sent_by : {T : Type 0} → Result T LinkFault → Party → List ℕ → Datagrams
sent_by (Ok _) to bytes = (to, kept bytes) ∷ []
sent_by (Err _) to bytes = []

-- the datagrams of a receive
abbrev pub taken_by : Result (Option ℕ) LinkFault → List ℕ → List (List ℕ)
taken_by (Ok (Some n)) buffer = take n buffer ∷ []
taken_by (Ok None) buffer = []
taken_by (Err _) buffer = []
