-- A sealed link, its sends and its receives.
use Rattle.std.specs.Prelude.{◌≡◌, ℕ, ◌+◌, ◌-◌, ◌^◌, ◌≤◌, min, ◌==◌, nat_lt, List, [], ◌∷◌, ◌++◌, length, map, take, All, Option, Some, None, Result, Ok, Err}
use Rattle.std.specs.Prelude.{if◌then◌else◌}
use Rattle.scoop_link.specs.declared.party.Party.{Party}
use Rattle.scoop_link.specs.declared.link.LinkFault.{LinkFault}
use Rattle.scoop_link.specs.Link.{Datagrams, Told, Exchanges}
use Rattle.scoop_seal.specs.declared.sealed_link.TheConstants.{MAX_TAKEN}
use Rattle.scoop_seal.specs.declared.sealed_link.Taken.{Taken}
use Rattle.scoop_seal.specs.declared.sealed_link.Taken.TheVariants.{Nothing, Forged, Genuine}
use Rattle.scoop_seal.specs.Tag.{sealed, IsForged}

-- the inner link, the key if there is one, the number of refused datagrams, and the number of sends that were too long
pub record SealedValue (L : Type 0) : Type 0 where
  pub inner : L
  pub key : Option (List ℕ)
  pub refused : ℕ
  pub faults : ℕ

abbrev pub seals : {L : Type 0} → L → Option (List ℕ) → SealedValue L
seals inner key = record { inner = inner; key = key; refused = 0; faults = 0 }

-- one more, if the count can rise
abbrev pub one_more : ℕ → ℕ
one_more n = min (n + 1) (2 ^ 64 - 1)

-- the count of faults: a link's own ones and those of the inner link
abbrev pub fault_sum : ℕ → ℕ → ℕ
fault_sum own inner = min (own + inner) (2 ^ 64 - 1)

-- what a link with this key records over an inner one: only without a key what that one does
abbrev pub told_by : Option (List ℕ) → Option Told → Option Told
told_by (Some key) told = None
told_by None told = told

-- its count of faults
abbrev pub faults_by : Option (List ℕ) → ℕ → ℕ → ℕ
faults_by (Some key) own inner = fault_sum own inner
faults_by None own inner = inner

-- a link's own faults after one more, if the count of all can rise
abbrev pub own_after : ℕ → ℕ → ℕ
own_after own inner = if nat_lt (fault_sum own inner) (2 ^ 64 - 1) then own + 1 else own

-- the bytes were sent sealed, unless the inner link counted a fault
abbrev pub gone : ℕ → ℕ → Party → List ℕ → Datagrams
gone before after to datagram = if before == after then (to, datagram) ∷ [] else []

-- the number of refused datagrams after these: one more for each, if the count can rise
abbrev pub count_after : ℕ → List (List ℕ) → ℕ
count_after refused [] = refused
count_after refused (d ∷ forged) = count_after (one_more refused) forged

-- these datagrams were taken, none of them sealed, and counted
pub record Refuses (key : List ℕ) (before after : Option Told) (refused now : ℕ) (forged : List (List ℕ)) : Type 0 where
  pub exchanged : Exchanges before after forged []
  pub all_forged : All (IsForged key) forged
  pub counted : now ≡ count_after refused forged

-- The bytes given were taken with their tag after them. The datagrams taken before were not sealed, and were counted.
-- In all no more than MAX_TAKEN were taken.
pub record Opens (key : List ℕ) (before after : Option Told) (refused now : ℕ) (given : List (List ℕ)) : Type 0 where
  pub forged : List (List ℕ)
  pub exchanged : Exchanges before after (forged ++ map (sealed key) given) []
  pub all_forged : All (IsForged key) forged
  pub counted : now ≡ count_after refused forged
  pub at_most : length forged + length given ≤ MAX_TAKEN

-- the first n bytes of a buffer are followed by their tag
pub record IsTagged (key buffer : List ℕ) (n : ℕ) : Type 0 where
  pub fits : n ≤ 176
  pub tagged : take (n + 16) buffer ≡ sealed key (take n buffer)

-- the outcome of one receive of the inner link
abbrev pub TakesOne : Result Taken LinkFault → List ℕ → Option Told → Option Told → ℕ → ℕ → List ℕ → Type 0
TakesOne (Ok Nothing) key before after refused now buffer = Exchanges before after [] [] × (now ≡ refused)
TakesOne (Ok Forged) key before after refused now buffer = (d : List ℕ) × Refuses key before after refused now (d ∷ [])
TakesOne (Ok (Genuine n)) key before after refused now buffer =
    Exchanges before after (sealed key (take n buffer) ∷ []) [] × (now ≡ refused) × IsTagged key buffer n
TakesOne (Err fault) key before after refused now buffer = Exchanges before after [] [] × (now ≡ refused)
