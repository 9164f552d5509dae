-- A link that tolerates faults, and its sends over the link below it.
use Rattle.std.specs.Prelude.{ℕ, List, [], Option, Result}
use Rattle.scoop_link.specs.declared.party.Party.{Party}
use Rattle.scoop_link.specs.declared.link.LinkFault.{LinkFault}
use Rattle.scoop_link.specs.Link.{Told, CountsFault, Exchanges, sent_by}

-- the link below a link that tolerates faults, and how many faults count
pub record PatientValue (L : Type 0) : Type 0 where
  pub inner : L
  pub faults : ℕ

-- One send of the link below: it sends exactly these bytes to this party, or it fails and sends nothing.
pub record Forwards (to : Party) (bytes : List ℕ) (old new : ℕ) (before after : Option Told) : Type 0 where
  pub below : Result (Unit {0}) LinkFault
  pub faults : CountsFault below old new
  pub sent : Exchanges before after [] (sent_by below to bytes)
