-- A rate-limited link.
use Rattle.scoop_link.specs.Pace.{PaceValue}

-- the inner link, and the retransmission limit
pub record PacedValue (L : Type 0) : Type 0 where
  pub inner : L
  pub pace : PaceValue

abbrev pub paced : {L : Type 0} → L → PaceValue → PacedValue L
paced inner pace = record { inner = inner; pace = pace }
