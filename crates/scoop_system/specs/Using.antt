-- The handlers that a client's line names.
use Rattle.std.specs.Prelude.{List, [], ◌∷◌, find, not, Option}
use Rattle.scoop_message.specs.declared.name.HandlerId.{HandlerId}
use Rattle.scoop_system.specs.declared.line.ClientLine.{ClientLine}
use Rattle.scoop_system.specs.declared.line.ClientLine.TheVariants as line
use Rattle.scoop_system.specs.declared.place.ClientPlace.{ClientPlace}
use Rattle.scoop_system.specs.Known.{uses}

-- the handlers that a line reserves, calls or queries; a condition asks reserved ones alone
abbrev pub named_in : ClientLine → List HandlerId
named_in (line.Reserve hs) = hs
named_in (line.ReserveWhen hs conditions tries) = hs
named_in (line.Call h r) = h ∷ []
named_in (line.Query h r) = h ∷ []
named_in line.End = []
named_in line.GiveUp = []
named_in line.Blank = []
named_in line.Help = []
named_in line.Quit = []

-- the first of these that the client doesn't use
abbrev pub first_unused : ClientPlace → List HandlerId → Option HandlerId
first_unused c hs = find (λ h. not (uses c.handlers h)) hs

abbrev pub unused : ClientPlace → ClientLine → Option HandlerId
unused c l = first_unused c (named_in l)
