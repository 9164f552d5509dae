-- The meaning of each error of the audit.
use Rattle.std.specs.Prelude.{◌≡◌, ◌⊎◌, ⊤, ℕ, List, slice_get, Option, Some}
use Rattle.std.specs.List.{AllZip}
use Rattle.scoop_message.specs.declared.name.HandlerId.{HandlerId}
use Rattle.scoop_message.specs.declared.message.Message.{Message}
use Rattle.scoop_system.specs.declared.place.ClientPlace.{ClientPlace}
use Rattle.scoop_system.specs.System.{Plan}
use Rattle.scoop_weave.specs.Lives.{ClientLife, NodeLife}
use Rattle.scoop_weave.specs.Order.{party_at}
use Rattle.scoop_weaver.specs.declared.traffic.Traffic.{Traffic}
use Rattle.scoop_weaver.specs.Passing.{traffic_by}
use Rattle.scoop_weaver.specs.Weaving.{IsUnexplained}
use Rattle.scoop_audit.specs.declared.error.AuditError.{AuditError}
use Rattle.scoop_audit.specs.declared.error.AuditError.TheVariants.{OutOfMemory, Fault, Unexplained}
use Rattle.scoop_audit.specs.declared.error.PartyName.{PartyName}
use Rattle.scoop_audit.specs.declared.error.PartyName.TheVariants.{Node, Client}
use Rattle.scoop_audit.specs.declared.error.Wrong.{Wrong}
use Rattle.scoop_audit.specs.declared.error.Wrong.TheVariants.{Unsent}
use Rattle.scoop_audit.specs.declared.roster.Member.{Member}
use Rattle.scoop_audit.specs.Members.{Owns}
use Rattle.scoop_audit.specs.Parties.{MayRun, client_named, joins_in, placed_on}
use Rattle.scoop_audit.specs.Run.{AreParties, journal_at}
use Rattle.scoop_audit.specs.World.{ClientPages, IsLifeOfClient, IsLifeOfNode, NodePages, placements_in}
use Rattle.scoop_audit.specs.Wrong.{StopsClient, StopsNode}

-- ---- a journal that can't be replayed

-- the first lines of the party's journal can be replayed, and the next one is wrong
abbrev pub PartyStops : Plan → List ℕ → PartyName → Wrong → Type 0
PartyStops s journal (Node n) w = (words : HandlerId → List ℕ) → StopsNode words n (placed_on s n) journal w
PartyStops s journal (Client id) w = (c : ClientPlace) × (client_named s.clients id ≡ Some c) × StopsClient (joins_in s c) journal w

-- one of these journals is the party's own, and it can't be replayed
pub record HasStopped (s : Plan) (journals : List (List ℕ)) (party : PartyName) (w : Wrong) : Type 0 where
  pub place : Option ℕ
  pub own : (at : ℕ) → place ≡ Some at → Owns party (journal_at journals (Some at))
  pub stops : PartyStops s (journal_at journals place) party w

-- ---- no order of all moves

-- the party's move at this place hears the message, and no order of the parties' moves reaches it
pub record IsUnsent (parties : List (List Traffic)) (w : Wrong) : Type 0 where
  pub message : Message
  pub silent : Option PartyName
  pub wrong_is : w ≡ Unsent message silent
  pub party : ℕ
  pub place : ℕ
  pub next : Traffic
  pub here : slice_get (party_at parties party) place ≡ Some next
  pub hears : next.heard ≡ Some message
  pub unexplained : IsUnexplained parties party place

-- this holds of the lives that the journals tell
pub record HasNoOrder (nodes : List NodePages) (clients : List ClientPages) (w : Wrong) : Type 0 where
  pub lives : List NodeLife
  pub others : List ClientLife
  pub each_node : AllZip (IsLifeOfNode (placements_in nodes)) nodes lives
  pub each_client : AllZip IsLifeOfClient clients others
  pub unsent : IsUnsent (traffic_by lives others) w

-- Each party's journal can be replayed. If a world may open with the file's parties, no order has all moves of their
-- lives.
pub record LacksOrder (s : Plan) (journals : List (List ℕ)) (w : Wrong) : Type 0 where
  pub nodes : List NodePages
  pub clients : List ClientPages
  pub parties : AreParties s journals nodes clients
  pub lacking : MayRun s → HasNoOrder nodes clients w

-- ---- errors

-- an `Unexplained` names a party whose journal can't be replayed, or a heard message that no order of the moves
-- explains
abbrev pub IsAuditError : Plan → List (List ℕ) → AuditError → Type 0
IsAuditError s journals OutOfMemory = ⊤
IsAuditError s journals (Fault place line fault) = ⊤
IsAuditError s journals (Unexplained found w) = HasStopped s journals found.party w ⊎ LacksOrder s journals w

-- no journal was replayed
abbrev pub IsNoReplay : AuditError → Type 0
IsNoReplay OutOfMemory = ⊤
IsNoReplay (Fault place line fault) = ⊤
IsNoReplay (Unexplained found w) = ⊥

-- this journal of the party can't be replayed
abbrev pub IsStop : Plan → List ℕ → PartyName → AuditError → Type 0
IsStop s journal party OutOfMemory = ⊤
IsStop s journal party (Fault place line fault) = ⊤
IsStop s journal party (Unexplained found w) = (found.party ≡ party) × PartyStops s journal party w

-- the journal of one of these parties can't be replayed
abbrev pub IsStopAmong : Plan → List (List ℕ) → List Member → AuditError → Type 0
IsStopAmong s journals ms e =
    (at : ℕ) × (m : Member) × (slice_get ms at ≡ Some m) × IsStop s (journal_at journals m.journal) m.party e

-- these moves have no order
abbrev pub IsOrderError : List (List Traffic) → AuditError → Type 0
IsOrderError parties OutOfMemory = ⊤
IsOrderError parties (Fault place line fault) = ⊥
IsOrderError parties (Unexplained found w) = IsUnsent parties w
