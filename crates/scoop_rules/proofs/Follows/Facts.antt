-- The conditions under which a world follows the rules: those on each handler and the messages (see Ready), the order, and the logs.
-- A block names each of its handlers once, and its client may log only while no query waits.
use Rattle.scoop_rules.proofs.Names.{◌≡◌, List, [], ◌∷◌, Some, None, true, false, Block, ClientId, HandlerId, has, ReservationState, World, Party, has_block}
use Rattle.scoop_rules.proofs.Names.{opened_at, party_of, handlers_of, Logging, Ordered, Ready, configuration_of, waits}
use Rattle.scoop_model.proofs.Names.{⊤, is_open}

-- no handler stands twice
abbrev pub AreDistinct : List HandlerId → Type 0
AreDistinct [] = ⊤
AreDistinct (h ∷ hs) = (has hs h ≡ false) × AreDistinct hs

pub record ClientReady (w : World) (p : Party) : Type 0 where
  -- the block in which a client may log has opened at each of its handlers
  pub opened : (r : ReservationState) → p.client.reservation ≡ Some r → is_open r ≡ true → (h : HandlerId) → has r.handlers h ≡ true
      → has_block (opened_at h w) r.block ≡ true
  -- where no query waits, none of the block waits in the queues of the rules
  pub asked : (r : ReservationState) → p.client.reservation ≡ Some r → p.client.waits ≡ None → (h : HandlerId)
      → waits r.block ((configuration_of w).queues h) ≡ false

pub record Following (w : World) : Type 0 where
  pub ready : Ready w
  pub ordered : Ordered w
  pub logging : Logging w
  pub sets : (b : Block) (hs : List HandlerId) → handlers_of b w ≡ Some hs → AreDistinct hs
  pub clients : (c : ClientId) (p : Party) → party_of c w ≡ Some p → ClientReady w p
