-- The invariant about incarnations. If a message names a block, or a client has one, each of the handlers that the client knows
-- has been greeted by the block's incarnation.
use Rattle.scoop_model.proofs.Names.{◌≡◌, ℕ, List, Some, find, true, false, AllByRecursion, Message, Block, ClientId, HandlerId, named_block, has}
use Rattle.scoop_model.proofs.Names.{ReservationState, ClientState, block_named, World, Party, Site, is_site}
use Rattle.scoop_model.proofs.Order.{IsGrantedIn}

-- the handler's mark of the client is at the incarnation or past it
abbrev pub HasGreeted : List Site → HandlerId → ClientId → ℕ → Type 0
HasGreeted ss h c inc = IsGrantedIn (find (is_site h) ss) (block_named c inc 0)

-- the handlers that each client knows
abbrev pub Known : Type 0
Known = ClientId → List HandlerId

-- so it is at each handler that the block's client knows
abbrev pub IsKnown : Known → List Site → Block → Type 0
IsKnown hs ss b = (h : HandlerId) → has (hs b.client) h ≡ true → HasGreeted ss h b.client b.inc

abbrev pub Names : Known → List Site → Message → Type 0
Names hs ss m = (b : Block) → named_block m ≡ Some b → IsKnown hs ss b

-- these are the client's handlers, those that have welcomed it know its incarnation, and all know its block's
pub record ClientKnown (hs : Known) (ss : List Site) (c : ClientState) : Type 0 where
  pub handlers : c.handlers ≡ hs c.id
  pub greeted : (h : HandlerId) → has (hs c.id) h ≡ true → has c.unwelcomed h ≡ false → HasGreeted ss h c.id c.inc
  pub block : (r : ReservationState) → c.reservation ≡ Some r → IsKnown hs ss r.block

abbrev pub PartyKnown : Known → List Site → Party → Type 0
PartyKnown hs ss p = ClientKnown hs ss p.client

pub record Knowing (hs : Known) (w : World) : Type 0 where
  pub messages : AllByRecursion (Names hs w.sites) w.sent
  pub parties : AllByRecursion (PartyKnown hs w.sites) w.parties

-- ---- what goes on

-- a granted lock stays granted
abbrev pub Remember : List Site → List Site → Type 0
Remember ss ts = (h : HandlerId) (b : Block) → IsGrantedIn (find (is_site h) ss) b → IsGrantedIn (find (is_site h) ts) b

module _ (hs : Known) (ss ts : List Site) (more : Remember ss ts) where
  pub known_more : (b : Block) → IsKnown hs ss b → IsKnown hs ts b
  known_more b k = λ h e. more h (block_named b.client b.inc 0) (k h e)

  pub names_more : (m : Message) → Names hs ss m → Names hs ts m
  names_more m n = λ b e. known_more b (n b e)

  pub party_more : (p : Party) → PartyKnown hs ss p → PartyKnown hs ts p
  party_more p k = record {
    handlers = k.handlers;
    greeted = λ h e f. more h (block_named p.client.id p.client.inc 0) (k.greeted h e f);
    block = λ r e. known_more r.block (k.block r e);
  }
