-- The invariant about openings: the claims of Open, Opened, Unlock and Log messages about it, and the client's reservation.
use Rattle.scoop_model.proofs.Names.{◌≡◌, List, [], ◌∷◌, ◌++◌, Some, None, refl, ap, arith, Option, true, false, ◌||◌, Bool, option_to_list, ◌⊎◌, inl, inr}
use Rattle.scoop_model.proofs.Names.{⊎_elim, AllByRecursion, list_any, ⊤, same_block, Message, Open, Log, Unlock, Opened, Block, ClientId, HandlerId, block_of}
use Rattle.scoop_model.proofs.Names.{Mark, AtOpen, has, ReservationState, Stage, GivingBack as GivingUp, Locking, Opening, Unlocking, World, Party, Site}
use Rattle.scoop_model.proofs.Names.{number_of, has_block, opened_at, log_of, party_of, handlers_of}
use Rattle.scoop_model.proofs.Order.{IsNamed}

-- ---- where a block has opened

abbrev pub IsOpenedAt : World → HandlerId → Block → Type 0
IsOpenedAt w h b = has_block (opened_at h w) b ≡ true

-- each handler that the block's reserve named has opened it
pub record IsOpenedAtAll (w : World) (b : Block) : Type 0 where
  pub handlers : List HandlerId
  pub set : handlers_of b w ≡ Some handlers
  pub opened : (h : HandlerId) → has handlers h ≡ true → IsOpenedAt w h b

-- ---- blocks of which no Open was ever sent

abbrev pub is_open_of : Block → Message → Bool
is_open_of b (Open h y) = same_block y b
is_open_of b m = false

abbrev pub NoOpen : World → Block → Type 0
NoOpen w b = list_any (is_open_of b) w.sent ≡ false

-- a block that was reserved, and that its client has given up or left before all its locks were there
pub record IsGivenUp (w : World) (b : Block) : Type 0 where
  pub handlers : List HandlerId
  pub set : handlers_of b w ≡ Some handlers
  pub none : NoOpen w b
  pub left : (c : ClientId) (p : Party) → party_of c w ≡ Some p → (r : ReservationState) → p.client.reservation ≡ Some r → r.block ≡ b → r.stage ≡ GivingUp

-- ---- what messages tell

-- an Open goes to a handler of the block, and an Unlock to one of a block that is opened at all or given up; a Log goes
-- to a handler of a block that is opened at all
abbrev pub Shows : World → Message → Type 0
Shows w (Open h b) = IsNamed w h b
Shows w (Opened h b) = IsOpenedAt w h b
Shows w (Unlock h b) = IsNamed w h b × (IsOpenedAtAll w b ⊎ IsGivenUp w b)
Shows w (Log h b n es) = IsNamed w h b × IsOpenedAtAll w b
Shows w m = ⊤

-- ---- handlers and clients

-- the block of an open mark has opened here
pub record IsMarkOpened (bs : List Block) (k : Mark) : Type 0 where
  pub opened : k.stage ≡ AtOpen → has_block bs (block_of k) ≡ true

-- whatever opened here names this handler
pub record SiteOpened (w : World) (s : Site) : Type 0 where
  pub named : (b : Block) → has_block s.opened b ≡ true → IsNamed w (number_of s) b
  pub marks : AllByRecursion (IsMarkOpened s.opened) s.core.state.marks

-- no Open is sent while the block locks or is given up, and where a handler isn't left the block has opened
abbrev pub StageOpened : World → ReservationState → Stage → Type 0
StageOpened w r Locking = NoOpen w r.block
StageOpened w r Opening = (h : HandlerId) → has r.handlers h ≡ true → has r.left h ≡ false → IsOpenedAt w h r.block
StageOpened w r Unlocking = (h : HandlerId) → has r.handlers h ≡ true → IsOpenedAt w h r.block
StageOpened w r GivingUp = NoOpen w r.block

pub record ReservationOpened (w : World) (r : ReservationState) : Type 0 where
  pub within : (h : HandlerId) → has r.left h ≡ true → has r.handlers h ≡ true
  pub stage : StageOpened w r r.stage

-- entries are logged only for a handler of a block that has opened at all of its handlers
abbrev pub OpenIfLogged : World → Type 0
OpenIfLogged w = (b : Block) (h : HandlerId) → (log_of b h w ≡ []) ⊎ (IsNamed w h b × IsOpenedAtAll w b)

pub record Openings (w : World) : Type 0 where
  pub messages : AllByRecursion (Shows w) w.sent
  pub logs : OpenIfLogged w
  pub sites : AllByRecursion (SiteOpened w) w.sites
  pub parties : (c : ClientId) (p : Party) → party_of c w ≡ Some p → (r : ReservationState) → p.client.reservation ≡ Some r → ReservationOpened w r

-- ---- what goes on

-- the lasting facts of w hold in v too
pub record Onto (w v : World) : Type 0 where
  pub sets : (b : Block) (hs : List HandlerId) → handlers_of b w ≡ Some hs → handlers_of b v ≡ Some hs
  pub opened : (h : HandlerId) (b : Block) → IsOpenedAt w h b → IsOpenedAt v h b
  pub given_up : (b : Block) → IsGivenUp w b → IsGivenUp v b

module _ (w v : World) (x : Onto w v) where
  pub named_more : (h : HandlerId) (b : Block) → IsNamed w h b → IsNamed v h b
  named_more h b n = record { handlers = n.handlers; set = x.sets b n.handlers n.set; member = n.member }

  pub opened_more : (b : Block) → IsOpenedAtAll w b → IsOpenedAtAll v b
  opened_more b o = record { handlers = o.handlers; set = x.sets b o.handlers o.set; opened = λ h e. x.opened h b (o.opened h e) }

  pub shows_more : (m : Message) → Shows w m → Shows v m
  shows_more (Open h b) s = named_more h b s
  shows_more (Opened h b) s = x.opened h b s
  shows_more (Unlock h b) s = (named_more h b s.0, ⊎_elim (λ (o : IsOpenedAtAll w b). inl (opened_more b o)) (λ (g : IsGivenUp w b). inr (x.given_up b g)) s.1)
  shows_more (Log h b n es) s = (named_more h b s.0, opened_more b s.1)
  shows_more m s = tt

  pub site_more : (s : Site) → SiteOpened w s → SiteOpened v s
  site_more s o = record { named = λ b e. named_more (number_of s) b (o.named b e); marks = o.marks }

  stage_more : (r : ReservationState) → (NoOpen w r.block → NoOpen v r.block) → (stage : Stage) → StageOpened w r stage → StageOpened v r stage
  stage_more r none Opening o = λ h e f. x.opened h r.block (o h e f)
  stage_more r none Unlocking o = λ h e. x.opened h r.block (o h e)
  stage_more r none stage o = none o

  pub reservation_more : (r : ReservationState) → (NoOpen w r.block → NoOpen v r.block) → ReservationOpened w r → ReservationOpened v r
  reservation_more r none o = record { within = o.within; stage = stage_more r none r.stage o.stage }

-- the same where some logs have grown, of blocks that have opened
module _ (w v : World) (x : Onto w v) where
  pub logs_more : ((b : Block) (h : HandlerId) → (log_of b h v ≡ log_of b h w) ⊎ (IsNamed w h b × IsOpenedAtAll w b)) → OpenIfLogged w → OpenIfLogged v
  logs_more grown all b h = grind (arith, named_more, opened_more)

-- no Open is among the new messages
pub none_pushed :
    (b : Block) (ms : List Message) (o : Option Message) → list_any (is_open_of b) ms ≡ false → ((m : Message) → o ≡ Some m → is_open_of b m ≡ false)
    → list_any (is_open_of b) (ms ++ option_to_list o) ≡ false
none_pushed b [] None none new = refl
none_pushed b [] (Some m) none new = ap (λ t. t || false) (new m refl)
none_pushed b (x ∷ xs) o none new = grind (arith, none_pushed b xs o)
