-- The invariant about joint reservations: the lasting claims of messages, and how the handlers, the clients and the common list
-- stand to each other.
use Rattle.scoop_model.proofs.Names.{◌≡◌, List, [], ◌∷◌, ◌++◌, Some, None, refl, sym, subst, arith, Option, find, option_map, true, false, option_to_list}
use Rattle.scoop_model.proofs.Names.{AllByRecursion, ⊤, Message, Open, Locked, Lock, Block, HandlerId, has, ReservationState, Stage, GivingBack as GivingUp}
use Rattle.scoop_model.proofs.Names.{Locking, Opening, Unlocking, IsSubsequence, World, Party, set_party, Site, site_of, set_site, is_party, has_block, id_of}
use Rattle.scoop_model.proofs.Names.{handlers_of, is_log_of, handlers_in, ℕ, map, core_of, reopened, is_site}
use Rattle.scoop_model.proofs.Order.Holding.{Upto, IsReachedIn, IsHeldIn, HeldHolds}
pub use Rattle.scoop_handler.proofs.Basics.{all_at, all_found}

-- ---- blocks that were granted

pub record IsGrantedIn (o : Option Site) (b : Block) : Type 0 where
  pub site : Site
  pub found : o ≡ Some site
  pub reached : IsReachedIn site.core.state.marks b

-- the handler has granted the block its lock
abbrev pub IsGranted : World → HandlerId → Block → Type 0
IsGranted w h b = IsGrantedIn (site_of h w) b

-- the block's reserve named the handler
pub record IsNamed (w : World) (h : HandlerId) (b : Block) : Type 0 where
  pub handlers : List HandlerId
  pub set : handlers_of b w ≡ Some handlers
  pub member : has handlers h ≡ true

-- each handler that the block's reserve named has granted it its lock
pub record IsGrantedAtAll (w : World) (b : Block) : Type 0 where
  pub handlers : List HandlerId
  pub set : handlers_of b w ≡ Some handlers
  pub granted : (h : HandlerId) → has handlers h ≡ true → IsGranted w h b

-- the lasting claim of a message that was sent
abbrev pub Tells : World → Message → Type 0
Tells w (Lock h b) = IsNamed w h b
Tells w (Locked h b) = IsGranted w h b
Tells w (Open h b) = IsGrantedAtAll w b
Tells w m = ⊤

-- ---- handlers and clients

-- where a held block is in the common list already, what has opened here stands before it in that list
pub record SiteFits (js : List Block) (s : Site) : Type 0 where
  pub stored : s.stored ≡ s.core.state
  pub holds : HeldHolds s.core.state
  pub next : (b : Block) → IsHeldIn s.core.state.marks b → has_block js b ≡ true → IsSubsequence (s.opened ++ b ∷ []) js
  pub left : IsSubsequence s.opened js

-- while a reservation locks, those of its handlers that are not left have granted it their locks, and then all have
abbrev pub LocksAt : World → ReservationState → Stage → Type 0
LocksAt w r Locking =
    ((h : HandlerId) → has r.left h ≡ true → has r.handlers h ≡ true)
    × ((h : HandlerId) → has r.handlers h ≡ true → has r.left h ≡ false → IsGranted w h r.block)
LocksAt w r Opening = (h : HandlerId) → has r.handlers h ≡ true → IsGranted w h r.block
LocksAt w r Unlocking = ⊤
LocksAt w r GivingUp = ⊤

pub record ReservationFits (w : World) (r : ReservationState) : Type 0 where
  pub named : handlers_of r.block w ≡ Some r.handlers
  pub locks : LocksAt w r r.stage

pub record PartyFits (w : World) (p : Party) : Type 0 where
  pub stored : p.client.inc ≡ p.stored
  pub newest : (b : Block) (hs : List HandlerId) → b.client ≡ id_of p → handlers_of b w ≡ Some hs → Upto b.inc b.num p.client.inc p.client.last
  pub reservation : (r : ReservationState) → p.client.reservation ≡ Some r → ReservationFits w r

pub record Ordered (w : World) : Type 0 where
  pub messages : AllByRecursion (Tells w) w.sent
  pub sites : AllByRecursion (SiteFits w.joint) w.sites
  pub parties : AllByRecursion (PartyFits w) w.parties
  pub joint : (b : Block) → has_block w.joint b ≡ true → IsGrantedAtAll w b

-- ---- what goes on

-- the lasting facts of v hold in w too
pub record Extends (v w : World) : Type 0 where
  pub granted : (h : HandlerId) (b : Block) → IsGranted v h b → IsGranted w h b
  pub sets : (b : Block) (hs : List HandlerId) → handlers_of b v ≡ Some hs → handlers_of b w ≡ Some hs

module _ (v w : World) (x : Extends v w) where
  pub all_more : (b : Block) → IsGrantedAtAll v b → IsGrantedAtAll w b
  all_more b g = record { handlers = g.handlers; set = x.sets b g.handlers g.set; granted = λ h e. x.granted h b (g.granted h e) }

  pub tells_more : (m : Message) → Tells v m → Tells w m
  tells_more (Lock h b) t = record { handlers = t.handlers; set = x.sets b t.handlers t.set; member = t.member }
  tells_more (Locked h b) t = x.granted h b t
  tells_more (Open h b) t = all_more b t
  tells_more m t = tt

  locks_more : (r : ReservationState) (stage : Stage) → LocksAt v r stage → LocksAt w r stage
  locks_more r Locking l = (l.0, λ h e f. x.granted h r.block (l.1 h e f))
  locks_more r Opening l = λ h e. x.granted h r.block (l h e)
  locks_more r stage l = tt

  pub reservation_more : (r : ReservationState) → ReservationFits v r → ReservationFits w r
  reservation_more r f = record { named = x.sets r.block r.handlers f.named; locks = locks_more r r.stage f.locks }

  -- a client stays, where no block was reserved
  pub party_more : v.logs ≡ w.logs → (p : Party) → PartyFits v p → PartyFits w p
  party_more same p f = record {
    stored = f.stored;
    newest = λ b hs own e. f.newest b hs own (subst (λ ls. option_map handlers_in (find (is_log_of b) ls) ≡ Some hs) (sym same) e);
    reservation = λ r e. reservation_more r (f.reservation r e);
  }

-- ---- lists

pub all_more_of : {A : Type 0} (P Q : A → Type 0) → ((a : A) → P a → Q a) → (xs : List A) → AllByRecursion P xs → AllByRecursion Q xs
all_more_of P Q f [] all = tt
all_more_of P Q f (x ∷ xs) all = (f x all.0, all_more_of P Q f xs all.1)

pub all_pushed : {A : Type 0} (P : A → Type 0) (xs : List A) (o : Option A) → AllByRecursion P xs → ((a : A) → o ≡ Some a → P a)
    → AllByRecursion P (xs ++ option_to_list o)
all_pushed P [] None all one = tt
all_pushed P [] (Some a) all one = (one a refl, tt)
all_pushed P (x ∷ xs) o all one = (all.0, all_pushed P xs o all.1 one)

pub all_set_site :
    (P Q : Site → Type 0) (s : Site) (sites : List Site) → Q s → ((x : Site) → P x → Q x) → AllByRecursion P sites → AllByRecursion Q (set_site s sites)
all_set_site P Q s [] own others all = tt
all_set_site P Q s (x ∷ xs) own others all = grind (arith, all_set_site P Q s xs own others)

pub all_set_party :
    (P Q : Party → Type 0) (p : Party) (parties : List Party) → Q p → ((x : Party) → is_party (id_of p) x ≡ false → P x → Q x) → AllByRecursion P parties
    → AllByRecursion Q (set_party p parties)
all_set_party P Q p [] own others all = tt
all_set_party P Q p (x ∷ xs) own others all = grind (arith, all_set_party P Q p xs own others)

-- ---- a node restarts: each of its handlers takes the stored state, which is its own, and forgets the job that was out

module _ (js : List Block) (n : ℕ) where
  -- a handler of the node begins anew from its state, and others stay
  pub by_restart : (P : Site → Type 0) (x : Site) → SiteFits js x → P (record x { core = core_of x.core.class x.core.state false }) → P x → P (reopened n x)
  by_restart P x f anew same = grind arith

  pub state_anew : (x : Site) → SiteFits js x → (reopened n x).core.state ≡ x.core.state
  state_anew x f = by_restart (λ y. y.core.state ≡ x.core.state) x f refl refl

  pub all_anew : (P Q : Site → Type 0) → ((x : Site) → SiteFits js x → P x → Q (reopened n x)) → (xs : List Site) → AllByRecursion (SiteFits js) xs
      → AllByRecursion P xs → AllByRecursion Q (map (reopened n) xs)
  all_anew P Q go [] fits all = tt
  all_anew P Q go (x ∷ xs) fits all = (go x fits.0 all.0, all_anew P Q go xs fits.1 all.1)

  -- the handler that is found is the one that was
  pub found_anew : (P : Option Site → Type 0) (h : HandlerId) → ((x : Site) → SiteFits js x → P (Some x) → P (Some (reopened n x))) → (xs : List Site)
      → AllByRecursion (SiteFits js) xs → P (find (is_site h) xs) → P (find (is_site h) (map (reopened n) xs))
  found_anew P h go [] fits p = p
  found_anew P h go (x ∷ xs) fits p = grind (arith, state_anew, found_anew P h go xs)
