-- A block that opened somewhere stands at each of its handlers: it has opened there, holds the lock there, or is past there. This
-- file has the invariant, together with the claims of messages.
use Rattle.scoop_model.proofs.Names.{◌≡◌, ℕ, ◌<◌, List, [], ◌∷◌, ◌++◌, Some, None, refl, sym, ap, ◌∙◌, subst, arith, Option, true, if◌then◌else◌, zero, suc}
use Rattle.scoop_model.proofs.Names.{slice_get, true≢false, ◌||◌, ◌==◌, ◌-◌, option_to_list, ◌⊎◌, ⊎_elim, AllByRecursion, list_any, Message, Locked, Block}
use Rattle.scoop_model.proofs.Names.{ClientId, HandlerId, by_test, MarksGrow, mark_of, Mark, has, ReservationState, Stage, Locking, Opening, locking_giving}
use Rattle.scoop_model.proofs.Names.{opening_giving, World, Party, Site, site_of, sent_at, has_block, party_of, handlers_of}
use Rattle.scoop_model.proofs.Locking.{Locks, HasLocks, locks_more}
use Rattle.scoop_model.proofs.Order.{IsHeldIn, reached_more, all_more_of, all_pushed}
use Rattle.scoop_model.proofs.Logging.{IsGivenUp, Onto, is_open_of}

-- ---- where a block stands

-- the mark is of a newer incarnation of the block's client
pub record IsPastIn (marks : List Mark) (b : Block) : Type 0 where
  pub mark : Mark
  pub found : mark_of b.client marks ≡ Some mark
  pub newer : b.inc < mark.inc

abbrev pub StandsIn : Site → Block → Type 0
StandsIn s b = (has_block s.opened b ≡ true) ⊎ (IsHeldIn s.core.state.marks b ⊎ IsPastIn s.core.state.marks b)

pub record StandsFor (o : Option Site) (b : Block) : Type 0 where
  pub site : Site
  pub found : o ≡ Some site
  pub stands : StandsIn site b

abbrev pub StandsAt : World → HandlerId → Block → Type 0
StandsAt w h b = StandsFor (site_of h w) b

-- at each handler that the block's reserve named
pub record StandsAtAll (w : World) (b : Block) : Type 0 where
  pub handlers : List HandlerId
  pub set : handlers_of b w ≡ Some handlers
  pub stands : (h : HandlerId) → has handlers h ≡ true → StandsAt w h b

-- ---- what is kept

-- a block with a Locked that was sent stands there, or was given up
pub record LockedStands (w : World) (m : Message) : Type 0 where
  pub stands : (h : HandlerId) (b : Block) → m ≡ Locked h b → StandsAt w h b ⊎ IsGivenUp w b

-- an Open of the block was sent
abbrev pub HasOpen : World → Block → Type 0
HasOpen w b = list_any (is_open_of b) w.sent ≡ true

-- while a reservation locks, its block stands at those of its handlers that are not left, and then at all
abbrev pub StageStands : World → ReservationState → Stage → Type 0
StageStands w r stage = Locks (StandsAt w) r stage

abbrev pub ReservationStands : World → ReservationState → Type 0
ReservationStands w r = HasLocks (StandsAt w) r

pub record Standing (w : World) : Type 0 where
  pub locked : AllByRecursion (LockedStands w) w.sent
  pub opened : (b : Block) → HasOpen w b → StandsAtAll w b
  pub joint : (b : Block) → has_block w.joint b ≡ true → HasOpen w b
  pub parties : (c : ClientId) (p : Party) → party_of c w ≡ Some p → (r : ReservationState) → p.client.reservation ≡ Some r → ReservationStands w r

-- ---- what it shows

-- a block of the common list stands at each of its handlers
pub joint_stands : (w : World) → Standing w → (b : Block) → has_block w.joint b ≡ true → StandsAtAll w b
joint_stands w i b e = i.opened b (i.joint b e)

-- ---- what goes on

-- a mark that is past a block stays past it
pub past_more : (old new : List Mark) (b : Block) → MarksGrow old new → IsPastIn old b → IsPastIn new b
past_more old new b grows p = grind (arith, reached_more)

-- where a block stood it stands on, or it was given up
pub record StandsOn (v w : World) : Type 0 where
  pub onto : Onto v w
  pub stands : (h : HandlerId) (b : Block) → StandsAt v h b → StandsAt w h b ⊎ IsGivenUp v b

any_before : (b : Block) (ms : List Message) (o : Option Message) → list_any (is_open_of b) ms ≡ true → list_any (is_open_of b) (ms ++ option_to_list o) ≡ true
any_before b [] o e = absurd (true≢false (sym e))
any_before b (m ∷ ms) o e = grind (arith, any_before b ms o)

-- the new message is an Open of the block
pub record IsNewOpen (b : Block) (o : Option Message) : Type 0 where
  pub message : Message
  pub is : o ≡ Some message
  pub opens : is_open_of b message ≡ true

any_pushed : (b : Block) (ms : List Message) (o : Option Message) → list_any (is_open_of b) (ms ++ option_to_list o) ≡ true
    → (list_any (is_open_of b) ms ≡ true) ⊎ IsNewOpen b o
any_pushed b [] None e = absurd (true≢false (sym e))
any_pushed b [] (Some m) e = grind arith
any_pushed b (m ∷ ms) o e = grind (arith, any_pushed b ms o)

-- a message that was sent is among those that were
pub open_sent : (w : World) (k : ℕ) (m : Message) (b : Block) → sent_at k w ≡ Some m → is_open_of b m ≡ true → HasOpen w b
open_sent w k m b was opens =
    by_test (λ t. (if t then None else slice_get w.sent (k - 1)) ≡ Some m → HasOpen w b) (k == 0)
    (λ nowhere e. absurd (cc))
    (λ place e. any_at w.sent (k - 1) e) was
  where
    any_at : (ms : List Message) (j : ℕ) → slice_get ms j ≡ Some m → list_any (is_open_of b) ms ≡ true
    any_at [] j e = absurd (cc)
    any_at (x ∷ xs) zero e = let same : x ≡ m = cc in ap (λ t. t || list_any (is_open_of b) xs) (subst (λ y. is_open_of b y ≡ true) (sym same) opens)
    any_at (x ∷ xs) (suc j) e =
        let rest = any_at xs j e in by_test (λ t. (t || list_any (is_open_of b) xs) ≡ true) (is_open_of b x) (λ here. refl) (λ there. rest)

module _ (v w : World) (x : StandsOn v w) (i : Standing v) where
  pub locked_more : (m : Message) → LockedStands v m → LockedStands w m
  locked_more m f = grind arith

  -- no block of which an Open was sent was given up
  open_stands : (b : Block) → HasOpen v b → StandsAtAll w b
  open_stands b e =
      let all = i.opened b e in
      record {
        handlers = all.handlers;
        set = x.onto.sets b all.handlers all.set;
        stands = λ h member. ⊎_elim (λ (on : StandsAt w h b). on) (λ (g : IsGivenUp v b). absurd (true≢false (sym e ∙ g.none)))
            (x.stands h b (all.stands h member));
      }

  -- nor is that of a reservation that locks or opens
  not_given : (r : ReservationState) → (IsGivenUp v r.block → ⊥) → (h : HandlerId) → StandsAt v h r.block → StandsAt w h r.block
  not_given r off h there = ⊎_elim (λ (on : StandsAt w h r.block). on) (λ (g : IsGivenUp v r.block). absurd (off g)) (x.stands h r.block there)

  pub stage_more :
      (c : ClientId) (p : Party) → party_of c v ≡ Some p → (r : ReservationState) → p.client.reservation ≡ Some r → (stage : Stage) → r.stage ≡ stage
      → StageStands v r stage → StageStands w r stage
  stage_more c p at r held Locking is f = λ h member gone. not_given r (λ g. locking_giving (sym is ∙ g.left c p at r held refl)) h (f h member gone)
  stage_more c p at r held Opening is f = λ h member. not_given r (λ g. opening_giving (sym is ∙ g.left c p at r held refl)) h (f h member)
  stage_more c p at r held stage is f = tt

  pub reservation_more : (c : ClientId) (p : Party) → party_of c v ≡ Some p → (r : ReservationState) → p.client.reservation ≡ Some r → ReservationStands w r
  reservation_more c p at r held = record { stage = stage_more c p at r held r.stage refl (i.parties c p at r held).stage }

  -- a reservation of the new world
  pub reservation_on : (r : ReservationState) → ((h : HandlerId) → StandsAt v h r.block → StandsAt w h r.block) → ReservationStands v r → ReservationStands w r
  reservation_on r on f = locks_more (StandsAt v) (StandsAt w) r on f

  -- one message may be new
  pub standing_more : (o : Option Message) → w.sent ≡ v.sent ++ option_to_list o
      → ((m : Message) → o ≡ Some m → LockedStands w m)
      → ((b : Block) → IsNewOpen b o → StandsAtAll w b)
      → ((b : Block) → has_block w.joint b ≡ true → HasOpen v b)
      → ((c : ClientId) (p : Party) → party_of c w ≡ Some p → (r : ReservationState) → p.client.reservation ≡ Some r → ReservationStands w r)
      → Standing w
  standing_more o sent new opens joint parties = record {
    locked = subst (AllByRecursion (LockedStands w)) (sym sent)
        (all_pushed (LockedStands w) v.sent o (all_more_of (LockedStands v) (LockedStands w) locked_more v.sent i.locked) new);
    opened = λ b e.
        ⊎_elim (λ (old : HasOpen v b). open_stands b old) (λ (fresh : IsNewOpen b o). opens b fresh)
        (any_pushed b v.sent o (subst (λ ms. list_any (is_open_of b) ms ≡ true) sent e));
    joint = λ b e. subst (λ ms. list_any (is_open_of b) ms ≡ true) (sym sent) (any_before b v.sent o (joint b e));
    parties = parties;
  }
