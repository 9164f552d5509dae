-- A fact about a handler and a block that each Locked brings, and that lasts. A reservation that locks has it at each of its
-- handlers that isn't left, and one that opens has it at all of them. A client's move keeps that.
use Rattle.scoop_model.proofs.Names.{◌≡◌, Some, refl, sym, ◌∙◌, subst, Ok, true, false, true≢false, same_Some, ⊤, Message, Locked, Block, HandlerId, by_test}
use Rattle.scoop_model.proofs.Names.{StepRow, one_is_locked, all_are_locked, one_is_opened, all_are_opened, is_unlocked, is_given_back, asked, has, without}
use Rattle.scoop_model.proofs.Names.{fresh, ReservationState, at_stage, Stage, GivingBack, Locking, Opening, Unlocking, Step, heard, ClientState, Command}
use Rattle.scoop_model.proofs.Order.{is_gone_one, none_in_empty}
use Rattle.scoop_model.proofs.Moves.{Notices, steps_on, is_over, hears, Takes, takes_reserve, takes_give_up, takes}
use Rattle.scoop_client.specs.Commands as client

abbrev pub Locks : (HandlerId → Block → Type 0) → ReservationState → Stage → Type 0
Locks G r Locking = (h : HandlerId) → has r.handlers h ≡ true → has r.left h ≡ false → G h r.block
Locks G r Opening = (h : HandlerId) → has r.handlers h ≡ true → G h r.block
Locks G r Unlocking = ⊤
Locks G r GivingBack = ⊤

pub record HasLocks (G : HandlerId → Block → Type 0) (r : ReservationState) : Type 0 where
  pub stage : Locks G r r.stage

-- it lasts
pub locks_more : (G H : HandlerId → Block → Type 0) (r : ReservationState) → ((h : HandlerId) → G h r.block → H h r.block) → HasLocks G r → HasLocks H r
locks_more G H r on f = record { stage = mapped r.stage f.stage }
  where
    mapped : (stage : Stage) → Locks G r stage → Locks H r stage
    mapped Locking g = λ h member gone. on h (g h member gone)
    mapped Opening g = λ h member. on h (g h member)
    mapped stage g = tt

module _ (G : HandlerId → Block → Type 0) (c : ClientState) (i : (r : ReservationState) → c.reservation ≡ Some r → HasLocks G r) where
  abbrev AllLock : ClientState → Type 0
  AllLock d = (s : ReservationState) → d.reservation ≡ Some s → HasLocks G s

  -- ---- a client hears

  -- the claim of a Locked while the reservation locks
  abbrev pub Tells : Message → Type 0
  Tells m = (r : ReservationState) → c.reservation ≡ Some r → r.stage ≡ Locking → (h : HandlerId) → m ≡ Locked h r.block → G h r.block

  -- one more handler isn't left
  one_more : (r : ReservationState) → c.reservation ≡ Some r → r.stage ≡ Locking → (h : HandlerId) → Tells (Locked h r.block) → (x : HandlerId)
      → has r.handlers x ≡ true → has (without h r.left) x ≡ false → G x r.block
  one_more r held is h t x member gone =
      by_test (λ _. G x r.block) (has r.left x)
      (λ left. subst (λ j. G j r.block) (is_gone_one h x r.left left gone) (t r held is h refl))
      (λ off. (subst (Locks G r) is (i r held).stage) x member off)

  step_locks : (r : ReservationState) → c.reservation ≡ Some r → (m : Message) (s : ReservationState) (st : Step) → StepRow r m s st → Tells m → HasLocks G s
  step_locks r held m s st (one_is_locked h is low rest) t = record { stage = one_more r held is h t }
  step_locks r held m s st (all_are_locked h is low all) t =
      record { stage = λ x member. one_more r held is h t x member (none_in_empty (without h r.left) x all) }
  step_locks r held m s st (one_is_opened h is left rest) t = record { stage = subst (Locks G r) is (i r held).stage }
  step_locks r held m s st (all_are_opened h is left all) t = record { stage = tt }
  step_locks r held m s st (is_unlocked h is left) t = record { stage = tt }
  step_locks r held m s st (is_given_back h is left) t = record { stage = tt }
  step_locks r held m s st row t = i r held

  hears_locks : (m : Message) (d : ClientState) → Notices c m d → Tells m → AllLock d
  hears_locks m d (steps_on n r s st held row) t = λ q e. subst (HasLocks G) (same_Some s q e) (step_locks r held m s st row t)
  hears_locks m d (is_over n) t = λ r e. absurd (cc)
  hears_locks m d n t = i

  pub heard_locks : (m : Message) → Tells m → AllLock (heard c m).0
  heard_locks m t = hears_locks m (heard c m).0 (hears c m) t

  -- ---- a client takes a command

  takes_locks : (x : Command) (d : ClientState) → Takes c x d → AllLock d
  takes_locks x d (takes_reserve hs at_idle begins) = λ s held.
      subst (HasLocks G) (same_Some (fresh (client.next_block c) hs) s held) (record { stage = λ h member gone. absurd (true≢false (sym member ∙ gone)) })
  takes_locks x d (takes_give_up r held at) = λ s e.
      subst (HasLocks G) (same_Some (at_stage r GivingBack (asked r.handlers r.left)) s e) (record { stage = tt })
  takes_locks x d t = i

  pub command_locks : (d : ClientState) (x : Command) → client.command c x ≡ Ok d → AllLock d
  command_locks d x e = takes_locks x d (takes c d x e)
