-- A client's move keeps the incarnation of its block known at every handler, and that of each block that it names. A client
-- reserves only once no handler is left to greet. Each Welcome says that the handler's mark has come to the client's incarnation.
-- So from the reserve on every handler knows the incarnation of the block.
use Rattle.scoop_model.proofs.Names.{◌≡◌, List, Some, refl, subst, arith, Ok, Option, true, false, same_Some, Message, HandlerId, StepRow, steps_over, asked}
use Rattle.scoop_model.proofs.Names.{has, is_empty, without, fresh, ReservationState, at_stage, GivingBack, Step, command, next_block, ClientState}
use Rattle.scoop_model.proofs.Names.{with_windows, with_reservation, phase_of, Command, Idle, World, Site}
use Rattle.scoop_model.proofs.Order.{is_gone_one, none_in_empty}
use Rattle.scoop_model.proofs.Logging.{Greets}
use Rattle.scoop_model.proofs.Knowing.Facts.{HasGreeted, Known, IsKnown, Names, ClientKnown}
use Rattle.scoop_model.proofs.Moves.{Sends, sends_hello, sends_lock, sends_open, sends_unlock, sends_back, sends_log, Notices, passes_over, is_greeted}
use Rattle.scoop_model.proofs.Moves.{steps_on, is_over, Takes, takes_reserve, takes_give_up, takes}

-- a reservation keeps its block
pub step_block : (r : ReservationState) (m : Message) (s : ReservationState) (st : Step) → StepRow r m s st → r.block ≡ s.block
step_block r m s st (steps_over n) = refl
step_block r m s st row = refl

module _ (hs : Known) (ss : List Site) where
  -- ---- what a client owes

  pub due_names : (c : ClientState) (h : HandlerId) → ClientKnown hs ss c → (m : Message) → Sends c h m → Names hs ss m
  due_names c h k m (sends_hello left) = λ b e. absurd (cc)
  due_names c h k m (sends_lock r held at low) = λ b e. subst (IsKnown hs ss) (same_Some r.block b e) (k.block r held)
  due_names c h k m (sends_open r held at is) = λ b e. subst (IsKnown hs ss) (same_Some r.block b e) (k.block r held)
  due_names c h k m (sends_unlock r held at is) = λ b e. subst (IsKnown hs ss) (same_Some r.block b e) (k.block r held)
  due_names c h k m (sends_back r held at is) = λ b e. subst (IsKnown hs ss) (same_Some r.block b e) (k.block r held)
  due_names c h k m (sends_log r l held free opened window some) = λ b e. subst (IsKnown hs ss) (same_Some r.block b e) (k.block r held)

  -- ---- a client hears a message

  -- nothing but the reservation changes, in the same block
  in_block :
      (c : ClientState) (r s : ReservationState) → ClientKnown hs ss c → c.reservation ≡ Some r → r.block ≡ s.block → ClientKnown hs ss (with_reservation c s)
  in_block c r s k has_one same = grind (arith, same_Some)

  windows_known : (c : ClientState) (windows : List _) (waits : Option _) → ClientKnown hs ss c → ClientKnown hs ss (with_windows c windows waits)
  windows_known c windows waits k = record { handlers = k.handlers; greeted = k.greeted; block = k.block }

  -- one more handler has welcomed the client
  welcomed_known : (c : ClientState) (h : HandlerId) → ClientKnown hs ss c → HasGreeted ss h c.id c.inc → (x : HandlerId) → has (hs c.id) x ≡ true
      → has (without h c.unwelcomed) x ≡ false → HasGreeted ss x c.id c.inc
  welcomed_known c h k now x e f = grind (arith, is_gone_one)

-- the client stays known by what it hears
pub hears_known_by : (hs : Known) (w : World) (c : ClientState) (m : Message) (d : ClientState) → Notices c m d → Greets w m → ClientKnown hs w.sites c
    → ClientKnown hs w.sites d
hears_known_by hs w c m d (passes_over n) g k = k
hears_known_by hs w c m d (is_greeted h) g k = record { handlers = k.handlers; greeted = welcomed_known hs w.sites c h k g; block = k.block }
hears_known_by hs w c m d (steps_on n r s st held row) g k = in_block hs w.sites c r s k held (step_block r n s st row)
hears_known_by hs w c m d (is_over n) g k = record { handlers = k.handlers; greeted = k.greeted; block = λ r e. absurd (cc) }
hears_known_by hs w c m d row g k = windows_known hs w.sites c _ _ k

-- ---- a client takes a command

-- an idle client has been welcomed everywhere
pub none_left : (c : ClientState) → phase_of c ≡ Idle → is_empty c.unwelcomed ≡ true
none_left c e = grind arith

takes_known : (hs : Known) (ss : List Site) (c : ClientState) (x : Command) (d : ClientState) → Takes c x d → ClientKnown hs ss c → ClientKnown hs ss d
takes_known hs ss c x d (takes_reserve ks at_idle begins) k = grind (arith, same_Some, fresh, next_block, none_in_empty, none_left)
takes_known hs ss c x d (takes_give_up r held at) k = in_block hs ss c r (at_stage r GivingBack (asked r.handlers r.left)) k held refl
takes_known hs ss c x d t k = windows_known hs ss c d.windows d.waits k

pub command_known : (hs : Known) (ss : List Site) (c d : ClientState) → ClientKnown hs ss c → (x : Command) → command c x ≡ Ok d → ClientKnown hs ss d
command_known hs ss c d k x e = takes_known hs ss c x d (takes c d x e) k
