-- A client keeps its block and its waiting query while it hears: a message leaves either the same, or ends it. So in
-- turns without a command a running block is the one that was reserved, and an accepted answer is that of the query
-- that waited before them.
use Rattle.std.proofs.Common.{◌≡◌, ℕ, ◌==◌, ◌⊎◌, List, [], ◌∷◌, length, Option, Some, None, Result, Ok, Err, Bool, true, false, arith, refl, ap, sym, ◌∙◌}
use Rattle.std.proofs.Common.{subst, inl, inr}
use Rattle.std.proofs.lemmas.List.Elements.{Contains-push_cases, Contains-append_cases}
use Rattle.std.specs.Prelude.{if◌then◌else◌, nat_lt, Contains}
use Rattle.scoop_message.specs.declared.limits.TheConstants.{MAX_BLOCK_HANDLERS}
use Rattle.scoop_message.specs.declared.name.HandlerId.{HandlerId}
use Rattle.scoop_message.specs.declared.name.Block.{Block}
use Rattle.scoop_message.specs.declared.request.Answer.{Answer as ObjectAnswer}
use Rattle.scoop_message.specs.declared.message.Message.{Message}
use Rattle.scoop_reserve.specs.declared.stage.Step.{Step as Taken}
use Rattle.scoop_reserve.specs.declared.stage.Step.TheVariants as step
use Rattle.scoop_reserve.specs.declared.error.ReserveError.{ReserveError}
use Rattle.scoop_reserve.specs.declared.error.ReserveError.TheVariants.{Empty, TooMany}
use Rattle.scoop_reserve.specs.Handlers.{is_empty, first_repeated, first_unknown}
use Rattle.scoop_reserve.specs.State.{ReservationState}
use Rattle.scoop_reserve.specs.Starting.{started, unless_repeated, fresh}
use Rattle.scoop_reserve.specs.Hearing.{is_gone}
use Rattle.scoop_reserve.specs.Hearing as reservation
use Rattle.scoop_reserve.proofs.Rows as reserved
use Rattle.scoop_client.specs.declared.phase.ClientNote.{ClientNote}
use Rattle.scoop_client.specs.declared.phase.ClientNote.TheVariants.{Welcomed, Locked, Busy, Opened, Unlocked, Acknowledged, Accepted, Ignored}
use Rattle.scoop_client.specs.declared.phase.Phase.TheVariants.{Greeting, Running}
use Rattle.scoop_client.specs.Window.{WindowState, all_over, acknowledged, at_window}
use Rattle.scoop_client.specs.State.{ClientState, phase_of, phase_of_block, block_of, idle, with_windows, with_reservation}
use Rattle.scoop_client.specs.Hearing.{heard, after_step, stepped, up_to}
use Rattle.scoop_client.specs.declared.command.Command.TheVariants.{Reserve}
use Rattle.scoop_client.specs.Commands.{Outcome, command, next_block}
use Rattle.scoop_client.specs.Rows.{HeardRow, passed_over, is_welcomed, takes_step, is_acknowledged, is_accepted, ReserveRow, reserve_not_greeted}
use Rattle.scoop_client.specs.Rows.{reserve_not_idle, reserve_spent, reserve_refused, begins_block}
use Rattle.scoop_client.proofs.Rows.{heard_row}
use Rattle.scoop_client.proofs.CommandRows.{command_row}
use Rattle.scoop_driver.specs.declared.step.Step.{Step}
use Rattle.scoop_driver.specs.declared.step.Step.TheVariants.{Gave, Turned, Broke}
use Rattle.scoop_driver.specs.Steps.{after_message, commands_by, message_in, note_of, notes_by, walk}
use Rattle.scoop_driver.specs.Calls.{RunsNext}

-- ---- the effect of a message

abbrev SameOrNone : {X : Type 0} → Option X → Option X → Type 0
SameOrNone x y = (y ≡ x) ⊎ (y ≡ None)

-- the block is the same or over, and the waiting query is the same or none
record Keeps (c d : ClientState) : Type 0 where
  block : SameOrNone (block_of c.reservation) (block_of d.reservation)
  waits : SameOrNone c.waits d.waits

same : (c : ClientState) → Keeps c c
same c = record { block = inl refl; waits = inl refl }

over : (c : ClientState) → Keeps c (idle c)
over c = record { block = inr refl; waits = inr refl }

block_stays : (r s : ReservationState) (m : Message) (t : Taken) → reserved.HeardRow r m s t → s.block ≡ r.block
block_stays r s m t (reserved.passed_over x) = refl
block_stays r s m t (reserved.one_is_locked h p q u) = refl
block_stays r s m t (reserved.all_are_locked h p q u) = refl
block_stays r s m t (reserved.is_busy h p q) = refl
block_stays r s m t (reserved.one_is_opened h p q u) = refl
block_stays r s m t (reserved.all_are_opened h p q u) = refl
block_stays r s m t (reserved.is_unlocked h p q) = refl
block_stays r s m t (reserved.is_given_back h p q) = refl

by_test : (b : Bool) (c d e : ClientState) → Keeps c d → Keeps c e → Keeps c (if b then d else e)
by_test true c d e first second = first
by_test false c d e first second = second

stepped_keeps : (c : ClientState) (r s : ReservationState) → c.reservation ≡ Some r → s.block ≡ r.block → Keeps c (stepped c s)
stepped_keeps c r s held is =
    by_test (is_gone s) c (idle c) (with_reservation c s) (over c) (record { block = inl (ap Some is ∙ sym (ap block_of held)); waits = inl refl })

step_keeps : (c : ClientState) (r s : ReservationState) (t : Taken) → c.reservation ≡ Some r → s.block ≡ r.block → Keeps c (after_step c s t).0
step_keeps c r s (step.Locked h) held is = stepped_keeps c r s held is
step_keeps c r s (step.Busy h) held is = stepped_keeps c r s held is
step_keeps c r s (step.Opened h) held is = stepped_keeps c r s held is
step_keeps c r s (step.Unlocked h) held is = stepped_keeps c r s held is
step_keeps c r s step.Ignored held is = same c

row_keeps : (c d : ClientState) (m : Message) (told : ClientNote) → HeardRow c m d told → Keeps c d
row_keeps c d m told (passed_over x) = same c
row_keeps c d m told (is_welcomed h among) = record { block = inl refl; waits = inl refl }
row_keeps c d m told (takes_step x r held) =
    step_keeps c r (reservation.heard r m).0 (reservation.heard r m).1 held
    (block_stays r (reservation.heard r m).0 m (reservation.heard r m).1 (reserved.heard_row r m))
row_keeps c d m told (is_acknowledged h n r l held opened window new) =
    let d = with_windows c (at_window h (acknowledged (up_to h n c.waits)) c.windows) c.waits in
    by_test (all_over d.windows) c (idle d) d (record { block = inr refl; waits = inr refl }) (record { block = inl refl; waits = inl refl })
row_keeps c d m told (is_accepted h n a r held opened waits) = record { block = inl refl; waits = inr refl }

heard_keeps : (c : ClientState) (m : Message) → Keeps c (heard c m).0
heard_keeps c m = row_keeps c (heard c m).0 m (heard c m).1 (heard_row c m)

message_keeps : (c : ClientState) (o : Option Message) → Keeps c (after_message c o)
message_keeps c None = same c
message_keeps c (Some m) = heard_keeps c m

-- ---- over turns

after_both : {X : Type 0} (x y z : Option X) → SameOrNone x y → SameOrNone y z → SameOrNone x z
after_both x y z (inl was) (inl is) = inl (is ∙ was)
after_both x y z (inr was) (inl is) = inr (is ∙ was)
after_both x y z first (inr none) = inr none

keeps_on : (c d e : ClientState) → Keeps c d → Keeps d e → Keeps c e
keeps_on c d e first second = record {
  block = after_both (block_of c.reservation) (block_of d.reservation) (block_of e.reservation) first.block second.block;
  waits = after_both c.waits d.waits e.waits first.waits second.waits;
}

walk_keeps : (ss : List Step) (c : ClientState) → commands_by ss ≡ [] → Keeps c (walk c ss)
walk_keeps [] c silent = same c
walk_keeps (Gave x ∷ ss) c silent = cc
walk_keeps (Turned got ∷ ss) c silent =
    let d = after_message c (message_in got) in keeps_on c d (walk d ss) (message_keeps c (message_in got)) (walk_keeps ss d silent)
walk_keeps (Broke place ∷ ss) c silent = walk_keeps ss c silent

-- ---- a block that runs

idle_or_not : (b : Bool) (ls : List WindowState) (r : Option ReservationState) → block_of r ≡ None → (if b then phase_of_block ls r else Greeting) ≡ Running → ⊥
idle_or_not true ls None none is = cc
idle_or_not true ls (Some r) none is = cc
idle_or_not false ls r none is = cc

has_block : (d : ClientState) → phase_of d ≡ Running → block_of d.reservation ≡ None → ⊥
has_block d running none = idle_or_not (is_empty d.unwelcomed) d.windows d.reservation none running

started_anew : (b : Block) (hs : List HandlerId) (o p : Option HandlerId) (r : ReservationState) → unless_repeated (fresh b hs) o p ≡ Ok r → r.block ≡ b
started_anew b hs (Some h) p r is = cc
started_anew b hs None (Some h) r is = cc
started_anew b hs None None r is = (let new : fresh b hs ≡ r = cc in sym (ap (λ (x : ReservationState). x.block) new))

in_both : (x y : Bool) (b : Block) (r : ReservationState) (o : Result ReservationState ReserveError) → (o ≡ Ok r → r.block ≡ b)
    → (if x then Err Empty else if y then Err TooMany else o) ≡ Ok r → r.block ≡ b
in_both true y b r o h is = cc
in_both false true b r o h is = cc
in_both false false b r o h is = h is

started_block : (b : Block) (hs known : List HandlerId) (r : ReservationState) → started b hs known ≡ Ok r → r.block ≡ b
started_block b hs known r is =
    in_both (length hs == 0) (nat_lt MAX_BLOCK_HANDLERS (length hs)) b r (unless_repeated (fresh b hs) (first_repeated hs) (first_unknown known hs))
    (started_anew b hs (first_repeated hs) (first_unknown known hs) r) is

abbrev block_after : Outcome → Option Block
block_after (Ok d) = block_of d.reservation
block_after (Err e) = None

reserves_next : (c d : ClientState) (hs : List HandlerId) (o : Outcome) → ReserveRow c hs o → o ≡ Ok d → block_of d.reservation ≡ Some (next_block c)
reserves_next c d hs o (reserve_not_greeted g) is = cc
reserves_next c d hs o (reserve_not_idle b i) is = cc
reserves_next c d hs o (reserve_spent i s) is = cc
reserves_next c d hs o (reserve_refused x i f s) is = cc
reserves_next c d hs o (begins_block r i f s) is = sym (ap block_after is) ∙ ap Some (started_block (next_block c) hs c.handlers r s)

-- once it runs, the reserved block is the next one
pub runs_next : (hs : List HandlerId) (ss : List Step) (c d e : ClientState) → command c (Reserve hs) ≡ Ok d → commands_by ss ≡ [] → e ≡ walk d ss
    → phase_of e ≡ Running → RunsNext c e
runs_next hs ss c d e reserved silent is running =
    let first = reserves_next c d hs (command c (Reserve hs)) (command_row c (Reserve hs)) reserved in
    let kept : Keeps d e = subst (Keeps d) (sym is) (walk_keeps ss d silent) in
    record { running = running; block = elim kept.block [ inl stays ↦ stays ∙ first | inr none ↦ absurd (has_block e running none) ] }

-- ---- an answer is that of the waiting query

abbrev asked_by : ClientNote → Option (HandlerId × ℕ)
asked_by (Accepted h n a) = Some (h, n)
asked_by (Welcomed h) = None
asked_by (Locked h) = None
asked_by (Busy h) = None
asked_by (Opened h) = None
asked_by (Unlocked h) = None
asked_by (Acknowledged h n) = None
asked_by Ignored = None

step_accepts : (c : ClientState) (r : ReservationState) (t : Taken) (h : HandlerId) (n : ℕ) (a : ObjectAnswer) → (after_step c r t).1 ≡ Accepted h n a → ⊥
step_accepts c r (step.Locked k) h n a is = cc
step_accepts c r (step.Busy k) h n a is = cc
step_accepts c r (step.Opened k) h n a is = cc
step_accepts c r (step.Unlocked k) h n a is = cc
step_accepts c r step.Ignored h n a is = cc

accepts : (c d : ClientState) (m : Message) (told : ClientNote) (h : HandlerId) (n : ℕ) (a : ObjectAnswer) → HeardRow c m d told → told ≡ Accepted h n a
    → c.waits ≡ Some (h, n)
accepts c d m told h n a (passed_over x) is = cc
accepts c d m told h n a (is_welcomed k among) is = cc
accepts c d m told h n a (takes_step x r held) is = absurd (step_accepts c (reservation.heard r m).0 (reservation.heard r m).1 h n a is)
accepts c d m told h n a (is_acknowledged k i r l held opened window new) is = cc
accepts c d m told h n a (is_accepted k i b r held opened waits) is = waits ∙ ap asked_by is

nothing_in : {X P : Type 0} (x : X) → Contains [] x → P
nothing_in x (k, within, is) = absurd (omega (arith, within))

only_one : {X : Type 0} (x y : X) → Contains (y ∷ []) x → y ≡ x
only_one x y h = elim (Contains-push_cases [] y x h) [ inl none ↦ nothing_in x none | inr is ↦ is ]

message_accepts : (c : ClientState) (o : Option Message) (h : HandlerId) (n : ℕ) (a : ObjectAnswer) → Contains (note_of c o) (Accepted h n a)
    → c.waits ≡ Some (h, n)
message_accepts c None h n a there = nothing_in (Accepted h n a) there
message_accepts c (Some m) h n a there = accepts c (heard c m).0 m (heard c m).1 h n a (heard_row c m) (only_one (Accepted h n a) (heard c m).1 there)

still_waits : (x y : Option (HandlerId × ℕ)) (w : HandlerId × ℕ) → SameOrNone x y → y ≡ Some w → x ≡ Some w
still_waits x y w (inl is) waits = sym is ∙ waits
still_waits x y w (inr none) waits = cc

-- an answer that is accepted in turns alone is that of the query that waited before them
pub accepted_waits : (ss : List Step) (c : ClientState) (h : HandlerId) (n : ℕ) (a : ObjectAnswer) → commands_by ss ≡ []
    → Contains (notes_by c ss) (Accepted h n a) → c.waits ≡ Some (h, n)
accepted_waits [] c h n a silent there = nothing_in (Accepted h n a) there
accepted_waits (Gave x ∷ ss) c h n a silent there = cc
accepted_waits (Turned got ∷ ss) c h n a silent there =
    let d = after_message c (message_in got) in
    elim (Contains-append_cases (note_of c (message_in got)) (notes_by d ss) (Accepted h n a) there) [
      | inl now ↦ message_accepts c (message_in got) h n a now
      | inr later ↦ still_waits c.waits d.waits (h, n) (message_keeps c (message_in got)).waits (accepted_waits ss d h n a silent later)
    ]
accepted_waits (Broke place ∷ ss) c h n a silent there = accepted_waits ss c h n a silent there
