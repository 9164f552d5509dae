-- The refusals that a command may get. A client refuses a command by its table, or at last because memory ran out. Each
-- row of the table that refuses names its refusal. So, row by row, a reserve or a give up is refused by the table and
-- never for a full window, and no row names memory. A reserve that is taken has at most as many handlers as a block may
-- have, and a query that is taken waits. The driver's calls take their errors from these.
use Rattle.std.proofs.Common.{◌≡◌, ℕ, ◌+◌, ◌==◌, ◌≤◌, Bool, true, false, List, length, Option, Some, None, Result, Ok, Err, refl, ap, sym, ◌∙◌, subst, arith}
use Rattle.std.specs.Prelude.{if◌then◌else◌, nat_lt, IsOk}
use Rattle.std.proofs.lemmas.Bool.Decides.{nat_tests}
use Rattle.scoop_message.specs.declared.limits.TheConstants.{MAX_BLOCK_HANDLERS}
use Rattle.scoop_message.specs.declared.name.HandlerId.{HandlerId}
use Rattle.scoop_message.specs.declared.request.Entry.{Entry}
use Rattle.scoop_message.specs.declared.request.Entry.TheVariants.{Call as Called, Query as Asked}
use Rattle.scoop_message.specs.declared.request.Request.{Request}
use Rattle.scoop_reserve.specs.declared.error.ReserveError.{ReserveError}
use Rattle.scoop_reserve.specs.declared.error.ReserveError.TheVariants.{Empty, TooMany}
use Rattle.scoop_reserve.specs.State.{ReservationState}
use Rattle.scoop_reserve.specs.Handlers.{first_repeated, first_unknown}
use Rattle.scoop_reserve.specs.Starting.{started, unless_repeated, fresh}
use Rattle.scoop_client.specs.declared.error.ClientError.{ClientError}
use Rattle.scoop_client.specs.declared.error.ClientError.TheVariants.{NotGreeted, NotIdle, NoBlock, Waiting, NotReserved, WindowFull, TooLate, Spent}
use Rattle.scoop_client.specs.declared.error.ClientError.TheVariants.{Reserve as NotReservable, OutOfMemory}
use Rattle.scoop_client.specs.Window.{logged}
use Rattle.scoop_client.specs.State.{ClientState}
use Rattle.scoop_client.specs.declared.command.Command.{Command}
use Rattle.scoop_client.specs.declared.command.Command.TheVariants.{Reserve, Call as DoCall, Query as DoQuery, End as DoEnd, GiveUp}
use Rattle.scoop_client.specs.Commands.{Outcome, command, next_block, IsRefused, CommandedAlways}
use Rattle.scoop_client.specs.Rows.{CommandRow, ReserveRow, LogRow, EndRow, GiveUpRow, reserve_not_greeted, reserve_not_idle, reserve_spent, reserve_refused}
use Rattle.scoop_client.specs.Rows.{begins_block, log_not_greeted, log_no_block, log_waiting, log_not_reserved, log_window_full, log_spent, is_logged}
use Rattle.scoop_client.specs.Rows.{end_not_greeted, end_no_block, end_waiting, end_window_full, ends_block, give_up_not_greeted, give_up_no_block}
use Rattle.scoop_client.specs.Rows.{give_up_too_late, gives_up}
use Rattle.scoop_client.proofs.CommandRows.{command_row}
use Rattle.scoop_driver.specs.Calls.{IsRefusal, IsTakeable}

-- ---- reserving

reserve_refusal : (c : ClientState) (hs : List HandlerId) (o : Outcome) (e : ClientError) → ReserveRow c hs o → o ≡ Err e → IsRefusal o e
reserve_refusal c hs o e (reserve_not_greeted g) is = (let same : e ≡ NotGreeted = cc in rw same refl)
reserve_refusal c hs o e (reserve_not_idle b i) is = (let same : e ≡ NotIdle = cc in rw same refl)
reserve_refusal c hs o e (reserve_spent i s) is = (let same : e ≡ Spent = cc in rw same refl)
reserve_refusal c hs o e (reserve_refused x i f s) is = (let same : e ≡ NotReservable x = cc in rw same refl)
reserve_refusal c hs o e (begins_block r i f s) is = cc

-- a reserve is refused by the client's table, and never for a full window
pub reserve_is_refused : (c : ClientState) (hs : List HandlerId) (e : ClientError) → command c (Reserve hs) ≡ Err e → IsRefusal (command c (Reserve hs)) e
reserve_is_refused c hs e is = reserve_refusal c hs (command c (Reserve hs)) e (command_row c (Reserve hs)) is

give_up_refusal : (c : ClientState) (o : Outcome) (e : ClientError) → GiveUpRow c o → o ≡ Err e → IsRefusal o e
give_up_refusal c o e (give_up_not_greeted g) is = (let same : e ≡ NotGreeted = cc in rw same refl)
give_up_refusal c o e (give_up_no_block b) is = (let same : e ≡ NoBlock = cc in rw same refl)
give_up_refusal c o e (give_up_too_late b i l) is = (let same : e ≡ TooLate = cc in rw same refl)
give_up_refusal c o e (gives_up r s l h g) is = cc

not_ok : {P : Type 0} → false ≡ true → P
not_ok is = cc

takeable : (o : Outcome) → IsOk o → IsTakeable o
takeable (Ok d) h = tt
takeable (Err e) h = not_ok h

-- a refusal by the table, or the last one, is a refusal for which a full window doesn't count
refusal_of : (o : Outcome) → ((e : ClientError) → o ≡ Err e → IsRefusal o e) → (e : ClientError) → IsRefused o e → IsRefusal o e
refusal_of o table NotGreeted h = h
refusal_of o table NotIdle h = h
refusal_of o table NoBlock h = h
refusal_of o table (Waiting x) h = h
refusal_of o table (NotReserved x) h = h
refusal_of o table (WindowFull x) h = table (WindowFull x) h
refusal_of o table TooLate h = h
refusal_of o table Spent h = h
refusal_of o table (NotReservable x) h = h
refusal_of o table OutOfMemory h = takeable o h

pub reserve_refuses : (c : ClientState) (hs : List HandlerId) (e : ClientError) → IsRefused (command c (Reserve hs)) e → IsRefusal (command c (Reserve hs)) e
reserve_refuses c hs e h = refusal_of (command c (Reserve hs)) (reserve_is_refused c hs) e h

pub give_up_refuses : (c : ClientState) (e : ClientError) → IsRefused (command c GiveUp) e → IsRefusal (command c GiveUp) e
give_up_refuses c e h = refusal_of (command c GiveUp) (λ x is. give_up_refusal c (command c GiveUp) x (command_row c GiveUp) is) e h

-- ---- facts of a reserve that is taken

few : (b : Bool) (n : ℕ) (rest : Result ReservationState ReserveError) → nat_lt MAX_BLOCK_HANDLERS n ≡ b → IsOk (if b then Err TooMany else rest)
    → n ≤ MAX_BLOCK_HANDLERS
few true n rest is h = not_ok h
few false n rest is h = grind (arith, nat_tests, is)

few_or_none : (b : Bool) (n : ℕ) (rest : Result ReservationState ReserveError)
    → IsOk (if b then Err Empty else if nat_lt MAX_BLOCK_HANDLERS n then Err TooMany else rest) → n ≤ MAX_BLOCK_HANDLERS
few_or_none true n rest h = not_ok h
few_or_none false n rest h = few (nat_lt MAX_BLOCK_HANDLERS n) n rest refl h

few_started : (c : ClientState) (hs : List HandlerId) (r : ReservationState) → started (next_block c) hs c.handlers ≡ Ok r → length hs ≤ MAX_BLOCK_HANDLERS
few_started c hs r is =
    few_or_none (length hs == 0) (length hs) (unless_repeated (fresh (next_block c) hs) (first_repeated hs) (first_unknown c.handlers hs))
    (subst IsOk (sym is) refl)

few_taken : (c : ClientState) (hs : List HandlerId) (o : Outcome) → ReserveRow c hs o → IsOk o → length hs ≤ MAX_BLOCK_HANDLERS
few_taken c hs o (reserve_not_greeted g) h = not_ok h
few_taken c hs o (reserve_not_idle b i) h = not_ok h
few_taken c hs o (reserve_spent i s) h = not_ok h
few_taken c hs o (reserve_refused x i f s) h = not_ok h
few_taken c hs o (begins_block r i f s) h = few_started c hs r s

pub few_reserved : (c : ClientState) (hs : List HandlerId) → IsOk (command c (Reserve hs)) → length hs ≤ MAX_BLOCK_HANDLERS
few_reserved c hs h = few_taken c hs (command c (Reserve hs)) (command_row c (Reserve hs)) h

-- ---- facts of a query that is taken

abbrev waits_of : Outcome → Option (HandlerId × ℕ)
waits_of (Ok d) = d.waits
waits_of (Err e) = None

query_row : (c d : ClientState) (h : HandlerId) (r : Request) (o : Outcome) → LogRow c h (Asked r) o → o ≡ Ok d → (n : ℕ) × (d.waits ≡ Some (h, n))
query_row c d h r o (log_not_greeted g) is = cc
query_row c d h r o (log_no_block b k) is = cc
query_row c d h r o (log_waiting w p q) is = cc
query_row c d h r o (log_not_reserved p q l) is = cc
query_row c d h r o (log_window_full l p q s f) is = cc
query_row c d h r o (log_spent l p q s f n) is = cc
query_row c d h r o (is_logged l p q s f n) is = (logged l + 1, sym (ap waits_of is))

-- the query that was taken waits
pub query_waits : (c d : ClientState) (h : HandlerId) (r : Request) → command c (DoQuery h r) ≡ Ok d → (n : ℕ) × (d.waits ≡ Some (h, n))
query_waits c d h r is = query_row c d h r (command c (DoQuery h r)) (command_row c (DoQuery h r)) is

-- ---- memory

reserve_wants : (c : ClientState) (hs : List HandlerId) (o : Outcome) → ReserveRow c hs o → o ≡ Err OutOfMemory → ⊥
reserve_wants c hs o (reserve_not_greeted g) is = cc
reserve_wants c hs o (reserve_not_idle b i) is = cc
reserve_wants c hs o (reserve_spent i s) is = cc
reserve_wants c hs o (reserve_refused x i f s) is = cc
reserve_wants c hs o (begins_block r i f s) is = cc

log_wants : (c : ClientState) (h : HandlerId) (e : Entry) (o : Outcome) → LogRow c h e o → o ≡ Err OutOfMemory → ⊥
log_wants c h e o (log_not_greeted g) is = cc
log_wants c h e o (log_no_block b r) is = cc
log_wants c h e o (log_waiting w p q) is = cc
log_wants c h e o (log_not_reserved p q l) is = cc
log_wants c h e o (log_window_full l p q s f) is = cc
log_wants c h e o (log_spent l p q s f n) is = cc
log_wants c h e o (is_logged l p q s f n) is = cc

end_wants : (c : ClientState) (o : Outcome) → EndRow c o → o ≡ Err OutOfMemory → ⊥
end_wants c o (end_not_greeted g) is = cc
end_wants c o (end_no_block b r) is = cc
end_wants c o (end_waiting w p q) is = cc
end_wants c o (end_window_full h p q f) is = cc
end_wants c o (ends_block p q f) is = cc

give_up_wants : (c : ClientState) (o : Outcome) → GiveUpRow c o → o ≡ Err OutOfMemory → ⊥
give_up_wants c o (give_up_not_greeted g) is = cc
give_up_wants c o (give_up_no_block b) is = cc
give_up_wants c o (give_up_too_late b i l) is = cc
give_up_wants c o (gives_up r s l h g) is = cc

wants : (c : ClientState) (x : Command) (o : Outcome) → CommandRow c x o → o ≡ Err OutOfMemory → ⊥
wants c (Reserve hs) o row is = reserve_wants c hs o row is
wants c (DoCall h r) o row is = log_wants c h (Called r) o row is
wants c (DoQuery h r) o row is = log_wants c h (Asked r) o row is
wants c DoEnd o row is = end_wants c o row is
wants c GiveUp o row is = give_up_wants c o row is

-- the table never names memory
pub never_wants : (c : ClientState) (x : Command) → command c x ≡ Err OutOfMemory → ⊥
never_wants c x is = wants c x (command c x) (command_row c x) is

-- a command that takes no memory isn't refused for it
pub always_answers : {P : Type 0} (c d : ClientState) (x : Command) (e : ClientError) → CommandedAlways x (Err e) c d → e ≡ OutOfMemory → P
always_answers c d x e h is = absurd (never_wants c x (h.0 ∙ ap Err is))
