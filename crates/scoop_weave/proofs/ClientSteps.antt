-- The steps of a driver are moves of its client, and lead it on. A command is one move. A turn is a send to each handler, and
-- then the message that came is heard. A turn that broke off is its sends up to there. Between two drivers the client restarts.
-- All these moves name the client, whose number stays, and they are no node's.
use Rattle.scoop_weave.proofs.Names.{client_decides, arith, ◌≡◌, ℕ, ◌+◌, true, false, ◌||◌, List, [], ◌∷◌, ◌++◌, take, drop, Option, Some, None, refl, sym, ap}
use Rattle.scoop_weave.proofs.Names.{◌∙◌, subst, append-nil, append_assoc, AllByRecursion, ClientId, HandlerId, Message, same_handler, same_client}
use Rattle.scoop_weave.proofs.Names.{handler_decides, all_append, has, ClientState, AllCan, LocalClient, id_in, after_step, after_restart, LocalMove}
use Rattle.scoop_weave.proofs.Names.{ClientRestarted, ClientMoves, ClientRuns, is_by, is_of}
use Rattle.std.proofs.lemmas.List.{take-append-drop}
use Rattle.std.proofs.Math.Bool.{or-true}
use Rattle.scoop_driver.specs.declared.step.Step.{Step}
use Rattle.scoop_driver.specs.declared.step.Step.TheVariants.{Gave, Turned, Broke}
use Rattle.scoop_driver.specs.Steps.{Can, after, after_message, message_in}
use Rattle.scoop_driver.proofs.Moves.{taken}
use Rattle.scoop_weave.specs.ClientSteps.{sends_to, hears, moves_at, moves_by, driven, moves_of, Lives}
use Rattle.scoop_weave.proofs.Lists.{itself}
use Rattle.scoop_weave.proofs.Telling.{runs_both}
use Rattle.scoop_weave.proofs.Woven.{client_kept}

-- ---- a list of moves

runs_kept : (c d : LocalClient) (ms : List LocalMove) → ClientRuns c ms d → id_in d ≡ id_in c
runs_kept c d [] same = ap id_in (sym same)
runs_kept c d (m ∷ ms) r = runs_kept r.0 d ms r.2 ∙ client_kept m c r.0 r.1

-- ---- one step

stands : (ys : List HandlerId) (x : HandlerId) (zs : List HandlerId) → has (ys ++ x ∷ zs) x ≡ true
stands [] x zs = ap (λ t. t || has zs x) (itself same_handler handler_decides x)
stands (y ∷ ys) x zs = ap (λ t. same_handler y x || t) (stands ys x zs) ∙ or-true (same_handler y x)

all_in : (ys xs zs : List HandlerId) → AllByRecursion (λ h. has (ys ++ (xs ++ zs)) h ≡ true) xs
all_in ys [] zs = tt
all_in ys (x ∷ xs) zs =
    (stands ys x (xs ++ zs), subst (λ hs. AllByRecursion (λ h. has hs h ≡ true) xs) (append_assoc ys (x ∷ []) (xs ++ zs)) (all_in (ys ++ x ∷ []) xs zs))

sends_run : (c : LocalClient) (hs : List HandlerId) → AllByRecursion (λ h. has c.client.handlers h ≡ true) hs → ClientRuns c (sends_to c.client hs) c
sends_run c [] named = refl
sends_run c (h ∷ hs) named = (c, record { named = named.0; tells = refl; after = refl }, sends_run c hs named.1)

hears_run : (c : LocalClient) (got : Option Message) → ClientRuns c (hears c.client got) (after_step (after_message c.client got) c)
hears_run c None = refl
hears_run c (Some m) = (after_step (after_message c.client (Some m)) c, record { tells = refl; after = refl }, refl)

step_runs : (c : LocalClient) (s : Step) → Can c.client s → ClientRuns c (moves_at c.client s) (after_step (after c.client s) c)
step_runs c (Gave x) can = grind (arith, after, taken)
step_runs c (Turned got) can =
    let hs = c.client.handlers in
    let own = subst (λ xs. AllByRecursion (λ h. has xs h ≡ true) hs) (append-nil hs) (all_in [] hs []) in
    runs_both ClientMoves c c (after_step (after c.client (Turned got)) c) (sends_to c.client hs) (hears c.client (message_in got)) (sends_run c hs own)
    (hears_run c (message_in got))
step_runs c (Broke place) can =
    let hs = c.client.handlers in
    let front = take (place + 1) hs in
    sends_run c front (subst (λ xs. AllByRecursion (λ h. has xs h ≡ true) front) (take-append-drop (place + 1) hs) (all_in [] front (drop (place + 1) hs)))

pub steps_run : (c : LocalClient) (ss : List Step) → AllCan c.client ss → ClientRuns c (moves_by c.client ss) (driven c ss)
steps_run c [] can = refl
steps_run c (s ∷ ss) can =
    let d : LocalClient = after_step (after c.client s) c in
    runs_both ClientMoves c d (driven d ss) (moves_at c.client s) (moves_by d.client ss) (step_runs c s can.0) (steps_run d ss can.1)

-- ---- whose moves they are

abbrev pub IsClients : ClientId → LocalMove → Type 0
IsClients d m = is_by d m ≡ true

mine : (c : ClientId) → same_client c c ≡ true
mine c = itself same_client client_decides c

pub by_name : (c d : ClientId) → same_client c d ≡ true → c ≡ d
by_name c d = (client_decides c d).0

all_of : (c d : ClientId) (ms : List LocalMove) → c ≡ d → AllByRecursion (IsClients c) ms → AllByRecursion (IsClients d) ms
all_of c d ms e all = subst (λ k. AllByRecursion (IsClients k) ms) e all

sends_own : (c : ClientState) (hs : List HandlerId) → AllByRecursion (IsClients c.id) (sends_to c hs)
sends_own c [] = tt
sends_own c (h ∷ hs) = (mine c.id, sends_own c hs)

hears_own : (c : ClientState) (got : Option Message) → AllByRecursion (IsClients c.id) (hears c got)
hears_own c None = tt
hears_own c (Some m) = (mine c.id, tt)

step_own : (c : ClientState) (s : Step) → AllByRecursion (IsClients c.id) (moves_at c s)
step_own c (Gave x) = (mine c.id, tt)
step_own c (Turned got) = all_append (IsClients c.id) (sends_to c c.handlers) (hears c (message_in got)) (sends_own c c.handlers) (hears_own c (message_in got))
step_own c (Broke place) = sends_own c (take (place + 1) c.handlers)

steps_own : (c : LocalClient) (ss : List Step) → AllCan c.client ss → AllByRecursion (IsClients (id_in c)) (moves_by c.client ss)
steps_own c [] can = tt
steps_own c (s ∷ ss) can =
    let d : LocalClient = after_step (after c.client s) c in
    let kept : id_in d ≡ id_in c = runs_kept c d (moves_at c.client s) (step_runs c s can.0) in
    all_append (IsClients (id_in c)) (moves_at c.client s) (moves_by d.client ss) (step_own c.client s)
    (all_of (id_in d) (id_in c) (moves_by d.client ss) kept (steps_own d ss can.1))

-- ---- all drivers

pub record ClientGoes (c : LocalClient) (ms : List LocalMove) (now : LocalClient) : Type 0 where
  pub runs : ClientRuns c ms now
  pub own : AllByRecursion (IsClients (id_in c)) ms

pub lives_run : (c : LocalClient) (first : List Step) (more : List (List Step)) (now : LocalClient) → Lives c first more now
    → ClientGoes c (moves_of c first more) now
lives_run c first [] now life = grind (arith, steps_run, steps_own)
lives_run c first (steps ∷ more) now life =
    let d : LocalClient = driven c first in
    let e : LocalClient = after_restart d in
    let here = steps_run c first life.0 in
    let rest = lives_run e steps more now life.2 in
    let kept : id_in e ≡ id_in c = runs_kept c d (moves_by c.client first) here in
    let again : ClientRuns d (ClientRestarted (id_in c) ∷ moves_of e steps more) now = (e, record { room = life.1; after = refl }, rest.runs) in
    record {
      runs = runs_both ClientMoves c d now (moves_by c.client first) (ClientRestarted (id_in c) ∷ moves_of e steps more) here again;
      own =
          all_append (IsClients (id_in c)) (moves_by c.client first) (ClientRestarted (id_in c) ∷ moves_of e steps more) (steps_own c first life.0)
          (mine (id_in c), all_of (id_in e) (id_in c) (moves_of e steps more) kept rest.own);
    }

pub not_of : (d : ClientId) (n : ℕ) (hs : List HandlerId) (m : LocalMove) → IsClients d m → is_of n hs m ≡ false
not_of d n hs m own = grind (arith, own)

pub is_its : (d e : ClientId) (m : LocalMove) → IsClients d m → is_by e m ≡ same_client d e
is_its d e m own = grind (arith, by_name, own)
