-- Which worlds are reached, and what is so of them. A world that opens is reached, and so is what an event makes of a reached
-- world: the event stands behind those that led there. No event changes a handler's number or a client's, so in every reached
-- world these are the ones that were placed, in their order, each once.
use Rattle.scoop_model.proofs.Names.{◌≡◌, ℕ, ◌+◌, List, [], ◌∷◌, ◌++◌, map, refl, sym, ap, subst, arith, Ok, length, Err, length-append, AllByRecursion}
use Rattle.scoop_model.proofs.Names.{handler_decides, client_decides, NoRepeats, ClientId, HandlerId, heard, MayOpen, IsReached, Run, next, run_after, Leads}
use Rattle.scoop_model.proofs.Names.{reopened, Placement, Newcomer, new_site, new_party, opening, Stepped, step, World, Party, set_party, Site, number_of}
use Rattle.scoop_model.proofs.Names.{set_site, id_of, Event, WorldNote}
use Rattle.scoop_model.proofs.Events.{Changes, both_kept, steps_kept}
use Rattle.scoop_model.proofs.Order.{SiteFits, Ordered, ordered_kept, opens_ordered, state_anew}

-- ---- one event more

-- a run that has taken n events
at : World → ℕ → Run
at w n = (w, Ok n)

one_more : (n : ℕ) (v w : World) (xs : List Event) (e : Event) (r : World × WorldNote) (o : Stepped)
    → ((u : World) → run_after (n + 1) u xs ≡ (w, Ok (n + 1 + length xs)) → run_after (n + 1) u (xs ++ e ∷ []) ≡ (r.0, Ok (n + 1 + length xs + 1)))
    → (k : ℕ) → k ≡ n + 1 + length xs → next n v (λ u. run_after (n + 1) u xs) o ≡ (w, Ok k)
    → next n v (λ u. run_after (n + 1) u (xs ++ e ∷ [])) o ≡ (r.0, Ok (k + 1))
one_more n v w xs e r (Err y) later k is leads = absurd (let f = ap (λ (x : Run). x.1) leads in cc)
one_more n v w xs e r (Ok q) later k is leads = grind arith

leads_from : (n : ℕ) (v w : World) (es : List Event) (e : Event) (r : World × WorldNote) → run_after n v es ≡ (w, Ok (n + length es)) → step w e ≡ Ok r
    → run_after n v (es ++ e ∷ []) ≡ (r.0, Ok (n + length es + 1))
leads_from n v w [] e r leads is = grind (arith, next)
leads_from n v w (x ∷ xs) e r leads is = one_more n v w xs e r (step v x) (λ u l. leads_from (n + 1) u w xs e r l is) (n + length (x ∷ xs)) (omega arith) leads

pub leads_next : (v w : World) (es : List Event) (e : Event) (r : World × WorldNote) → Leads v es w → step w e ≡ Ok r → Leads v (es ++ e ∷ []) r.0
leads_next v w es e r leads is = grind (arith, length-append, leads_from)

pub reached_more : (w : World) (e : Event) (r : World × WorldNote) → IsReached w → step w e ≡ Ok r → IsReached r.0
reached_more w e r reached is = record {
  placements = reached.placements;
  newcomers = reached.newcomers;
  opens = reached.opens;
  events = reached.events ++ e ∷ [];
  leads = leads_next (opening reached.placements reached.newcomers) w reached.events e r reached.leads is;
}

pub reached_opening : (ps : List Placement) (ns : List Newcomer) → MayOpen ps ns → IsReached (opening ps ns)
reached_opening ps ns opens = record { placements = ps; newcomers = ns; opens = opens; events = []; leads = refl }

-- ---- what is so of a world that is reached

-- these are the handlers and the clients
abbrev Named : List HandlerId → List ClientId → World → Type 0
Named hs cs w = (map number_of w.sites ≡ hs) × (map id_of w.parties ≡ cs)

numbers_set : (s : Site) (sites : List Site) → map number_of (set_site s sites) ≡ map number_of sites
numbers_set s [] = refl
numbers_set s (x ∷ xs) = grind (arith, handler_decides, numbers_set s xs)

ids_set : (p : Party) (parties : List Party) → map id_of (set_party p parties) ≡ map id_of parties
ids_set p [] = refl
ids_set p (x ∷ xs) = grind (arith, client_decides, ids_set p xs)

numbers_reopened : (n : ℕ) (js : List _) (sites : List Site) → AllByRecursion (SiteFits js) sites → map number_of (map (reopened n) sites) ≡ map number_of sites
numbers_reopened n js [] all = refl
numbers_reopened n js (x ∷ xs) all = grind (arith, state_anew, (numbers_reopened n js xs all.1))

named_kept : (hs : List HandlerId) (cs : List ClientId) (w : World) → Ordered w → Named hs cs w → Changes (Named hs cs) w
named_kept hs cs w o k = grind (arith, at, ids_set, numbers_set, heard, numbers_reopened)

numbers_open : (ps : List Placement) → map number_of (map new_site ps) ≡ map (λ (p : Placement). p.handler) ps
numbers_open [] = refl
numbers_open (p ∷ ps) = ap (λ ns. p.handler ∷ ns) (numbers_open ps)

ids_open : (ns : List Newcomer) → map id_of (map new_party ns) ≡ map (λ (n : Newcomer). n.id) ns
ids_open [] = refl
ids_open (n ∷ ns) = ap (λ cs. n.id ∷ cs) (ids_open ns)

known : (w : World) (r : IsReached w)
    → Ordered w × Named (map (λ (p : Placement). p.handler) r.placements) (map (λ (n : Newcomer). n.id) r.newcomers) w
known w r =
    let hs = map (λ (p : Placement). p.handler) r.placements in
    let cs = map (λ (n : Newcomer). n.id) r.newcomers in
    subst (λ v. Ordered v × Named hs cs v) (ap (λ (x : Run). x.0) r.leads)
    (steps_kept (λ v. Ordered v × Named hs cs v) (λ v i. both_kept Ordered (Named hs cs) v (ordered_kept v i.0) (named_kept hs cs v i.0 i.1))
    (opening r.placements r.newcomers) r.events
    (opens_ordered r.placements r.newcomers, (numbers_open r.placements, ids_open r.newcomers)))

pub reached_ordered : (w : World) → IsReached w → Ordered w
reached_ordered w r = (known w r).0

-- the handlers are those that were placed
pub sites_placed : (w : World) (r : IsReached w) → map number_of w.sites ≡ map (λ (p : Placement). p.handler) r.placements
sites_placed w r = (known w r).1.0

pub sites_apart : (w : World) → IsReached w → NoRepeats (map number_of w.sites)
sites_apart w r = subst NoRepeats (sym (known w r).1.0) r.opens.apart

pub parties_apart : (w : World) → IsReached w → NoRepeats (map id_of w.parties)
parties_apart w r = subst NoRepeats (sym (known w r).1.1) r.opens.clients_apart
