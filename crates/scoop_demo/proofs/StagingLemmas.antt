-- The parties of a script are those that its lines name. The cast stores at most one party above the limit: that one is enough
-- to show that there are too many, and without it all are stored. So the world of the stored parties opens, or fails to open,
-- exactly as the world of all named parties does.
use Rattle.std.proofs.Common.{◌≡◌, ◌≢◌, ℕ, ◌+◌, ◌≤◌, ◌<◌, Bool, true, false, List, [], ◌∷◌, ◌++◌, length, map, take, Option, Some, None, Result, Ok, Err, IfErr}
use Rattle.std.proofs.Common.{OnOk, refl, sym, ◌∙◌, ap, subst, arith, append-nil}
use Rattle.std.specs.Prelude.{slice_get, option_map}
use Rattle.std.specs.List.{AllByRecursion, cons_option, filter_map, take-map}
use Rattle.std.proofs.lemmas.List.{length-take, length-map, map-append, length_push, take_all, take-append-le}
use Rattle.std.proofs.lemmas.Option.{slice_get-map}
use Rattle.std.proofs.lemmas.List.Elements.{filter_map-append}
use Rattle.std.proofs.lemmas.Simd.{map-map}
use Rattle.scoop_message.specs.declared.limits.TheConstants.{MAX_CLIENTS, MAX_HANDLERS}
use Rattle.scoop_message.specs.declared.name.ClientId.{ClientId}
use Rattle.scoop_message.specs.declared.name.HandlerId.{HandlerId}
use Rattle.scoop_object.specs.Class.{ClassTable}
use Rattle.scoop_world.specs.declared.error.WorldOpenError.{WorldOpenError}
use Rattle.scoop_world.specs.declared.error.WorldOpenError.TheVariants.{NoHandlers, TooManyHandlers, Repeated, WrongClass, TooManyClients, RepeatedClient}
use Rattle.scoop_world.specs.declared.error.WorldOpenError.TheVariants.{IncarnationsSpent, OutOfMemory}
use Rattle.scoop_world.specs.declared.placing.Placement.{Placement}
use Rattle.scoop_model.specs.Opening.{IsJoining}
use Rattle.scoop_world.specs.Placing.{newcomers_of}
use Rattle.scoop_keeper.specs.Keyed.{IsFirstRepeat}
use Rattle.scoop_world.specs.OpenRefusal.{IsOfClass, IsFirstWrong, IsCounted, MayPlace, IsUnopened, handlers_of}
use Rattle.scoop_message.specs.Lists.{NoRepeats}
use Rattle.std.specs.Result.{result_ok, result_err}
use Rattle.scoop_demo.specs.declared.fault.RunError.{RunError}
use Rattle.scoop_demo.specs.declared.script.kind.EventKind.{EventKind}
use Rattle.scoop_demo.specs.declared.script.kind.LineKind.{LineKind}
use Rattle.scoop_demo.specs.declared.script.kind.LineKind.TheVariants.{Handler, Client, Event}
use Rattle.scoop_lines.specs.Words.{words_of, is_blank}
use Rattle.scoop_demo.specs.ScriptKind.{kind_of}
use Rattle.scoop_demo.specs.ScriptLine.{Placed, handler_line, client_line}
use Rattle.scoop_demo.specs.Script.StopsOpening.{of_parties, of_memory}
use Rattle.scoop_demo.specs.Script.{Parties, Opens, StopsOpening, StopsClosed, own_class, placement_of, parties_of, party_fault, placed_by}
use Rattle.scoop_demo.specs.Script.{placed_by_kind, joined_by, joined_by_kind, unopened}
use Rattle.scoop_demo.specs.Staging.{seen_by, AreFirst, AreFirstClients, IsWaiting, IsStaged, with_line}

-- ---- a handler's object is seen as its class

handlers_seen : {B : Type 0} (class : B → ClassTable) (ps : List (Placement B)) → handlers_of ps ≡ handlers_of (map (seen_by class) ps)
handlers_seen class ps = sym (map-map (λ p. p.handler) (seen_by class) ps)

classes_seen : {B : Type 0} (class : B → ClassTable) (ps : List (Placement B)) → AllByRecursion (IsOfClass class) ps
    → AllByRecursion (IsOfClass own_class) (map (seen_by class) ps)
classes_seen class [] all = tt
classes_seen class (p ∷ ps) all = (all.0, classes_seen class ps all.1)

may_place_seen : {B : Type 0} (class : B → ClassTable) (ps : List (Placement B)) (cs : List (ClientId × ℕ)) → MayPlace class ps cs
    → MayPlace own_class (map (seen_by class) ps) cs
may_place_seen class ps cs m = record {
  some = omega (arith, m.some, length-map ps (seen_by class));
  few = omega (arith, m.few, length-map ps (seen_by class));
  apart = subst NoRepeats (handlers_seen class ps) m.apart;
  classes = classes_seen class ps m.classes;
  few_clients = m.few_clients;
  clients_apart = m.clients_apart;
}

counted_seen : {B : Type 0} (class : B → ClassTable) (ps : List (Placement B)) → IsCounted ps → IsCounted (map (seen_by class) ps)
counted_seen class ps c = record { some = omega (arith, c.some, length-map ps (seen_by class)); few = omega (arith, c.few, length-map ps (seen_by class)) }

-- ---- those that are kept decide as much as all

same_first : {A : Type 0} (n : ℕ) (xs : List A) → length (take (n + 1) xs) ≤ n → take (n + 1) xs ≡ xs
same_first n xs few = take_all (n + 1) xs (omega (arith, length-take (n + 1) xs, few))

more_first : {A : Type 0} (n : ℕ) (xs : List A) → n < length (take (n + 1) xs) → n < length xs
more_first n xs many = omega (arith, length-take (n + 1) xs, many)

none_first : {A : Type 0} (n : ℕ) (xs : List A) → length (take (n + 1) xs) ≡ 0 → xs ≡ []
none_first n [] none = refl
none_first n (x ∷ xs) none = absurd (omega (arith, length-take (n + 1) (x ∷ xs), none))

wrong_seen : {B : Type 0} (class : B → ClassTable) (ps : List (Placement B)) (h : HandlerId) → IsFirstWrong class ps h
    → IsFirstWrong own_class (map (seen_by class) ps) h
wrong_seen class ps h w = record {
  place = w.place;
  placement = seen_by class w.placement;
  there = slice_get-map (seen_by class) ps w.place ∙ ap (option_map (seen_by class)) w.there;
  named = w.named;
  wrong = w.wrong;
  right = subst (AllByRecursion (IsOfClass own_class)) (sym (take-map (seen_by class) w.place ps)) (classes_seen class (take w.place ps) w.right);
}

no_handlers_seen : {B : Type 0} (class : B → ClassTable) (ps : List (Placement B)) → ps ≡ [] → map (seen_by class) ps ≡ []
no_handlers_seen class ps none = ap (map (seen_by class)) none

unopened_seen : {B : Type 0} (class : B → ClassTable) (ps : List (Placement B)) (cs : List (ClientId × ℕ)) (stored : ℕ → Option ℕ) (e : WorldOpenError)
    → IsUnopened class ps cs stored e
    → IsUnopened own_class (map (seen_by class) ps) cs stored e
unopened_seen class ps cs stored NoHandlers u = no_handlers_seen class ps u
unopened_seen class ps cs stored TooManyHandlers u = omega (arith, u, length-map ps (seen_by class))
unopened_seen class ps cs stored (Repeated h) u = (counted_seen class ps u.0, subst (λ hs. IsFirstRepeat hs h) (handlers_seen class ps) u.1)
unopened_seen class ps cs stored (WrongClass h) u = (counted_seen class ps u.0, subst NoRepeats (handlers_seen class ps) u.1, wrong_seen class ps h u.2)
unopened_seen class ps cs stored TooManyClients u = (may_place_seen class ps [] u.0, u.1)
unopened_seen class ps cs stored (RepeatedClient c) u = (may_place_seen class ps [] u.0, u.1, u.2)
unopened_seen class ps cs stored IncarnationsSpent u = (may_place_seen class ps cs u.0, u.1)
unopened_seen class ps cs stored OutOfMemory u = may_place_seen class ps cs u

abbrev FirstHandlers : List (Placement ClassTable) → List (Placement ClassTable)
FirstHandlers ps = take (MAX_HANDLERS + 1) ps

abbrev FirstClients : List (ClientId × ℕ) → List (ClientId × ℕ)
FirstClients cs = take (MAX_CLIENTS + 1) cs

may_place_first : (ps : List (Placement ClassTable)) (cs : List (ClientId × ℕ)) → MayPlace own_class (FirstHandlers ps) (FirstClients cs)
    → MayPlace own_class ps cs
may_place_first ps cs m =
    subst (λ qs. MayPlace own_class qs cs) (same_first MAX_HANDLERS ps m.few)
    (subst (λ ds. MayPlace own_class (FirstHandlers ps) ds) (same_first MAX_CLIENTS cs m.few_clients) m)

all_handlers : (ps : List (Placement ClassTable)) (P : List (Placement ClassTable) → Type 0) → length (FirstHandlers ps) ≤ MAX_HANDLERS → P (FirstHandlers ps)
    → P ps
all_handlers ps P few p = subst P (same_first MAX_HANDLERS ps few) p

all_clients : (cs : List (ClientId × ℕ)) (P : List (ClientId × ℕ) → Type 0) → length (FirstClients cs) ≤ MAX_CLIENTS → P (FirstClients cs) → P cs
all_clients cs P few p = subst P (same_first MAX_CLIENTS cs few) p

unopened_first : (ps : List (Placement ClassTable)) (cs : List (ClientId × ℕ)) (stored : ℕ → Option ℕ) (e : WorldOpenError)
    → IsUnopened own_class (FirstHandlers ps) (FirstClients cs) stored e
    → IsUnopened own_class ps cs stored e
unopened_first ps cs stored NoHandlers u = none_first MAX_HANDLERS ps (ap (λ (qs : List (Placement ClassTable)). length qs) u)
unopened_first ps cs stored TooManyHandlers u = more_first MAX_HANDLERS ps u
unopened_first ps cs stored (Repeated h) u = all_handlers ps (λ qs. IsUnopened own_class qs cs stored (Repeated h)) u.0.few u
unopened_first ps cs stored (WrongClass h) u = all_handlers ps (λ qs. IsUnopened own_class qs cs stored (WrongClass h)) u.0.few u
unopened_first ps cs stored TooManyClients u = (all_handlers ps (λ qs. MayPlace own_class qs []) u.0.few u.0, more_first MAX_CLIENTS cs u.1)
unopened_first ps cs stored (RepeatedClient c) u =
    all_handlers ps (λ qs. IsUnopened own_class qs cs stored (RepeatedClient c)) u.0.few
    (all_clients cs (λ ds. IsUnopened own_class (FirstHandlers ps) ds stored (RepeatedClient c)) u.1 u)
unopened_first ps cs stored IncarnationsSpent u =
    all_handlers ps (λ qs. IsUnopened own_class qs cs stored IncarnationsSpent) u.0.few
    (all_clients cs (λ ds. IsUnopened own_class (FirstHandlers ps) ds stored IncarnationsSpent) u.0.few_clients u)
unopened_first ps cs stored OutOfMemory u = may_place_first ps cs u

joining_first : (hs : List HandlerId) (cs : List (ClientId × ℕ)) (stored : ℕ → Option ℕ) → length (FirstClients cs) ≤ MAX_CLIENTS
    → AllByRecursion IsJoining (newcomers_of hs stored (FirstClients cs))
    → AllByRecursion IsJoining (newcomers_of hs stored cs)
joining_first hs cs stored few all = all_clients cs (λ ds. AllByRecursion IsJoining (newcomers_of hs stored ds)) few all

-- whichever handlers they know
joining_knowing : (hs ks : List HandlerId) (cs : List (ClientId × ℕ)) (stored : ℕ → Option ℕ) → AllByRecursion IsJoining (newcomers_of hs stored cs)
    → AllByRecursion IsJoining (newcomers_of ks stored cs)
joining_knowing hs ks [] stored all = tt
joining_knowing hs ks (c ∷ cs) stored all =
    (record { some = all.0.some; limit = all.0.limit; next = all.0.next }, joining_knowing hs ks cs stored all.1)

-- ---- the world of those that are kept

module _ {B : Type 0} (class : B → ClassTable) (ps : List (Placement B)) (cs : List (ClientId × ℕ)) (own : ℕ → Option ℕ) (parties : Parties)
    (stored : ℕ → Option ℕ) (w : IsWaiting class ps cs own parties stored) where
  -- why it doesn't open
  unopened_to : (e : WorldOpenError) → IsUnopened class ps cs own e → IsUnopened own_class (map placement_of parties.placed) parties.clients stored e
  unopened_to e u =
      let seen : IsUnopened own_class (FirstHandlers (map placement_of parties.placed)) cs own e =
      subst (λ qs. IsUnopened own_class qs cs own e) w.placed (unopened_seen class ps cs own e u) in
      let named : IsUnopened own_class (FirstHandlers (map placement_of parties.placed)) (FirstClients parties.clients) own e =
      subst (λ ds. IsUnopened own_class (FirstHandlers (map placement_of parties.placed)) ds own e) w.joined seen in
      unopened_first (map placement_of parties.placed) parties.clients stored e
      (subst (λ (s : ℕ → Option ℕ). IsUnopened own_class (FirstHandlers (map placement_of parties.placed)) (FirstClients parties.clients) s e)
      w.stored_is named)

  pub stops_unopened : (number : ℕ) (e : WorldOpenError) → IsUnopened class ps cs own e → StopsOpening number parties stored (unopened number e)
  stops_unopened number NoHandlers u = of_parties ((λ same. cc), unopened_to NoHandlers u)
  stops_unopened number TooManyHandlers u = of_parties ((λ same. cc), unopened_to TooManyHandlers u)
  stops_unopened number (Repeated h) u = of_parties ((λ same. cc), unopened_to (Repeated h) u)
  stops_unopened number (WrongClass h) u = of_parties ((λ same. cc), unopened_to (WrongClass h) u)
  stops_unopened number TooManyClients u = of_parties ((λ same. cc), unopened_to TooManyClients u)
  stops_unopened number (RepeatedClient c) u = of_parties ((λ same. cc), unopened_to (RepeatedClient c) u)
  stops_unopened number IncarnationsSpent u = of_parties ((λ same. cc), unopened_to IncarnationsSpent u)
  stops_unopened number OutOfMemory u = of_memory

  -- the parties with which it opens
  pub opens_with : MayPlace class ps cs → AllByRecursion IsJoining (newcomers_of (handlers_of ps) own cs) → Opens parties stored
  opens_with m j =
      let seen : MayPlace own_class (FirstHandlers (map placement_of parties.placed)) cs =
      subst (λ qs. MayPlace own_class qs cs) w.placed (may_place_seen class ps cs m) in
      let named : MayPlace own_class (FirstHandlers (map placement_of parties.placed)) (FirstClients parties.clients) =
      subst (λ ds. MayPlace own_class (FirstHandlers (map placement_of parties.placed)) ds) w.joined seen in
      let hs = handlers_of (map placement_of parties.placed) in
      let joins : AllByRecursion IsJoining (newcomers_of hs own (FirstClients parties.clients)) =
      subst (λ ds. AllByRecursion IsJoining (newcomers_of hs own ds)) w.joined (joining_knowing (handlers_of ps) hs cs own j) in
      record {
        placed = may_place_first (map placement_of parties.placed) parties.clients named;
        joining = joining_first hs parties.clients stored named.few_clients
            (subst (λ (s : ℕ → Option ℕ). AllByRecursion IsJoining (newcomers_of hs s (FirstClients parties.clients))) w.stored_is joins);
      }

-- ---- a party more

pub first_full : {A : Type 0} (n : ℕ) (kept xs : List A) (x : A) → kept ≡ take (n + 1) xs → n < length kept → kept ≡ take (n + 1) (xs ++ x ∷ [])
first_full n kept xs x is full =
    let count : length kept ≡ length (take (n + 1) xs) = ap (λ (ys : List _). length ys) is in
    let many : n + 1 ≤ length xs = omega (arith, length-take (n + 1) xs, count, full) in
    is ∙ sym (take-append-le (n + 1) xs (x ∷ []) many)

pub first_more : {A : Type 0} (n : ℕ) (kept xs : List A) (x : A) → kept ≡ take (n + 1) xs → length kept ≤ n → kept ++ x ∷ [] ≡ take (n + 1) (xs ++ x ∷ [])
first_more n kept xs x is few =
    let count : length kept ≡ length (take (n + 1) xs) = ap (λ (ys : List _). length ys) is in
    let all : take (n + 1) xs ≡ xs = same_first n xs (omega (arith, count, few)) in
    let short : length xs ≤ n = omega (arith, ap (λ (ys : List _). length ys) all, count, few) in
    ap (λ ys. ys ++ x ∷ []) (is ∙ all) ∙ sym (take_all (n + 1) (xs ++ x ∷ []) (omega (arith, length_push xs x, short)))

-- a line that names no party changes none
no_more : {A : Type 0} (xs : List A) (found : Option A) → found ≡ None → xs ++ cons_option found [] ≡ xs
no_more xs None is = append-nil xs
no_more xs (Some x) is = cc

pub same_parties : (parties : Parties) (line : List ℕ) → placed_by line ≡ None → joined_by line ≡ None → parties ≡ with_line parties line
same_parties parties line no_handler no_client =
    ap (λ (ps : List Placed). record { placed = ps; clients = parties.clients }) (sym (no_more parties.placed (placed_by line) no_handler))
    ∙ ap (λ (cs : List (ClientId × ℕ)). record { placed = parties.placed ++ cons_option (placed_by line) []; clients = cs })
    (sym (no_more parties.clients (joined_by line) no_client))

-- the parties of one line more
pub parties_more : (lines : List (List ℕ)) (line : List ℕ) → with_line (parties_of lines) line ≡ parties_of (lines ++ line ∷ [])
parties_more lines line =
    ap (λ (ps : List Placed). record { placed = ps; clients = filter_map joined_by lines ++ cons_option (joined_by line) [] })
    (sym (filter_map-append placed_by lines (line ∷ [])))
    ∙ ap (λ (cs : List (ClientId × ℕ)). record { placed = filter_map placed_by (lines ++ line ∷ []); clients = cs })
    (sym (filter_map-append joined_by lines (line ∷ [])))

-- a world that has opened
pub staged_opens : {B : Type 0} (class : B → ClassTable) (opened : Bool) (ps : List (Placement B)) (cs : List (ClientId × ℕ)) (own : ℕ → Option ℕ)
    (parties : Parties) (stored : ℕ → Option ℕ)
    → opened ≡ true → IsStaged class opened ps cs own parties stored → Opens parties stored
staged_opens class true ps cs own parties stored is s = s
staged_opens class false ps cs own parties stored is s = cc

pub staged_waits : {B : Type 0} (class : B → ClassTable) (opened : Bool) (ps : List (Placement B)) (cs : List (ClientId × ℕ)) (own : ℕ → Option ℕ)
    (parties : Parties) (stored : ℕ → Option ℕ)
    → opened ≡ false → IsStaged class opened ps cs own parties stored → IsWaiting class ps cs own parties stored
staged_waits class false ps cs own parties stored is s = s
staged_waits class true ps cs own parties stored is s = cc

pub staged_if_opens : {B : Type 0} (class : B → ClassTable) (opened : Bool) (ps : List (Placement B)) (cs : List (ClientId × ℕ)) (own : ℕ → Option ℕ)
    (parties : Parties) (stored : ℕ → Option ℕ)
    → opened ≡ true → Opens parties stored → IsStaged class opened ps cs own parties stored
staged_if_opens class true ps cs own parties stored is o = o
staged_if_opens class false ps cs own parties stored is o = cc

pub staged_if_waits : {B : Type 0} (class : B → ClassTable) (opened : Bool) (ps : List (Placement B)) (cs : List (ClientId × ℕ)) (own : ℕ → Option ℕ)
    (parties : Parties) (stored : ℕ → Option ℕ)
    → opened ≡ false → IsWaiting class ps cs own parties stored → IsStaged class opened ps cs own parties stored
staged_if_waits class false ps cs own parties stored is w = w
staged_if_waits class true ps cs own parties stored is w = cc

-- ---- one line more

placed_is : (line : List ℕ) (kind : Option (LineKind × List (List ℕ))) → is_blank line ≡ false → kind_of (words_of line) ≡ kind
    → placed_by_kind kind ≡ placed_by line
placed_is line kind blank is = rw (blank, is) refl

joined_is : (line : List ℕ) (kind : Option (LineKind × List (List ℕ))) → is_blank line ≡ false → kind_of (words_of line) ≡ kind
    → joined_by_kind kind ≡ joined_by line
joined_is line kind blank is = rw (blank, is) refl

blank_places : (line : List ℕ) → is_blank line ≡ true → placed_by line ≡ None
blank_places line blank = rw blank refl

blank_joins : (line : List ℕ) → is_blank line ≡ true → joined_by line ≡ None
blank_joins line blank = rw blank refl

module _ {B : Type 0} (class : B → ClassTable) (before after : Bool) (ps ps' : List (Placement B)) (cs cs' : List (ClientId × ℕ)) (own own' : ℕ → Option ℕ)
    (parties : Parties) (stored : ℕ → Option ℕ)
    (line : List ℕ) (words : List (List ℕ)) (staged : IsStaged class before ps cs own parties stored) where
  -- a blank line
  pub blank_staged : is_blank line ≡ true → IsStaged class before ps cs own (with_line parties line) stored
  blank_staged blank = subst (λ (p : Parties). IsStaged class before ps cs own p stored)
      (same_parties parties line (blank_places line blank) (blank_joins line blank)) staged

  -- a line of a handler
  pub handler_staged : (r : Result (Unit {0}) RunError) → is_blank line ≡ false → kind_of (words_of line) ≡ Some (Handler, words) → after ≡ before
      → OnOk r (party_fault before (result_err (handler_line words)) ≡ None)
      → ((placed : List Placed) → AreFirst class ps placed → OnOk r (AreFirst class ps' (placed ++ cons_option (result_ok (handler_line words)) [])))
      → cs' ≡ cs → own' ≡ own → OnOk r (IsStaged class after ps' cs' own' (with_line parties line) stored)
  handler_staged (Err e) blank kind same ok kept clients keeper = tt
  handler_staged (Ok u) blank kind same ok kept clients keeper = go before same ok staged where
    go : (b : Bool) → after ≡ b → party_fault b (result_err (handler_line words)) ≡ None → IsStaged class b ps cs own parties stored
        → IsStaged class after ps' cs' own' (with_line parties line) stored
    go true same ok s = cc
    go false same ok w =
        let no_client : joined_by line ≡ None = sym (joined_is line (Some (Handler, words)) blank kind) in
        staged_if_waits class after ps' cs' own' (with_line parties line) stored same (record {
          placed = subst (λ (found : Option Placed). AreFirst class ps' (parties.placed ++ cons_option found []))
              (placed_is line (Some (Handler, words)) blank kind) (kept parties.placed w.placed);
          joined = clients ∙ w.joined ∙ ap (λ (ds : List (ClientId × ℕ)). take (MAX_CLIENTS + 1) ds) (sym (no_more parties.clients (joined_by line) no_client));
          stored_is = keeper ∙ w.stored_is;
        })

  -- a line of a client
  pub client_staged : (r : Result (Unit {0}) RunError) → is_blank line ≡ false → kind_of (words_of line) ≡ Some (Client, words) → after ≡ before
      → OnOk r (party_fault before (result_err (client_line words)) ≡ None)
      → ((clients : List (ClientId × ℕ)) → AreFirstClients cs clients
      → OnOk r (AreFirstClients cs' (clients ++ cons_option (result_ok (client_line words)) [])))
      → ps' ≡ ps → own' ≡ own → OnOk r (IsStaged class after ps' cs' own' (with_line parties line) stored)
  client_staged (Err e) blank kind same ok kept handlers keeper = tt
  client_staged (Ok u) blank kind same ok kept handlers keeper = go before same ok staged where
    go : (b : Bool) → after ≡ b → party_fault b (result_err (client_line words)) ≡ None → IsStaged class b ps cs own parties stored
        → IsStaged class after ps' cs' own' (with_line parties line) stored
    go true same ok s = cc
    go false same ok w =
        let no_handler : placed_by line ≡ None = sym (placed_is line (Some (Client, words)) blank kind) in
        staged_if_waits class after ps' cs' own' (with_line parties line) stored same (record {
          placed = ap (map (seen_by class)) handlers ∙ w.placed
              ∙ ap (λ (qs : List Placed). take (MAX_HANDLERS + 1) (map placement_of qs)) (sym (no_more parties.placed (placed_by line) no_handler));
          joined = subst (λ (found : Option (ClientId × ℕ)). AreFirstClients cs' (parties.clients ++ cons_option found []))
              (joined_is line (Some (Client, words)) blank kind) (kept parties.clients w.joined);
          stored_is = keeper ∙ w.stored_is;
        })

  -- a line of an event
  pub event_staged : (what : EventKind) (r : Result (Unit {0}) RunError) → is_blank line ≡ false → kind_of (words_of line) ≡ Some (Event what, words)
      → OnOk r (after ≡ true) → OnOk r (Opens parties stored)
      → OnOk r (IsStaged class after ps' cs' own' (with_line parties line) stored)
  event_staged what (Err e) blank kind is opens = tt
  event_staged what (Ok u) blank kind is opens =
      let no_client : joined_by line ≡ None = sym (joined_is line (Some (Event what, words)) blank kind) in
      let no_handler : placed_by line ≡ None = sym (placed_is line (Some (Event what, words)) blank kind) in
      staged_if_opens class after ps' cs' own' (with_line parties line) stored is
      (subst (λ (p : Parties). Opens p stored) (same_parties parties line no_handler no_client) opens)

-- the world doesn't open at this line
pub closed_if : {B : Type 0} (class : B → ClassTable) (opened : Bool) (ps : List (Placement B)) (cs : List (ClientId × ℕ)) (own : ℕ → Option ℕ)
    (parties : Parties) (stored : ℕ → Option ℕ) (number : ℕ)
    (r : Result (Unit {0}) RunError) → opened ≡ false → (IsWaiting class ps cs own parties stored → IfErr r (StopsOpening number parties stored))
    → IsStaged class opened ps cs own parties stored
    → IfErr r (StopsClosed opened number parties stored)
closed_if class opened ps cs own parties stored number (Ok u) is stops staged = tt
closed_if class opened ps cs own parties stored number (Err e) is stops staged =
    record { closed = is; stops = stops (staged_waits class opened ps cs own parties stored is staged) }

-- a handler more: it is kept, or there are too many already
pub placed_full : {B : Type 0} (class : B → ClassTable) (ps : List (Placement B)) (before : List Placed) (p : Placed) → AreFirst class ps before
    → MAX_HANDLERS < length ps → AreFirst class ps (before ++ p ∷ [])
placed_full class ps before p are full =
    first_full MAX_HANDLERS (map (seen_by class) ps) (map placement_of before) (placement_of p) are (omega (arith, full, length-map ps (seen_by class)))
    ∙ ap (λ (qs : List (Placement ClassTable)). take (MAX_HANDLERS + 1) qs) (sym (map-append placement_of before (p ∷ [])))

abbrev pub placement : {B : Type 0} → ℕ → HandlerId → ClassTable → B → Placement B
placement node handler table object = record { node = node; handler = handler; class = table; object = object }

pub placed_more : {B : Type 0} (class : B → ClassTable) (ps : List (Placement B)) (o : B) (before : List Placed) (p : Placed) → AreFirst class ps before
    → length ps ≤ MAX_HANDLERS
    → class o ≡ p.class → AreFirst class (ps ++ placement p.node p.handler p.class o ∷ []) (before ++ p ∷ [])
placed_more class ps o before p are few same =
    map-append (seen_by class) ps (placement p.node p.handler p.class o ∷ [])
    ∙ ap (λ (k : ClassTable). map (seen_by class) ps ++ placement p.node p.handler p.class k ∷ []) same
    ∙ first_more MAX_HANDLERS (map (seen_by class) ps) (map placement_of before) (placement_of p) are (omega (arith, few, length-map ps (seen_by class)))
    ∙ ap (λ (qs : List (Placement ClassTable)). take (MAX_HANDLERS + 1) qs) (sym (map-append placement_of before (p ∷ [])))
