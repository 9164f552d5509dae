-- A node's own list leads each of its handlers by that handler's own moves. No number stands twice, so a move of the list is
-- that of one handler, or of all where the node restarts, and the other handlers stay. A move outside the list concerns none of
-- them. The same holds of every node, and so of all handlers together.
use Rattle.scoop_weave.proofs.Names.{◌≡◌, ℕ, zero, suc, ◌==◌, Bool, true, false, List, [], ◌∷◌, ◌++◌, map, find, filter, flat_map, slice_get, Some, refl, sym}
use Rattle.scoop_weave.proofs.Names.{ap, ◌∙◌, subst, if◌then◌else◌, AllByRecursion, map-map, HandlerId, same_handler, handler_decides, has, opening_handler}
use Rattle.scoop_weave.proofs.Names.{Placement, Newcomer, MayOpen, NoRepeats, by_test, key_found, PlacedHandler, System, IsStored, its_number, is_placed}
use Rattle.scoop_weave.proofs.Names.{newer_placed, with_local, on_node, after_reopening, new_placed, new_system, LocalMove, Heard, Began, Finished}
use Rattle.scoop_weave.proofs.Names.{NodeReopened, HandlerMoves, is_at, moves_at, HandlerRuns, EachHandler, IsWoven, AtOne, NodeMoves, NodeRuns, is_of, Node}
use Rattle.scoop_weave.proofs.Names.{IsNode, IsWovenOfNodes}
use Rattle.scoop_handler.proofs.Basics.{all_found}
use Rattle.std.specs.List.{AllZip}
use Rattle.std.proofs.lemmas.Bool.{or_parts}
use Rattle.scoop_weave.proofs.Lists.{zip_same, zip_all, all_split, itself, apart, from_false, rest_once, none_later}
use Rattle.scoop_weave.proofs.Steps.{StepAt, goes, stays}
use Rattle.scoop_weave.proofs.Woven.{AllStored, HandlerKept, handler_kept, stored_open}

abbrev pub numbers : List PlacedHandler → List HandlerId
numbers xs = map its_number xs

-- a handler that the move concerns goes on, and another stays
abbrev pub GoesOn : LocalMove → PlacedHandler → PlacedHandler → Type 0
GoesOn m x u = StepAt (HandlerMoves m) x (is_at (its_number x) x.node m) u × HandlerKept x u

abbrev pub EachKept : LocalMove → List PlacedHandler → List PlacedHandler → Type 0
EachKept m xs us = AllZip (GoesOn m) xs us

module _ (m : LocalMove) where
  went : (x u : PlacedHandler) → is_at (its_number x) x.node m ≡ true → HandlerMoves m x u → StepAt (HandlerMoves m) x (is_at (its_number x) x.node m) u
  went x u e r = subst (λ b. StepAt (HandlerMoves m) x b u) (sym e) (goes u r)

  rests : (x : PlacedHandler) → is_at (its_number x) x.node m ≡ false → StepAt (HandlerMoves m) x (is_at (its_number x) x.node m) x
  rests x e = subst (λ b. StepAt (HandlerMoves m) x b x) (sym e) stays

  same_kept : (x : PlacedHandler) → IsStored x → HandlerKept x x
  same_kept x is = record { number = refl; node = refl; stored = is }

  all_rest : (xs : List PlacedHandler) → AllStored xs → AllByRecursion (λ x. is_at (its_number x) x.node m ≡ false) xs → EachKept m xs xs
  all_rest [] is none = tt
  all_rest (x ∷ xs) is none = ((rests x none.0, same_kept x is.0), all_rest xs is.1 none.1)

  -- ---- at one handler

  module _ (h : HandlerId) (at : (x : PlacedHandler) → is_at (its_number x) x.node m ≡ same_handler h (its_number x)) (s new : PlacedHandler)
      (own : its_number s ≡ h) (moves : HandlerMoves m s new) (stored : IsStored s) where
    kept : HandlerKept s new
    kept = handler_kept m s new stored moves

    named : its_number new ≡ h
    named = kept.number ∙ own

    left : (x : PlacedHandler) → (its_number x ≡ h → ⊥) → newer_placed new x ≡ x
    left x differ = ap (λ t. if t then new else x) (apart same_handler handler_decides (its_number x) (its_number new) (λ e. differ (e ∙ named)))

    away : (x : PlacedHandler) → (its_number x ≡ h → ⊥) → is_at (its_number x) x.node m ≡ false
    away x differ = at x ∙ apart same_handler handler_decides h (its_number x) (λ e. differ (sym e))

    stays_here : (x : PlacedHandler) → (its_number x ≡ h → ⊥) → IsStored x
        → GoesOn m x (newer_placed new x)
    stays_here x differ is =
        subst (λ y. GoesOn m x y) (sym (left x differ))
        (rests x (away x differ), same_kept x is)

    goes_here : GoesOn m s (newer_placed new s)
    goes_here =
        let own_name : same_handler (its_number s) (its_number new) ≡ true = ap (same_handler (its_number s)) kept.number
        ∙ itself same_handler handler_decides (its_number s) in
        let put : newer_placed new s ≡ new = ap (λ t. if t then new else s) own_name in
        let concerned : is_at (its_number s) s.node m ≡ true = at s ∙ ap (same_handler h) own ∙ itself same_handler handler_decides h in
        subst (λ y. GoesOn m s y) (sym put) (went s new concerned moves, kept)

    none_goes : (xs : List PlacedHandler) → AllStored xs → ((j : ℕ) → slice_get (numbers xs) j ≡ Some h → ⊥) → EachKept m xs (map (newer_placed new) xs)
    none_goes [] is none = tt
    none_goes (x ∷ xs) is none =
        (stays_here x (λ e. none 0 (ap Some e)) is.0, none_goes xs is.1 (λ j e. none (suc j) e))

    one_goes : (xs : List PlacedHandler) → AllStored xs → NoRepeats (numbers xs) → find (is_placed h) xs ≡ Some s → EachKept m xs (map (newer_placed new) xs)
    one_goes [] is once found = tt
    one_goes (x ∷ xs) is once found =
        by_test (λ t. (if t then Some x else find (is_placed h) xs) ≡ Some s
        → EachKept m (x ∷ xs) (map (newer_placed new) (x ∷ xs))) (same_handler (its_number x) h)
        (λ here e.
        let this : x ≡ s = cc in
        let one = subst (λ y. GoesOn m y (newer_placed new y))
        (sym this) goes_here in
        let x_name : its_number x ≡ h = (handler_decides (its_number x) h).0 here in
        (one, none_goes xs is.1 (λ j f. none_later its_number same_handler handler_decides x xs once j (f ∙ ap Some (sym x_name)))))
        (λ there e.
        let one = stays_here x (from_false same_handler handler_decides (its_number x) h there) is.0 in
        (one, one_goes xs is.1 (rest_once its_number same_handler handler_decides x xs once) e)) found

  at_one : (h : HandlerId) → ((x : PlacedHandler) → is_at (its_number x) x.node m ≡ same_handler h (its_number x)) → (hs ks : List PlacedHandler) → AllStored hs
      → NoRepeats (numbers hs) → AtOne h m hs ks → EachKept m hs ks
  at_one h at hs ks is once r =
      let own = key_found its_number same_handler handler_decides h hs r.handler r.here in
      subst (EachKept m hs) (sym r.after) (one_goes h at r.handler r.new own r.moves (all_found IsStored (is_placed h) hs r.handler is r.here) hs is once r.here)

-- ---- all handlers of the node

reopens : (n : ℕ) (xs : List PlacedHandler) → AllStored xs → EachKept (NodeReopened n) xs (map (after_reopening n) xs)
reopens n [] is = tt
reopens n (x ∷ xs) is =
    let m : LocalMove = NodeReopened n in
    let anew : PlacedHandler = with_local (opening_handler (its_number x) x.local.core.class x.placed x.local.stored) x in
    let step : StepAt (HandlerMoves m) x (on_node n x) (after_reopening n x) =
    by_test (λ t. StepAt (HandlerMoves m) x t (if t then anew else x)) (on_node n x)
    (λ e. goes anew (ap (λ t. if t then anew else x) (sym e)))
    (λ e. stays) in
    ((step, handler_kept m x (after_reopening n x) is.0 refl), reopens n xs is.1)

pub node_step : (m : LocalMove) (hs us : List PlacedHandler) → AllStored hs → NoRepeats (numbers hs) → NodeMoves m hs us → EachKept m hs us
node_step (Heard h x told) hs us is once r = at_one (Heard h x told) h (λ s. refl) hs us is once r
node_step (Began h told) hs us is once r = at_one (Began h told) h (λ s. refl) hs us is once r
node_step (Finished h ran) hs us is once r = at_one (Finished h ran) h (λ s. refl) hs us is once r
node_step (NodeReopened n) hs us is once r = subst (EachKept (NodeReopened n) hs) (sym r) (reopens n hs is)
node_step m hs us is once r = absurd r

-- ---- a move of another party

not_any : (h : HandlerId) (xs : List PlacedHandler) → has (numbers xs) h ≡ false → AllByRecursion (λ x. same_handler h (its_number x) ≡ false) xs
not_any h [] e = tt
not_any h (x ∷ xs) e =
    let both = or_parts (same_handler (its_number x) h) (has (numbers xs) h) e in
    (apart same_handler handler_decides h (its_number x) (λ i. from_false same_handler handler_decides (its_number x) h both.0 (sym i)), not_any h xs both.1)

elsewhere : (n k : ℕ) (xs : List PlacedHandler) → (n == k) ≡ false → AllByRecursion (λ s. s.node ≡ n) xs → AllByRecursion (λ x. (x.node == k) ≡ false) xs
elsewhere n k [] e stand = tt
elsewhere n k (x ∷ xs) e stand = (ap (λ j. j == k) stand.0 ∙ e, elsewhere n k xs e stand.1)

all_false : (xs : List PlacedHandler) → AllByRecursion (λ (x : PlacedHandler). false ≡ false) xs
all_false [] = tt
all_false (x ∷ xs) = (refl, all_false xs)

not_of : (n : ℕ) (m : LocalMove) (xs : List PlacedHandler) → is_of n (numbers xs) m ≡ false → AllByRecursion (λ s. s.node ≡ n) xs
    → AllByRecursion (λ x. is_at (its_number x) x.node m ≡ false) xs
not_of n (Heard h x told) xs e stand = not_any h xs e
not_of n (Began h told) xs e stand = not_any h xs e
not_of n (Finished h ran) xs e stand = not_any h xs e
not_of n (NodeReopened k) xs e stand = elsewhere n k xs e stand
not_of n m xs e stand = all_false xs

-- ---- move after move

one_before : (m : LocalMove) (x u k : PlacedHandler) (part : List LocalMove) (b : Bool) → StepAt (HandlerMoves m) x b u → HandlerRuns u part k
    → HandlerRuns x (if b then m ∷ part else part) k
one_before m x u k part true (goes y r) rest = (u, r, rest)
one_before m x u k part false stays rest = rest

before : (m : LocalMove) (ms : List LocalMove) (hs us ks : List PlacedHandler) → EachKept m hs us → EachHandler ms us ks → EachHandler (m ∷ ms) hs ks
before m ms [] [] [] steps each = tt
before m ms [] (u ∷ us) ks steps each = absurd steps
before m ms (x ∷ xs) [] ks steps each = absurd steps
before m ms (x ∷ xs) (u ∷ us) (k ∷ ks) steps each =
    let number = steps.0.1.number in
    let node = steps.0.1.node in
    let part : moves_at (its_number u) u.node ms ≡ moves_at (its_number x) x.node ms = λ i. moves_at (number i) (node i) ms in (
      one_before m x u k (moves_at (its_number x) x.node ms) (is_at (its_number x) x.node m) steps.0.0
          (subst (λ xs. HandlerRuns u xs k) part each.0),
      before m ms xs us ks steps.1 each.1,
    )
before m ms xs ys zs steps each = absurd each

pub kept_numbers : (m : LocalMove) (hs us : List PlacedHandler) → EachKept m hs us → numbers us ≡ numbers hs
kept_numbers m hs us steps = zip_same (GoesOn m) its_number (λ x u s. s.1.number) hs us steps

pub kept_stored : (m : LocalMove) (hs us : List PlacedHandler) → AllStored hs → EachKept m hs us → AllStored us
kept_stored m hs us is steps = zip_all (GoesOn m) IsStored IsStored (λ x u was s. s.1.stored) hs us is steps

none_runs : (hs : List PlacedHandler) → EachHandler [] hs hs
none_runs [] = tt
none_runs (x ∷ xs) = (refl, none_runs xs)

node_each :
    (n : ℕ) (ks : List PlacedHandler) (ms : List LocalMove) (hs : List PlacedHandler) → AllStored hs → NoRepeats (numbers hs)
    → AllByRecursion (λ s. s.node ≡ n) hs
    → NodeRuns hs (filter (is_of n (numbers hs)) ms) ks → EachHandler ms hs ks
node_each n ks [] hs is once stand = λ same. subst (EachHandler [] hs) same (none_runs hs)
node_each n ks (m ∷ ms) hs is once stand =
    by_test (λ b. NodeRuns hs (if b then m ∷ filter (is_of n (numbers hs)) ms else filter (is_of n (numbers hs)) ms) ks
    → EachHandler (m ∷ ms) hs ks) (is_of n (numbers hs) m)
    (λ e r.
    let us = r.0 in
    let steps = node_step m hs us is once r.1 in
    let named = kept_numbers m hs us steps in
    before m ms hs us ks steps
    (node_each n ks ms us (kept_stored m hs us is steps) (subst NoRepeats (sym named) once)
    (zip_all (GoesOn m) (λ s. s.node ≡ n) (λ s. s.node ≡ n) (λ x u at s. s.1.node ∙ at) hs us stand steps)
    (subst (λ ns. NodeRuns us (filter (is_of n ns) ms) ks) (sym named) r.2)))
    (λ e r. before m ms hs hs ks (all_rest m hs is (not_of n m hs e stand)) (node_each n ks ms hs is once stand r))

-- ---- all nodes

both_each : (ms : List LocalMove) (hs ks gs ls : List PlacedHandler) → EachHandler ms hs ks → EachHandler ms gs ls → EachHandler ms (hs ++ gs) (ks ++ ls)
both_each ms [] [] gs ls a b = b
both_each ms (h ∷ hs) (k ∷ ks) gs ls a b = (a.0, both_each ms hs ks gs ls a.1 b)
both_each ms xs ys gs ls a b = absurd a

in_front : (hs gs : List PlacedHandler) (i : ℕ) (h : HandlerId) → slice_get (numbers hs) i ≡ Some h → slice_get (numbers (hs ++ gs)) i ≡ Some h
in_front [] gs i h e = absurd (cc)
in_front (x ∷ xs) gs zero h e = e
in_front (x ∷ xs) gs (suc i) h e = in_front xs gs i h e

pub front_once : (hs gs : List PlacedHandler) → NoRepeats (numbers (hs ++ gs)) → NoRepeats (numbers hs)
front_once hs gs once i j k e f = once i j k (in_front hs gs i k e) (in_front hs gs j k f)

pub back_once : (hs gs : List PlacedHandler) → NoRepeats (numbers (hs ++ gs)) → NoRepeats (numbers gs)
back_once [] gs once = once
back_once (h ∷ hs) gs once = back_once hs gs (rest_once its_number same_handler handler_decides h (hs ++ gs) once)

all_nodes : (ms : List LocalMove) (nodes : List Node) → AllStored (flat_map (λ (n : Node). n.opening) nodes)
    → NoRepeats (numbers (flat_map (λ (n : Node). n.opening) nodes)) → AllByRecursion (IsNode ms) nodes
    → EachHandler ms (flat_map (λ (n : Node). n.opening) nodes) (flat_map (λ (n : Node). n.now) nodes)
all_nodes ms [] is once each = tt
all_nodes ms (n ∷ nodes) is once each =
    let rest = flat_map (λ (n : Node). n.opening) nodes in
    let stored = all_split IsStored n.opening rest is in
    both_each ms n.opening n.now rest (flat_map (λ (n : Node). n.now) nodes)
    (node_each n.number n.now ms n.opening stored.0 (front_once n.opening rest once) each.0.stand each.0.runs)
    (all_nodes ms nodes stored.1 (back_once n.opening rest once) each.1)

pub nodes_are_woven : (ps : List Placement) (ns : List Newcomer) (ms : List LocalMove) (now : System) → MayOpen ps ns → IsWovenOfNodes ps ns ms now
    → IsWoven ps ns ms now
nodes_are_woven ps ns ms now opens w =
    let opening : List PlacedHandler = (new_system ps ns).handlers in
    let once : NoRepeats (numbers opening) = subst NoRepeats (sym (map-map its_number new_placed ps)) opens.apart in
    record {
      handlers =
          subst (λ hs. EachHandler ms hs now.handlers) w.opening
          (subst (EachHandler ms (flat_map (λ (n : Node). n.opening) w.nodes)) w.after
          (all_nodes ms w.nodes (subst AllStored (sym w.opening) (stored_open ps ns opens ps))
          (subst (λ hs. NoRepeats (numbers hs)) (sym w.opening) once) w.each));
      clients = w.clients;
      sent = w.sent;
      members = w.members;
    }
