-- Running nodes and clients, in one order of what they did, are a world. Each place of the order is one party's own list. Each
-- handler is of one node, so the moves that concern a node's handlers are just that node's. Those that concern a client are its
-- own. They lead each party on from where it opened, which makes the moves a weave, and so a world.
use Rattle.scoop_weave.proofs.Names.{◌≡◌, ℕ, zero, suc, ◌+◌, ◌≤◌, ◌==◌, ◌||◌, Bool, true, false, true≢false, List, [], ◌∷◌, ◌++◌, map, find, flat_map, filter}
use Rattle.scoop_weave.proofs.Names.{length, slice_get, Some, refl, sym, ap, ◌∙◌, subst, arith, if◌then◌else◌, inl, inr, Option, None, AllByRecursion, list_any}
use Rattle.scoop_weave.proofs.Names.{option_map, Decides, Decides-eqb, map-map, ClientId, HandlerId, same_handler, same_client, handler_decides, client_decides}
use Rattle.scoop_weave.proofs.Names.{has, HandlerState, LocalHandler, opening_handler, Placement, Newcomer, MayOpen, NoRepeats, by_test, key_found, all_more_of}
use Rattle.scoop_weave.proofs.Names.{PlacedHandler, IsStored, its_number, id_in, is_placed, new_placed, new_client, LocalMove, ClientRuns, EachClient, IsMember}
use Rattle.scoop_weave.proofs.Names.{is_by, moves_by, has_handler, has_node, has_client, Node, IsNode, IsWovenOfNodes, is_of, IsWorld, local_of, own, party_at}
use Rattle.scoop_weave.proofs.Names.{NodeLife, Runs, IsNodeLife, IsClientLife, words_in}
use Rattle.std.proofs.lemmas.Bool.{false_from_ne_true}
use Rattle.std.specs.Prelude.{◌⊎◌, unwrap_or}
use Rattle.std.proofs.lemmas.List.{map-append}
use Rattle.std.proofs.lemmas.Option.{same_Some, slice_get_within, slice_get-map}
use Rattle.std.proofs.lemmas.List.Folds.{flat_map-map}
use Rattle.scoop_model.proofs.Basics.{all_mapped}
use Rattle.std.proofs.lemmas.Slice.Zip.{AllZip-long}
use Rattle.scoop_handler.specs.State.{new_state}
use Rattle.scoop_handler.proofs.Basics.{all_at, all_found}
use Rattle.scoop_weave.specs.NodeHistories.{OpensFirst, AllOpenFirst}
use Rattle.scoop_weave.specs.Lives.{ClientLife, placements_of, newcomers_of, newly, moves_of_node, moves_of_client, handlers_of, system_of}
use Rattle.scoop_weave.proofs.Lists.{all_split, itself, apart, rest_once, has_found, found_has}
use Rattle.scoop_weave.proofs.NodeLists.{numbers, front_once, back_once, nodes_are_woven}
use Rattle.scoop_weave.proofs.Woven.{AllStored, stored_open, woven_is_weave}
use Rattle.scoop_weave.proofs.Headline.{weave_is_a_world}
use Rattle.scoop_weave.proofs.ClientSteps.{IsClients, by_name, lives_run, not_of, is_its}
use Rattle.scoop_weave.proofs.NodeHistories.{NodeGoes, lives_go}
use Rattle.scoop_weave.proofs.Orders.{filtered, all_through, by_place, in_front, past_front, there, nobody_there, within, past, place_of, Place}
use Rattle.scoop_weave.proofs.Lists as Lists

-- ---- lists

module _ {A : Type 0} where
  any_at : (test : A → Bool) (xs : List A) (i : ℕ) (x : A) → slice_get xs i ≡ Some x → test x ≡ true → list_any test xs ≡ true
  any_at test [] i x e is = absurd (cc)
  any_at test (y ∷ ys) zero x e is = grind (arith, list_any)
  any_at test (y ∷ ys) (suc i) x e is = by_test (λ t. (t || list_any test ys) ≡ true) (test y) (λ _. refl) (λ _. any_at test ys i x e is)

module _ {A B : Type 0} (f : A → B) where
  mapped : (xs : List A) (i : ℕ) (x : A) → slice_get xs i ≡ Some x → slice_get (map f xs) i ≡ Some (f x)
  mapped xs i x e = slice_get-map f xs i ∙ ap (option_map f) e

  any_found : (test : A → Bool) (is : B → Bool) (xs : List A) (x : A) → find test xs ≡ Some x → is (f x) ≡ true → list_any is (map f xs) ≡ true
  any_found test is [] x e yes_it_is = absurd (cc)
  any_found test is (y ∷ ys) x e yes_it_is =
      by_test (λ t. (if t then Some y else find test ys) ≡ Some x → list_any is (map f (y ∷ ys)) ≡ true) (test y)
      (λ _ g. let same : y ≡ x = cc in ap (λ t. t || list_any is (map f ys)) (ap (λ z. is (f z)) same ∙ yes_it_is))
      (λ _ g. by_test (λ t. (t || list_any is (map f ys)) ≡ true) (is (f y)) (λ _. refl) (λ _. any_found test is ys x g yes_it_is))
      e

module _ {A K : Type 0} (key : A → K) (same : K → K → Bool) (decides : (a b : K) → Decides (same a b) (a ≡ b)) where
  -- an item is the one that is found by its key
  found_own : (xs : List A) (i : ℕ) (x : A) → NoRepeats (map key xs) → slice_get xs i ≡ Some x → find (λ a. same (key a) (key x)) xs ≡ Some x
  found_own [] i x once e = absurd (cc)
  found_own (y ∷ ys) zero x once e = grind (arith, itself)
  found_own (y ∷ ys) (suc i) x once e =
      let other : key y ≡ key x → ⊥ = λ is. clash (once 0 (suc i) (key x) (ap Some is) (mapped key ys i x e)) in
      ap (λ t. if t then Some y else find (λ a. same (key a) (key x)) ys) (apart same decides (key y) (key x) other)
      ∙ found_own ys i x (rest_once key same decides y ys once) e
    where
      clash : 0 ≡ suc i → ⊥
      clash e = omega arith

-- ---- numbers

pub number_test : (a b : ℕ) → (a ≡ b → ⊥) → (a == b) ≡ false
number_test a b differ = Lists.apart ◌==◌ Decides-eqb a b differ

-- ---- as all open

module _ (nodes : List NodeLife) (clients : List ClientLife) (opens : MayOpen (placements_of nodes) (newcomers_of clients)) where
  abbrev ps : List Placement
  ps = placements_of nodes

  abbrev ns : List Newcomer
  ns = newcomers_of clients

  abbrev opening_of : NodeLife → List PlacedHandler
  opening_of n = map (local_of (words_in ps) n.number) n.opening

  abbrev as_node : NodeLife → Node
  as_node n = record { number = n.number; opening = opening_of n; now = handlers_of ps n }

  abbrev openings : List NodeLife → List PlacedHandler
  openings xs = flat_map (λ (n : Node). n.opening) (map as_node xs)

  abbrev IsFoundPlaced : Placement → Type 0
  IsFoundPlaced p = find (λ (q : Placement). same_handler q.handler p.handler) ps ≡ Some p

  placed_found : AllByRecursion IsFoundPlaced ps
  placed_found = by_place IsFoundPlaced ps (λ i p e. found_own (λ (q : Placement). q.handler) same_handler handler_decides ps i p opens.apart e)

  abbrev Stand : NodeLife → Type 0
  Stand n = AllByRecursion (λ (p : Placement). p.node ≡ n.number) n.placed × AllOpenFirst n.placed n.opening

  -- a handler that opens for the first time counts as a new one, whether its state is stored or not
  opens_as : (n : ℕ) (p : Placement) (o : Option HandlerState) → (o ≡ None) ⊎ (o ≡ Some (new_state p.handler p.words)) → words_in ps p.handler ≡ p.words
      → p.node ≡ n → local_of (words_in ps) n (opening_handler p.handler p.class p.words o) ≡ new_placed p
  opens_as n p o (inl none) words stand = grind arith
  opens_as n p o (inr some) words stand = grind arith

  open_placed : (n : ℕ) (qs : List Placement) (hs : List LocalHandler) → AllByRecursion (λ (p : Placement). p.node ≡ n) qs → AllOpenFirst qs hs
      → AllByRecursion IsFoundPlaced qs → map (local_of (words_in ps) n) hs ≡ map new_placed qs
  open_placed n [] [] stand first found = refl
  open_placed n (p ∷ qs) (s ∷ hs) stand first found = grind (arith, unwrap_or, option_map, opens_as, (open_placed n qs hs stand.1 first.1 found.1))
  open_placed n xs ys stand first found = absurd first

  all_open : (xs : List NodeLife) → AllByRecursion Stand xs → AllByRecursion IsFoundPlaced (flat_map (λ (n : NodeLife). n.placed) xs)
      → openings xs ≡ map new_placed (flat_map (λ (n : NodeLife). n.placed) xs)
  all_open [] stand found = refl
  all_open (n ∷ xs) stand found =
      let rest = flat_map (λ (n : NodeLife). n.placed) xs in
      let split = all_split IsFoundPlaced n.placed rest found in
      ap (λ ss. ss ++ openings xs) (open_placed n.number n.placed n.opening stand.0.0 stand.0.1 split.0)
      ∙ (ap (λ ss. map new_placed n.placed ++ ss) (all_open xs stand.1 split.1) ∙ sym (map-append new_placed n.placed rest))

  stand_open : (n : ℕ) (hs : List LocalHandler) → AllByRecursion (λ (s : PlacedHandler). s.node ≡ n) (map (local_of (words_in ps) n) hs)
  stand_open n [] = tt
  stand_open n (s ∷ hs) = (refl, stand_open n hs)

  -- ---- what runs

  module _ (order : List (ℕ × LocalMove)) (runs : Runs nodes clients order) where
    abbrev moves : List LocalMove
    moves = map (λ x. x.1) order

    opened : openings nodes ≡ map new_placed ps
    opened = all_open nodes (all_more_of (IsNodeLife (words_in ps)) Stand (λ n is. (is.stand, is.opens)) nodes runs.each_node) placed_found

    once : NoRepeats (numbers (openings nodes))
    once = subst (λ ss. NoRepeats (numbers ss)) (sym opened) (subst NoRepeats (sym (map-map its_number new_placed ps)) opens.apart)

    abbrev IsFound : PlacedHandler → Type 0
    IsFound s = find (is_placed (its_number s)) (openings nodes) ≡ Some s

    handlers_found : AllByRecursion IsFound (openings nodes)
    handlers_found = by_place IsFound (openings nodes) (λ i s e. found_own its_number same_handler handler_decides (openings nodes) i s once e)

    record Facts (n : NodeLife) : Type 0 where
      found : AllByRecursion IsFound (opening_of n)
      goes : NodeGoes (words_in ps) n.number n.opening (moves_of_node n) n.now
      some : 1 ≤ length n.opening

    abbrev Front : List NodeLife → Type 0
    Front xs = AllStored (openings xs) × NoRepeats (numbers (openings xs)) × AllByRecursion IsFound (openings xs)

    facts : (xs : List NodeLife) → AllStored (openings xs) → NoRepeats (numbers (openings xs)) → AllByRecursion IsFound (openings xs)
        → AllByRecursion (IsNodeLife (words_in ps)) xs → AllByRecursion Facts xs
    facts [] stored apart found all = tt
    facts (n ∷ xs) stored apart found all =
        let is = all_split IsStored (opening_of n) (openings xs) stored in
        let here = all_split IsFound (opening_of n) (openings xs) found in (
          record {
            found = here.0;
            goes = lives_go (words_in ps) n.number n.opening n.first n.more n.now is.0
                (front_once (opening_of n) (openings xs) apart) all.0.lives;
            some = subst (λ k. 1 ≤ k) (sym (AllZip-long OpensFirst n.placed n.opening all.0.opens)) all.0.some;
          },
          facts xs is.1 (back_once (opening_of n) (openings xs) apart) here.1 all.1,
        )

    each_node : AllByRecursion Facts nodes
    each_node = facts nodes (subst AllStored (sym opened) (stored_open ps ns opens ps)) once handlers_found runs.each_node

    -- ---- whose handler it is

    abbrev names : NodeLife → List HandlerId
    names n = numbers (opening_of n)

    record IsAt (n : NodeLife) (h : HandlerId) : Type 0 where
      handler : PlacedHandler
      node : handler.node ≡ n.number
      found : find (is_placed h) (openings nodes) ≡ Some handler

    is_at : (n : NodeLife) (h : HandlerId) → Facts n → has (names n) h ≡ true → IsAt n h
    is_at n h f e =
        let s = has_found its_number same_handler h (opening_of n) e in
        let named = key_found its_number same_handler handler_decides h (opening_of n) s.0 s.1 in
        record {
          handler = s.0;
          node = all_found (λ (s : PlacedHandler). s.node ≡ n.number) (is_placed h) (opening_of n) s.0 (stand_open n.number n.opening) s.1;
          found = subst (λ k. find (is_placed k) (openings nodes) ≡ Some s.0) named (all_found IsFound (is_placed h) (opening_of n) s.0 f.found s.1);
        }

    same_node : (n k : NodeLife) (h : HandlerId) → IsAt n h → IsAt k h → n.number ≡ k.number
    same_node n k h a b = grind (arith, same_Some)

    not_here : (n k : NodeLife) (h : HandlerId) → Facts n → Facts k → (k.number ≡ n.number → ⊥) → has (names k) h ≡ true → has (names n) h ≡ false
    not_here n k h f g differ e = false_from_ne_true (has (names n) h) (λ here. differ (same_node k n h (is_at k h g e) (is_at n h f here)))

    not_its : (n k : NodeLife) (m : LocalMove) → Facts n → Facts k → (k.number ≡ n.number → ⊥) → is_of k.number (names k) m ≡ true
        → is_of n.number (names n) m ≡ false
    not_its n k m f g differ e = grind (arith, not_here n k, number_test, f, g, differ, e)

    no_client : (n : ℕ) (hs : List HandlerId) (c : ClientId) (m : LocalMove) → is_of n hs m ≡ true → is_by c m ≡ false
    no_client n hs c m e = grind (arith, e)

    -- ---- the party at a place of the order

    data Party (j : ℕ) : Type 0 where
      of_node : (n : NodeLife) → slice_get nodes j ≡ Some n → own j order ≡ moves_of_node n → Party j
      of_client : (k : ℕ) (c : ClientLife) → j ≡ length nodes + k → slice_get clients k ≡ Some c → own j order ≡ moves_of_client c → Party j
      of_nobody : own j order ≡ [] → Party j

    abbrev past_nodes : (j k : ℕ) → j ≡ length nodes + k → own j order ≡ party_at (map moves_of_client clients) k
    past_nodes j k e = runs.whole.whole j ∙ past_front moves_of_node nodes (map moves_of_client clients) k j e

    client_party : (j k : ℕ) → j ≡ length nodes + k → Place clients k → Party j
    client_party j k e (within c f) = of_client k c e f (past_nodes j k e ∙ there moves_of_client clients k c f)
    client_party j k e (past l f) = of_nobody (past_nodes j k e ∙ nobody_there moves_of_client clients l k f)

    any_party : (j : ℕ) → Place nodes j → Party j
    any_party j (within n e) = of_node n e (runs.whole.whole j ∙ in_front moves_of_node nodes (map moves_of_client clients) j n e)
    any_party j (past k e) = client_party j k e (place_of clients k)

    abbrev AllOf : (LocalMove → Type 0) → ℕ → Type 0
    AllOf P j = AllByRecursion P (own j order)

    by_party :
        (P : LocalMove → Type 0) (j : ℕ)
        → ((n : NodeLife) (m : LocalMove) → slice_get nodes j ≡ Some n → is_of n.number (names n) m ≡ true → P m)
        → ((k : ℕ) (c : ClientLife) (m : LocalMove) → j ≡ length nodes + k → slice_get clients k ≡ Some c → IsClients (id_in (newly c)) m → P m)
        → AllOf P j
    by_party P j at_node at_client = through (any_party j (place_of nodes j))
      where
        through : Party j → AllOf P j
        through (of_node n e o) =
            subst (AllByRecursion P) (sym o)
            (all_more_of (λ m. is_of n.number (names n) m ≡ true) P (λ m. at_node n m e) (moves_of_node n) (all_at Facts nodes j n e each_node).goes.own)
        through (of_client k c e f o) =
            subst (AllByRecursion P) (sym o)
            (all_more_of (IsClients (id_in (newly c))) P (λ m. at_client k c m e f) (moves_of_client c)
            (lives_run (newly c) c.first c.more c.now (all_at IsClientLife clients k c f runs.each_client)).own)
        through (of_nobody o) = subst (AllByRecursion P) (sym o) tt

    -- ---- a node's own moves

    same_place : (i j : ℕ) (n k : NodeLife) → slice_get nodes i ≡ Some n → slice_get nodes j ≡ Some k → k.number ≡ n.number → j ≡ i
    same_place i j n k e f same =
        runs.apart j i n.number
        (mapped (λ (x : NodeLife). x.number) nodes j k f ∙ ap Some same)
        (mapped (λ (x : NodeLife). x.number) nodes i n e)

    nodes_test : (i j : ℕ) (n k : NodeLife) (m : LocalMove) → slice_get nodes i ≡ Some n → slice_get nodes j ≡ Some k → is_of k.number (names k) m ≡ true
        → is_of n.number (names n) m ≡ (j == i)
    nodes_test i j n k m e f own = grind (arith, Decides-eqb, slice_get, own, there, not_its, all_at, each_node, true≢false, same_place)

    apart_places : (i j k : ℕ) (n : NodeLife) → slice_get nodes i ≡ Some n → j ≡ length nodes + k → j ≡ i → ⊥
    apart_places i j k n e f same = let h = slice_get_within nodes i n e in omega (arith, h)

    node_filtered : (i : ℕ) (n : NodeLife) → slice_get nodes i ≡ Some n → filter (is_of n.number (names n)) moves ≡ moves_of_node n
    node_filtered i n e =
        let P : ℕ → LocalMove → Type 0 = λ j m. is_of n.number (names n) m ≡ (j == i) in
        filtered (is_of n.number (names n)) i order
        (all_through P order
        (λ j. by_party (P j) j (λ k m f own. nodes_test i j n k m e f own)
        (λ k c m f g own. not_of (id_in (newly c)) n.number (names n) m own ∙ sym (number_test j i (apart_places i j k n e f)))))
        ∙ (runs.whole.whole i ∙ in_front moves_of_node nodes (map moves_of_client clients) i n e)

    -- ---- a client's own moves

    clients_test : (k l : ℕ) (c d : ClientLife) (m : LocalMove) → slice_get clients k ≡ Some c → slice_get clients l ≡ Some d → IsClients (id_in (newly d)) m
        → is_by (id_in (newly c)) m ≡ (l == k)
    clients_test k l c d m e f own =
        let id : ClientLife → ClientId = λ (x : ClientLife). x.joined.id in
        let ids_at : (i : ℕ) (x : ClientLife) → slice_get clients i ≡ Some x → slice_get (map (λ (n : Newcomer). n.id) ns) i ≡ Some (id x) =
        λ i x g. mapped (λ (n : Newcomer). n.id) ns i x.joined (mapped (λ (x : ClientLife). x.joined) clients i x g) in
        is_its (id d) (id c) m own
        ∙ by_test (λ t. same_client (id d) (id c) ≡ t) (l == k)
        (λ here.
        let place : l ≡ k = (Decides-eqb l k).0 here in
        let both : Some d ≡ Some c = sym f ∙ (ap (slice_get clients) place ∙ e) in
        let one : d ≡ c = cc in
        (client_decides (id d) (id c)).1 (ap id one))
        (λ there.
        Lists.apart same_client client_decides (id d) (id c)
        (λ same. true≢false (sym ((Decides-eqb l k).1 (opens.clients_apart l k (id c) (ids_at l d f ∙ ap Some same) (ids_at k c e))) ∙ there)))

    shifted : (a l k : ℕ) → (l == k) ≡ (a + l == a + k)
    shifted a l k = grind (arith, Decides-eqb, number_test, true≢false)

    client_filtered : (k : ℕ) (c : ClientLife) → slice_get clients k ≡ Some c → moves_by (id_in (newly c)) moves ≡ moves_of_client c
    client_filtered k c e =
        let i = length nodes + k in
        let P : ℕ → LocalMove → Type 0 = λ j m. is_by (id_in (newly c)) m ≡ (j == i) in
        filtered (is_by (id_in (newly c))) i order
        (all_through P order
        (λ j. by_party (P j) j
        (λ n m f own. no_client n.number (names n) (id_in (newly c)) m own ∙ sym (number_test j i (λ same. apart_places j i k n f refl (sym same))))
        (λ l d m f g own. clients_test k l c d m e g own ∙ (shifted (length nodes) l k ∙ ap (λ x. x == i) (sym f)))))
        ∙ (past_nodes i k refl ∙ there moves_of_client clients k c e)

    -- ---- members

    handler_known : (n : NodeLife) (h : HandlerId) → Facts n → has (names n) h ≡ true → has_handler ps h ≡ true
    handler_known n h f e =
        let s = is_at n h f e in
        sym (ap (λ ks. list_any (λ k. same_handler k h) ks) (ap numbers opened ∙ map-map its_number new_placed ps))
        ∙ found_has its_number same_handler h (openings nodes) s.handler s.found

    node_known : (n : NodeLife) (k : ℕ) → Facts n → (n.number == k) ≡ true → has_node ps k ≡ true
    node_known n k f e = known n.opening f.some f.found
      where
        known : (hs : List LocalHandler) → 1 ≤ length hs → AllByRecursion IsFound (map (local_of (words_in ps) n.number) hs)
            → has_node ps k ≡ true
        known [] some found = let none : ⊥ = omega arith in absurd none
        known (x ∷ hs) some found =
            let s = local_of (words_in ps) n.number x in
            sym (ap (λ ss. list_any (λ j. j == k) (map (λ (s : PlacedHandler). s.node) ss)) opened
            ∙ ap (λ js. list_any (λ j. j == k) js) (map-map (λ (s : PlacedHandler). s.node) new_placed ps))
            ∙ any_found (λ (s : PlacedHandler). s.node) (is_placed (its_number s)) (λ j. j == k) (openings nodes) s found.0 e

    client_known : (k : ℕ) (c : ClientLife) → slice_get clients k ≡ Some c → has_client ns c.joined.id ≡ true
    client_known k c e =
        any_at (λ d. same_client d c.joined.id) (map (λ (n : Newcomer). n.id) ns) k c.joined.id
        (mapped (λ (n : Newcomer). n.id) ns k c.joined (mapped (λ (x : ClientLife). x.joined) clients k c e))
        (itself same_client client_decides c.joined.id)

    node_member : (n : NodeLife) (m : LocalMove) → Facts n → is_of n.number (names n) m ≡ true → IsMember ps ns m
    node_member n m f e = grind (arith, handler_known n, node_known n, f, e)

    client_member : (d : ClientId) (m : LocalMove) → has_client ns d ≡ true → IsClients d m → IsMember ps ns m
    client_member d m known own =
        let same : (c : ClientId) → same_client c d ≡ true → has_client ns c ≡ true = λ c e. ap (has_client ns) (by_name c d e) ∙ known in
        grind (arith, same, own)

    members : AllByRecursion (IsMember ps ns) moves
    members =
        all_mapped (λ x. x.1) (λ x. IsMember ps ns x.1) (IsMember ps ns) (λ x is. is) order
        (all_through (λ j. IsMember ps ns) order
        (λ j. by_party (IsMember ps ns) j
        (λ n m e own. node_member n m (all_at Facts nodes j n e each_node) own)
        (λ k c m e f own. client_member c.joined.id m (client_known k c f) own)))

    -- ---- all together

    clients_run : (xs : List ClientLife) → AllByRecursion (λ (c : ClientLife). ClientRuns (newly c) (moves_by (id_in (newly c)) moves) c.now) xs
        → EachClient moves (map new_client (newcomers_of xs)) (map (λ (c : ClientLife). c.now) xs)
    clients_run [] all = tt
    clients_run (c ∷ xs) all = (all.0, clients_run xs all.1)

    node_runs : (i : ℕ) (n : NodeLife) → slice_get nodes i ≡ Some n → IsNode moves (as_node n)
    node_runs i n e = grind (arith, all_at, each_node, stand_open, node_filtered)

    client_runs : (k : ℕ) (c : ClientLife) → slice_get clients k ≡ Some c → ClientRuns (newly c) (moves_by (id_in (newly c)) moves) c.now
    client_runs k c e =
        subst (λ ms. ClientRuns (newly c) ms c.now) (sym (client_filtered k c e))
        (lives_run (newly c) c.first c.more c.now (all_at IsClientLife clients k c e runs.each_client)).runs

    woven : IsWovenOfNodes ps ns moves (system_of nodes clients)
    woven = record {
      nodes = map as_node nodes;
      opening = opened;
      after = flat_map-map (λ (n : Node). n.now) as_node nodes;
      each = all_mapped as_node (λ n. IsNode moves (as_node n)) (IsNode moves) (λ n is. is) nodes
          (by_place (λ (n : NodeLife). IsNode moves (as_node n)) nodes node_runs);
      clients = clients_run clients (by_place (λ (c : ClientLife). ClientRuns (newly c) (moves_by (id_in (newly c)) moves) c.now) clients client_runs);
      sent = runs.sent;
      members = members;
    }

    pub is_a_world : IsWorld ps ns moves (system_of nodes clients)
    is_a_world = weave_is_a_world ps ns moves (system_of nodes clients) opens
        (woven_is_weave ps ns opens moves (system_of nodes clients) (nodes_are_woven ps ns moves (system_of nodes clients) opens woven))
