-- The worlds of the computed examples may open.
use Rattle.scoop_model.proofs.Names.{◌≡◌, ◌≤◌, ℕ, List, [], ◌∷◌, length, length-map, map, refl, sym, ap, subst, arith, NoRepeats, ClientId, HandlerId, once_more}
use Rattle.scoop_model.proofs.Names.{IsPlaced, IsJoining, KnowsPlaced, Placement, Newcomer}
use Rattle.scoop_model.specs.Examples.Parties.{CellsMayOpen, CounterMayOpen, handler, client, cell, counter, placed, joins}
use Rattle.scoop_model.proofs.Beginnings.{no_repeats}

other_handler : (m n : ℕ) → (m ≡ n → ⊥) → handler m ≡ handler n → ⊥
other_handler m n apart e = apart (ap (λ (h : HandlerId). h.0) e)

other_client : (m n : ℕ) → (m ≡ n → ⊥) → client m ≡ client n → ⊥
other_client m n apart e = apart (ap (λ (c : ClientId). c.0) e)

abbrev HandlersApart : List Placement → Type 0
HandlersApart ps = NoRepeats (map (λ (p : Placement). p.handler) ps)

abbrev ClientsApart : List Newcomer → Type 0
ClientsApart ns = NoRepeats (map (λ (n : Newcomer). n.id) ns)

one_handler : (p : Placement) → HandlersApart (p ∷ [])
one_handler p = once_more (λ (x : Placement). x.handler) [] p no_repeats tt

two_handlers : HandlersApart (placed cell 0 1 ∷ placed cell 0 2 ∷ [])
two_handlers = grind (arith, once_more, one_handler, other_handler)

three_handlers : HandlersApart (placed cell 0 1 ∷ placed cell 0 2 ∷ placed cell 0 3 ∷ [])
three_handlers = grind (arith, once_more, other_handler, two_handlers)

one_client : (n : Newcomer) → ClientsApart (n ∷ [])
one_client n = once_more (λ (x : Newcomer). x.id) [] n no_repeats tt

three_clients : (hs : List ℕ) → ClientsApart (joins hs 7 ∷ joins hs 8 ∷ joins hs 9 ∷ [])
three_clients hs = grind (arith, once_more, one_client, other_client)

has_cell : (h : ℕ) → IsPlaced (placed cell 0 h)
has_cell h = record { words = record { some = omega arith; few = omega arith }; class = refl }

has_counter : (h : ℕ) → IsPlaced (placed counter 0 h)
has_counter h = record { words = record { some = omega arith; few = omega arith }; class = refl }

joining : (hs : List ℕ) (c : ℕ) → IsJoining (joins hs c)
joining hs c = record { some = omega arith; limit = omega arith; next = omega arith }

-- each knows all that are placed
knowing : (hs : List ℕ) (c : ℕ) → 1 ≤ length hs → NoRepeats (map handler hs) → KnowsPlaced (map handler hs) (joins hs c)
knowing hs c some once = record { some = subst (λ n. 1 ≤ n) (sym (length-map hs handler)) some; once = once; among = λ h e. e }

pub one_cell_opens : CellsMayOpen (1 ∷ []) (7 ∷ [])
one_cell_opens = grind (arith, one_handler, placed, has_cell, one_client, joins, joining, knowing)

pub two_cells_open : CellsMayOpen (1 ∷ 2 ∷ []) (7 ∷ [])
two_cells_open = grind (arith, two_handlers, placed, has_cell, one_client, joins, joining, knowing)

pub three_cells_open : CellsMayOpen (1 ∷ 2 ∷ 3 ∷ []) (7 ∷ 8 ∷ 9 ∷ [])
three_cells_open = grind (arith, three_handlers, placed, has_cell, three_clients, joining, knowing)

pub counter_opens : CounterMayOpen (7 ∷ [])
counter_opens = grind (arith, one_handler, placed, has_counter, one_client, joins, joining, knowing)
