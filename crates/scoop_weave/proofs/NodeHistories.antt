-- A node's histories lead its handlers as moves of its own. An entry is one move of the handler that it names, and between two
-- histories the node restarts, by which each handler takes its stored state. All these moves are the node's: whom they name is
-- among its handlers, whose numbers stay.
use Rattle.scoop_weave.proofs.Names.{arith, ◌≡◌, ℕ, ◌==◌, true, List, [], ◌∷◌, map, Option, refl, sym, ap, ◌∙◌, subst, AllByRecursion, option_map, Decides-eqb}
use Rattle.scoop_weave.proofs.Names.{Block, HandlerId, Message, same_handler, has, Ran, HandlerState, hear, row, number-row, NoRepeats, Hear, Begin, Finish}
use Rattle.scoop_weave.proofs.Names.{Replays, handler_at, LocalHandler, PlacedHandler, IsStored, its_number, after_reopening, LocalMove, NodeReopened, Goes}
use Rattle.scoop_weave.proofs.Names.{HandlerMoves, AtOne, NodeMoves, NodeRuns, is_of, local_of, all_append}
use Rattle.scoop_handler.specs.declared.note.Heard.{Heard as Told}
use Rattle.scoop_book.specs.declared.event.Event.{Event}
use Rattle.scoop_book.specs.declared.event.Reply.{Reply}
use Rattle.scoop_book.specs.Moves.{Entry}
use Rattle.scoop_handler.specs.Local.{Hears, Begins, Finishes, number_in}
use Rattle.scoop_weave.specs.NodeHistories.{move_of, move_in, moves_of, reopened, Lives}
use Rattle.scoop_book.specs.declared.event.Reply.TheVariants as reply
use Rattle.scoop_book.specs.Moves as book
use Rattle.scoop_weave.proofs.Lists.{find_through, set_through, found_has}
use Rattle.scoop_weave.proofs.Telling.{runs_both}
use Rattle.scoop_weave.proofs.Woven.{AllStored}
use Rattle.scoop_weave.proofs.NodeLists.{numbers, node_step, kept_numbers, kept_stored}

pub number_itself : (n : ℕ) → (n == n) ≡ true
number_itself n = (Decides-eqb n n).1 refl

module _ (words : HandlerId → List ℕ) (n : ℕ) where
  abbrev local : LocalHandler → PlacedHandler
  local s = local_of words n s

  abbrev all : List LocalHandler → List PlacedHandler
  all hs = map local hs

  -- ---- one handler

  -- a handler that keeps its number goes on at its place
  goes : (R : LocalHandler → LocalHandler → Type 0) (s t : LocalHandler) → number_in t ≡ number_in s → R (local s).local (local t).local → Goes R (local s) (local t)
  goes R s t number moves = record { new = (local t).local; moves = moves; after = λ i. record { node = n; placed = words (number i); local = (local t).local } }

  hears : (m : Message) (told : Told) (s t : LocalHandler) → Hears m told s t → Goes (Hears m told) (local s) (local t)
  hears m told s t moves =
      let x : HandlerState = (hear s.core.state m).0 in
      let number = number-row s.core.state m (hear s.core.state m) (row s.core.state m) in
      goes (Hears m told) s t (ap number_in moves.after ∙ number) (record { tells = moves.tells; after = ap (λ y. (local y).local) moves.after })

  begins : (told : Option (Block × ℕ)) (s t : LocalHandler) → Begins told s t → Goes (Begins told) (local s) (local t)
  begins told s t moves = goes (Begins told) s t (ap number_in moves.after) (record { tells = moves.tells; after = ap (λ y. (local y).local) moves.after })

  finishes : (ran : Ran) (s t : LocalHandler) → Finishes ran s t → Goes (Finishes ran) (local s) (local t)
  finishes ran s t moves = grind (arith, goes, number_in)

  -- ---- one entry

  at_one : (e : Event) (r : Reply) (hs ks : List LocalHandler) (x : book.Moves e r hs ks) → HandlerMoves (move_of e r) (local x.handler) (local x.new)
      → AtOne (handler_at e) (move_of e r) (all hs) (all ks)
  at_one e r hs ks x moves =
      record {
        handler = local x.handler;
        here = find_through its_number same_handler local (handler_at e) hs ∙ ap (option_map local) x.here;
        new = local x.new;
        moves = moves;
        after = ap all x.after ∙ sym (set_through its_number same_handler local local (local x.new) x.new hs refl (λ y other. refl));
      }

  node_moves : (e : Event) (r : Reply) (hs ks : List LocalHandler) → book.Moves e r hs ks → NodeMoves (move_of e r) (all hs) (all ks)
  node_moves (Hear m) (reply.Heard told) hs ks x = at_one (Hear m) (reply.Heard told) hs ks x (hears m told x.handler x.new x.moves)
  node_moves (Begin h) (reply.Began told) hs ks x = at_one (Begin h) (reply.Began told) hs ks x (begins told x.handler x.new x.moves)
  node_moves (Finish h) (reply.Finished ran) hs ks x = at_one (Finish h) (reply.Finished ran) hs ks x (finishes ran x.handler x.new x.moves)
  node_moves e r hs ks x = absurd x.moves

  is_here : (e : Event) (r : Reply) (hs ks : List LocalHandler) → book.Moves e r hs ks → has (numbers (all hs)) (handler_at e) ≡ true
  is_here e r hs ks x =
      found_has its_number same_handler (handler_at e) (all hs) (local x.handler)
      (find_through its_number same_handler local (handler_at e) hs ∙ ap (option_map local) x.here)

  node_owns : (e : Event) (r : Reply) (hs ks : List LocalHandler) → book.Moves e r hs ks → is_of n (numbers (all hs)) (move_of e r) ≡ true
  node_owns e r hs ks x = grind (arith, is_here e r hs ks x, x.moves)

  -- ---- one history

  pub record NodeGoes (hs : List LocalHandler) (ms : List LocalMove) (ks : List LocalHandler) : Type 0 where
    pub runs : NodeRuns (all hs) ms (all ks)
    pub own : AllByRecursion (λ m. is_of n (numbers (all hs)) m ≡ true) ms
    pub names : numbers (all ks) ≡ numbers (all hs)
    pub stored : AllStored (all ks)

  owned : (hs us : List LocalHandler) (ms : List LocalMove) → numbers (all us) ≡ numbers (all hs) → AllByRecursion (λ m. is_of n (numbers (all us)) m ≡ true) ms
      → AllByRecursion (λ m. is_of n (numbers (all hs)) m ≡ true) ms
  owned hs us ms names own = subst (λ xs. AllByRecursion (λ m. is_of n xs m ≡ true) ms) names own

  pub replays_run : (hs : List LocalHandler) (es : List Entry) (ks : List LocalHandler) → Replays hs es ks → NodeRuns (all hs) (map move_in es) (all ks)
  replays_run hs [] ks same = ap all same
  replays_run hs (e ∷ es) ks r = (all r.0, node_moves e.1 e.2 hs r.0 r.1, replays_run r.0 es ks r.2)

  replays_go : (hs : List LocalHandler) (es : List Entry) (ks : List LocalHandler) → AllStored (all hs) → NoRepeats (numbers (all hs)) → Replays hs es ks
      → NodeGoes hs (map move_in es) ks
  replays_go hs [] ks is once same = grind arith
  replays_go hs (e ∷ es) ks is once r =
      let us = r.0 in
      let move = node_moves e.1 e.2 hs us r.1 in
      let kept = node_step (move_in e) (all hs) (all us) is once move in
      let names = kept_numbers (move_in e) (all hs) (all us) kept in
      let rest = replays_go us es ks (kept_stored (move_in e) (all hs) (all us) is kept) (subst NoRepeats (sym names) once) r.2 in
      record {
        runs = (all us, move, rest.runs);
        own = (node_owns e.1 e.2 hs us r.1, owned hs us (map move_in es) names rest.own);
        names = rest.names ∙ names;
        stored = rest.stored;
      }

  -- ---- all histories

  opens_again : (s : LocalHandler) → IsStored (local s) → local (reopened words s) ≡ after_reopening n (local s)
  opens_again s is = grind (arith, number_in, number_itself)

  all_open_again : (hs : List LocalHandler) → AllStored (all hs) → all (map (reopened words) hs) ≡ map (after_reopening n) (all hs)
  all_open_again [] is = refl
  all_open_again (s ∷ hs) is = λ i. opens_again s is.0 i ∷ all_open_again hs is.1 i

  pub lives_go : (hs : List LocalHandler) (first : List Entry) (more : List (List Entry)) (now : List LocalHandler) → AllStored (all hs)
      → NoRepeats (numbers (all hs)) → Lives words hs first more now → NodeGoes hs (moves_of n first more) now
  lives_go hs first [] now is once life = replays_go hs first now is once life
  lives_go hs first (es ∷ more) now is once life =
      let last = life.0 in
      let us = map (reopened words) last in
      let here = replays_go hs first last is once life.1 in
      let again : NodeMoves (NodeReopened n) (all last) (all us) = all_open_again last here.stored in
      let apart = subst NoRepeats (sym here.names) once in
      let kept = node_step (NodeReopened n) (all last) (all us) here.stored apart again in
      let names = kept_numbers (NodeReopened n) (all last) (all us) kept in
      let rest = lives_go us es more now (kept_stored (NodeReopened n) (all last) (all us) here.stored kept) (subst NoRepeats (sym names) apart) life.2 in
      record {
        runs = runs_both NodeMoves (all hs) (all last) (all now) (map move_in first) (NodeReopened n ∷ moves_of n es more) here.runs (all us, again, rest.runs);
        own =
            all_append (λ m. is_of n (numbers (all hs)) m ≡ true) (map move_in first) (NodeReopened n ∷ moves_of n es more) here.own
            (number_itself n, owned hs us (moves_of n es more) (names ∙ here.names) rest.own);
        names = rest.names ∙ (names ∙ here.names);
        stored = rest.stored;
      }
