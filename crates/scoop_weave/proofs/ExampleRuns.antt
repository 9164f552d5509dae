-- The example is a run. Its events can happen and its steps can be made, as is computed, and so is that each message that is
-- heard was sent before. Whatever the parties did, turns are an order of it.
use Rattle.scoop_weave.proofs.Names.{◌≡◌, ℕ, zero, suc, ◌≤◌, ◌==◌, ◌&&◌, Bool, true, false, true≢false, List, [], ◌∷◌, ◌++◌, map, take, drop, length, is_some}
use Rattle.scoop_weave.proofs.Names.{refl, sym, ap, ◌∙◌, subst, arith, inl, inr, AllByRecursion, option_map_or, and_parts, Message, Welcome, Locked, Opened}
use Rattle.scoop_weave.proofs.Names.{Unlocked, Logged, message_decides, job_out, LocalHandler, append-nil, list_any, Hear, Begin, Finish, Replays, handler_at}
use Rattle.scoop_weave.proofs.Names.{AllCan, LocalMove, Heard, Began, Finished, NodeReopened, Commanded, Sent, NoRepeats, ClientHeard, ClientRestarted, HeardIn}
use Rattle.scoop_weave.proofs.Names.{sent_in, sent_by, HeardAfterSent, own, party_at, NodeLife, Runs, IsNodeLife, IsClientLife, words_in, Placement, Newcomer}
use Rattle.scoop_weave.proofs.Names.{new_client, LocalClient, ⊤}
use Rattle.std.specs.Prelude.{◌-◌, ◌^◌}
use Rattle.std.proofs.lemmas.Map.Views.{Contains-from_any}
use Rattle.std.proofs.lemmas.Grind.{flat_map-append}
use Rattle.std.proofs.lemmas.List.{take-append-drop}
use Rattle.scoop_message.specs.Range.{IsClient, IsBlock}
use Rattle.scoop_message.specs.contracts.message.MessagePartialEq.TheImpl as on_message
use Rattle.scoop_handler.specs.Local.{handler_in}
use Rattle.scoop_handler.proofs.Once.{once_more}
use Rattle.scoop_frame.specs.declared.version.Version.TheVariants.{One}
use Rattle.scoop_frame.specs.Frame.{frame, IsFrame}
use Rattle.scoop_driver.specs.declared.step.Step.{Step}
use Rattle.scoop_model.specs.Examples.Parties.{handler, client, block, joins}
use Rattle.scoop_book.specs.declared.event.Event.{Event}
use Rattle.scoop_book.specs.declared.event.Reply.TheVariants as reply
use Rattle.scoop_book.specs.Moves.{HandlerMoves, Moves}
use Rattle.scoop_weave.specs.NodeHistories.{AllOpenFirst}
use Rattle.scoop_weave.specs.ClientSteps.{driven}
use Rattle.scoop_weave.specs.Order.{IsOrder}
use Rattle.scoop_weave.specs.Lives.{ClientLife, placements_of, moves_of_node, moves_of_client}
use Rattle.scoop_weave.specs.Example.{gone_on, told_at, after_event, reply_to, entries_by, handlers_by, opened_again, reopening_node, restarted}
use Rattle.scoop_weave.specs.Example.{restarting_client, by_turns, order_of, turns, cells, opening, first_events, next_events, node, first_steps, next_steps}
use Rattle.scoop_weave.specs.Example.{party, order}
use Rattle.scoop_weave.proofs.NodeHistories.{number_itself}
use Rattle.scoop_weave.proofs.JoinedLives.{number_test}

-- ---- events that can happen are a history that replays

abbrev can_at : Event → LocalHandler → Bool
can_at (Hear m) s = true
can_at (Begin h) s = true
can_at (Finish h) s = is_some (job_out s.core)

abbrev can_happen : Event → List LocalHandler → Bool
can_happen e hs = option_map_or (can_at e) (handler_in (handler_at e) hs) false

abbrev all_happen : List LocalHandler → List Event → Bool
all_happen hs [] = true
all_happen hs (e ∷ es) = can_happen e hs && all_happen (after_event e hs) es

moves : (e : Event) (s : LocalHandler) → can_at e s ≡ true → HandlerMoves e (told_at e s) s (gone_on e s)
moves (Finish h) s can = grind (arith, option_map_or, true≢false)
moves e s can = record { tells = refl; after = refl }

happens : (e : Event) (hs : List LocalHandler) → can_happen e hs ≡ true → Moves e (reply_to e hs) hs (after_event e hs)
happens e hs can = grind (arith, option_map_or, gone_on, true≢false, moves)

replays : (hs : List LocalHandler) (es : List Event) → all_happen hs es ≡ true → Replays hs (entries_by hs es) (handlers_by hs es)
replays hs [] can = refl
replays hs (e ∷ es) can =
    let both = and_parts (can_happen e hs) (all_happen (after_event e hs) es) can in
    (after_event e hs, happens e hs both.0, replays (after_event e hs) es both.1)

node_life : (n : ℕ) (ps : List Placement) (hs : List LocalHandler) (es fs : List Event) → 1 ≤ length ps → AllByRecursion (λ (p : Placement). p.node ≡ n) ps
    → AllOpenFirst ps hs → all_happen hs es ≡ true → all_happen (opened_again ps hs es) fs ≡ true
    → IsNodeLife (words_in ps) (reopening_node n ps hs es fs)
node_life n ps hs es fs some stand opens first next = record {
  some = some;
  stand = stand;
  opens = opens;
  lives = (handlers_by hs es, replays hs es first, replays (opened_again ps hs es) fs next);
}

-- ---- what is heard was sent

abbrev hears_sent : List Message → LocalMove → Bool
hears_sent sent (Heard h m told) = list_any (on_message.eq-value.it m) sent
hears_sent sent (Began h told) = true
hears_sent sent (Finished h ran) = true
hears_sent sent (NodeReopened n) = true
hears_sent sent (Commanded c x b) = true
hears_sent sent (Sent c h m) = true
hears_sent sent (ClientHeard c m note) = list_any (on_message.eq-value.it m) sent
hears_sent sent (ClientRestarted c) = true

abbrev all_hear_sent : List Message → List LocalMove → Bool
all_hear_sent sent [] = true
all_hear_sent sent (m ∷ ms) = hears_sent sent m && all_hear_sent (sent ++ sent_in m) ms

was_sent : (sent : List Message) (m : LocalMove) → hears_sent sent m ≡ true → HeardIn sent m
was_sent sent m e = grind (arith, Contains-from_any (λ a b. (message_decides a b).0), e)

all_sent : (past : List LocalMove) (sent : List Message) (ms : List LocalMove) → sent_by past ≡ sent → all_hear_sent sent ms ≡ true → HeardAfterSent past ms
all_sent past sent [] is e = tt
all_sent past sent (m ∷ ms) is e =
    let both = and_parts (hears_sent sent m) (all_hear_sent (sent ++ sent_in m) ms) e in
    let more : sent_by (past ++ m ∷ []) ≡ sent ++ sent_in m =
    flat_map-append sent_in past (m ∷ []) ∙ (ap (λ xs. xs ++ (sent_in m ++ [])) is ∙ ap (λ xs. sent ++ xs) (append-nil (sent_in m))) in
    (subst (λ xs. HeardIn xs m) (sym is) (was_sent sent m both.0), all_sent (past ++ m ∷ []) (sent ++ sent_in m) ms more both.1)

-- ---- turns are an order

module _ {A : Type 0} where
  abbrev tagged : ℕ → List A → List (ℕ × A)
  tagged i xs = map (λ x. (i, x)) xs

  own_in_front : (i : ℕ) (xs : List A) (rest : List (ℕ × A)) → own i (tagged i xs ++ rest) ≡ xs ++ own i rest
  own_in_front i [] rest = refl
  own_in_front i (x ∷ xs) rest = grind (arith, own, number_itself, (own_in_front i xs rest))

  past_others : (i k : ℕ) → (i ≡ k → ⊥) → (xs : List A) (rest : List (ℕ × A)) → own k (tagged i xs ++ rest) ≡ own k rest
  past_others i k differ [] rest = refl
  past_others i k differ (x ∷ xs) rest = grind (arith, own, number_test, (past_others i k differ xs rest))

  all_others : (i k : ℕ) → (i ≡ k → ⊥) → (xs : List A) → own k (tagged i xs) ≡ []
  all_others i k differ xs = ap (own k) (sym (append-nil (tagged i xs))) ∙ past_others i k differ xs []

  all_own : (i : ℕ) (xs : List A) → own i (tagged i xs) ≡ xs
  all_own i xs = ap (own i) (sym (append-nil (tagged i xs))) ∙ (own_in_front i xs [] ∙ append-nil xs)

  own_by_turns : (ns : List ℕ) (i j : ℕ) → (i ≡ j → ⊥) → (xs ys : List A) → (own i (by_turns ns i j xs ys) ≡ xs) × (own j (by_turns ns i j xs ys) ≡ ys)
  own_by_turns [] i j differ xs ys = grind (arith, own_in_front, all_others, append-nil, past_others, all_own)
  own_by_turns (n ∷ ns) i j differ xs ys =
      let rest = own_by_turns ns j i (λ e. differ (sym e)) ys (drop n xs) in
      let more = by_turns ns j i ys (drop n xs) in (
        own_in_front i (take n xs) more ∙ (ap (λ zs. take n xs ++ zs) rest.1 ∙ take-append-drop n xs),
        past_others i j differ (take n xs) more ∙ rest.0,
      )

  nobody_else : (ns : List ℕ) (i j k : ℕ) → (i ≡ k → ⊥) → (j ≡ k → ⊥) → (xs ys : List A) → own k (by_turns ns i j xs ys) ≡ []
  nobody_else [] i j k one other xs ys = past_others i k one xs (tagged j ys) ∙ all_others j k other ys
  nobody_else (n ∷ ns) i j k one other xs ys = grind (arith, past_others, take, (nobody_else ns j i k other one ys (drop n xs)))

  turns_order : (ns : List ℕ) (xs ys : List A) → IsOrder (xs ∷ ys ∷ []) (by_turns ns 1 0 ys xs)
  turns_order ns xs ys = record { whole = whole }
    where
      whole : (i : ℕ) → own i (by_turns ns 1 0 ys xs) ≡ party_at (xs ∷ ys ∷ []) i
      whole zero = (own_by_turns ns 1 0 (λ e. omega (arith, e)) ys xs).1
      whole (suc zero) = (own_by_turns ns 1 0 (λ e. omega (arith, e)) ys xs).0
      whole (suc (suc i)) = nobody_else ns 1 0 (suc (suc i)) (λ e. omega (arith, e)) (λ e. omega (arith, e)) ys xs

-- ---- frames

-- a handler's number and an incarnation of the example
abbrev Small : ℕ → ℕ → Type 0
Small h inc = (h ≤ 2) × (1 ≤ inc) × (inc ≤ 2)

is_client : (h inc : ℕ) → Small h inc → IsClient (handler h) (client 7) inc
is_client h inc small = record { handler = omega (arith, small.0); client = omega arith; incarnation = omega (arith, small.2) }

is_block : (h inc : ℕ) → Small h inc → IsBlock (handler h) (block 7 inc 1)
is_block h inc small = record { client = is_client h inc small; num = omega arith }

abbrev IsOne : Message → Type 0
IsOne m = IsFrame One m (frame One m)

welcome : (h inc : ℕ) → Small h inc → IsOne (Welcome (handler h) (client 7) inc)
welcome h inc small = record { carries = tt; fits = small.1; range = is_client h inc small; bytes_are = refl }

locked : (h inc : ℕ) → Small h inc → IsOne (Locked (handler h) (block 7 inc 1))
locked h inc small = grind (arith, is_block)

opened : (h inc : ℕ) → Small h inc → IsOne (Opened (handler h) (block 7 inc 1))
opened h inc small = grind (arith, is_block)

unlocked : (h inc : ℕ) → Small h inc → IsOne (Unlocked (handler h) (block 7 inc 1))
unlocked h inc small = grind (arith, is_block)

one_one : Small 1 1
one_one = (omega arith, omega arith, omega arith)

two_one : Small 2 1
two_one = (omega arith, omega arith, omega arith)

one_two : Small 1 2
one_two = (omega arith, omega arith, omega arith)

two_two : Small 2 2
two_two = (omega arith, omega arith, omega arith)

logged : IsOne (Logged (handler 1) (block 7 1 1) 1)
logged = grind (arith, block, is_block, one_one)

-- ---- the steps can be made

abbrev joining : Newcomer
joining = joins (1 ∷ 2 ∷ []) 7

-- this step can be made, and then these
can : {A B : Type 0} → A → B → A × B
can one more = (one, more)

first_can : AllCan (new_client joining).client first_steps
first_can =
    can (welcome 1 1 one_one) (can (welcome 2 1 two_one) (can (_, refl)
    (can (locked 1 1 one_one) (can (locked 2 1 two_one) (can (opened 1 1 one_one) (can (opened 2 1 two_one)
    (can (unlocked 1 1 one_one) (can (unlocked 2 1 two_one) (can (_, refl) (can (_, refl) (can logged tt)))))))))))

next_can : AllCan (restarted joining first_steps).client next_steps
next_can = can (welcome 1 2 one_two) (can (welcome 2 2 two_two) (can (_, refl) (can (locked 2 2 two_two) (can (opened 2 2 two_two) tt))))

client_life : (c : Newcomer) (first next : List Step) → AllCan (new_client c).client first
    → ((driven (new_client c) first).stored == 2 ^ 32 - 1) ≡ false → AllCan (restarted c first).client next
    → IsClientLife (restarting_client c first next)
client_life c first next begins room goes_on = (begins, room, (goes_on, refl))

-- ---- all of it

none_twice : NoRepeats {A = ℕ} []
none_twice i j x e f = absurd (cc)

one_of_each : (turns : List ℕ) (n : NodeLife) (c : ClientLife) → IsNodeLife (words_in n.placed) n → IsClientLife c
    → HeardAfterSent [] (map (λ x. x.1) (order_of turns n c)) → Runs (n ∷ []) (c ∷ []) (order_of turns n c)
one_of_each turns n c node client sent = record {
  apart = once_more (λ (n : NodeLife). n.number) [] n none_twice tt;
  each_node = subst (λ ps. IsNodeLife (words_in ps) n × ⊤) all (node, tt);
  each_client = (client, tt);
  whole = turns_order turns (moves_of_node n) (moves_of_client c);
  sent = sent;
}
  where
    all : n.placed ≡ placements_of (n ∷ [])
    all = sym (append-nil n.placed)

pub runs : Runs (node ∷ []) (party ∷ []) order
runs = one_of_each turns node party
    (node_life 1 cells opening first_events next_events (omega arith) (refl, (refl, tt))
    (record { stored = inl refl; opens = refl }, (record { stored = inr refl; opens = refl }, tt)) refl refl)
    (client_life joining first_steps next_steps first_can refl next_can)
    (all_sent [] [] (map (λ x. x.1) order) refl refl)
