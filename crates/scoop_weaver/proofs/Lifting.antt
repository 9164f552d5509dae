-- An order of the moves' traffic is an order of the moves.
use Rattle.std.proofs.Common.{arith, ◌≡◌, ℕ, zero, suc, ◌==◌, List, [], ◌∷◌, ◌++◌, map, refl, sym, ap, ◌∙◌, subst}
use Rattle.std.specs.Prelude.{if◌then◌else◌, Contains, option_to_list}
use Rattle.std.proofs.lemmas.Bool.Decides.{Decides-eqb}
use Rattle.std.proofs.lemmas.List.{map-append}
use Rattle.scoop_message.specs.declared.message.Message.{Message}
use Rattle.scoop_model.specs.Opening.{MayOpen}
use Rattle.scoop_model.proofs.Basics.{by_test}
use Rattle.scoop_weave.specs.Moves as weave
use Rattle.scoop_weave.specs.Moves.{LocalMove, HeardIn}
use Rattle.scoop_weave.specs.Parties.{HeardAfterSent}
use Rattle.scoop_weave.specs.Order.{own, party_at}
use Rattle.scoop_weave.specs.Lives.{NodeLife, ClientLife, Runs, placements_of, newcomers_of, parties_of}
use Rattle.scoop_weave.proofs.NodeHistories.{number_itself}
use Rattle.scoop_weave.proofs.JoinedLives.{is_a_world}
use Rattle.scoop_weaver.specs.declared.traffic.Traffic.{Traffic}
use Rattle.scoop_weaver.specs.Weaving.{AllSent, IsWoven, sent_by}
use Rattle.scoop_weaver.specs.Passing.{traffic_of, tagged, traffic_by, AreLives, IsOfWorld}

abbrev put : ℕ → Traffic → List (ℕ × Traffic) → List (ℕ × Traffic)
put p t xs = (p, t) ∷ xs

record Lifted (order : List (ℕ × Traffic)) (parties : ℕ → List LocalMove) : Type 0 where
  moves : List (ℕ × LocalMove)
  is : map tagged moves ≡ order
  whole : (i : ℕ) → own i moves ≡ parties i

nothing : (ms : List LocalMove) → [] ≡ map traffic_of ms → [] ≡ ms
nothing [] e = refl
nothing (m ∷ ms) e = absurd (cc)

record Front (t : Traffic) (ts : List Traffic) (xs : List LocalMove) : Type 0 where
  first : LocalMove
  rest : List LocalMove
  is : xs ≡ first ∷ rest
  seen : traffic_of first ≡ t
  more : ts ≡ map traffic_of rest

front : (t : Traffic) (ts : List Traffic) (xs : List LocalMove) → t ∷ ts ≡ map traffic_of xs → Front t ts xs
front t ts [] e = absurd (cc)
front t ts (x ∷ xs) e =
    let seen : traffic_of x ≡ t = cc in
    let more : ts ≡ map traffic_of xs = cc in
    record { first = x; rest = xs; is = refl; seen = seen; more = more }

-- the parties after this one's first move
abbrev after_first : ℕ → List LocalMove → (ℕ → List LocalMove) → ℕ → List LocalMove
after_first p ms parties i = if p == i then ms else parties i

lift : (order : List (ℕ × Traffic)) (parties : ℕ → List LocalMove) → ((i : ℕ) → own i order ≡ map traffic_of (parties i)) → Lifted order parties
lift [] parties whole = record { moves = []; is = refl; whole = λ i. nothing (parties i) (whole i) }
lift ((p, t) ∷ order) parties whole = joined (lift order (after_first p f.rest parties) others_whole)
  where
    its : t ∷ own p order ≡ map traffic_of (parties p)
    its = subst (λ b. (if b then t ∷ own p order else own p order) ≡ map traffic_of (parties p)) (number_itself p) (whole p)

    f : Front t (own p order) (parties p)
    f = front t (own p order) (parties p) its

    others_whole : (i : ℕ) → own i order ≡ map traffic_of (after_first p f.rest parties i)
    others_whole i =
        by_test (λ b. (p == i) ≡ b → (if b then t ∷ own i order else own i order) ≡ map traffic_of (parties i)
        → own i order ≡ map traffic_of (if b then f.rest else parties i)) (p == i)
        (λ _ e w. let same : p ≡ i = (Decides-eqb p i).0 e in subst (λ j. own j order ≡ map traffic_of f.rest) same f.more)
        (λ _ e w. w)
        refl (whole i)

    joined : Lifted order (after_first p f.rest parties) → Lifted ((p, t) ∷ order) parties
    joined l =
        record {
          moves = (p, f.first) ∷ l.moves;
          is = ap (λ (x : Traffic). put p x (map tagged l.moves)) f.seen ∙ ap (put p t) l.is;
          whole = λ i.
              by_test (λ b. (p == i) ≡ b → own i l.moves ≡ (if b then f.rest else parties i)
              → (if b then f.first ∷ own i l.moves else own i l.moves) ≡ parties i) (p == i)
              (λ _ e w. let same : p ≡ i = (Decides-eqb p i).0 e in ap (λ xs. f.first ∷ xs) w ∙ (sym f.is ∙ ap parties same))
              (λ _ e w. w)
              refl (l.whole i);
        }

party_seen : (parties : List (List LocalMove)) (i : ℕ) → party_at (map (λ ms. map traffic_of ms) parties) i ≡ map traffic_of (party_at parties i)
party_seen [] zero = refl
party_seen [] (suc i) = refl
party_seen (ms ∷ parties) zero = refl
party_seen (ms ∷ parties) (suc i) = party_seen parties i

-- ---- the messages sent

sends_same : (m : LocalMove) → option_to_list (traffic_of m).sent ≡ weave.sent_in m
sends_same m = grind arith

all_sends_same : (ms : List LocalMove) → sent_by (map traffic_of ms) ≡ weave.sent_by ms
all_sends_same [] = refl
all_sends_same (m ∷ ms) = ap (λ xs. xs ++ sent_by (map traffic_of ms)) (sends_same m) ∙ ap (λ xs. weave.sent_in m ++ xs) (all_sends_same ms)

heard_before : (past : List LocalMove) (m : LocalMove) (ts : List Traffic) → AllSent (map traffic_of past) (traffic_of m ∷ ts) → HeardIn (weave.sent_by past) m
heard_before past m ts all =
    let was : (x : Message) → Contains (sent_by (map traffic_of past)) x → Contains (weave.sent_by past) x =
    λ x sent. subst (λ xs. Contains xs x) (all_sends_same past) sent in
    grind (arith, was, all.0)

heard_after : (past ms : List LocalMove) → AllSent (map traffic_of past) (map traffic_of ms) → HeardAfterSent past ms
heard_after past [] all = tt
heard_after past (m ∷ ms) all = (
  heard_before past m (map traffic_of ms) all,
  heard_after (past ++ m ∷ []) ms
      (subst (λ xs. AllSent xs (map traffic_of ms)) (sym (map-append traffic_of past (m ∷ []))) all.1),
)

items_seen : (moves : List (ℕ × LocalMove)) → map (λ x. x.1) (map tagged moves) ≡ map traffic_of (map (λ x. x.1) moves)
items_seen [] = refl
items_seen (x ∷ xs) = ap (λ ys. traffic_of x.1 ∷ ys) (items_seen xs)

pub woven_world :
    (nodes : List NodeLife) (clients : List ClientLife) (order : List (ℕ × Traffic)) → MayOpen (placements_of nodes) (newcomers_of clients)
    → AreLives nodes clients → IsWoven (traffic_by nodes clients) order
    → IsOfWorld nodes clients order
woven_world nodes clients order opens lives woven =
    let parties = parties_of nodes clients in
    let l = lift order (party_at parties) (λ i. woven.whole.whole i ∙ party_seen parties i) in
    let runs : Runs nodes clients l.moves = record {
      apart = lives.apart;
      each_node = lives.each_node;
      each_client = lives.each_client;
      whole = record { whole = l.whole };
      sent =
          heard_after [] (map (λ (x : ℕ × LocalMove). x.1) l.moves)
          (subst (AllSent []) (items_seen l.moves) (subst (λ (xs : List (ℕ × Traffic)). AllSent [] (map (λ (x : ℕ × Traffic). x.1) xs)) (sym l.is) woven.sent));
    } in
    record { moves = l.moves; is = l.is; whole = runs.whole; world = is_a_world nodes clients opens l.moves runs }
