-- Journals that tell lives, with one order of these, tell a world.
use Rattle.std.proofs.Common.{◌≡◌, inl, inr, ℕ, List, [], ◌∷◌, ◌++◌, map, refl, sym, ap, ◌∙◌, subst}
use Rattle.std.specs.List.{AllByRecursion, AllZip}
use Rattle.std.proofs.lemmas.List.{map-append}
use Rattle.scoop_message.specs.declared.message.Message.{Message}
use Rattle.scoop_message.specs.Lists.{NoRepeats}
use Rattle.scoop_model.specs.Opening.{MayOpen}
use Rattle.scoop_model.specs.Step.{Placement}
use Rattle.scoop_weave.specs.Lives.{ClientLife, IsClientLife, IsNodeLife, NodeLife, moves_of_client, moves_of_node, newcomers_of, placements_of}
use Rattle.scoop_weave.specs.Lives.{words_in}
use Rattle.scoop_weaver.specs.declared.traffic.Traffic.{Traffic}
use Rattle.scoop_weaver.specs.Passing.{AreLives, traffic_by, traffic_of}
use Rattle.scoop_weaver.specs.Trails.{HasOrder, HasTraffic, HaveTraffic}
use Rattle.scoop_weaver.proofs.Lifting.{woven_world}
use Rattle.scoop_audit.specs.Told.{newcomer, node_life, placements_on}
use Rattle.scoop_replay.specs.Client.{after_one_step}
use Rattle.scoop_audit.specs.Client.{last_turn}
use Rattle.scoop_audit.specs.World.{AreTold, ClientPages, IsExplained, IsToldClient, IsToldNode, NodePages, Weaves, placements_in, trails_of}
use Rattle.scoop_audit.specs.World.{IsLifeOfClient, IsLifeOfNode, IsWrittenLife, silent_life}
use Rattle.scoop_audit.specs.declared.error.Wrong.{Wrong}
use Rattle.scoop_audit.specs.Unexplained.{HasNoOrder, IsUnsent}

-- ---- nodes

record NodeLives (ps : List Placement) (post : List Message) (nodes : List NodePages) : Type 0 where
  lives : List NodeLife
  placed : placements_of lives ≡ placements_in nodes
  numbers : map (λ n. n.number) lives ≡ map (λ n. n.number) nodes
  each : AllByRecursion (IsNodeLife (words_in ps)) lives
  own : AllZip (IsLifeOfNode ps) nodes lives
  traffic : HaveTraffic post (map (λ n. n.trail) nodes) (map (λ ms. map traffic_of ms) (map moves_of_node lives))

node_lives : (ps : List Placement) (post : List Message) (nodes : List NodePages) → AllByRecursion (IsToldNode ps post) nodes → NodeLives ps post nodes
node_lives ps post [] told = record { lives = []; placed = refl; numbers = refl; each = tt; own = tt; traffic = tt }
node_lives ps post (n ∷ nodes) told =
    let rest = node_lives ps post nodes told.1 in
    let one = told.0 in
    let life : NodeLife = node_life n.number n.placed one.tale in
    let own : IsLifeOfNode ps n life =
    record { tale = one.tale; lines = one.lines; journal_is = one.journal_is; tells = one.tells; life_is = refl } in
    record {
      lives = life ∷ rest.lives;
      placed = ap (λ xs. placements_on n.number n.placed ++ xs) rest.placed;
      numbers = ap (λ xs. n.number ∷ xs) rest.numbers;
      each = (one.replays, rest.each);
      own = (own, rest.own);
      traffic = (one.traffic, rest.traffic);
    }

-- ---- clients

record OneClient (post : List Message) (c : ClientPages) : Type 0 where
  life : ClientLife
  joined : life.joined ≡ c.joined
  is : IsClientLife life
  own : IsLifeOfClient c life
  traffic : HasTraffic post c.trail (map traffic_of (moves_of_client life))

one_client : (post : List Message) (c : ClientPages) → IsToldClient post c → OneClient post c
one_client post c (inl told) =
    let life : ClientLife = newcomer c.joined (after_one_step last_turn told.tale) in
    let own : IsWrittenLife c life =
    record { tale = told.tale; last = told.last; lines = told.lines; journal_is = told.journal_is; tells = told.tells; life_is = refl } in
    record { life = life; joined = refl; is = told.replays; own = inl own; traffic = told.traffic }
one_client post c (inr silent) =
    record {
      life = silent_life c.joined;
      joined = refl;
      is = (tt, refl);
      own = inr (silent.journal_is, refl);
      traffic = subst (λ xs. HasTraffic post xs []) (sym silent.trail_is) (record { is = refl; numbered = tt });
    }

record ClientLives (post : List Message) (clients : List ClientPages) : Type 0 where
  lives : List ClientLife
  joined : newcomers_of lives ≡ map (λ c. c.joined) clients
  each : AllByRecursion IsClientLife lives
  own : AllZip IsLifeOfClient clients lives
  traffic : HaveTraffic post (map (λ c. c.trail) clients) (map (λ ms. map traffic_of ms) (map moves_of_client lives))

client_lives : (post : List Message) (clients : List ClientPages) → AllByRecursion (IsToldClient post) clients → ClientLives post clients
client_lives post [] told = record { lives = []; joined = refl; each = tt; own = tt; traffic = tt }
client_lives post (c ∷ clients) told =
    let one = one_client post c told.0 in
    let rest = client_lives post clients told.1 in
    record {
      lives = one.life ∷ rest.lives;
      joined = ap (λ n. n ∷ newcomers_of rest.lives) one.joined ∙ ap (λ ns. c.joined ∷ ns) rest.joined;
      each = (one.is, rest.each);
      own = (one.own, rest.own);
      traffic = (one.traffic, rest.traffic);
    }

-- ---- all

pub zip_append : {A B : Type 0} (R : A → B → Type 0) (xs us : List A) (ys vs : List B) → AllZip R xs ys → AllZip R us vs → AllZip R (xs ++ us) (ys ++ vs)
zip_append R [] us [] vs a b = b
zip_append R [] us (y ∷ ys) vs a b = absurd a
zip_append R (x ∷ xs) us [] vs a b = absurd a
zip_append R (x ∷ xs) us (y ∷ ys) vs a b = (a.0, zip_append R xs us ys vs a.1 b)

pub record ToldLives (nodes : List NodePages) (clients : List ClientPages) (post : List Message) : Type 0 where
  pub lives : List NodeLife
  pub others : List ClientLife
  pub placed : placements_of lives ≡ placements_in nodes
  pub joined : newcomers_of others ≡ map (λ c. c.joined) clients
  pub each_node : AllZip (IsLifeOfNode (placements_in nodes)) nodes lives
  pub each_client : AllZip IsLifeOfClient clients others
  pub traffic : HaveTraffic post (trails_of nodes clients) (traffic_by lives others)
  pub may_open : MayOpen (placements_of lives) (newcomers_of others)
  pub are : AreLives lives others

-- the lives that the journals tell
pub told_lives : (nodes : List NodePages) (clients : List ClientPages) (post : List Message) → AreTold nodes clients post → ToldLives nodes clients post
told_lives nodes clients post told =
    let ps : List Placement = placements_in nodes in
    let ns = node_lives ps post nodes told.each_node in
    let cs = client_lives post clients told.each_client in
    let same : placements_of ns.lives ≡ ps = ns.placed in
    let parts : List (List Traffic) =
    map (λ ms. map traffic_of ms) (map moves_of_node ns.lives) ++ map (λ ms. map traffic_of ms) (map moves_of_client cs.lives) in
    let all : traffic_by ns.lives cs.lives ≡ parts =
    map-append (λ ms. map traffic_of ms) (map moves_of_node ns.lives) (map moves_of_client cs.lives) in
    record {
      lives = ns.lives;
      others = cs.lives;
      placed = same;
      joined = cs.joined;
      each_node = ns.own;
      each_client = cs.own;
      traffic =
          subst (HaveTraffic post (trails_of nodes clients)) (sym all)
          (zip_append (HasTraffic post) (map (λ n. n.trail) nodes) (map (λ c. c.trail) clients)
          (map (λ ms. map traffic_of ms) (map moves_of_node ns.lives)) (map (λ ms. map traffic_of ms) (map moves_of_client cs.lives)) ns.traffic cs.traffic);
      may_open = subst (λ qs. MayOpen qs (newcomers_of cs.lives)) (sym same) (subst (MayOpen ps) (sym cs.joined) told.opens);
      are =
          record {
            apart = subst NoRepeats (sym ns.numbers) told.apart;
            each_node = subst (λ qs. AllByRecursion (IsNodeLife (words_in qs)) ns.lives) (sym same) ns.each;
            each_client = cs.each;
          };
    }

pub told_world : (nodes : List NodePages) (clients : List ClientPages) (post : List Message) (turns : List ℕ) → AreTold nodes clients post
    → Weaves post (trails_of nodes clients) turns → IsExplained nodes clients turns
told_world nodes clients post turns told weaves =
    let t = told_lives nodes clients post told in
    let o : HasOrder (traffic_by t.lives t.others) turns = weaves (traffic_by t.lives t.others) t.traffic in
    record {
      lives = t.lives;
      others = t.others;
      placed = t.placed;
      joined = t.joined;
      each_node = t.each_node;
      each_client = t.each_client;
      order = o.order;
      turns_are = o.turns_are;
      world = woven_world t.lives t.others o.order t.may_open t.are o.woven;
    }

-- if no order of such traffic is found, there is none of the lives
pub told_lacking : (nodes : List NodePages) (clients : List ClientPages) (post : List Message) (w : Wrong) → AreTold nodes clients post
    → ((parties : List (List Traffic)) → HaveTraffic post (trails_of nodes clients) parties → IsUnsent parties w) → HasNoOrder nodes clients w
told_lacking nodes clients post w told unsent =
    let t = told_lives nodes clients post told in
    record {
      lives = t.lives;
      others = t.others;
      each_node = t.each_node;
      each_client = t.each_client;
      unsent = unsent (traffic_by t.lives t.others) t.traffic;
    }
