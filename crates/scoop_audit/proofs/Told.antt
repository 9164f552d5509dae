-- A journal that was read to its end tells a life of the theorem.
use Rattle.std.proofs.Common.{◌≡◌, ◌≤◌, ◌+◌, ℕ, suc, List, [], ◌∷◌, length, map, inr, refl, ap, subst, arith}
use Rattle.std.specs.List.{AllByRecursion}
use Rattle.scoop_message.specs.declared.name.HandlerId.{HandlerId}
use Rattle.scoop_message.specs.declared.message.Message.{Message}
use Rattle.scoop_handler.specs.Local.{LocalHandler}
use Rattle.scoop_client.specs.Beginning.{greeting}
use Rattle.scoop_book.specs.Moves.{Entry}
use Rattle.scoop_driver.specs.declared.step.Step.{Step}
use Rattle.scoop_model.specs.Step.{Newcomer}
use Rattle.scoop_weave.specs.System.{LocalClient, new_client}
use Rattle.scoop_weave.specs.NodeHistories as node
use Rattle.scoop_weave.specs.ClientSteps as client
use Rattle.scoop_weaver.specs.Passing.{by_client, by_node}
use Rattle.scoop_weaver.specs.Trails.{HasTraffic}
use Rattle.scoop_replay.specs.declared.node.Placed.{Placed}
use Rattle.scoop_replay.specs.Node.{IsNodeTale, NodeValue, Told, new_tale, node_value, passed_by, placed_local}
use Rattle.scoop_replay.specs.Client.{ClientTale, ClientValue, IsClientTale, ToldBy, after_one_step, client_value, new_client_tale, passed_of}
use Rattle.scoop_replay.proofs.Lives.{told_lives}
use Rattle.scoop_replay.proofs.Drivers.{told_drivers}
use Rattle.scoop_audit.specs.Node.{NodeRead, TellsNode}
use Rattle.scoop_audit.specs.Client.{ClientRead, last_turn}
use Rattle.scoop_audit.specs.Told.{TellsClientLife, TellsLife, first_of, later_of, placements_on}

-- ---- a node

module _ (words : HandlerId → List ℕ) where
  node_lives : (opening : List LocalHandler) (done : List (List Entry)) (newest : List Entry) (now : List LocalHandler) → Told words opening done newest now
      → node.Lives words opening (first_of done newest) (later_of done newest) now
  node_lives opening [] newest now told = told
  node_lives opening (es ∷ done) newest now told = told_lives words opening es done newest now told

node_passed : (n : ℕ) (done : List (List Entry)) (newest : List Entry) → passed_by n done newest ≡ by_node n (first_of done newest) (later_of done newest)
node_passed n [] newest = refl
node_passed n (es ∷ done) newest = refl

all_stand : (n : ℕ) (ps : List Placed) → AllByRecursion (λ p. p.node ≡ n) (placements_on n ps)
all_stand n [] = tt
all_stand n (p ∷ ps) = (refl, all_stand n ps)

all_open : (n : ℕ) (ps : List Placed) → node.AllOpenFirst (placements_on n ps) (map placed_local ps)
all_open n [] = tt
all_open n (p ∷ ps) = (record { stored = inr refl; opens = refl }, all_open n ps)

placed_len : (n : ℕ) (ps : List Placed) → length (placements_on n ps) ≡ length ps
placed_len n [] = refl
placed_len n (p ∷ ps) = ap (λ k. suc k) (placed_len n ps)

pub node_told :
    (words : HandlerId → List ℕ) (n : ℕ) (ps : List Placed) (journal : List ℕ) (new : NodeValue) (post more : List Message) → 1 ≤ length ps
    → NodeRead journal (node_value n (map placed_local ps) []) new post more → TellsLife words n ps journal more new.trail
node_told words n ps journal new post more some read =
    let opening : List LocalHandler = map placed_local ps in
    let r = read.reads.told words opening (new_tale opening) refl (record { told = refl; passed = record { is = refl; numbered = tt } }) in
    let same : new.number ≡ n = read.reads.number in
    let tale : IsNodeTale words n opening r.tale more new.trail = subst (λ k. IsNodeTale words k opening r.tale more new.trail) same r.is_tale in
    let count = placed_len n ps in
    record {
      tale = r.tale;
      lines = read.lines;
      journal_is = read.journal;
      tells = subst (λ k. TellsNode words k (new_tale opening) read.lines r.tale) same r.tells;
      replays = record {
        some = omega (arith, count, some);
        stand = all_stand n ps;
        opens = all_open n ps;
        lives = node_lives words opening r.tale.done r.tale.newest r.tale.handlers tale.told;
      };
      traffic = subst (HasTraffic more new.trail) (node_passed n r.tale.done r.tale.newest) tale.passed;
    }

-- ---- a client

client_lives : (c : LocalClient) (done : List (List Step)) (newest : List Step) (now : LocalClient) → ToldBy c done newest now
    → client.Lives c (first_of done newest) (later_of done newest) now
client_lives c [] newest now told = told
client_lives c (ss ∷ done) newest now told = told_drivers c ss done newest now told

client_passed : (c : LocalClient) (done : List (List Step)) (newest : List Step)
    → passed_of c done newest ≡ by_client c (first_of done newest) (later_of done newest)
client_passed c [] newest = refl
client_passed c (ss ∷ done) newest = refl

pub client_told :
    (n : Newcomer) (journal : List ℕ) (new : ClientValue) (post more : List Message) → n.stored ≡ 0
    → ClientRead n.id n.batch journal (client_value (greeting n.id 1 n.handlers 0 n.batch) []) new post more
    → TellsClientLife n journal more new.trail
client_told n journal new post more none read =
    let joined : LocalClient = new_client n in
    let begins : IsClientTale joined (new_client_tale joined) post [] =
    record { told = (tt, refl); passed = record { is = refl; numbered = tt } } in
    let r = read.reads joined (new_client_tale joined) (ap (begun_at n) none) begins in
    let s = read.turned joined r.tale r.now_is r.is_tale in
    let t : ClientTale = after_one_step last_turn r.tale in
    record {
      tale = r.tale;
      last = read.last;
      lines = read.lines;
      journal_is = read.journal;
      tells = r.tells;
      replays = client_lives joined t.done t.newest t.now s.0.told;
      traffic = subst (HasTraffic more new.trail) (client_passed joined t.done t.newest) s.0.passed;
    }
  where
    begun_at : Newcomer → ℕ → LocalClient
    begun_at n stored = record { client = greeting n.id (stored + 1) n.handlers 0 n.batch; stored = stored + 1 }
