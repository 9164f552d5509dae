-- A journal that is read up to a wrong line.
use Rattle.std.proofs.Common.{◌≡◌, ◌+◌, ℕ, List, [], ◌++◌, map, Result, Ok, Err, refl, sym, ap, subst}
use Rattle.std.specs.Prelude.{IfErr, OnOk}
use Rattle.scoop_message.specs.declared.name.ClientId.{ClientId}
use Rattle.scoop_message.specs.declared.name.HandlerId.{HandlerId}
use Rattle.scoop_message.specs.declared.message.Message.{Message}
use Rattle.scoop_handler.specs.Local.{LocalHandler}
use Rattle.scoop_client.specs.Beginning.{greeting}
use Rattle.scoop_model.specs.Step.{Newcomer}
use Rattle.scoop_journal.specs.declared.line.Line.{Line}
use Rattle.scoop_journal.specs.declared.line.Line.TheVariants.{NodeLife}
use Rattle.scoop_journal.specs.Journal.{ended}
use Rattle.scoop_weave.specs.System.{LocalClient, new_client}
use Rattle.scoop_replay.specs.declared.node.Placed.{Placed}
use Rattle.scoop_replay.specs.Node.{NodeValue, OpensAgain, new_tale, node_value, placed_local}
use Rattle.scoop_replay.specs.Client.{ClientValue, IsClientTale, client_value, new_client_tale}
use Rattle.scoop_audit.specs.declared.error.Trouble.{Trouble}
use Rattle.scoop_audit.specs.declared.error.Trouble.TheVariants.{OutOfMemory, Fault, Wrong as IsWrong}
use Rattle.scoop_audit.specs.declared.error.Wrong.{Wrong}
use Rattle.scoop_audit.specs.Client.{ClientUpTo}
use Rattle.scoop_audit.specs.Node.{BeginsLife, NodeUpTo, PassesOver, TellsNode}
use Rattle.scoop_audit.specs.Wrong.{ClientStops, IfWrong, IsWrongAt, IsWrongOf, LifeStops, NodeStops, OpeningStops, StopsClient, StopsNode}
use Rattle.scoop_audit.proofs.Nodes.{life_begun}

-- ---- troubles

pub if_wrong : (t : Trouble) (P Q : Wrong → Type 0) → IfWrong P t → ((w : Wrong) → P w → Q w) → IfWrong Q t
if_wrong OutOfMemory P Q p f = tt
if_wrong (Fault number fault) P Q p f = tt
if_wrong (IsWrong w) P Q p f = f w p

-- ---- a node's lines

pub life_stops :
    (number : ℕ) (bytes : List ℕ) (old now : NodeValue) (post sent : List Message) (t : Trouble) → number ≡ old.number → now.number ≡ old.number
    → OpensAgain old now post sent → IfWrong (OpeningStops bytes now.handlers) t → IfWrong (LifeStops number bytes old post) t
life_stops number bytes old now post sent t numbered same again is =
    if_wrong t (OpeningStops bytes now.handlers) (LifeStops number bytes old post) is
    (λ w s. record {
      line = s.line;
      rest = s.rest;
      now = now;
      sent = sent;
      begins = record { numbered = numbered; same = same; again = again; opened = s.opened };
      wrong = s.wrong;
    })

module _ (first old : NodeValue) (sent post : List Message) (bytes : List ℕ) where
  module _ (before : List ℕ) (number : ℕ) (after : List ℕ) (passes : PassesOver before (ended (NodeLife number) ++ after)) where
    -- a life begins, after entries that are left out
    pub begun_told :
        (new : NodeValue) (more : List Message) {T : Type 0} (res : Result T Trouble) (rest : List ℕ)
        → OnOk res (BeginsLife number after rest old new post more)
        → OnOk res (NodeUpTo bytes before first old sent post → NodeUpTo bytes rest first new sent more)
    begun_told new more (Ok u) rest begins = λ up. life_begun first old new sent post more number bytes before after rest passes begins up
    begun_told new more (Err t) rest begins = tt

    pub begun_stops :
        {T : Type 0} (res : Result T Trouble) → IfErr res (IfWrong (LifeStops number after old post))
        → IfErr res (λ t. NodeUpTo bytes before first old sent post → IfWrong (NodeStops bytes first sent) t)
    begun_stops (Ok u) stops = tt
    begun_stops (Err t) stops =
        λ up.
        if_wrong t (LifeStops number after old post) (NodeStops bytes first sent) stops
        (λ w s. record {
          line = s.line;
          rest = s.rest;
          now = s.now;
          sent = s.sent;
          up_to = life_begun first old s.now sent post s.sent number bytes before after (ended s.line ++ s.rest) passes s.begins up;
          wrong = s.wrong;
        })

pub node_stops :
    (words : HandlerId → List ℕ) (n : ℕ) (ps : List Placed) (journal : List ℕ) (post : List Message) (w : Wrong)
    → NodeStops journal (node_value n (map placed_local ps) []) post w → StopsNode words n ps journal w
node_stops words n ps journal post w s =
    let opening : List LocalHandler = map placed_local ps in
    let r = s.up_to.reads.told words opening (new_tale opening) refl (record { told = refl; passed = record { is = refl; numbered = tt } }) in
    record {
      tale = r.tale;
      lines = s.up_to.lines;
      line = s.line;
      rest = s.rest;
      journal_is = s.up_to.bytes_are;
      tells = subst (λ k. TellsNode words k (new_tale opening) s.up_to.lines r.tale) s.up_to.reads.number r.tells;
      replays = r.is_tale.told;
      wrong = subst (λ hs. IsWrongAt hs s.line w) (sym r.handlers_are) s.wrong;
    }

-- ---- a client's lines

pub step_stops :
    (id : ClientId) (batch last : ℕ) (l : Line) (bytes rest : List ℕ) (first now : ClientValue) (post sent : List Message) (t : Trouble)
    → IfWrong (IsWrongOf now.client l) t → ClientUpTo id batch last bytes (ended l ++ rest) first now post sent
    → IfWrong (ClientStops id batch bytes first post) t
step_stops id batch last l bytes rest first now post sent t is up =
    if_wrong t (IsWrongOf now.client l) (ClientStops id batch bytes first post) is
    (λ w at. record { last = last; line = l; rest = rest; now = now; sent = sent; up_to = up; wrong = at })

pub client_stops :
    (n : Newcomer) (journal : List ℕ) (post : List Message) (w : Wrong) → n.stored ≡ 0
    → ClientStops n.id n.batch journal (client_value (greeting n.id 1 n.handlers 0 n.batch) []) post w → StopsClient n journal w
client_stops n journal post w none s =
    let joined : LocalClient = new_client n in
    let begins : IsClientTale joined (new_client_tale joined) post [] =
    record { told = (tt, refl); passed = record { is = refl; numbered = tt } } in
    let r = s.up_to.reads joined (new_client_tale joined) (ap (begun_at n) none) begins in
    record {
      tale = r.tale;
      last = s.last;
      lines = s.up_to.lines;
      line = s.line;
      rest = s.rest;
      journal_is = s.up_to.bytes_are;
      tells = r.tells;
      replays = r.is_tale.told;
      wrong = subst (λ (c : LocalClient). IsWrongOf c.client s.line w) (sym r.now_is) s.wrong;
    }
  where
    begun_at : Newcomer → ℕ → LocalClient
    begun_at n stored = record { client = greeting n.id (stored + 1) n.handlers 0 n.batch; stored = stored + 1 }
