-- A client's move keeps the answers right, and the client accepts each answer once. It accepts an answer only for the query that
-- waits, from an Answer that was sent, so that query has run with this answer. Then the query is acknowledged. So every accepted
-- answer is of a query that lies before the client's place, and the query that waits is none of them.
use Rattle.scoop_model.proofs.Names.{◌≡◌, ℕ, ◌<◌, List, [], ◌∷◌, ◌++◌, Some, None, refl, ap, ◌∙◌, subst, arith, append-nil, Ok, option_map_or, Message, Block}
use Rattle.scoop_model.proofs.Names.{HandlerId, ObjectAnswer, once_more, ReservationState, Step, heard_row, due, after_step, heard, HeardRow, takes_step}
use Rattle.scoop_model.proofs.Names.{is_accepted, ClientState, with_windows, WindowState, logged, acknowledged, window_of, at_window, Command, ClientNote}
use Rattle.scoop_model.proofs.Names.{HasRun, query_of, newest_block, commanded_world, with_sent, with_party, newly_accepted, heard_party, restarted_party}
use Rattle.scoop_model.proofs.Names.{World, Party, Accepted, BlockLog, set_party, ran_at}
use Rattle.scoop_model.proofs.Order.{upto_itself, PartyFits, all_more_of, all_pushed, all_set_party}
use Rattle.scoop_model.proofs.Logging.{PartyLogs}
use Rattle.scoop_model.proofs.Answering.Facts.{TellsAnswer, IsBehind, AcceptedFits, PartyAnswers, Answering, messages_more, party_answers_more}
use Rattle.scoop_model.proofs.Answering.Onward.{acked_there, acknowledged_raises, acknowledged_all, Onward, behind_more, onward_heard, onward_commanded}
use Rattle.scoop_model.proofs.Moves.{Sends, sends_hello}
use Rattle.scoop_reserve.specs.declared.stage.Step.TheVariants as step
use Rattle.scoop_reserve.specs.Hearing as reservation
use Rattle.scoop_client.specs.Commands as client

-- ---- what a client owes is no answer

due_tells : (w : World) (c : ClientState) (h : HandlerId) (m : Message) → Sends c h m → TellsAnswer w m
due_tells w c h m (sends_hello left) = tt
due_tells w c h m s = tt

pub sends_answering : (w : World) → Answering w → (p : Party) (h : HandlerId) → Answering (with_sent w (due p.client h))
sends_answering w i p h = grind (arith, all_more_of, all_pushed, due_tells, messages_more, party_answers_more)

-- ---- a client goes on

abbrev party_with : Party → ClientState → List Accepted → Party
party_with p d new = record p { client = d; accepted = p.accepted ++ new }

accepted_more : (w : World) (p q : Party) (a : Accepted) → Onward p.client q.client → AcceptedFits w p a → AcceptedFits w q a
accepted_more w p q a on f = grind (arith, behind_more)

-- nothing is accepted
goes_on : (w : World) (p q : Party) → Onward p.client q.client → q.accepted ≡ p.accepted → PartyAnswers w p → PartyAnswers w q
goes_on w p q on same f = grind (arith, all_more_of, accepted_more)

-- a world in which a party has gone on, with other logs or the same
party_moves :
    (w : World) (p q : Party) (ls : List BlockLog) → Answering w → PartyAnswers w q → Answering (record w { parties = set_party q w.parties; logs = ls })
party_moves w p q ls i f =
    let v : World = record w { parties = set_party q w.parties; logs = ls } in
    record {
      messages = messages_more w v (λ h b n a ran. ran) w.sent i.messages;
      sites = i.sites;
      parties = all_set_party (PartyAnswers w) (PartyAnswers v) q w.parties (party_answers_more w v (λ h b n a ran. ran) q f)
          (λ x other. party_answers_more w v (λ h b n a ran. ran) x) i.parties;
    }

-- ---- a client hears

-- the answer to the query that waits comes after all accepted ones, and then lies before the client's place
module _ (w : World) (p : Party) (h : HandlerId) (n : ℕ) (a : ObjectAnswer) (r : ReservationState) where
  abbrev now : ClientState
  now = with_windows p.client (at_window h (acknowledged n) p.client.windows) None

  abbrev new : Accepted
  new = (h, newest_block p.client, n, a)

  module _ (held : p.client.reservation ≡ Some r) (window : WindowState) (found : window_of h p.client.windows ≡ Some window) (last : n ≡ logged window)
      (waiting : window.acked < n) where
    new_behind : IsBehind now new
    new_behind = grind (arith, upto_itself, acked_there, acknowledged_raises, acknowledged_all)

    -- none of them is the same query
    none_same : (x : Accepted) → AcceptedFits w p x → query_of x ≡ query_of new → ⊥
    none_same x f e = grind (arith, option_map_or)

    accepts : Onward p.client now → HasRun (ran_at h w) (newest_block p.client) n a → PartyAnswers w p → PartyAnswers w (party_with p now (new ∷ []))
    accepts on ran f =
        let q : Party = party_with p now (new ∷ []) in
        record {
          accepted = all_pushed (AcceptedFits w q) p.accepted (Some new)
              (all_more_of (AcceptedFits w p) (AcceptedFits w q) (λ x. accepted_more w p q x on) p.accepted f.accepted)
              (λ x e. let same : new ≡ x = cc in subst (AcceptedFits w q) same (record { answered = record { own = refl; ran = ran }; behind = new_behind }));
          once = once_more query_of p.accepted new f.once (all_more_of (AcceptedFits w p) (λ x. query_of x ≡ query_of new → ⊥) none_same p.accepted f.accepted);
        }

-- a step of the reservation returns no answer
step_accepts : (b : Block) (c : ClientState) (s : ReservationState) (st : Step) → newly_accepted b (after_step c s st).1 ≡ []
step_accepts b c s (step.Locked h) = refl
step_accepts b c s st = refl

module _ (w : World) (p : Party) (logging : PartyLogs w p) (f : PartyAnswers w p) where
  quiet : (d : ClientState) (ys : List Accepted) → Onward p.client d → ys ≡ [] → PartyAnswers w (party_with p d ys)
  quiet d ys on none = goes_on w p (party_with p d ys) on (ap (λ xs. p.accepted ++ xs) none ∙ append-nil p.accepted) f

  heard_fits : (m : Message) (d : ClientState) (note : ClientNote) → HeardRow p.client m d note → Onward p.client d → TellsAnswer w m
      → PartyAnswers w (party_with p d (newly_accepted (newest_block p.client) note))
  heard_fits m d note (takes_step n r held) on t =
      quiet d _ on (step_accepts (newest_block p.client) p.client (reservation.heard r n).0 (reservation.heard r n).1)
  heard_fits m d note (is_accepted h n a r held opened waits) on t =
      let block = logging.block r held in
      let query = block.waits h n waits in
      accepts w p h n a r held query.window query.found query.query.number query.query.waiting on (subst (λ b. HasRun (ran_at h w) b n a) block.block t) f
  heard_fits m d note row on t = quiet d [] on refl

pub notices_answering : (w : World) → Answering w → (m : Message) (p : Party) → TellsAnswer w m → PartyLogs w p → PartyAnswers w p
    → Answering (with_party w (heard_party p (heard p.client m)))
notices_answering w i m p tells logging f =
    let now = heard p.client m in
    let row = heard_row p.client m in
    party_moves w p (heard_party p now) w.logs i (heard_fits w p logging f m now.0 now.1 row (onward_heard p.client m now.0 now.1 row) tells)

-- ---- a client takes a command, or restarts

pub commands_answering : (w : World) → Answering w → (p : Party) (x : Command) (d : ClientState) → PartyAnswers w p → client.command p.client x ≡ Ok d
    → Answering (commanded_world w p x d)
commands_answering w i p x d f e =
    party_moves w p (record p { client = d }) _ i (goes_on w p (record p { client = d }) (onward_commanded p.client x d e) refl f)

pub restarts_answering : (w : World) → Answering w → (p : Party) → PartyFits w p → PartyAnswers w p → Answering (with_party w (restarted_party p))
restarts_answering w i p fits f =
    let stored = fits.stored in
    let on : Onward p.client (restarted_party p).client = record {
      id = refl;
      upto = record { inc = omega (arith, stored); num = λ same. absurd (omega (arith, stored, same)) };
      same = λ inc last r held. absurd (cc);
    } in
    party_moves w p (restarted_party p) w.logs i (goes_on w p (restarted_party p) on refl f)
