-- A safe world is safe in the histories that it is made of.
use Rattle.scoop_weave.proofs.Names.{arith, ◌≡◌, List, [], Option, Some, None, refl, ap, ◌∙◌, subst, option_map, option_map_or, ClientId, HandlerId}
use Rattle.scoop_weave.proofs.Names.{same_handler, same_client, handler_decides, client_decides, Ran, World, Site, Accepted, number_of, is_site, is_party}
use Rattle.scoop_weave.proofs.Names.{IsReached, key_found, all_found, all_more_of, reached_safe, PlacedHandler, LocalClient, System, its_number, id_in}
use Rattle.scoop_weave.proofs.Names.{placed_in, client_in, LocalMove, ran_by, accepted_by, site_by, party_by, world_by}
use Rattle.scoop_model.specs.World.{ran_at}
use Rattle.scoop_model.specs.Safe.{Safe, IsSubsequence, Tape, WholeBeforeNext, RightAnswers, HasRun, IsAnswered, AcceptsRight}
use Rattle.scoop_model.proofs.Answering.Facts.{SiteAnswers}
use Rattle.scoop_model.proofs.Ready.Runs.{reached_facts}
use Rattle.scoop_weave.specs.Promises.{HandlerPromise, IsTrulyAnswered, ClientPromise, Promises}
use Rattle.scoop_weave.proofs.Lists.{find_through}
use Rattle.scoop_weave.proofs.Worlds.{stored_state, site_there, party_there}

module _ (ms : List LocalMove) (now : System) (reached : IsReached (world_by ms now)) where
  abbrev w : World
  w = world_by ms now

  safe : Safe w
  safe = reached_safe w reached

  handler_promise : (h : HandlerId) (s : PlacedHandler) → placed_in h now ≡ Some s → HandlerPromise ms h s
  handler_promise h s here =
      let own = key_found its_number same_handler handler_decides h now.handlers s here in
      let there = site_there ms now h s here in
      let site : Site = site_by ms s in
      subst (λ k. HandlerPromise ms k s) own (record {
        in_order = all_found (λ s. IsSubsequence s.opened w.joint) (is_site h) w.sites site safe.in_order.common there;
        in_turn = (all_found (Tape w) (is_site h) w.sites site safe.tapes there).in_turn;
        beginnings = (all_found (Tape w) (is_site h) w.sites site safe.tapes there).beginnings;
        whole = all_found (WholeBeforeNext w) (is_site h) w.sites site safe.whole there;
        answers = all_found RightAnswers (is_site h) w.sites site safe.answers there;
        stored = stored_state ms now reached h s here;
        words = (all_found SiteAnswers (is_site h) w.sites site (reached_facts w reached).answering.sites there).words;
      })

  -- the moves show all that ran at a handler of the world
  ran_there : (h : HandlerId) (o : Option PlacedHandler) → placed_in h now ≡ o → (r : Ran) → ran_at h w ≡ option_map_or (λ s. ran_by (its_number s) ms) o []
  ran_there h o found r = ap (λ (x : Option Site). option_map_or (λ s. s.ran) x [])
      (find_through number_of same_handler (site_by ms) h now.handlers ∙ ap (option_map (site_by ms)) found) ∙ both o
    where
      both : (o : Option PlacedHandler) → option_map_or (λ (s : Site). s.ran) (option_map (site_by ms) o) [] ≡ option_map_or (λ s. ran_by (its_number s) ms) o []
      both None = refl
      both (Some s) = refl

  has_run : (a : Accepted) (o : Option PlacedHandler) → placed_in a.0 now ≡ o → HasRun (option_map_or (λ s. ran_by (its_number s) ms) o []) a.1 a.2 a.3
      → HasRun (ran_by a.0 ms) a.1 a.2 a.3
  has_run a None found run = grind arith
  has_run a (Some s) found run = subst (λ k. HasRun (ran_by k ms) a.1 a.2 a.3) (key_found its_number same_handler handler_decides a.0 now.handlers s found) run

  client_promise : (c : ClientId) (d : LocalClient) → client_in c now ≡ Some d → ClientPromise ms c
  client_promise c d here =
      let own = key_found id_in same_client client_decides c now.clients d here in
      let right = all_found (AcceptsRight w) (is_party c) w.parties (party_by ms d) safe.accepted (party_there ms now c d here) in
      subst (λ k. ClientPromise ms k) own (record {
        accepted = all_more_of (IsAnswered w (party_by ms d)) (IsTrulyAnswered ms (id_in d))
            (λ a f. record {
              own = f.own;
              ran = has_run a (placed_in a.0 now) refl (subst (λ rs. HasRun rs a.1 a.2 a.3) (ran_there a.0 (placed_in a.0 now) refl f.ran.ran) f.ran);
            })
            (accepted_by (id_in d) ms) right.answered;
        once = right.once;
      })

  pub promised : Promises ms now
  promised = record { once = safe.in_order.once; handlers = handler_promise; clients = client_promise }
