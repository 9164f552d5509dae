-- A client's lives go on by a step or by a restart, and so does their traffic.
use Rattle.std.proofs.Common.{◌≡◌, ◌==◌, ◌-◌, ◌^◌, ℕ, false, List, [], ◌∷◌, ◌++◌, map, refl, sym, ap, ◌∙◌, subst, append_assoc}
use Rattle.scoop_message.specs.declared.message.Message.{Message}
use Rattle.scoop_client.specs.State.{ClientState}
use Rattle.scoop_driver.specs.declared.step.Step.{Step}
use Rattle.scoop_driver.specs.Steps.{AllCan, Can, walk}
use Rattle.scoop_driver.proofs.StepLists.{can_append, walk-append}
use Rattle.scoop_weave.specs.System.{LocalClient, after_restart, after_step}
use Rattle.scoop_weave.specs.ClientSteps as client
use Rattle.scoop_weave.specs.ClientSteps.{driven, moves_at, moves_by}
use Rattle.scoop_weaver.specs.declared.traffic.Traffic.{Traffic}
use Rattle.scoop_weaver.specs.declared.trail.Passage.{Passage}
use Rattle.scoop_weaver.specs.Passing.{by_client, last_client, silent, traffic_of}
use Rattle.scoop_weaver.specs.Trails.{HasTraffic}
use Rattle.scoop_weaver.proofs.Anew.{client_anew, passed, steps_passed}
use Rattle.scoop_replay.specs.Client.{ToldBy, passed_of, ClientTale, IsClientTale, after_one_step, after_one_restart}

driven_more : (c : LocalClient) (ss : List Step) (s : Step) → driven c (ss ++ s ∷ []) ≡ driven (driven c ss) (s ∷ [])
driven_more c ss s = ap (λ d. after_step d c) (walk-append ss (s ∷ []) c.client)

told_step : (c : LocalClient) (done : List (List Step)) (newest : List Step) (s : Step) (now : LocalClient) → ToldBy c done newest now → Can now.client s
    → ToldBy c done (newest ++ s ∷ []) (driven now (s ∷ []))
told_step c [] newest s now told can =
    let can_now : Can (walk c.client newest) s = subst (λ (d : LocalClient). Can d.client s) (sym told.1) can in (
      can_append newest (s ∷ []) c.client told.0 (can_now, tt),
      driven_more c newest s ∙ ap (λ d. driven d (s ∷ [])) told.1,
    )
told_step c (ss ∷ done) newest s now told can = (told.0, told.1, told_step (after_restart (driven c ss)) done newest s now told.2 can)

-- the client restarts where it is
told_restart : (c : LocalClient) (done : List (List Step)) (newest : List Step) (now : LocalClient) → ToldBy c done newest now
    → (now.stored == 2 ^ 32 - 1) ≡ false → ToldBy c (done ++ newest ∷ []) [] (after_restart now)
told_restart c [] newest now told room = (
  told.0,
  subst (λ (d : LocalClient). (d.stored == 2 ^ 32 - 1) ≡ false) (sym told.1) room,
  (tt, ap after_restart told.1),
)
told_restart c (ss ∷ done) newest now told room = (told.0, told.1, told_restart (after_restart (driven c ss)) done newest now told.2 room)

-- these are lives in the sense of the theorem
pub told_drivers : (c : LocalClient) (ss : List Step) (done : List (List Step)) (newest : List Step) (now : LocalClient) → ToldBy c (ss ∷ done) newest now
    → client.Lives c ss (done ++ newest ∷ []) now
told_drivers c ss [] newest now told = told
told_drivers c ss (xs ∷ done) newest now told = (told.0, told.1, told_drivers (after_restart (driven c ss)) xs done newest now told.2)

-- ---- traffic

last_is : (c : LocalClient) (ss : List Step) (done : List (List Step)) (newest : List Step) (now : LocalClient) → ToldBy c (ss ∷ done) newest now
    → driven (after_restart (last_client c ss done)) newest ≡ now
last_is c ss [] newest now told = told.2.1
last_is c ss (xs ∷ done) newest now told = last_is (after_restart (driven c ss)) xs done newest now told.2

passed_one : (c : LocalClient) (ss : List Step) (s : Step) → by_client c (ss ++ s ∷ []) [] ≡ by_client c ss [] ++ passed (moves_at (driven c ss).client s)
passed_one c ss s = steps_passed c.client ss s

passed_step : (c : LocalClient) (done : List (List Step)) (newest : List Step) (s : Step) (now : LocalClient) → ToldBy c done newest now
    → passed_of c done (newest ++ s ∷ []) ≡ passed_of c done newest ++ passed (moves_at now.client s)
passed_step c [] newest s now told =
    passed_one c newest s ∙ ap (λ (d : LocalClient). by_client c newest [] ++ passed (moves_at d.client s)) told.1
passed_step c (ss ∷ done) newest s now told =
    let d : LocalClient = after_restart (last_client c ss done) in
    client_anew c ss done (newest ++ s ∷ [])
    ∙ (ap (λ ts. by_client c ss done ++ silent ∷ ts)
    (passed_one d newest s ∙ ap (λ (e : LocalClient). by_client d newest [] ++ passed (moves_at e.client s)) (last_is c ss done newest now told))
    ∙ (sym (append_assoc (by_client c ss done) (silent ∷ by_client d newest []) (passed (moves_at now.client s)))
    ∙ ap (λ ts. ts ++ passed (moves_at now.client s)) (sym (client_anew c ss done newest))))

passed_restart : (c : LocalClient) (done : List (List Step)) (newest : List Step) → passed_of c (done ++ newest ∷ []) [] ≡ passed_of c done newest ++ silent ∷ []
passed_restart c [] newest = client_anew c newest [] []
passed_restart c (ss ∷ done) newest = client_anew c ss (done ++ newest ∷ []) []

pub tale_stepped :
    (c : LocalClient) (t : ClientTale) (post more : List Message) (trail longer : List Passage) (s : Step) → IsClientTale c t post trail → Can t.now.client s
    → ((ts : List Traffic) → HasTraffic post trail ts → HasTraffic more longer (ts ++ passed (moves_at t.now.client s)))
    → IsClientTale c (after_one_step s t) more longer
tale_stepped c t post more trail longer s tale can adds =
    record {
      told = told_step c t.done t.newest s t.now tale.told can;
      passed =
          subst (HasTraffic more longer) (sym (passed_step c t.done t.newest s t.now tale.told)) (adds (passed_of c t.done t.newest) tale.passed);
    }

pub tale_restarted :
    (c : LocalClient) (t : ClientTale) (post more : List Message) (trail longer : List Passage) → IsClientTale c t post trail
    → (t.now.stored == 2 ^ 32 - 1) ≡ false
    → ((ts : List Traffic) → HasTraffic post trail ts → HasTraffic more longer (ts ++ silent ∷ []))
    → IsClientTale c (after_one_restart t) more longer
tale_restarted c t post more trail longer tale room adds =
    record {
      told = told_restart c t.done t.newest t.now tale.told room;
      passed = subst (HasTraffic more longer) (sym (passed_restart c t.done t.newest)) (adds (passed_of c t.done t.newest) tale.passed);
    }
