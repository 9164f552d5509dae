-- The traffic of parties, move after move, and after they begin anew.
use Rattle.std.proofs.Common.{◌≡◌, ℕ, ◌+◌, List, [], ◌∷◌, ◌++◌, map, take, refl, sym, ap, ◌∙◌, append_assoc, append-nil}
use Rattle.std.proofs.lemmas.List.{map-append}
use Rattle.scoop_book.specs.Moves.{Entry}
use Rattle.scoop_message.specs.declared.name.HandlerId.{HandlerId}
use Rattle.scoop_client.specs.State.{ClientState}
use Rattle.scoop_client.specs.Due.{due}
use Rattle.scoop_driver.specs.declared.step.Received.{Received}
use Rattle.scoop_driver.specs.declared.step.Step.{Step}
use Rattle.scoop_driver.specs.declared.step.Step.TheVariants.{Turned, Broke}
use Rattle.scoop_driver.specs.Steps.{after, message_in, walk}
use Rattle.scoop_driver.proofs.StepLists.{walk-append}
use Rattle.scoop_weave.specs.System.{LocalClient, id_in, after_restart}
use Rattle.scoop_weave.specs.Moves.{LocalMove, NodeReopened, Sent, ClientRestarted}
use Rattle.scoop_weave.specs.NodeHistories as node
use Rattle.scoop_weave.specs.NodeHistories.{move_in}
use Rattle.scoop_weave.specs.ClientSteps as client
use Rattle.scoop_weave.specs.ClientSteps.{driven, hears, moves_at, moves_by, sends_to}
use Rattle.scoop_weaver.specs.declared.traffic.Traffic.{Traffic}
use Rattle.scoop_weaver.specs.Passing.{silent, traffic_of, traffic_in, by_node, by_client, last_client}

abbrev pub passed : List LocalMove → List Traffic
passed ms = map traffic_of ms

passed_both : (ms ns : List LocalMove) → passed (ms ++ ns) ≡ passed ms ++ passed ns
passed_both ms ns = map-append traffic_of ms ns

-- ---- the first history, the first driver

pub entries_passed : (n : ℕ) (es : List Entry) → map traffic_in es ≡ by_node n es []
unfolding traffic_in
entries_passed n [] = refl
entries_passed n (e ∷ es) = ap (λ ts. traffic_of (move_in e) ∷ ts) (entries_passed n es)

moves_more : (c : ClientState) (ss : List Step) (s : Step) → moves_by c (ss ++ s ∷ []) ≡ moves_by c ss ++ moves_at (walk c ss) s
moves_more c [] s = append-nil (moves_at c s)
moves_more c (x ∷ ss) s =
    ap (λ ms. moves_at c x ++ ms) (moves_more (after c x) ss s) ∙ sym (append_assoc (moves_at c x) (moves_by (after c x) ss) (moves_at (walk (after c x) ss) s))

pub steps_passed : (c : ClientState) (ss : List Step) (s : Step)
    → passed (moves_by c (ss ++ s ∷ [])) ≡ passed (moves_by c ss) ++ passed (moves_at (walk c ss) s)
steps_passed c ss s = ap passed (moves_more c ss s) ∙ passed_both (moves_by c ss) (moves_at (walk c ss) s)

-- ---- a step

pub sends_more : (c : ClientState) (hs : List HandlerId) (h : HandlerId)
    → passed (sends_to c (hs ++ h ∷ [])) ≡ passed (sends_to c hs) ++ traffic_of (Sent c.id h (due c h)) ∷ []
sends_more c [] h = refl
sends_more c (k ∷ hs) h = ap (λ ts. traffic_of (Sent c.id k (due c k)) ∷ ts) (sends_more c hs h)

-- one more send, of a list of handlers that is gone through
pub next_send :
    (c : ClientState) (front next : List HandlerId) (h k : HandlerId) (start ms ns : List Traffic) (t : Traffic) → ms ≡ start ++ passed (sends_to c front)
    → next ≡ front ++ k ∷ []
    → t ≡ traffic_of (Sent c.id h (due c h)) → h ≡ k → ns ≡ ms ++ t ∷ [] → ns ≡ start ++ passed (sends_to c next)
next_send c front next h k start ms ns t so is told same more =
    more ∙ (ap (λ xs. xs ++ t ∷ []) so ∙ (append_assoc start (passed (sends_to c front)) (t ∷ [])
    ∙ (ap (λ x. start ++ (passed (sends_to c front) ++ x ∷ [])) (told ∙ ap (λ x. traffic_of (Sent c.id x (due c x))) same)
    ∙ (ap (λ xs. start ++ xs) (sym (sends_more c front k)) ∙ ap (λ hs. start ++ passed (sends_to c hs)) (sym is)))))

pub turn_passed :
    (c : ClientState) (hs : List HandlerId) (got : Received) (start ms ns : List Traffic) → hs ≡ c.handlers → ms ≡ start ++ passed (sends_to c hs)
    → ns ≡ ms ++ passed (hears c (message_in got)) → ns ≡ start ++ passed (moves_at c (Turned got))
turn_passed c hs got start ms ns all sent heard =
    heard ∙ (ap (λ xs. xs ++ passed (hears c (message_in got))) sent ∙ (append_assoc start (passed (sends_to c hs)) (passed (hears c (message_in got)))
    ∙ (ap (λ xs. start ++ xs) (sym (passed_both (sends_to c hs) (hears c (message_in got))))
    ∙ ap (λ ks. start ++ passed (sends_to c ks ++ hears c (message_in got))) all)))

pub broken_passed :
    (c : ClientState) (hs front : List HandlerId) (place : ℕ) (start ns : List Traffic) → hs ≡ c.handlers → front ≡ take (place + 1) hs
    → ns ≡ start ++ passed (sends_to c front)
    → ns ≡ start ++ passed (moves_at c (Broke place))
broken_passed c hs front place start ns all is sent =
    sent ∙ (ap (λ ks. start ++ passed (sends_to c ks)) is ∙ ap (λ ks. start ++ passed (sends_to c (take (place + 1) ks))) all)

-- one more step, of a list that is gone through
pub next_step :
    (c now new : ClientState) (front next : List Step) (s z : Step) (ms ns : List Traffic) → ms ≡ passed (moves_by c front) → now ≡ walk c front
    → next ≡ front ++ z ∷ [] → s ≡ z
    → ns ≡ ms ++ passed (moves_at now s) → new ≡ after now s → (ns ≡ passed (moves_by c next)) × (new ≡ walk c next)
next_step c now new front next s z ms ns so led is same noted made = (
  noted ∙ (ap (λ xs. xs ++ passed (moves_at now s)) so ∙ (ap (λ d. passed (moves_by c front) ++ passed (moves_at d s)) led
      ∙ (ap (λ x. passed (moves_by c front) ++ passed (moves_at (walk c front) x)) same
      ∙ (sym (steps_passed c front z) ∙ ap (λ ss. passed (moves_by c ss)) (sym is))))),
  made ∙ (ap (λ d. after d s) led ∙ (ap (after (walk c front)) same ∙ (sym (walk-append front (z ∷ []) c) ∙ ap (walk c) (sym is)))),
)

-- ---- anew

-- one more move in front of both
in_front : (ms ns : List LocalMove) (m : LocalMove) (ts : List Traffic) → traffic_of m ≡ silent → passed ns ≡ ts
    → passed (ms ++ m ∷ ns) ≡ passed ms ++ silent ∷ ts
in_front ms ns m ts quiet is = passed_both ms (m ∷ ns) ∙ (ap (λ t. passed ms ++ t ∷ passed ns) quiet ∙ ap (λ xs. passed ms ++ silent ∷ xs) is)

behind : (ms ns : List LocalMove) (m : LocalMove) (ts : List Traffic) → traffic_of m ≡ silent
    → passed ms ++ silent ∷ (passed ns ++ ts) ≡ passed (ms ++ m ∷ ns) ++ ts
behind ms ns m ts quiet =
    sym (append_assoc (passed ms) (silent ∷ passed ns) ts) ∙ ap (λ xs. xs ++ ts) (sym (in_front ms ns m (passed ns) quiet refl))

pub node_anew : (n : ℕ) (first : List Entry) (more : List (List Entry)) (next : List Entry)
    → by_node n first (more ++ next ∷ []) ≡ by_node n first more ++ silent ∷ by_node n next []
node_anew n first [] next = in_front (map move_in first) (map move_in next) (NodeReopened n) (by_node n next []) refl refl
node_anew n first (es ∷ more) next =
    in_front (map move_in first) (node.moves_of n es (more ++ next ∷ [])) (NodeReopened n) (by_node n es more ++ silent ∷ by_node n next []) refl
    (node_anew n es more next)
    ∙ behind (map move_in first) (node.moves_of n es more) (NodeReopened n) (silent ∷ by_node n next []) refl

pub client_anew : (c : LocalClient) (first : List Step) (more : List (List Step)) (next : List Step)
    → by_client c first (more ++ next ∷ []) ≡ by_client c first more ++ silent ∷ by_client (after_restart (last_client c first more)) next []
client_anew c first [] next =
    let d : LocalClient = after_restart (driven c first) in
    in_front (moves_by c.client first) (moves_by d.client next) (ClientRestarted (id_in c)) (by_client d next []) refl refl
client_anew c first (steps ∷ more) next =
    let d : LocalClient = after_restart (driven c first) in
    let ts : List Traffic = silent ∷ by_client (after_restart (last_client d steps more)) next [] in
    in_front (moves_by c.client first) (client.moves_of d steps (more ++ next ∷ [])) (ClientRestarted (id_in c)) (by_client d steps more ++ ts) refl
    (client_anew d steps more next)
    ∙ behind (moves_by c.client first) (client.moves_of d steps more) (ClientRestarted (id_in c)) ts refl
