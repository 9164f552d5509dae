-- A client that hears is the event that takes the message, or no event where the message is meant for another. The client accepts
-- an answer for the block that the message names, so the move itself shows which answer was accepted. A message of another
-- client, or of its block, changes nothing.
use Rattle.scoop_weave.proofs.Names.{◌≡◌, ℕ, ◌==◌, false, ◌&&◌, List, [], ◌∷◌, ◌++◌, Option, Some, None, refl, sym, ap, ◌∙◌, subst, Contains, if◌then◌else◌, Ok}
use Rattle.scoop_weave.proofs.Names.{and_parts, Block, ClientId, HandlerId, Message, Welcome, Locked, Busy, Opened, Unlocked, Logged, Answer, same_client}
use Rattle.scoop_weave.proofs.Names.{handler_of, client_of, is_for_handler, client_decides, ClientState, heard, heard_row, Take, World, Accepted, is_party}
use Rattle.scoop_weave.proofs.Names.{site_of, party_of, sent_at, newest_block, heard_party, with_party, taken, taken_by_handler, taken_by_client, IsReached}
use Rattle.scoop_weave.proofs.Names.{by_test, key_found, all_found, onward_heard, LocalClient, System, id_in, client_in, with_client, after_step, LocalMove}
use Rattle.scoop_weave.proofs.Names.{ClientHeard, AtClient, sent_by, accepted_here, accepted_by, party_with, party_by, world_by, place_in, event_in}
use Rattle.std.proofs.Common.{not}
use Rattle.std.proofs.lemmas.Bool.{not-true}
use Rattle.scoop_message.specs.Message.{same_block}
use Rattle.scoop_reserve.specs.declared.stage.Step.{Step}
use Rattle.scoop_reserve.specs.State.{ReservationState}
use Rattle.scoop_client.specs.declared.phase.ClientNote.{ClientNote}
use Rattle.scoop_client.specs.declared.phase.ClientNote.TheVariants.{Ignored}
use Rattle.scoop_client.specs.Window.{window_of}
use Rattle.scoop_client.specs.Hearing.{Notice, ignored, hear_welcome, after_step as after_reserving, hear_step, hear_logged, hear_answer, hear_count}
use Rattle.scoop_client.specs.Hearing.{hear_answer_to, up_to}
use Rattle.scoop_client.specs.Rows.{HeardRow, takes_step, is_accepted}
use Rattle.scoop_model.specs.Step.{newly_accepted}
use Rattle.scoop_model.proofs.Logging.Facts.{PartyLogs}
use Rattle.scoop_model.proofs.Ready.Runs.{reached_facts}
use Rattle.scoop_weave.specs.Histories.{block_in, is_to}
use Rattle.scoop_reserve.specs.declared.stage.Step.TheVariants as step
use Rattle.scoop_reserve.specs.Hearing as reservation
use Rattle.scoop_model.specs.declared.note.WorldNote.TheVariants as note
use Rattle.scoop_weave.proofs.Lists.{itself, apart, from_false}
use Rattle.scoop_weave.proofs.Brings.{Brings, brings_none, brings_one}
use Rattle.scoop_weave.proofs.Telling.{party_goes_on}
use Rattle.scoop_weave.proofs.Places.{sent_there}
use Rattle.scoop_weave.proofs.Worlds.{same_world, party_there, client_itself, sites_same, parties_changed, nothing_sent, nothing_opened, nothing_logged}
use Rattle.scoop_weave.proofs.Worlds.{IsSilent, told_nothing}

-- the block that the client has is the newest that it began
abbrev HasNewest : ClientState → Type 0
HasNewest c = (r : ReservationState) → c.reservation ≡ Some r → r.block ≡ newest_block c

-- ---- a message that is not meant for the client

module _ (c : ClientState) (newest : HasNewest c) where
  other_block : (b : Block) (r : ReservationState) → c.reservation ≡ Some r → same_client b.client c.id ≡ false → same_block b r.block ≡ false
  other_block b r held e =
      let own : r.block.client ≡ c.id = ap (λ (x : Block). x.client) (newest r held) in
      ap (λ t. t && (b.inc == r.block.inc && b.num == r.block.num)) (ap (same_client b.client) own ∙ e)

  -- a message of a block that another client has
  step_over : (m : Message) (b : Block) (n : ReservationState → reservation.Notice) (o : Option ReservationState)
      → ((r : ReservationState) → reservation.heard r m ≡ reservation.of_block r b (n r)) → c.reservation ≡ o → same_client b.client c.id ≡ false
      → hear_step c m o ≡ ignored c
  step_over m b n None is held e = refl
  step_over m b n (Some r) is held e =
      ap (λ (x : reservation.Notice). after_reserving c x.0 x.1)
      (is r ∙ ap (λ t. if t then n r else reservation.ignored r) (other_block b r held e))

  logged_over : (h : HandlerId) (b : Block) (n : ℕ) (o : Option ReservationState) → c.reservation ≡ o → same_client b.client c.id ≡ false
      → hear_logged c h b n o ≡ ignored c
  logged_over h b n None held e = refl
  logged_over h b n (Some r) held e =
      ap (λ t. if t && reservation.is_open r then hear_count c h n (up_to h n c.waits) (window_of h c.windows) else ignored c) (other_block b r held e)

  answer_over : (h : HandlerId) (b : Block) (n : ℕ) (a : _) (o : Option ReservationState) → c.reservation ≡ o → same_client b.client c.id ≡ false
      → hear_answer c h b n a o ≡ ignored c
  answer_over h b n a None held e = refl
  answer_over h b n a (Some r) held e =
      ap (λ t. if t && reservation.is_open r then hear_answer_to c h n a c.waits else ignored c) (other_block b r held e)

  not_meant : (m : Message) → is_to c.id m ≡ false → heard c m ≡ ignored c
  not_meant (Welcome h x inc) e = ap (λ t. if t && inc == c.inc then hear_welcome c h else ignored c) e
  not_meant (Locked h b) e = step_over (Locked h b) b (λ r. reservation.hear_locked r h r.stage) c.reservation (λ r. refl) refl e
  not_meant (Busy h b) e = step_over (Busy h b) b (λ r. reservation.hear_busy r h r.stage) c.reservation (λ r. refl) refl e
  not_meant (Opened h b) e = step_over (Opened h b) b (λ r. reservation.hear_opened r h r.stage) c.reservation (λ r. refl) refl e
  not_meant (Unlocked h b) e = step_over (Unlocked h b) b (λ r. reservation.hear_unlocked r h r.stage) c.reservation (λ r. refl) refl e
  not_meant (Logged h b n) e = logged_over h b n c.reservation refl e
  not_meant (Answer h b n a) e = answer_over h b n a c.reservation refl e
  not_meant m e = refl

  -- ---- an answer is accepted for the block that its message names

  step_accepts : (b d : Block) (r : ReservationState) (st : Step) → newly_accepted b (after_reserving c r st).1 ≡ newly_accepted d (after_reserving c r st).1
  step_accepts b d r (step.Locked h) = refl
  step_accepts b d r st = refl

  accepts_named : (m : Message) (d : ClientState) (told : ClientNote) → HeardRow c m d told
      → newly_accepted (newest_block c) told ≡ newly_accepted (block_in m) told
  accepts_named m d told (takes_step x r held) = step_accepts (newest_block c) (block_in x) (reservation.heard r x).0 (reservation.heard r x).1
  accepts_named m d told (is_accepted h n a r held opened waits) = ap (λ b. let xs : List Accepted = (h, b, n, a) ∷ [] in xs) (sym (newest r held))
  accepts_named m d told row = refl

-- ---- the move

newest_held : (past : List LocalMove) (v : System) (c : ClientId) (d : LocalClient) → IsReached (world_by past v) → client_in c v ≡ Some d → HasNewest d.client
newest_held past v c d reached here r held =
    let w : World = world_by past v in
    let logging = (reached_facts w reached).logging in
    ((all_found (PartyLogs w) (is_party c) w.parties (party_by past d) logging.parties (party_there past v c d here)).block r held).block

module _ (past : List LocalMove) (v : System) (c : ClientId) (m : Message) (d : LocalClient) (here : client_in c v ≡ Some d) (own : id_in d ≡ c)
    (reached : IsReached (world_by past v)) where
  abbrev now : Notice
  now = heard d.client m

  abbrev a : LocalClient
  a = after_step now.0 d

  abbrev move : LocalMove
  move = ClientHeard c m now.1

  abbrev more : List LocalMove
  more = past ++ move ∷ []

  abbrev w : World
  w = world_by past v

  newest : HasNewest d.client
  newest = newest_held past v c d reached here

  name : id_in d ≡ id_in a
  name = sym (onward_heard d.client m now.0 now.1 (heard_row d.client m)).id

  named : c ≡ id_in a
  named = sym own ∙ name

  accepts : accepted_here (id_in a) move ≡ newly_accepted (newest_block d.client) now.1
  accepts =
      ap (λ k. if same_client c k then newly_accepted (block_in m) now.1 else []) (sym named)
      ∙ ap (λ t. if t then newly_accepted (block_in m) now.1 else []) (itself same_client client_decides c)
      ∙ sym (accepts_named d.client newest m now.0 now.1 (heard_row d.client m))

  elsewhere : (x : LocalClient) → same_client (id_in x) (id_in a) ≡ false → accepted_here (id_in x) move ≡ []
  elsewhere x e =
      ap (λ t. if t then newly_accepted (block_in m) now.1 else [])
      (apart same_client client_decides c (id_in x) (λ f. from_false same_client client_decides (id_in x) (id_in a) e (sym f ∙ named)))

  party_hears : heard_party (party_by past d) now ≡ party_by more a
  party_hears =
      let accepted_to : accepted_by (id_in d) past ≡ accepted_by (id_in a) past = ap (λ k. accepted_by k past) name in
      let to : heard_party (party_by past d) now ≡ party_with a (accepted_by (id_in a) past ++ newly_accepted (newest_block d.client) now.1) =
      λ i. party_with a (accepted_to i ++ newly_accepted (newest_block d.client) now.1) in
      to ∙ party_goes_on past move a (newly_accepted (newest_block d.client) now.1) accepts

  pub world_hears : with_party w (heard_party (party_by past d) now) ≡ world_by more (with_client a v)
  world_hears =
      same_world _ _ _ _ _ _ _ _ _ _
      (sites_same past move v (λ h. record { opened = refl; ran = refl }))
      (parties_changed past move v a (heard_party (party_by past d) now) party_hears elsewhere)
      (nothing_sent past move v refl) (nothing_opened past move v refl) (nothing_logged past move v refl)

  takes : sent_at (place_in (sent_by past) m) w ≡ Some m → is_for_handler m ≡ false → client_of m ≡ c
      → Brings w (Take (place_in (sent_by past) m) ∷ []) (world_by more (with_client a v))
  takes was goes names =
      let receiver : party_of (client_of m) w ≡ Some (party_by past d) = ap (λ k. party_of k w) names ∙ party_there past v c d here in
      let is : taken w (sent_at (place_in (sent_by past) m) w) ≡ Ok (with_party w (heard_party (party_by past d) now), note.Client now.1) =
      ap (taken w) was
      ∙ ap (λ t. if t then taken_by_handler w m (site_of (handler_of m) w) else taken_by_client w m (party_of (client_of m) w)) goes
      ∙ ap (taken_by_client w m) receiver in
      brings_one w (world_by more (with_client a v)) (with_party w (heard_party (party_by past d) now)) (Take (place_in (sent_by past) m))
      (note.Client now.1) is world_hears

  passes_over : is_to c m ≡ false → Brings w [] (world_by more (with_client a v))
  passes_over e =
      let nothing : now ≡ ignored d.client = not_meant d.client newest m (ap (λ k. is_to k m) own ∙ e) in
      let stays : a ≡ d = ap (λ (x : Notice). after_step x.0 d) nothing in
      let same : with_client a v ≡ v = ap (λ x. with_client x v) stays ∙ client_itself past v reached c d here in
      let told : now.1 ≡ Ignored = ap (λ (x : Notice). x.1) nothing in
      let silent : IsSilent past move v = record {
        sent = refl;
        opened = refl;
        handlers = λ h. record { opened = refl; ran = refl };
        clients = λ k.
            ap (λ x. if same_client c k then newly_accepted (block_in m) x else []) told
            ∙ by_test (λ t. (if t then newly_accepted (block_in m) Ignored else []) ≡ []) (same_client c k) (λ yes_here. refl) (λ not_there. refl);
        logs = refl;
      } in
      brings_none w (world_by more (with_client a v)) (told_nothing past move v silent ∙ ap (world_by more) (sym same))

  brings : sent_at (place_in (sent_by past) m) w ≡ Some m → Brings w (event_in (sent_by past) move) (world_by more (with_client a v))
  brings was =
      by_test (λ t. Brings w (if t then Take (place_in (sent_by past) m) ∷ [] else []) (world_by more (with_client a v))) (is_to c m)
      (λ e. let both = and_parts (not (is_for_handler m)) (same_client (client_of m) c) e in
      takes was (not-true (is_for_handler m) both.0) ((client_decides (client_of m) c).0 both.1))
      (λ e. passes_over e)

pub notices_brings :
    (past : List LocalMove) (v u : System) (c : ClientId) (m : Message) (told : ClientNote) → IsReached (world_by past v) → Contains (sent_by past) m
    → AtClient c (ClientHeard c m told) v u
    → Brings (world_by past v) (event_in (sent_by past) (ClientHeard c m told)) (world_by (past ++ ClientHeard c m told ∷ []) u)
notices_brings past v u c m told reached sent r =
    let w : World = world_by past v in
    let own = key_found id_in same_client client_decides c v.clients r.client r.here in
    let was : sent_at (place_in (sent_by past) m) w ≡ Some m = sent_there w m sent in
    let shown : ClientNote = (heard r.client.client m).1 in
    subst (λ t. Brings w (event_in (sent_by past) (ClientHeard c m t)) (world_by (past ++ ClientHeard c m t ∷ []) u)) (sym r.moves.tells)
    (subst (λ x. Brings w (event_in (sent_by past) (ClientHeard c m shown)) (world_by (past ++ ClientHeard c m shown ∷ []) x))
    (sym (r.after ∙ ap (λ y. with_client y v) r.moves.after))
    (brings past v c m r.client r.here own reached was))
