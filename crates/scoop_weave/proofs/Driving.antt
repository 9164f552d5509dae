-- A client that takes a command, sends or restarts is the event of that name.
use Rattle.scoop_weave.proofs.Names.{◌≡◌, ◌+◌, List, [], ◌∷◌, ◌++◌, Option, Some, None, refl, sym, ap, ◌∙◌, subst, if◌then◌else◌, Ok, Err, Block, ClientId}
use Rattle.scoop_weave.proofs.Names.{HandlerId, Message, ClientState, due, Command, World, Party, party_of, site_of, newest_block, commanded_world, with_sent}
use Rattle.scoop_weave.proofs.Names.{place_of, with_party, restarted_party, IsReached, onward_commanded, LocalClient, System, id_in, client_in, placed_in}
use Rattle.scoop_weave.proofs.Names.{with_client, after_step, after_restart, LocalMove, Commanded, Sent, ClientRestarted, AtClient, sent_by, accepted_by}
use Rattle.scoop_weave.proofs.Names.{party_with, party_by, world_by, event_in}
use Rattle.scoop_model.specs.declared.event.Event.TheVariants.{Do, Tick, ClientRestart}
use Rattle.scoop_model.specs.declared.error.WorldError.TheVariants.{IncarnationsSpent}
use Rattle.scoop_model.specs.Step.{commanded, do_at, sends, sent_or_silent, tick_at, restart_client}
use Rattle.scoop_weave.specs.Histories.{tick_event}
use Rattle.scoop_client.specs.Commands as client
use Rattle.scoop_model.specs.declared.note.WorldNote.TheVariants as note
use Rattle.scoop_weave.proofs.Brings.{Brings, brings_none, brings_one}
use Rattle.scoop_weave.proofs.Telling.{sent_more, logged_more, party_stays}
use Rattle.scoop_weave.proofs.Worlds.{same_world, site_there, party_there, sites_same, parties_changed, parties_same, nothing_sent, nothing_opened}
use Rattle.scoop_weave.proofs.Worlds.{nothing_logged, receiver_there, client_itself, IsSilent, told_nothing}

-- ---- a command

module _ (past : List LocalMove) (v : System) (c : ClientId) (x : Command) (d : LocalClient) (new : ClientState) (here : client_in c v ≡ Some d)
    (taken : client.command d.client x ≡ Ok new) where
  abbrev move : LocalMove
  move = Commanded c x (newest_block new)

  abbrev more : List LocalMove
  more = past ++ move ∷ []

  abbrev a : LocalClient
  a = after_step new d

  name : id_in a ≡ id_in d
  name = (onward_commanded d.client x new taken).id

  party_goes : record (party_by past d) { client = new } ≡ party_by more a
  party_goes =
      let accepted_to : accepted_by (id_in d) past ≡ accepted_by (id_in a) past = ap (λ k. accepted_by k past) (sym name) in
      let to : record (party_by past d) { client = new } ≡ party_by past a = λ i. party_with a (accepted_to i) in
      to ∙ party_stays past move a refl

  pub takes_world : commanded_world (world_by past v) (party_by past d) x new ≡ world_by more (with_client a v)
  takes_world =
      same_world _ _ _ _ _ _ _ _ _ _
      (sites_same past move v (λ h. record { opened = refl; ran = refl }))
      (parties_changed past move v a (record (party_by past d) { client = new }) party_goes (λ y e. refl))
      (nothing_sent past move v refl) (nothing_opened past move v refl) (sym (logged_more past move))

  take_brings : Brings (world_by past v) (Do c x ∷ []) (world_by more (with_client a v))
  take_brings =
      let w : World = world_by past v in
      let is : do_at w x (party_of c w) ≡ Ok (commanded_world w (party_by past d) x new, note.Done) =
      ap (do_at w x) (party_there past v c d here)
      ∙ ap (commanded w (party_by past d) x) taken in
      brings_one w (world_by more (with_client a v)) (commanded_world w (party_by past d) x new)
      (Do c x) note.Done is takes_world

pub takes_brings :
    (past : List LocalMove) (v u : System) (c : ClientId) (x : Command) (b : Block) → AtClient c (Commanded c x b) v u
    → Brings (world_by past v) (event_in (sent_by past) (Commanded c x b)) (world_by (past ++ Commanded c x b ∷ []) u)
takes_brings past v u c x b r =
    let w : World = world_by past v in
    subst (λ t. Brings w (Do c x ∷ []) (world_by (past ++ Commanded c x t ∷ []) u)) (sym r.moves.tells)
    (subst (λ y. Brings w (Do c x ∷ []) (world_by (past ++ Commanded c x (newest_block r.moves.new) ∷ []) y))
    (sym (r.after ∙ ap (λ y. with_client y v) r.moves.after))
    (take_brings past v c x r.client r.moves.new r.here r.moves.taken))

-- ---- a message that is due

module _ (past : List LocalMove) (v : System) (c : ClientId) (h : HandlerId) (d : LocalClient) (here : client_in c v ≡ Some d) where
  pub sent_world : (o : Option Message) → with_sent (world_by past v) o ≡ world_by (past ++ Sent c h o ∷ []) v
  sent_world o =
      let move : LocalMove = Sent c h o in
      same_world _ _ _ _ _ _ _ _ _ _
      (sites_same past move v (λ k. record { opened = refl; ran = refl }))
      (parties_same past move v (λ k. refl))
      (sym (sent_more past move)) (nothing_opened past move v refl) (nothing_logged past move v refl)

  send_brings : (o : Option Message) → (some : _) → placed_in h v ≡ Some some → due d.client h ≡ o
      → Brings (world_by past v) (tick_event c h o) (world_by (past ++ Sent c h o ∷ []) v)
  send_brings None s there e =
      let silent : IsSilent past (Sent c h None) v = record {
        sent = refl;
        opened = refl;
        handlers = λ k. record { opened = refl; ran = refl };
        clients =
            λ k. refl;
        logs = refl;
      } in
      brings_none (world_by past v) (world_by (past ++ Sent c h None ∷ []) v) (told_nothing past (Sent c h None) v silent)
  send_brings (Some m) s there e =
      let w : World = world_by past v in
      let is : tick_at w h (party_of c w) (site_of h w) ≡ Ok (with_sent w (Some m), sent_or_silent (place_of w (Some m))) =
      ap (λ p. tick_at w h p (site_of h w)) (party_there past v c d here)
      ∙ ap (tick_at w h (Some (party_by past d))) (site_there past v h s there)
      ∙ ap (sends w) e in
      brings_one w (world_by (past ++ Sent c h (Some m) ∷ []) v) (with_sent w (Some m)) (Tick c h) (sent_or_silent (place_of w (Some m))) is
      (sent_world (Some m))

pub sends_brings :
    (past : List LocalMove) (v u : System) (c : ClientId) (h : HandlerId) (o : Option Message) → IsReached (world_by past v) → AtClient c (Sent c h o) v u
    → Brings (world_by past v) (event_in (sent_by past) (Sent c h o)) (world_by (past ++ Sent c h o ∷ []) u)
sends_brings past v u c h o reached r =
    subst (λ y. Brings (world_by past v) (tick_event c h o) (world_by (past ++ Sent c h o ∷ []) y))
    (sym (r.after ∙ ap (λ y. with_client y v) r.moves.after ∙ client_itself past v reached c r.client r.here))
    (let there = receiver_there past v reached c r.client h r.here r.moves.named in
    send_brings past v c h r.client r.here o there.0 there.1 (sym r.moves.tells))

-- ---- a restart

pub restarted_world : (past : List LocalMove) (v : System) (c : ClientId) (d : LocalClient)
    → with_party (world_by past v) (restarted_party (party_by past d)) ≡ world_by (past ++ ClientRestarted c ∷ []) (with_client (after_restart d) v)
restarted_world past v c d =
    let m : LocalMove = ClientRestarted c in
    same_world _ _ _ _ _ _ _ _ _ _
    (sites_same past m v (λ k. record { opened = refl; ran = refl }))
    (parties_changed past m v (after_restart d) (restarted_party (party_by past d)) (party_stays past m (after_restart d) refl) (λ y e. refl))
    (nothing_sent past m v refl) (nothing_opened past m v refl) (nothing_logged past m v refl)

pub restarts_brings :
    (past : List LocalMove) (v u : System) (c : ClientId) → AtClient c (ClientRestarted c) v u
    → Brings (world_by past v) (event_in (sent_by past) (ClientRestarted c)) (world_by (past ++ ClientRestarted c ∷ []) u)
restarts_brings past v u c r =
    let w : World = world_by past v in
    let m : LocalMove = ClientRestarted c in
    let d : LocalClient = r.client in
    let p : Party = party_by past d in
    let told = note.Restarted (d.stored + 1) in
    let is : restart_client w (party_of c w) ≡ Ok (with_party w (restarted_party p), told) =
    ap (restart_client w) (party_there past v c d r.here) ∙ ap
    (λ t. if t then Err IncarnationsSpent else Ok (with_party w (restarted_party p), told)) r.moves.room in
    subst (λ y. Brings w (ClientRestart c ∷ []) (world_by (past ++ m ∷ []) y)) (sym (r.after ∙ ap (λ y. with_client y v) r.moves.after))
    (brings_one w (world_by (past ++ m ∷ []) (with_client (after_restart d) v)) (with_party w (restarted_party p)) (ClientRestart c) told is (restarted_world past v c d))
