-- A handler that hears is the event that takes the message, or no event where the message is meant for another. In the first
-- case the moves make the event's world, part by part: the handler has the new state, and a block more where one opened. The
-- reply was sent, and all else stays. In the second case the handler drops the message, so the world stays.
use Rattle.scoop_weave.proofs.Names.{◌≡◌, true, false, List, [], ◌∷◌, ◌++◌, Some, refl, sym, ap, ◌∙◌, subst, append-nil, Contains, if◌then◌else◌, Ok, and_parts}
use Rattle.scoop_weave.proofs.Names.{HandlerId, Message, Hello, Lock, Open, Unlock, Log, same_handler, handler_of, client_of, is_for_handler, handler_decides}
use Rattle.scoop_weave.proofs.Names.{HandlerState, hear, row, number-row, Take, World, Site, site_of, party_of, sent_at, heard_world, place_of, taken}
use Rattle.scoop_weave.proofs.Names.{taken_by_handler, taken_by_client, IsReached, by_test, key_found, after_hearing, PlacedHandler, System, its_number}
use Rattle.scoop_weave.proofs.Names.{placed_in, with_local, with_placed, LocalMove, Heard, AtHandler, sent_by, opened_here, opened_by, ran_by, site_with}
use Rattle.scoop_weave.proofs.Names.{site_by, world_by, place_in, event_in}
use Rattle.std.specs.Prelude.{option_to_list}
use Rattle.scoop_handler.specs.declared.note.Heard.{Heard as Reply}
use Rattle.scoop_handler.specs.declared.note.Reason.{Reason}
use Rattle.scoop_handler.specs.declared.note.Reason.TheVariants.{NotForHandlers, WrongHandler}
use Rattle.scoop_handler.specs.declared.note.Note.TheVariants.{Dropped}
use Rattle.scoop_handler.specs.Marks.{mark_of}
use Rattle.scoop_handler.specs.Hearing.{Hearing, dropped, hear_hello, hear_of, hear_lock, hear_open, hear_unlock, hear_log}
use Rattle.scoop_model.specs.Step.{newly_opened, heard_site}
use Rattle.scoop_weave.specs.Histories.{is_for}
use Rattle.scoop_model.specs.declared.note.WorldNote.TheVariants as note
use Rattle.scoop_weave.proofs.Lists.{itself, apart, from_false}
use Rattle.scoop_weave.proofs.Brings.{Brings, brings_none, brings_one}
use Rattle.scoop_weave.proofs.Telling.{went, sent_more, logged_more, joint_more, site_stays, site_goes_on}
use Rattle.scoop_weave.proofs.Places.{sent_there}
use Rattle.scoop_weave.proofs.Worlds.{same_world, site_there, stored_state, sites_changed, parties_same, IsElsewhere, IsSilent, site_unmoved}

-- ---- a message that is not meant for the handler

record IsDropped (s : HandlerState) (h : Hearing) : Type 0 where
  why : Reason
  is : h ≡ dropped s why

not_here : (s : HandlerState) (h : HandlerId) (heard : Hearing) → same_handler h s.number ≡ false
    → IsDropped s (if same_handler h s.number then heard else dropped s WrongHandler)
not_here s h heard e = record { why = WrongHandler; is = ap (λ t. if t then heard else dropped s WrongHandler) e }

not_meant : (s : HandlerState) (m : Message) → is_for s.number m ≡ false → IsDropped s (hear s m)
not_meant s (Hello h c inc) e = not_here s h (hear_hello s c inc (mark_of c s.marks)) e
not_meant s (Lock h b) e = not_here s h (hear_of s b (hear_lock s b)) e
not_meant s (Open h b) e = not_here s h (hear_of s b (hear_open s b)) e
not_meant s (Unlock h b) e = not_here s h (hear_of s b (hear_unlock s b)) e
not_meant s (Log h b n es) e = not_here s h (hear_of s b (hear_log s b n es)) e
not_meant s m e = record { why = NotForHandlers; is = refl }

-- ---- the move

module _ (past : List LocalMove) (v : System) (h : HandlerId) (m : Message) (s : PlacedHandler) (here : placed_in h v ≡ Some s) (own : its_number s ≡ h) where
  abbrev now : Hearing
  now = hear s.local.core.state m

  abbrev a : PlacedHandler
  a = with_local (after_hearing now.0 s.local) s

  abbrev move : LocalMove
  move = Heard h m now.1

  abbrev more : List LocalMove
  more = past ++ move ∷ []

  number : its_number s ≡ its_number a
  number = sym (number-row s.local.core.state m now (row s.local.core.state m))

  named : h ≡ its_number a
  named = sym own ∙ number

  opens : opened_here (its_number a) move ≡ newly_opened now.1.note
  opens =
      ap (λ k. if same_handler h k then newly_opened now.1.note else []) (sym named)
      ∙ ap (λ t. if t then newly_opened now.1.note else []) (itself same_handler handler_decides h)

  elsewhere : (x : PlacedHandler) → same_handler (its_number x) (its_number a) ≡ false → IsElsewhere past move v (its_number x)
  elsewhere x e = record {
    opened =
        ap (λ t. if t then newly_opened now.1.note else [])
        (apart same_handler handler_decides h (its_number x) (λ f. from_false same_handler handler_decides (its_number x) (its_number a) e (sym f ∙ named)));
    ran = refl;
  }

  site_hears : heard_site (site_by past s) now ≡ site_by more a
  site_hears =
      let opened_to : opened_by (its_number s) past ≡ opened_by (its_number a) past = ap (λ k. opened_by k past) number in
      let ran_to : ran_by (its_number s) past ≡ ran_by (its_number a) past ++ [] = ap (λ k. ran_by k past) number
      ∙ sym (append-nil (ran_by (its_number a) past)) in
      let to : heard_site (site_by past s) now ≡ site_with a (opened_by (its_number a) past ++ newly_opened now.1.note) (ran_by (its_number a) past ++ []) =
      λ i. site_with a (opened_to i ++ newly_opened now.1.note) (ran_to i) in
      to ∙ site_goes_on past move a (newly_opened now.1.note) [] opens refl

  pub world_hears : heard_world (world_by past v) (site_by past s) now ≡ world_by more (with_placed a v)
  world_hears =
      same_world _ _ _ _ _ _ _ _ _ _
      (sites_changed past move v a (heard_site (site_by past s) now) site_hears elsewhere)
      (parties_same past move v (λ c. refl))
      (sym (sent_more past move)) (sym (joint_more past move)) (sym (logged_more past move))

  abbrev w : World
  w = world_by past v

  takes : sent_at (place_in (sent_by past) m) w ≡ Some m → is_for_handler m ≡ true → handler_of m ≡ h
      → Brings w (Take (place_in (sent_by past) m) ∷ []) (world_by more (with_placed a v))
  takes was goes names =
      let receiver : site_of (handler_of m) w ≡ Some (site_by past s) = ap (λ k. site_of k w) names ∙ site_there past v h s here in
      let is : taken w (sent_at (place_in (sent_by past) m) w) ≡ Ok (heard_world w (site_by past s) now, note.Handler now.1.note (place_of w now.1.reply)) =
      ap (taken w) was
      ∙ ap (λ t. if t then taken_by_handler w m (site_of (handler_of m) w) else taken_by_client w m (party_of (client_of m) w)) goes
      ∙ ap (taken_by_handler w m) receiver in
      brings_one w (world_by more (with_placed a v)) (heard_world w (site_by past s) now) (Take (place_in (sent_by past) m))
      (note.Handler now.1.note (place_of w now.1.reply)) is world_hears

  passes_over : IsReached w → is_for h m ≡ false → Brings w [] (world_by more (with_placed a v))
  passes_over reached e =
      let d = not_meant s.local.core.state m (ap (λ k. is_for k m) own ∙ e) in
      let state : now.0 ≡ s.local.core.state = ap (λ (x : Hearing). x.0) d.is in
      let told : now.1 ≡ (dropped s.local.core.state d.why).1 = ap (λ (x : Hearing). x.1) d.is in
      let silent : IsSilent past move v = record {
        sent = ap (λ (x : Reply). option_to_list x.reply) told;
        opened = ap (λ (x : Reply). newly_opened x.note) told;
        handlers = λ k. record {
          opened = ap (λ (x : Reply). if same_handler h k then newly_opened x.note else []) told
              ∙ by_test (λ t. (if t then newly_opened (Dropped d.why) else []) ≡ []) (same_handler h k) (λ yes_here. refl) (λ not_there. refl);
          ran = refl;
        };
        clients = λ c. refl;
        logs = refl;
      } in
      let shows : site_by past s ≡ site_by past a = ap (λ t. let x : Site = record (site_by past s) { stored = t } in x) (stored_state past v reached h s here)
      ∙ ap (λ t. site_by past (with_local (after_hearing t s.local) s)) (sym state) in
      let here_too = silent.handlers (its_number a) in
      brings_none w (world_by more (with_placed a v))
      (site_unmoved past move v reached h s a here silent (shows ∙ site_stays past move a here_too.opened here_too.ran))

  brings : IsReached w → sent_at (place_in (sent_by past) m) w ≡ Some m → Brings w (event_in (sent_by past) move) (world_by more (with_placed a v))
  brings reached was =
      by_test (λ t. Brings w (if t then Take (place_in (sent_by past) m) ∷ [] else []) (world_by more (with_placed a v))) (is_for h m)
      (λ e. let both = and_parts (is_for_handler m) (same_handler (handler_of m) h) e in takes was both.0 ((handler_decides (handler_of m) h).0 both.1))
      (λ e. passes_over reached e)

pub hears_brings :
    (past : List LocalMove) (v u : System) (h : HandlerId) (m : Message) (told : Reply) → IsReached (world_by past v) → Contains (sent_by past) m
    → AtHandler h (Heard h m told) v u
    → Brings (world_by past v) (event_in (sent_by past) (Heard h m told)) (world_by (past ++ Heard h m told ∷ []) u)
hears_brings past v u h m told reached sent r =
    let w : World = world_by past v in
    let own = key_found its_number same_handler handler_decides h v.handlers r.handler r.here in
    let was : sent_at (place_in (sent_by past) m) w ≡ Some m = sent_there w m sent in
    let answer : Reply = (hear r.handler.local.core.state m).1 in
    subst (λ t. Brings w (event_in (sent_by past) (Heard h m t)) (world_by (past ++ Heard h m t ∷ []) u)) (sym r.moves.moves.tells)
    (subst (λ x. Brings w (event_in (sent_by past) (Heard h m answer)) (world_by (past ++ Heard h m answer ∷ []) x))
    (sym (r.after ∙ ap (λ x. with_placed x v) (went r.moves r.moves.moves.after)))
    (brings past v h m r.handler r.here own reached was))
