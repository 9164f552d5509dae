-- Whatever happens, where a message names a block, every handler that its client knows knows the block's incarnation. A client
-- begins a block only once all of these have welcomed it, and a handler's Welcome tells that its mark has reached the incarnation. Marks only go on,
-- so what a handler knew it knows later too; a message names its client's block, or that of the message that it replies to.
use Rattle.scoop_model.proofs.Names.{◌≡◌, List, map, Some, refl, sym, ap, ◌∙◌, subst, true, true≢false, same_Some, AllByRecursion, client_of, handler_of, Message}
use Rattle.scoop_model.proofs.Names.{ClientId, HandlerId, id_found, id_of, MayOpen, MarksGrow-after, all_found, MarksGrow-refl, grows-row, replies-row, row, MarksGrow, Hearing, hear, HasEntries}
use Rattle.scoop_model.proofs.Names.{ran_of, has, due, heard, all_mapped, IsReached, Run, heard_party, restarted_party, heard_world, heard_site, begun_site}
use Rattle.scoop_model.proofs.Names.{finished_site, reopened, Placement, Newcomer, new_party, opening, World, Party, set_party, Site, number_of, site_of}
use Rattle.scoop_model.proofs.Names.{set_site, is_party, sent_at, own_site, heard_place}
use Rattle.scoop_model.specs.Named.{IsMarked, NamesKnown}
use Rattle.scoop_model.proofs.Events.{Changes, both_kept, steps_kept}
use Rattle.scoop_model.proofs.Order.{Ordered, all_more_of, all_pushed, all_set_party, granted_anew, granted_set}
use Rattle.scoop_model.proofs.Sound.{Sound, sent_all}
use Rattle.scoop_model.proofs.Logging.{Greets}
use Rattle.scoop_model.proofs.Logging.Greetings.{Greetings}
use Rattle.scoop_model.proofs.Ready.Runs.{Kept, facts, all_kept, opens_kept}
use Rattle.scoop_model.proofs.Reaching.{sites_placed}
use Rattle.scoop_model.proofs.Knowing.Facts.{Known, Names, PartyKnown, Knowing, Remember, names_more, party_more}
use Rattle.scoop_model.proofs.Knowing.Joining.{known_by, each_knows, known_placed}
use Rattle.scoop_model.proofs.Knowing.Clients.{command_known, due_names, hears_known_by}
use Rattle.scoop_model.proofs.Moves.{sends, hears}

module _ (hs : Known) where
  -- the sites go on, and these messages are sent by now
  sites_known : (w v : World) → Knowing hs w → Remember w.sites v.sites → v.parties ≡ w.parties → AllByRecursion (Names hs v.sites) v.sent → Knowing hs v
  sites_known w v i more same messages = record {
    messages = messages;
    parties = subst (AllByRecursion (PartyKnown hs v.sites)) (sym same)
        (all_more_of (PartyKnown hs w.sites) (PartyKnown hs v.sites) (party_more hs w.sites v.sites more) w.parties i.parties);
  }

  old_names : (w v : World) → Knowing hs w → Remember w.sites v.sites → AllByRecursion (Names hs v.sites) w.sent
  old_names w v i more = all_more_of (Names hs w.sites) (Names hs v.sites) (names_more hs w.sites v.sites more) w.sent i.messages

  -- one site goes on, and nothing is sent
  site_known : (w : World) (s old : Site) → Knowing hs w → site_of (number_of s) w ≡ Some old → MarksGrow old.core.state.marks s.core.state.marks
      → Knowing hs (record w { sites = set_site s w.sites })
  site_known w s old i here grows =
      let v : World = record w { sites = set_site s w.sites } in
      let more = granted_set w s old here grows in
      sites_known w v i more refl (old_names w v i more)

  -- one client is another by now, and nothing is sent
  set_known : (w : World) (p : Party) → Knowing hs w → PartyKnown hs w.sites p → AllByRecursion (PartyKnown hs w.sites) (set_party p w.parties)
  set_known w p i own = all_set_party (PartyKnown hs w.sites) (PartyKnown hs w.sites) p w.parties own (λ y other k. k) i.parties

  hears_known : (w : World) → Sound w → Knowing hs w → (k : _) (m : Message) (s : Site) → sent_at k w ≡ Some m → site_of (handler_of m) w ≡ Some s
      → Knowing hs (heard_world w s (hear s.core.state m))
  hears_known w sound i k m s was found =
      let now : Hearing = hear s.core.state m in
      let by = row s.core.state m in
      let t : Site = heard_site s now in
      let v : World = heard_world w s now in
      let more = granted_set w t s (heard_place w m s found) (grows-row s.core.state m now by) in
      let named : Names hs v.sites m = names_more hs w.sites v.sites more m (sent_all w k m was (Names hs w.sites) i.messages) in
      let replies = replies-row s.core.state m now by (sent_all w k m was HasEntries sound.messages) in
      sites_known w v i more refl
      (all_pushed (Names hs v.sites) w.sent now.1.reply (old_names w v i more) (λ reply e b f. named b (sym (replies reply e).block ∙ f)))

  pub knowing_kept : (w : World) → Ordered w → Sound w → Greetings w → Knowing hs w → Changes (Knowing hs) w
  knowing_kept w o sound g i = record {
    commands = λ c p x d at is. record {
      messages = i.messages;
      parties = set_known w (record p { client = d }) i (command_known hs w.sites p.client d
          (all_found (PartyKnown hs w.sites) (is_party c) w.parties p i.parties at) x is);
    };
    sends = λ c p h s at here. record {
      messages = all_pushed (Names hs w.sites) w.sent (due p.client h) i.messages
          (λ m e. due_names hs w.sites p.client h (all_found (PartyKnown hs w.sites) (is_party c) w.parties p i.parties at) m (sends p.client h m e));
      parties = i.parties;
    };
    hears = λ k m s was goes here. hears_known w sound i k m s was here;
    notices = λ k m p was goes at. record {
      messages = i.messages;
      parties = set_known w (heard_party p (heard p.client m)) i
          (hears_known_by hs w p.client m (heard p.client m).0 (hears p.client m) (sent_all w k m was (Greets w) g.messages)
          (all_found (PartyKnown hs w.sites) (is_party (client_of m)) w.parties p i.parties at));
    };
    begins = λ h s t here is. site_known w (begun_site s) s i (own_site w h s here) (MarksGrow-refl s.core.state.marks);
    finishes = λ h s t here is. site_known w (finished_site s t) s i (own_site w h s here) (MarksGrow-after (ran_of t) s.core.state.marks);
    restarts = λ c p at room. (
        let k = all_found (PartyKnown hs w.sites) (is_party c) w.parties p i.parties at in
        record {
          messages = i.messages;
          parties = set_known w (restarted_party p) i (record {
            handlers = k.handlers;
            greeted = λ h e f. absurd (true≢false (sym e ∙ (ap (λ ks. has ks h) (sym k.handlers) ∙ f)));
            block = λ r e. absurd (cc);
          });
        });
    reopens = λ n. (
        let v : World = record w { sites = map (reopened n) w.sites } in
        let more : Remember w.sites v.sites = λ h b. granted_anew w.joint n h b w.sites o.sites in
        sites_known w v i more refl (old_names w v i more));
  }

  parties_open : (ss : List Site) (ns : List Newcomer) → AllByRecursion (λ n. hs n.id ≡ n.handlers) ns → AllByRecursion (PartyKnown hs ss) (map new_party ns)
  parties_open ss = all_mapped new_party (λ n. hs n.id ≡ n.handlers) (PartyKnown hs ss) (λ n own. record {
    handlers = sym own;
    greeted = λ h e f. absurd (true≢false (sym e ∙ (ap (λ ks. has ks h) own ∙ f)));
    block = λ r e. absurd (cc);
  })

  -- known, beside all that every event keeps
  abbrev pub All : World → Type 0
  All w = Kept w × Knowing hs w

  pub still_kept : (w : World) → All w → Changes All w
  still_kept w i = let f = facts w i.0 in both_kept Kept (Knowing hs) w (all_kept w i.0) (knowing_kept w f.ordered f.sound f.greetings i.1)

-- ---- what it shows

-- each client of the world knows its own handlers
names_shown : (hs : Known) (w : World) → AllByRecursion (PartyKnown hs w.sites) w.parties → (m : Message) → Names hs w.sites m → NamesKnown w m
names_shown hs w parties m n = record {
  known = λ b e. record {
    marked = λ p h s at named found.
        let k = all_found (PartyKnown hs w.sites) (is_party b.client) w.parties p parties at in
        let g = n b e h (ap (λ ks. has ks h) (ap hs (sym (id_found b.client w p at)) ∙ sym k.handlers) ∙ named) in
        let one : g.site ≡ s = same_Some g.site s (sym g.found ∙ found) in
        subst (λ (x : Site). IsMarked b x.core.state.marks) one (record { mark = g.reached.mark; found = g.reached.found; inc = g.reached.upto.inc });
  };
}

pub opens_knowing : (ps : List Placement) (ns : List Newcomer) → MayOpen ps ns → Knowing (known_by ns) (opening ps ns)
opens_knowing ps ns may = record { messages = tt; parties = parties_open (known_by ns) (opening ps ns).sites ns (each_knows ns may.clients_apart) }

pub opens_all : (ps : List Placement) (ns : List Newcomer) → MayOpen ps ns → All (known_by ns) (opening ps ns)
opens_all ps ns may = (opens_kept ps ns may, opens_knowing ps ns may)

-- the facts about incarnations in a world that is reached
reached_knowing : (w : World) (r : IsReached w) → Knowing (known_by r.newcomers) w
reached_knowing w r =
    let hs = known_by r.newcomers in
    (subst (All hs) (ap (λ (x : Run). x.0) r.leads) (steps_kept (All hs) (still_kept hs) (opening r.placements r.newcomers) r.events
    (opens_all r.placements r.newcomers r.opens))).1

pub names_known : (w : World) → IsReached w → AllByRecursion (NamesKnown w) w.sent
names_known w r =
    let hs = known_by r.newcomers in
    let k = reached_knowing w r in
    all_more_of (Names hs w.sites) (NamesKnown w) (names_shown hs w k.parties) w.sent k.messages

-- the handlers that a client knows are handlers of the world
pub known_there : (w : World) (r : IsReached w) (c : ClientId) (h : HandlerId) → has (known_by r.newcomers c) h ≡ true → has (map number_of w.sites) h ≡ true
known_there w r c h e =
    ap (λ ks. has ks h) (sites_placed w r) ∙ known_placed (map (λ (p : Placement). p.handler) r.placements) r.newcomers r.opens.knowing c h e

-- a client knows only handlers of the world
abbrev pub KnowsSites : World → Party → Type 0
KnowsSites w p = (h : HandlerId) → has p.client.handlers h ≡ true → has (map number_of w.sites) h ≡ true

pub clients_know : (w : World) → IsReached w → AllByRecursion (KnowsSites w) w.parties
clients_know w r =
    all_more_of (PartyKnown (known_by r.newcomers) w.sites) (KnowsSites w)
    (λ p k h e. known_there w r (id_of p) h (ap (λ ks. has ks h) (sym k.handlers) ∙ e)) w.parties (reached_knowing w r).parties
