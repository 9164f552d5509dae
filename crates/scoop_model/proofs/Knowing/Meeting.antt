-- A handler has marks only of clients that know it: a mark begins with a Hello, and a client greets only handlers that it knows.
use Rattle.scoop_model.proofs.Names.{◌≡◌, List, Some, sym, ap, ◌∙◌, subst, true, true≢false, IsFalse, ⊤, AllByRecursion, handler_of}
use Rattle.scoop_model.proofs.Names.{is_for_handler, Message, Hello, Block, ClientId, HandlerId, all_found, all_made, all_mapped, All-mark_of, All-set_mark}
use Rattle.scoop_model.proofs.Names.{All-add_mark, mark_of, mark_of-client, number-row, replies-row, row, Row, first_greeting, newer_greeting, lock_granted}
use Rattle.scoop_model.proofs.Names.{is_opened, unlock_of_a_block_never_held, is_freed, is_taken, Hearing, hear, HasEntries, greeting_mark}
use Rattle.scoop_model.proofs.Names.{fresh_mark, opened_mark, with_received, without_hold, set_mark, mark_after, HandlerState, Mark, AtHeld, AtShut, ran_of}
use Rattle.scoop_model.proofs.Names.{has, due, ClientState, IsReached, Run, heard_site, heard_world, begun_site, finished_site, Placement, Newcomer}
use Rattle.scoop_model.proofs.Names.{new_site, opening, World, is_party, Site, number_of, is_site, site_of, set_site, sent_at}
use Rattle.scoop_handler.specs.declared.mark.Stage.{Stage}
use Rattle.scoop_message.specs.Entries.{last_number, ends}
use Rattle.scoop_model.proofs.Events.{Changes, both_kept, steps_kept}
use Rattle.scoop_model.proofs.Order.{Ordered, all_pushed, all_set_site, all_anew, by_restart}
use Rattle.scoop_model.proofs.Sound.{Sound, sent_all}
use Rattle.scoop_model.proofs.Knowing.Facts.{Known, PartyKnown, Knowing}
use Rattle.scoop_model.proofs.Knowing.Joining.{known_by}
use Rattle.scoop_model.proofs.Knowing.Owing.{Owes, PartyOwes, AllOwe, owing_kept, opens_owing}
use Rattle.scoop_model.proofs.Knowing.Runs.{All, still_kept, opens_all}
use Rattle.scoop_model.proofs.Ready.Runs.{facts}
use Rattle.scoop_model.proofs.Moves.{Sends, sends_hello, sends}

-- the mark's client knows the handler
pub record MarkMet (hs : Known) (h : HandlerId) (k : Mark) : Type 0 where
  pub known : has (hs k.client) h ≡ true

module _ (hs : Known) where
  abbrev pub SiteMet : Site → Type 0
  SiteMet s = AllByRecursion (MarkMet hs (number_of s)) s.core.state.marks

  -- a client greets a handler that it knows
  abbrev pub HelloMet : Message → Type 0
  HelloMet (Hello h c inc) = has (hs c) h ≡ true
  HelloMet m = ⊤

  pub record Met (w : World) : Type 0 where
    pub hellos : AllByRecursion HelloMet w.sent
    pub sites : AllByRecursion SiteMet w.sites

  -- ---- messages

  due_met : (c : ClientState) (h : HandlerId) (m : Message) → Owes c → c.handlers ≡ hs c.id → Sends c h m → HelloMet m
  due_met c h m o own (sends_hello left) = ap (λ ks. has ks h) (sym own) ∙ o.unwelcomed h left
  due_met c h m o own s = tt

  reply_met : (m : Message) → IsFalse (is_for_handler m) → HelloMet m
  reply_met (Hello h c inc) back = absurd (true≢false back)
  reply_met m back = tt

  -- ---- a handler hears

  module _ (s : HandlerState) (all : AllByRecursion (MarkMet hs s.number) s.marks) where
    abbrev IsMet : Mark → Type 0
    IsMet k = MarkMet hs s.number k

    in_place : (k : Mark) → IsMet k → AllByRecursion IsMet (set_mark k s.marks)
    in_place k own = All-set_mark IsMet IsMet k s.marks own (λ x apart m. m) all

    found_met : (b : Block) (k : Mark) → mark_of b.client s.marks ≡ Some k → IsMet k
    found_met b k found = All-mark_of IsMet b.client s.marks k all found

    block_met : (b : Block) (k : Mark) (stage : Stage) → mark_of b.client s.marks ≡ Some k → IsMet (fresh_mark b stage)
    block_met b k stage found =
        record { known = ap (λ c. has (hs c) s.number) (sym (mark_of-client b.client s.marks k found)) ∙ (found_met b k found).known }

  met-row : (s : HandlerState) (m : Message) (h : Hearing) → Row s m h → HelloMet m → AllByRecursion (MarkMet hs s.number) s.marks
      → AllByRecursion (MarkMet hs s.number) h.0.marks
  met-row s m h (first_greeting x c inc here none room) hello all =
      All-add_mark (MarkMet hs s.number) (MarkMet hs s.number) (greeting_mark c inc) s.marks
      (record { known = ap (has (hs c)) (sym here) ∙ hello }) (λ y k. k) all
  met-row s m h (newer_greeting x c inc k here found newer) hello all =
      in_place s all (greeting_mark c inc) (record { known = ap (has (hs c)) (sym here) ∙ hello })
  met-row s m h (lock_granted x b k here at new free clear) hello all = in_place s all (fresh_mark b AtHeld) (block_met s all b k AtHeld at.found)
  met-row s m h (is_opened x b k here at same held room) hello all =
      in_place s all (opened_mark k) (record { known = (found_met s all b k at.found).known })
  met-row s m h (unlock_of_a_block_never_held x b k here at new clear) hello all =
      in_place s all (fresh_mark b AtShut) (block_met s all b k AtShut at.found)
  met-row s m h (is_freed x b k here at same holds) hello all =
      in_place s all (without_hold k) (record { known = (found_met s all b k at.found).known })
  met-row s m h (is_taken x b n es k here at next goes_on room) hello all =
      in_place s all (with_received (last_number n es) (ends es) k) (record { known = (found_met s all b k at.heard.found).known })
  met-row s m h r hello all = all

  set_met : (w : World) → Met w → (s : Site) → SiteMet s → AllByRecursion SiteMet (set_site s w.sites)
  set_met w i s own = all_set_site SiteMet SiteMet s w.sites own (λ y f. f) i.sites

  hears_met : (w : World) → Sound w → Met w → (k : _) (m : Message) (s : Site) → sent_at k w ≡ Some m → site_of (handler_of m) w ≡ Some s
      → Met (heard_world w s (hear s.core.state m))
  hears_met w sound i k m s was found =
      let now : Hearing = hear s.core.state m in
      let by = row s.core.state m in
      let replies = replies-row s.core.state m now by (sent_all w k m was HasEntries sound.messages) in
      let own = met-row s.core.state m now by (sent_all w k m was HelloMet i.hellos) (all_found SiteMet (is_site (handler_of m)) w.sites s i.sites found) in
      record {
        hellos = all_pushed HelloMet w.sent now.1.reply i.hellos (λ reply e. reply_met reply (replies reply e).to_client);
        sites = set_met w i (heard_site s now) (subst (λ h. AllByRecursion (MarkMet hs h) now.0.marks) (sym (number-row s.core.state m now by)) own);
      }

  -- ---- any event

  met_kept : (w : World) → Ordered w → Sound w → Knowing hs w → AllOwe w → Met w → Changes Met w
  met_kept w o sound k owes i = record {
    commands = λ c p x d at is. record { hellos = i.hellos; sites = i.sites };
    sends = λ c p h s at here. record {
      hellos = all_pushed HelloMet w.sent (due p.client h) i.hellos
          (λ m e. due_met p.client h m (all_found PartyOwes (is_party c) w.parties p owes at)
          (all_found (PartyKnown hs w.sites) (is_party c) w.parties p k.parties at).handlers (sends p.client h m e));
      sites = i.sites;
    };
    hears = λ n m s was goes here. hears_met w sound i n m s was here;
    notices = λ n m p was goes at. record { hellos = i.hellos; sites = i.sites };
    begins = λ h s t here is. record { hellos = i.hellos; sites = set_met w i (begun_site s) (all_found SiteMet (is_site h) w.sites s i.sites here) };
    finishes = λ h s t here is. record {
      hellos = i.hellos;
      sites = set_met w i (finished_site s t)
          (all_mapped (mark_after (ran_of t)) (MarkMet hs (number_of s)) (MarkMet hs (number_of s)) (λ x m. record { known = m.known }) s.core.state.marks
          (all_found SiteMet (is_site h) w.sites s i.sites here));
    };
    restarts = λ c p at room. record { hellos = i.hellos; sites = i.sites };
    reopens = λ n. record {
      hellos = i.hellos;
      sites = all_anew w.joint n SiteMet SiteMet (λ s f all. by_restart w.joint n SiteMet s f all all) w.sites o.sites i.sites;
    };
  }

  opens_met : (ps : List Placement) (ns : List Newcomer) → Met (opening ps ns)
  opens_met ps ns = record { hellos = tt; sites = all_made new_site SiteMet (λ p. tt) ps }

  -- beside all that every event keeps
  abbrev AllMet : World → Type 0
  AllMet w = All hs w × (AllOwe w × Met w)

  all_met_kept : (w : World) → AllMet w → Changes AllMet w
  all_met_kept w i =
      let f = facts w i.0.0 in
      both_kept (All hs) (λ v. AllOwe v × Met v) w (still_kept hs w i.0)
      (both_kept AllOwe Met w (owing_kept w i.1.0) (met_kept w f.ordered f.sound i.0.1 i.1.0 i.1.1))

pub reached_met : (w : World) (r : IsReached w) → Met (known_by r.newcomers) w
reached_met w r =
    let hs = known_by r.newcomers in
    let ps = r.placements in
    let ns = r.newcomers in
    (subst (AllMet hs) (ap (λ (x : Run). x.0) r.leads) (steps_kept (AllMet hs) (all_met_kept hs) (opening ps ns) r.events
    (opens_all ps ns r.opens, (opens_owing ps ns r.opens, opens_met hs ps ns)))).1.1

-- a client of which a handler has a mark knows the handler
pub mark_known : (w : World) (r : IsReached w) → (h : HandlerId) (s : Site) → site_of h w ≡ Some s → (c : ClientId) (k : Mark)
    → mark_of c s.core.state.marks ≡ Some k → has (known_by r.newcomers c) (number_of s) ≡ true
mark_known w r h s here c k found =
    let hs = known_by r.newcomers in
    ap (λ d. has (hs d) (number_of s)) (sym (mark_of-client c s.core.state.marks k found))
    ∙ (All-mark_of (MarkMet hs (number_of s)) c s.core.state.marks k
    (all_found (SiteMet hs) (is_site h) w.sites s (reached_met w r).sites here) found).known
