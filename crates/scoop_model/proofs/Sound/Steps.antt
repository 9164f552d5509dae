-- Every event keeps what is true of handlers, messages and clients, and it is true of a world that opens. Hearing, beginning and
-- finishing keep a handler sound, and a restart gives it its stored state, which is its own. A client's batch stays what it was, so
-- the Log that it owes carries entries, and a reply carries none.
use Rattle.scoop_model.proofs.Names.{◌≡◌, ℕ, List, Some, refl, sym, arith, slice_get, true≢false, IsFalse, AllByRecursion, client_of, handler_of}
use Rattle.scoop_model.proofs.Names.{is_for_handler, Message, Log, Block, HandlerId, job-first, IsCore-begun, IsCore-finished, all_found, all_at, replies-row}
use Rattle.scoop_model.proofs.Names.{IsCore-hear, row, IsCore, hear, HasEntries, AreWords, IsState, new_state, due, heard, all_mapped, MayOpen, IsPlaced}
use Rattle.scoop_model.proofs.Names.{IsJoining, heard_party, restarted_party, heard_site, begun_site, finished_site, reopened, Placement, Newcomer, new_site}
use Rattle.scoop_model.proofs.Names.{new_party, opening, World, Party, set_party, Site, is_site, set_site, is_party, sent_at}
use Rattle.scoop_model.proofs.Events.{Changes}
use Rattle.scoop_model.proofs.Order.{SiteFits, Ordered, all_pushed, all_set_party, all_set_site, by_restart, all_anew}
use Rattle.scoop_model.proofs.Sound.Facts.{HasBatch, Sound}
use Rattle.scoop_model.proofs.Sound.Clients.{command_batch, heard_batch, same_batch, due_entries}

abbrev SiteSound : Site → Type 0
SiteSound s = IsCore s.core

abbrev PartySound : Party → Type 0
PartySound p = HasBatch p.client

-- a property of all messages that were sent holds of each
pub sent_all : (w : World) (i : ℕ) (m : Message) → sent_at i w ≡ Some m → (P : Message → Type 0) → AllByRecursion P w.sent → P m
sent_all w i m was P all = grind (arith, all_at, slice_get)

-- a reply carries no entries
to_client_has : (m : Message) → IsFalse (is_for_handler m) → HasEntries m
to_client_has (Log h b n es) back = absurd (true≢false back)
to_client_has m back = tt

-- ---- handlers

site_anew : (js : List Block) (n : ℕ) (s : Site) → SiteFits js s → SiteSound s → SiteSound (reopened n s)
site_anew js n s f is = by_restart js n SiteSound s f (record { state = is.state; words = is.words; job = λ out. absurd (true≢false (sym out)) }) is

-- ---- all of it

module _ (w : World) (o : Ordered w) (i : Sound w) where
  set_party_sound : (p : Party) → PartySound p → AllByRecursion PartySound (set_party p w.parties)
  set_party_sound p has = all_set_party PartySound PartySound p w.parties has (λ y other f. f) i.parties

  set_site_sound : (s : Site) → SiteSound s → AllByRecursion SiteSound (set_site s w.sites)
  set_site_sound s is = all_set_site SiteSound SiteSound s w.sites is (λ y f. f) i.sites

  pub sound_changes : Changes Sound w
  sound_changes = record {
    commands = λ c p x d at is. record {
      sites = i.sites;
      messages = i.messages;
      parties = set_party_sound (record p { client = d }) (same_batch p.client d (command_batch p.client d x is)
          (all_found PartySound (is_party c) w.parties p i.parties at));
    };
    sends = λ c p h s at here. record {
      sites = i.sites;
      messages = all_pushed HasEntries w.sent (due p.client h) i.messages (due_entries p.client h (all_found PartySound (is_party c) w.parties p i.parties at));
      parties = i.parties;
    };
    hears = λ k m s was goes here. (
        let has = sent_all w k m was HasEntries i.messages in
        let now = hear s.core.state m in
        record {
          sites = set_site_sound (heard_site s now) (IsCore-hear s.core m has (all_found SiteSound (is_site (handler_of m)) w.sites s i.sites here));
          messages = all_pushed HasEntries w.sent now.1.reply i.messages
              (λ reply e. to_client_has reply (replies-row s.core.state m now (row s.core.state m) has reply e).to_client);
          parties = i.parties;
        });
    notices = λ k m p was goes at. record {
      sites = i.sites;
      messages = i.messages;
      parties = set_party_sound (heard_party p (heard p.client m))
          (same_batch p.client (heard p.client m).0 (heard_batch p.client m) (all_found PartySound (is_party (client_of m)) w.parties p i.parties at));
    };
    begins = λ h s t here is. record {
      sites = set_site_sound (begun_site s) (IsCore-begun s.core (all_found SiteSound (is_site h) w.sites s i.sites here));
      messages = i.messages;
      parties = i.parties;
    };
    finishes = λ h s t here is. record {
      sites = set_site_sound (finished_site s t) (IsCore-finished s.core t (job-first s.core t is) (all_found SiteSound (is_site h) w.sites s i.sites here));
      messages = i.messages;
      parties = i.parties;
    };
    restarts = λ c p at room. record {
      sites = i.sites;
      messages = i.messages;
      parties = set_party_sound (restarted_party p) (same_batch p.client (restarted_party p).client refl
          (all_found PartySound (is_party c) w.parties p i.parties at));
    };
    reopens = λ n. record { sites = all_anew w.joint n SiteSound SiteSound (site_anew w.joint n) w.sites o.sites i.sites; messages = i.messages; parties = i.parties };
  }

-- every event keeps it
pub sound_kept : (w : World) → Ordered w → Sound w → Changes Sound w
sound_kept w o i = sound_changes w o i

-- ---- the world that opens

new_state_is : (h : HandlerId) (words : List ℕ) → AreWords words → IsState (new_state h words)
new_state_is h words are = grind arith

pub opens_sound : (ps : List Placement) (ns : List Newcomer) → MayOpen ps ns → Sound (opening ps ns)
opens_sound ps ns may = record {
  sites = all_mapped new_site IsPlaced SiteSound
      (λ p placed. record { state = new_state_is p.handler p.words placed.words; words = placed.class; job = λ out. absurd (true≢false (sym out)) })
      ps may.placed;
  messages = tt;
  parties = all_mapped new_party IsJoining PartySound (λ n joining. record { some = joining.some; limit = joining.limit })
      ns may.joining;
}
