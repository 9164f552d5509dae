-- Every event keeps what clients logged, and nothing is logged in a world that opens.
use Rattle.scoop_model.proofs.Names.{◌≡◌, ℕ, List, map, Some, refl, true≢false, IsFalse, client_of, is_for_handler, Message, Log, all_found, replies-row, row}
use Rattle.scoop_model.proofs.Names.{hear, HasEntries, all_made, heard_world, with_site, begun_site, finished_site, reopened_world, Placement, Newcomer}
use Rattle.scoop_model.proofs.Names.{new_party, opening, World, Site, is_party, sent_at, [], ◌∷◌, arith, find, inl, none-some, ClientId}
use Rattle.scoop_model.proofs.Names.{ReservationState, heard, newest_block, heard_party, restarted_party, new_site, logs_after, Party}
use Rattle.scoop_model.proofs.Events.{Changes}
use Rattle.scoop_model.proofs.Order.{PartyFits, Ordered, all_pushed, handlers_after, goes_on, keeps_hearing}
use Rattle.scoop_model.proofs.Sound.{Sound, sent_all}
use Rattle.scoop_model.proofs.Logging.Facts.{Carries, PartyLogs, Logging}
use Rattle.scoop_model.proofs.Logging.Clients.{logging_more, sends_logging, notices_logging, restarts_logging}
use Rattle.scoop_model.proofs.Logging.Commands.{commands_logging}
use Rattle.scoop_model.proofs.Logging.Openings.{SiteOpened, Shows, Openings}
use Rattle.scoop_model.proofs.Logging.OpeningHandlers.{hears_openings, begins_openings, finishes_openings, reopens_openings}
use Rattle.scoop_model.proofs.Logging.OpeningClients.{sends_openings, party_goes_on, command_from, grown_opened, heard_from}

-- a reply is no Log
to_client_carries : (w : World) (m : Message) → IsFalse (is_for_handler m) → Carries w m
to_client_carries w (Log h b n es) back = absurd (true≢false back)
to_client_carries w m back = tt

hears_logging : (w : World) → Sound w → Logging w → (k : ℕ) (m : Message) (s : Site) → sent_at k w ≡ Some m → Logging (heard_world w s (hear s.core.state m))
hears_logging w sound i k m s was =
    let now = hear s.core.state m in
    logging_more w (heard_world w s now) (λ b h. refl) i
    (all_pushed (Carries w) w.sent now.1.reply i.messages
    (λ reply e.
    to_client_carries w reply (replies-row s.core.state m now (row s.core.state m) (sent_all w k m was HasEntries sound.messages) reply e).to_client))
    i.parties

-- every event keeps it
pub logging_kept : (w : World) → Ordered w → Sound w → Logging w → Changes Logging w
logging_kept w o sound i = record {
  commands = λ c p x d at is. commands_logging w i p x d (all_found (PartyFits w) (is_party c) w.parties p o.parties at)
      (all_found (PartyLogs w) (is_party c) w.parties p i.parties at) is;
  sends = λ c p h s at here. sends_logging w i p h (all_found (PartyLogs w) (is_party c) w.parties p i.parties at);
  hears = λ k m s was goes here. hears_logging w sound i k m s was;
  notices = λ k m p was goes at. notices_logging w i m p (all_found (PartyLogs w) (is_party (client_of m)) w.parties p i.parties at);
  begins = λ h s t here is. logging_more w (with_site w (begun_site s)) (λ b j. refl) i i.messages i.parties;
  finishes = λ h s t here is. logging_more w (with_site w (finished_site s t)) (λ b j. refl) i i.messages i.parties;
  restarts = λ c p at room. restarts_logging w i p;
  reopens = λ n. logging_more w (reopened_world w n) (λ b h. refl) i i.messages i.parties;
}

pub opens_logging : (ps : List Placement) (ns : List Newcomer) → Logging (opening ps ns)
opens_logging ps ns = record {
  messages = tt;
  logs = λ b h. refl;
  parties = all_made new_party (PartyLogs (opening ps ns)) (λ n. record { block = λ r e. absurd (cc) }) ns;
}

-- ---- the invariant about openings, which a world that opens has, since nothing has opened there

-- every event keeps it
pub openings_kept : (w : World) → Ordered w → Sound w → Logging w → Openings w → Changes Openings w
openings_kept w o sound l i = record {
  commands = λ c p x d at is. (
      let f = all_found (PartyFits w) (is_party c) w.parties p o.parties at in
      let l_at = all_found (PartyLogs w) (is_party c) w.parties p l.parties at in
      party_goes_on w i c p (record p { client = d }) at (goes_on w p x d is f).id (logs_after x (newest_block d) w.logs)
      (λ b hs e. handlers_after x (newest_block d) b w.logs hs e)
      (command_from w o p f l_at (i.parties c p at) d x is) (grown_opened w o p f l_at (i.parties c p at) d x is));
  sends = λ c p h s at here. sends_openings w o l i c p at h;
  hears = λ k m s was goes here. hears_openings w sound i k m s was here;
  notices = λ k m p was goes at. (
      let kept = keeps_hearing w o k m p was at in
      party_goes_on w i (client_of m) p (heard_party p (heard p.client m)) at kept.id w.logs (λ b hs e. e)
      (heard_from w p.client (i.parties (client_of m) p at) m (sent_all w k m was (Shows w) i.messages)) (λ b h. inl refl));
  begins = λ h s t here is. begins_openings w i h s here;
  finishes = λ h s t here is. finishes_openings w i h s here t;
  restarts = λ c p at room. party_goes_on w i c p (restarted_party p) at refl w.logs (λ b hs e. e) (λ s e. absurd (cc)) (λ b h. inl refl);
  reopens = λ n. reopens_openings w o.sites i n;
}

-- no client has a block
pub none_reserved :
    (c : ClientId) (ns : List Newcomer) (p : Party) → find (is_party c) (map new_party ns) ≡ Some p → (r : ReservationState)
    → p.client.reservation ≡ Some r → ⊥
none_reserved c [] p e r held = cc
none_reserved c (n ∷ ns) p e r held = grind (arith, none-some, none_reserved c ns p)

pub opens_openings : (ps : List Placement) (ns : List Newcomer) → Openings (opening ps ns)
opens_openings ps ns = record {
  messages = tt;
  logs = λ b h. inl refl;
  sites = all_made new_site (SiteOpened (opening ps ns)) (λ p. record { named = λ b e. absurd (cc); marks = tt }) ps;
  parties = λ c p at r held. absurd (none_reserved c ns p at r held);
}
