-- Whatever happens, a block of the common list stands at each of its handlers.
use Rattle.scoop_model.proofs.Names.{List, refl, sym, true≢false, inl, client_of, all_found, heard, newest_block, heard_party, restarted_party, Placement}
use Rattle.scoop_model.proofs.Names.{Newcomer, opening, logs_after, World, is_party}
use Rattle.scoop_model.proofs.Events.{Changes}
use Rattle.scoop_model.proofs.Order.{handlers_after, PartyFits, Ordered, goes_on, keeps_hearing}
use Rattle.scoop_model.proofs.Sound.{Sound, sent_all}
use Rattle.scoop_model.proofs.Logging.{PartyLogs, Logging, Shows, command_from, none_reserved, grown_opened, heard_from}
use Rattle.scoop_model.proofs.Logging.Openings.{Openings}
use Rattle.scoop_model.proofs.Standing.Facts.{LockedStands, Standing}
use Rattle.scoop_model.proofs.Standing.Handlers.{begins_standing, finishes_standing, hears_standing, reopens_standing}
use Rattle.scoop_model.proofs.Standing.Clients.{command_stands, heard_stands, party_standing, sends_standing}

-- every event keeps it
pub standing_kept : (w : World) → Ordered w → Sound w → Logging w → Openings w → Standing w → Changes Standing w
standing_kept w o sound l openings i = record {
  commands = λ c p x d at is. (
      let f = all_found (PartyFits w) (is_party c) w.parties p o.parties at in
      let own = all_found (PartyLogs w) (is_party c) w.parties p l.parties at in
      party_standing w openings i c p (record p { client = d }) at (goes_on w p x d is f).id (logs_after x (newest_block d) w.logs)
      (λ b hs e. handlers_after x (newest_block d) b w.logs hs e)
      (command_from w o p f own (openings.parties c p at) d x is) (grown_opened w o p f own (openings.parties c p at) d x is)
      (command_stands w c p at (i.parties c p at) d x is));
  sends = λ c p h s at here. sends_standing w o l openings i c p at h;
  hears = λ k m s was goes here. hears_standing w o sound openings i k m s was here;
  notices = λ k m p was goes at. (
      let c = client_of m in
      party_standing w openings i c p (heard_party p (heard p.client m)) at (keeps_hearing w o k m p was at).id w.logs (λ b hs e. e)
      (heard_from w p.client (openings.parties c p at) m (sent_all w k m was (Shows w) openings.messages))
      (λ b h. inl refl) (heard_stands w c p at (i.parties c p at) m (sent_all w k m was (LockedStands w) i.locked)));
  begins = λ h s t here is. begins_standing w i h s here;
  finishes = λ h s t here is. finishes_standing w i h s here t;
  restarts = λ c p at room. party_standing w openings i c p (restarted_party p) at refl w.logs (λ b hs e. e) (λ s e. absurd (cc)) (λ b h. inl refl)
      (λ s e. absurd (cc));
  reopens = λ n. reopens_standing w o openings i n;
}

pub opens_standing : (ps : List Placement) (ns : List Newcomer) → Standing (opening ps ns)
opens_standing ps ns = record {
  locked = tt;
  opened = λ b e. absurd (true≢false (sym e));
  joint = λ b e. absurd (true≢false (sym e));
  parties = λ c p at r held. absurd (none_reserved c ns p at r held);
}
