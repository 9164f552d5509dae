-- Whatever happens, the answers are right.
use Rattle.scoop_model.proofs.Names.{◌≡◌, ℕ, List, Some, refl, arith, AllByRecursion, client_of, Message, all_found, all_made, RightAnswers, AcceptsRight}
use Rattle.scoop_model.proofs.Names.{Placement, Newcomer, new_site, new_party, opening, World, is_party, sent_at}
use Rattle.scoop_model.proofs.Events.{Changes}
use Rattle.scoop_model.proofs.Order.{PartyFits, Ordered, all_more_of}
use Rattle.scoop_model.proofs.Sound.{sent_all}
use Rattle.scoop_model.proofs.Logging.{PartyLogs, Logging}
use Rattle.scoop_model.proofs.Answering.Objects.{answers_at}
use Rattle.scoop_model.proofs.Answering.Facts.{TellsAnswer, SiteAnswers, PartyAnswers, Answering}
use Rattle.scoop_model.proofs.Answering.Handlers.{hears_answering, begins_answering, finishes_answering, reopens_answering}
use Rattle.scoop_model.proofs.Answering.Clients.{sends_answering, notices_answering, commands_answering, restarts_answering}
use Rattle.scoop_model.proofs.Beginnings.{no_repeats}

-- an Answer that was sent tells what ran
pub sent_tells : (w : World) (i : ℕ) (m : Message) → sent_at i w ≡ Some m → AllByRecursion (TellsAnswer w) w.sent → TellsAnswer w m
sent_tells w i m was all = sent_all w i m was (TellsAnswer w) all

pub answering_kept : (w : World) → Ordered w → Logging w → Answering w → Changes Answering w
answering_kept w o l i = record {
  commands = λ c p x d at is. commands_answering w i p x d (all_found (PartyAnswers w) (is_party c) w.parties p i.parties at) is;
  sends = λ c p h s at here. sends_answering w i p h;
  hears = λ k m s was goes here. hears_answering w i _ s here m;
  notices = λ k m p was goes at.
      notices_answering w i m p (sent_tells w k m was i.messages)
      (all_found (PartyLogs w) (is_party (client_of m)) w.parties p l.parties at)
      (all_found (PartyAnswers w) (is_party (client_of m)) w.parties p i.parties at);
  begins = λ h s t here is. begins_answering w i h s here;
  finishes = λ h s t here is. finishes_answering w i h s here t is;
  restarts = λ c p at room.
      restarts_answering w i p (all_found (PartyFits w) (is_party c) w.parties p o.parties at)
      (all_found (PartyAnswers w) (is_party c) w.parties p i.parties at);
  reopens = λ n. reopens_answering w o i n;
}

-- ---- the opening world

pub opens_answering : (ps : List Placement) (ns : List Newcomer) → Answering (opening ps ns)
opens_answering ps ns = record {
  messages = tt;
  sites = all_made new_site SiteAnswers (λ p. record { words = refl; answers = tt; kept = tt }) ps;
  parties = all_made new_party (PartyAnswers (opening ps ns)) (λ n. record { accepted = tt; once = no_repeats }) ns;
}

-- ---- what this says of a world

-- each answer is the object's, after exactly the entries that ran before
pub right_answers : (w : World) → Answering w → AllByRecursion RightAnswers w.sites
right_answers w i = all_more_of SiteAnswers RightAnswers (λ s f. answers_at s.core.class s.placed s.ran f.answers) w.sites i.sites

-- every accepted query has run, and was accepted once
pub accepts_right : (w : World) → Answering w → AllByRecursion (AcceptsRight w) w.parties
accepts_right w i = grind (arith, all_more_of)
