-- A block is opened only after each of its handlers has granted it the lock and said so. Every event keeps this invariant: while a
-- reservation locks, each of its handlers that isn't left has sent a Locked. After that, all of them have.
use Rattle.scoop_model.proofs.Names.{◌≡◌, ℕ, List, ◌++◌, Some, None, refl, sym, ap, ◌∙◌, subst, append-nil, Option, find, if◌then◌else◌, slice_get, ◌==◌}
use Rattle.scoop_model.proofs.Names.{◌-◌, option_to_list, Contains, Contains-append_left, same_Some, get_or_from_slice_get, slice_get_within, AllByRecursion}
use Rattle.scoop_model.proofs.Names.{client_of, Message, Open, Locked, Block, ClientId, HandlerId, all_found, by_test, row, hear, HandlerState}
use Rattle.scoop_model.proofs.Names.{ReservationState, due, heard, of_party, by_party, id_found, newest_block, with_sent, heard_party, restarted_party}
use Rattle.scoop_model.proofs.Names.{heard_world, with_site, begun_site, finished_site, reopened_world, Placement, Newcomer, opening, logs_after, WasGranted}
use Rattle.scoop_model.proofs.Names.{WasGrantedAtAll, TellsGranted, World, Party, BlockLog, set_party, is_party, sent_at, party_of, id_of, handlers_of}
use Rattle.scoop_model.proofs.Events.{Changes}
use Rattle.scoop_model.proofs.Locking.{HasLocks, Locks, locks_more, heard_locks, command_locks}
use Rattle.scoop_model.proofs.Order.{PartyFits, Ordered, all_more_of, all_pushed, goes_on, TellsBack, hears_row, handlers_after, keeps_hearing}
use Rattle.scoop_model.proofs.Logging.{none_reserved}
use Rattle.scoop_model.proofs.Moves.{Sends, sends_open, sends}

-- ---- what is so

abbrev pub ReservationGranted : World → ReservationState → Type 0
ReservationGranted w r = HasLocks (WasGranted w) r

pub record Granting (w : World) : Type 0 where
  pub messages : AllByRecursion (TellsGranted w) w.sent
  pub parties : (c : ClientId) (p : Party) → party_of c w ≡ Some p → (r : ReservationState) → p.client.reservation ≡ Some r → ReservationGranted w r

-- a message that has a place was sent
pub sent_in : (w : World) (i : ℕ) (m : Message) → sent_at i w ≡ Some m → Contains w.sent m
sent_in w i m was =
    by_test (λ t. (if t then None else slice_get w.sent (i - 1)) ≡ Some m → Contains w.sent m) (i == 0)
    (λ nowhere e. absurd (cc))
    (λ place e. (i - 1, slice_get_within w.sent (i - 1) m e, get_or_from_slice_get w.sent (i - 1) m m e)) was

-- ---- what goes on

-- no message is forgotten, and no block's handlers
record Onward (v w : World) : Type 0 where
  sent : (m : Message) → Contains v.sent m → Contains w.sent m
  sets : (b : Block) (hs : List HandlerId) → handlers_of b v ≡ Some hs → handlers_of b w ≡ Some hs

module _ (v w : World) (x : Onward v w) where
  tells_more : (m : Message) → TellsGranted v m → TellsGranted w m
  tells_more m t = record {
    granted = λ h b is.
        let g = t.granted h b is in
        record { handlers = g.handlers; set = x.sets b g.handlers g.set; granted = λ j member. x.sent (Locked j b) (g.granted j member) };
  }

  reservation_more : (r : ReservationState) → ReservationGranted v r → ReservationGranted w r
  reservation_more r f = locks_more (WasGranted v) (WasGranted w) r (λ h g. x.sent (Locked h r.block) g) f

-- ---- a client sends

no_open_sent : (w : World) (m n : Message) → m ≡ n → ((h : HandlerId) (b : Block) → m ≡ Open h b → ⊥) → TellsGranted w n
no_open_sent w m n same none = record { granted = λ h b is. absurd (none h b (same ∙ is)) }

module _ (w : World) (c : ClientId) (p : Party) (fits : PartyFits w p) (i : (r : ReservationState) → p.client.reservation ≡ Some r → ReservationGranted w r)
    (h : HandlerId) where
  due_granted : (m : Message) → Sends p.client h m → TellsGranted w m
  due_granted m (sends_open r held is left) = record {
    granted = λ x b e.
        let own : r.block ≡ b = cc in
        subst (WasGrantedAtAll w) own (record {
          handlers = r.handlers;
          set = (fits.reservation r held).named;
          granted = subst (Locks (WasGranted w) r) is (i r held).stage;
        });
  }
  due_granted m s = record { granted = λ x b e. absurd (cc) }

-- ---- every event

-- a reply is no Open
reply_granted : (w : World) (s : HandlerState) (o : Option Message) → TellsBack s o → (m : Message) → o ≡ Some m → TellsGranted w m
reply_granted w s None t m e = absurd (cc)
reply_granted w s (Some (Open x b)) t m e = absurd t
reply_granted w s (Some n) t m e = no_open_sent w n m (same_Some n m e) (λ x b is. cc)

module _ (w : World) (i : Granting w) (c : ClientId) (p q : Party) (at : party_of c w ≡ Some p) (same : id_of q ≡ id_of p) (ls : List BlockLog)
    (sets : (b : Block) (hs : List HandlerId) → handlers_of b w ≡ Some hs → handlers_of b (record w { logs = ls }) ≡ Some hs)
    (own : (s : ReservationState) → q.client.reservation ≡ Some s → ReservationGranted w s) where
  abbrev gone_on : World
  gone_on = record w { parties = set_party q w.parties; logs = ls }

  onward : Onward w gone_on
  onward = record { sent = λ m was. was; sets = sets }

  -- one client goes on, and nothing is sent
  party_granted : Granting gone_on
  party_granted = record {
    messages = all_more_of (TellsGranted w) (TellsGranted gone_on) (tells_more w gone_on onward) w.sent i.messages;
    parties = λ d y there s has_one.
        by_party (λ o. o ≡ Some y → ReservationGranted gone_on s) w q p d (subst (λ j. party_of j w ≡ Some p) (sym (id_found c w p at) ∙ sym same) at)
        (λ is e. reservation_more w gone_on onward s (own s (of_party q y s e has_one)))
        (λ apart e. reservation_more w gone_on onward s (i.parties d y e s has_one)) there;
  }

-- one message may be new
module _ (w v : World) (i : Granting w) (o : Option Message) (sent : v.sent ≡ w.sent ++ option_to_list o) (parties : v.parties ≡ w.parties)
    (logs : v.logs ≡ w.logs)
    (new : (m : Message) → o ≡ Some m → TellsGranted w m) where
  longer : Onward w v
  longer = record {
    sent = λ m was. subst (λ ms. Contains ms m) (sym sent) (Contains-append_left w.sent (option_to_list o) m was);
    sets = λ b hs e. ap (λ ls. handlers_of b (record w { logs = ls })) logs ∙ e;
  }

  sent_granted : Granting v
  sent_granted = record {
    messages = subst (AllByRecursion (TellsGranted v)) (sym sent)
        (all_more_of (TellsGranted w) (TellsGranted v) (tells_more w v longer) (w.sent ++ option_to_list o)
        (all_pushed (TellsGranted w) w.sent o i.messages new));
    parties = λ c p at r held. reservation_more w v longer r (i.parties c p (subst (λ ps. find (is_party c) ps ≡ Some p) parties at) r held);
  }

pub granting_kept : (w : World) → Ordered w → Granting w → Changes Granting w
granting_kept w o i = record {
  commands = λ c p x d at is. (
      let fits = all_found (PartyFits w) (is_party c) w.parties p o.parties at in
      party_granted w i c p (record p { client = d }) at (goes_on w p x d is fits).id (logs_after x (newest_block d) w.logs)
      (λ b hs e. handlers_after x (newest_block d) b w.logs hs e) (command_locks (WasGranted w) p.client (i.parties c p at) d x is));
  sends = λ c p h s at here. (
      let fits = all_found (PartyFits w) (is_party c) w.parties p o.parties at in
      sent_granted w (with_sent w (due p.client h)) i (due p.client h) refl refl refl
      (λ m e. due_granted w c p fits (i.parties c p at) h m (sends p.client h m e)));
  hears = λ k m s was goes here. (
      let now = hear s.core.state m in
      sent_granted w (heard_world w s now) i now.1.reply refl refl refl
      (reply_granted w now.0 now.1.reply (hears_row s.core.state m now (row s.core.state m)).tells));
  notices = λ k m p was goes at. (
      let c = client_of m in
      party_granted w i c p (heard_party p (heard p.client m)) at (keeps_hearing w o k m p was at).id w.logs (λ b hs e. e)
      (heard_locks (WasGranted w) p.client (i.parties c p at) m
      (λ r held is h same. subst (Contains w.sent) same (sent_in w k m was))));
  begins = λ h s t here is. sent_granted w (with_site w (begun_site s)) i None (sym (append-nil w.sent)) refl refl (λ m e. absurd (cc));
  finishes = λ h s t here is. sent_granted w (with_site w (finished_site s t)) i None (sym (append-nil w.sent)) refl refl (λ m e. absurd (cc));
  restarts = λ c p at room. party_granted w i c p (restarted_party p) at refl w.logs (λ b hs e. e) (λ s e. absurd (cc));
  reopens = λ n. sent_granted w (reopened_world w n) i None (sym (append-nil w.sent)) refl refl (λ m e. absurd (cc));
}

pub opens_granting : (ps : List Placement) (ns : List Newcomer) → Granting (opening ps ns)
opens_granting ps ns = record { messages = tt; parties = λ c p at r held. absurd (none_reserved c ns p at r held) }
