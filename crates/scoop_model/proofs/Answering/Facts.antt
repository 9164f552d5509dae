-- The invariant about answers: the words of an object, the answers that are kept and sent, and those that clients have accepted.
use Rattle.scoop_model.proofs.Names.{◌≡◌, ℕ, List, map, Some, ◌≤◌, AllByRecursion, option_map_or, ⊤, NoRepeats, Message, Answer, Block, HandlerId, ObjectAnswer}
use Rattle.scoop_model.proofs.Names.{play, ReservationState, ClientState, WindowState, window_of, HasRun, query_of, entries_of, IsAnswered, World, Party}
use Rattle.scoop_model.proofs.Names.{Accepted, ran_at, Site}
use Rattle.scoop_model.proofs.Order.{Upto, all_more_of}
use Rattle.scoop_model.proofs.Answering.Objects.{AnswersFrom}
use Rattle.scoop_model.proofs.Answering.Kept.{KeepsRan}

-- an Answer that was sent tells what ran
abbrev pub TellsAnswer : World → Message → Type 0
TellsAnswer w (Answer h b n a) = HasRun (ran_at h w) b n a
TellsAnswer w m = ⊤

-- the object has played the entries that ran, and each answer that ran or is kept is its own
pub record SiteAnswers (s : Site) : Type 0 where
  pub words : s.core.state.words ≡ play s.core.class s.placed (entries_of s.ran)
  pub answers : AnswersFrom s.core.class s.placed s.ran
  pub kept : AllByRecursion (KeepsRan s.ran) s.core.state.marks

-- how many entries are acknowledged at the handler, none where it has no window
abbrev pub acked_at : HandlerId → List WindowState → ℕ
acked_at h ls = option_map_or (λ l. l.acked) (window_of h ls) 0

-- the query lies before the client's place: in the block that the client has, it is acknowledged
pub record IsBehind (c : ClientState) (a : Accepted) : Type 0 where
  pub upto : Upto a.1.inc a.1.num c.inc c.last
  pub acked : (r : ReservationState) → c.reservation ≡ Some r → a.1.inc ≡ c.inc → a.1.num ≡ c.last → a.2 ≤ acked_at a.0 c.windows

pub record AcceptedFits (w : World) (p : Party) (a : Accepted) : Type 0 where
  pub answered : IsAnswered w p a
  pub behind : IsBehind p.client a

pub record PartyAnswers (w : World) (p : Party) : Type 0 where
  pub accepted : AllByRecursion (AcceptedFits w p) p.accepted
  pub once : NoRepeats (map query_of p.accepted)

pub record Answering (w : World) : Type 0 where
  pub messages : AllByRecursion (TellsAnswer w) w.sent
  pub sites : AllByRecursion SiteAnswers w.sites
  pub parties : AllByRecursion (PartyAnswers w) w.parties

-- ---- what goes on

-- whatever ran in v has run in w
abbrev pub RanStays : World → World → Type 0
RanStays v w = (h : HandlerId) (b : Block) (n : ℕ) (a : ObjectAnswer) → HasRun (ran_at h v) b n a → HasRun (ran_at h w) b n a

module _ (v w : World) (stays : RanStays v w) where
  pub tells_answer_more : (m : Message) → TellsAnswer v m → TellsAnswer w m
  tells_answer_more (Answer h b n a) t = stays h b n a t
  tells_answer_more m t = tt

  pub messages_more : (ms : List Message) → AllByRecursion (TellsAnswer v) ms → AllByRecursion (TellsAnswer w) ms
  messages_more = all_more_of (TellsAnswer v) (TellsAnswer w) tells_answer_more

  -- the client stays
  pub party_answers_more : (p : Party) → PartyAnswers v p → PartyAnswers w p
  party_answers_more p f = record {
    accepted = all_more_of (AcceptedFits v p) (AcceptedFits w p)
        (λ a g. record { answered = record { own = g.answered.own; ran = stays a.0 a.1 a.2 a.3 g.answered.ran }; behind = g.behind })
        p.accepted f.accepted;
    once = f.once;
  }

  pub parties_answer_more : (ps : List Party) → AllByRecursion (PartyAnswers v) ps → AllByRecursion (PartyAnswers w) ps
  parties_answer_more = all_more_of (PartyAnswers v) (PartyAnswers w) party_answers_more
