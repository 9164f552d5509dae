-- Rounds: events after which everything is done that was due at their start.
use Rattle.std.specs.Prelude.{◌≡◌, ◌⊎◌, ℕ, zero, suc, ◌++◌, Bool, true, false, IsTrue, List, [], ◌∷◌, Option, Some, None, IfSome, is_some, Ok, Err}
use Rattle.std.specs.List.{AllByRecursion}
use Rattle.scoop_message.specs.declared.name.ClientId.{ClientId}
use Rattle.scoop_message.specs.declared.name.HandlerId.{HandlerId}
use Rattle.scoop_client.specs.Due.{due}
use Rattle.scoop_client.specs.declared.command.Command.{Command}
use Rattle.scoop_client.specs.declared.command.Command.TheVariants.{Reserve, Call, Query, End, GiveUp}
use Rattle.scoop_model.specs.declared.event.Event.{Event}
use Rattle.scoop_model.specs.declared.event.Event.TheVariants.{Do, Tick, Take, Begin, Finish, ClientRestart, NodeRestart}
use Rattle.scoop_model.specs.declared.note.WorldNote.{WorldNote}
use Rattle.scoop_model.specs.declared.note.WorldNote.TheVariants as note
use Rattle.scoop_model.specs.World.{World, Site, Party, site_of, party_of}
use Rattle.scoop_model.specs.Step.{Stepped, step}
use Rattle.scoop_model.specs.Reach.{Leads, steps}
use Rattle.scoop_calm.specs.Next.{is_out, can_begin, can_end}

-- ---- the events

abbrev pub is_end : Command → Bool
is_end End = true
is_end (Reserve hs) = false
is_end (Call h r) = false
is_end (Query h r) = false
is_end GiveUp = false

-- no party restarts, and no client takes a command other than to end its block
abbrev pub goes_on : Event → Bool
goes_on (Do c x) = is_end x
goes_on (Tick c h) = true
goes_on (Take i) = true
goes_on (Begin h) = true
goes_on (Finish h) = true
goes_on (ClientRestart c) = false
goes_on (NodeRestart n) = false

-- the item stands in the list
abbrev pub Member : {A : Type 0} → A → List A → Type 0
Member x [] = ⊥
Member x (y ∷ ys) = (y ≡ x) ⊎ Member x ys

-- ---- messages

-- the place of the message that an event has sent
abbrev pub place_in : WorldNote → Option ℕ
place_in (note.Sent i) = Some i
place_in (note.Handler told reply) = reply
place_in note.Done = None
place_in note.Silent = None
place_in (note.Client heard) = None
place_in (note.Began b n) = None
place_in (note.Ran r) = None
place_in (note.Restarted inc) = None
place_in note.Reopened = None

abbrev pub sent_by : Stepped → Option ℕ
sent_by (Ok r) = place_in r.1
sent_by (Err e) = None

-- the message is taken, and later its reply, if it has one
pub record IsTaken (w : World) (es : List Event) (i : ℕ) : Type 0 where
  pub before : List Event
  pub rest : List Event
  pub is : es ≡ before ++ Take i ∷ rest
  pub reply : IfSome (sent_by (step (steps w before) (Take i))) (λ j. Member (Take j) rest)

-- the client sends the handler what it owes to it by then, and later that message is taken
pub record IsAsked (w : World) (es : List Event) (c : ClientId) (h : HandlerId) : Type 0 where
  pub before : List Event
  pub rest : List Event
  pub is : es ≡ before ++ Tick c h ∷ rest
  pub taken : IfSome (sent_by (step (steps w before) (Tick c h))) (IsTaken (steps w (before ++ Tick c h ∷ [])) rest)

-- ---- rounds

-- Each job that is out is finished, and each entry that can leave is begun. Each client that can ends its block. Each
-- message that is due is sent and taken, and so is its reply. Other such events may come between.
pub record Round (w : World) (es : List Event) : Type 0 where
  pub kinds : AllByRecursion (λ e. IsTrue (goes_on e)) es
  pub finishes : (h : HandlerId) (s : Site) → site_of h w ≡ Some s → is_out s ≡ true → Member (Finish h) es
  pub begins : (h : HandlerId) (s : Site) → site_of h w ≡ Some s → can_begin s ≡ true → Member (Begin h) es
  pub ends : (c : ClientId) (p : Party) → party_of c w ≡ Some p → can_end p ≡ true → Member (Do c End) es
  pub asks :
      (c : ClientId) (h : HandlerId) (p : Party) (s : Site) → party_of c w ≡ Some p → site_of h w ≡ Some s
      → is_some (due p.client h) ≡ true → IsAsked w es c h

-- that many rounds, one after another, none of whose events is refused
pub data Rounds : ℕ → World → World → Type 0 where
  none : (w : World) → Rounds zero w w
  one_more : (n : ℕ) (w u v : World) (es : List Event) → Leads w es u → Round w es → Rounds n u v → Rounds (suc n) w v
