-- The printed answer to a datagram, and the keeper after it. The answer is a refusal, a note or a reply. Only after some notes
-- of a handler that is here may something run. The set of handlers stays the same, and so does the keeper's state of every
-- other handler.
use Rattle.std.proofs.Common.{◌≡◌, ◌≢◌, if◌then◌else◌, ℕ, Bool, true, false, List, [], ◌∷◌, length, drop, Option, Some, None, refl, sym, ap, ◌∙◌, subst}
use Rattle.std.proofs.lemmas.List.{take_at}
use Rattle.hex.specs.Hex.{encode_lower}
use Rattle.scoop_message.specs.declared.name.HandlerId.{HandlerId}
use Rattle.scoop_message.specs.declared.message.Message.{Message}
use Rattle.scoop_message.specs.Message.{handler_of, same_handler}
use Rattle.scoop_message.proofs.Same.{handler_decides}
use Rattle.scoop_frame.specs.declared.error.FrameError.{FrameError}
use Rattle.scoop_frame.specs.declared.version.Version.{Version}
use Rattle.scoop_frame.specs.Buffer.{written}
use Rattle.scoop_frame.specs.Fault.{IsFirstFault}
use Rattle.scoop_frame.specs.Frame.{frame, IsFrame}
use Rattle.scoop_handler.specs.declared.note.Note.{Note}
use Rattle.scoop_keeper.specs.Keeper.{Keeps, Stored, StaysAt, Stays as KeeperStays}
use Rattle.scoop_keeper.proofs.Keyed.{by_test}
use Rattle.scoop_keeper.proofs.KeeperLemmas.{is_same_same, is_same_more}
use Rattle.scoop_book.specs.declared.error.BookError.{BookError}
use Rattle.scoop_book.specs.declared.error.BookError.TheVariants.{UnknownHandler}
use Rattle.scoop_book.specs.declared.event.Event.{Event}
use Rattle.scoop_book.specs.declared.event.Event.TheVariants.{Hear}
use Rattle.scoop_book.specs.declared.event.Reply.{Reply}
use Rattle.scoop_book.specs.declared.event.Reply.TheVariants.{Heard}
use Rattle.scoop_book.specs.Moves.{LocalHandler, Moves, handler_in, number_in, with_handler}
use Rattle.scoop_book.specs.Books.{BookValue, Gains, KeepsNew}
use Rattle.scoop_handler.proofs.Basics.{key_found}
use Rattle.scoop_netloop.specs.declared.answer.Answered.{Answered}
use Rattle.scoop_netloop.specs.declared.answer.Answered.TheVariants as answered
use Rattle.scoop_netloop.specs.Answering.{AnswersFrame, answered_of, frame_of, runs_after}
use Rattle.scoop_netloop.specs.RunningOut.{BreaksOff, KeepsOthers, RunsEntries}
use Rattle.scoop_netloop.specs.RunningOut.RunsEntries.{none_ran, then_ran}
use Rattle.scoop_netloop.proofs.Dry.{if_here, moved_there}
use Rattle.scoop_demo.specs.Answer.{IsHere, Prints, Rests, line_of, runs_by, text_of}
use Rattle.scoop_demo.specs.Answer.Prints.{refused, heard, elsewhere}
use Rattle.scoop_demo.specs.Run.{AnswersLine, RunsBehind}
use Rattle.scoop_demo.specs.Storing.{KeepsElsewhere}
use Rattle.scoop_demo.proofs.OnlyLemmas.{rests_same}

-- ---- the printed answer

heard_line : (v : Version) (reply : Option Message) (note : Note) (buffer : List ℕ)
    → line_of (answered_of v reply note) (written (frame_of v reply) buffer) ≡ text_of v reply note
heard_line v None note buffer = refl
heard_line v (Some reply) note buffer = ap encode_lower (take_at (frame v reply) (drop (length (frame v reply)) buffer) (length (frame v reply)) refl)

-- the handler of a message that may have something to run after an answer
pub record Follows (m : Message) (a : Answered) (next : Option HandlerId) : Type 0 where
  pub refused : (e : FrameError) → a ≡ answered.RefusedFrame e → next ≡ None
  pub silent : (note : Note) → a ≡ answered.Silent note → next ≡ runs_by note (handler_of m)
  pub replied : (n : ℕ) (note : Note) → a ≡ answered.Reply n note → next ≡ runs_by note (handler_of m)

follows_heard : (m : Message) (a : Answered) (next : Option HandlerId) (v : Version) (reply : Option Message) (note : Note) → Follows m a next
    → a ≡ answered_of v reply note → next ≡ runs_by note (handler_of m)
follows_heard m a next v None note follows is = follows.silent note is
follows_heard m a next v (Some reply) note follows is = follows.replied (length (frame v reply)) note is

-- bytes that are no frame are refused
pub printed_refused : {K : Type 0} (d : List ℕ) (old : BookValue K) (e : FrameError) → IsFirstFault e d
    → Prints d old old None (line_of (answered.RefusedFrame e) [])
printed_refused d old e fault = refused (record { error = e; first_fault = fault; rests = rests_same old; nothing = refl; is = refl })

-- the bytes are the frame of no message but this one
abbrev pub IsOf : List ℕ → Message → Type 0
IsOf d m = (v : Version) (x : Message) → IsFrame v x d → x ≡ m

pub printed : {K : Type 0} (d : List ℕ) (m : Message) (old new : BookValue K) (a : Answered) (buffer out : List ℕ) (next : Option HandlerId) → IsOf d m
    → Follows m a next → AnswersFrame 0 d old new a buffer out → Prints d old new next (line_of a out)
printed d m old new a buffer out next one follows f =
    let bytes = ap (λ b. line_of a b) f.bytes in
    let answer = ap (λ x. line_of x (written (frame_of f.version f.heard.reply) buffer)) f.answer in
    heard (record {
      version = f.version;
      message = f.message;
      carried = f.carried;
      heard = f.heard;
      gains = f.gains;
      runs = subst (λ (x : Message). next ≡ runs_by f.heard.note (handler_of x)) (sym (one f.version f.message f.carried))
          (follows_heard m a next f.version f.heard.reply f.heard.note follows f.answer);
      is = bytes ∙ answer ∙ heard_line f.version f.heard.reply f.heard.note buffer;
    })

-- ---- the handlers of a book stay the same ones

some_none : {A : Type 0} (x : A) → Some x ≡ None → ⊥
some_none x e = cc

absent_newer : (s : LocalHandler) (hs : List LocalHandler) (h : HandlerId) → handler_in h hs ≡ None → handler_in h (with_handler s hs) ≡ None
absent_newer s [] h none = refl
absent_newer s (x ∷ xs) h none =
    by_test (λ (t : Bool). (if t then Some x else handler_in h xs) ≡ None → same_handler (number_in x) h ≡ t → handler_in h (with_handler s (x ∷ xs)) ≡ None)
    (same_handler (number_in x) h)
    (λ here f is. absurd (some_none x f))
    (λ there f is.
    by_test
    (λ (u : Bool). same_handler (number_in x) (number_in s) ≡ u
    → (if same_handler (number_in (if u then s else x)) h then Some (if u then s else x) else handler_in h (with_handler s xs)) ≡ None)
    (same_handler (number_in x) (number_in s))
    (λ _ own.
    let off : same_handler (number_in s) h ≡ false = ap (λ k. same_handler k h) (sym ((handler_decides (number_in x) (number_in s)).0 own)) ∙ is in
    ap (λ t. if t then Some s else handler_in h (with_handler s xs)) off ∙ absent_newer s xs h f)
    (λ _ other. ap (λ t. if t then Some x else handler_in h (with_handler s xs)) is ∙ absent_newer s xs h f) refl)
    none refl

absent_moved : (event : Event) (reply : Reply) (hs ks : List LocalHandler) (h : HandlerId) → Moves event reply hs ks → handler_in h hs ≡ None
    → handler_in h ks ≡ None
absent_moved event reply hs ks h moves none = ap (handler_in h) moves.after ∙ absent_newer moves.new hs h none

module _ {K : Type 0} where
  absent_entries : (pass : ℕ) (k h : HandlerId) (a b : BookValue K) → RunsEntries pass k a b → handler_in h a.handlers ≡ None → handler_in h b.handlers ≡ None
  absent_entries pass k h a b (none_ran x) none = none
  absent_entries pass k h a b (then_ran x y z before last) none =
      absent_moved _ _ last.between.handlers b.handlers h last.finishes.moves
      (absent_moved _ _ y.handlers last.between.handlers h last.begins.moves (absent_entries pass k h a y before none))

  absent_behind : (next : Option HandlerId) (h : HandlerId) (a b : BookValue K) → RunsBehind next a b → handler_in h a.handlers ≡ None
      → handler_in h b.handlers ≡ None
  absent_behind None h a b same none = subst (λ (x : BookValue K). handler_in h x.handlers ≡ None) (sym same) none
  absent_behind (Some k) h a b dry none = absent_moved _ _ dry.last.handlers b.handlers h dry.nothing.moves (absent_entries 0 k h a dry.last dry.ran none)

  pub absent_printed : (d : List ℕ) (a b : BookValue K) (next : Option HandlerId) (text : List ℕ) (h : HandlerId) → Prints d a b next text
      → handler_in h a.handlers ≡ None → handler_in h b.handlers ≡ None
  absent_printed d a b next text h (refused r) none = ap (handler_in h) r.rests.stays.handlers ∙ none
  absent_printed d a b next text h (heard r) none = absent_moved _ _ a.handlers b.handlers h r.gains.moves none
  absent_printed d a b next text h (elsewhere r) none = ap (handler_in h) r.rests.stays.handlers ∙ none

  pub absent_line : (number : ℕ) (line text : List ℕ) (a b : BookValue K) (h : HandlerId) → AnswersLine number a line b text → handler_in h a.handlers ≡ None
      → handler_in h b.handlers ≡ None
  absent_line number line text a b h is none = absent_behind is.next h is.heard b is.runs
      (absent_printed is.hears.datagram a is.heard is.next text h is.hears.prints none)

  -- the handler that has something to run is here
  pub here_printed : (d : List ℕ) (a b : BookValue K) (next : Option HandlerId) (h : HandlerId) (text : List ℕ) → Prints d a b next text → next ≡ Some h
      → IsHere b.handlers h
  here_printed d a b next h text (refused r) some = absurd (some_none h (sym some ∙ r.nothing))
  here_printed d a b next h text (elsewhere r) some = absurd (some_none h (sym some ∙ r.nothing))
  here_printed d a b next h text (heard r) some =
      let own : handler_of r.message ≡ h = named (runs_after r.heard.note) (sym r.runs ∙ some) in
      record {
        handler = r.gains.moves.new;
        here = ap (λ (k : HandlerId). handler_in k b.handlers) (sym own)
            ∙ moved_there (Hear r.message) (Heard r.heard) a.handlers b.handlers r.gains.moves;
      }
    where
      named : (t : Bool) → (if t then Some (handler_of r.message) else None) ≡ Some h → handler_of r.message ≡ h
      named true e = cc
      named false e = cc

-- ---- the keeper

number_apart : (h k : HandlerId) → (h ≡ k → ⊥) → h.0 ≢ k.0
number_apart h k apart same = let id : ℕ → HandlerId = λ n. record { 0 = n } in apart (ap id same)

absent_apart : (hs : List LocalHandler) (h k : HandlerId) (s : LocalHandler) → handler_in h hs ≡ None → handler_in k hs ≡ Some s → h ≡ k → ⊥
absent_apart hs h k s none some same = some_none s (sym some ∙ subst (λ (x : HandlerId). handler_in x hs ≡ None) same none)

-- the keeper's states of the handlers elsewhere
others_heard : {K : Type 0} (pass : ℕ) (m : Message) (reply : Reply) (old new : BookValue K) (was now : ℕ → Stored → Type 0) → Gains pass (Hear m) reply old new
    → KeepsNew (handler_of m) new.handlers was now
    → (h : HandlerId) → handler_in h old.handlers ≡ None → StaysAt was now h.0
others_heard pass m reply old new was now gains keeps h none =
    let moves = gains.moves in
    let found = moved_there (Hear m) reply old.handlers new.handlers moves in
    let number : number_in moves.new ≡ handler_of m = key_found number_in same_handler handler_decides (handler_of m) new.handlers moves.new found in
    let state : Keeps was now moves.new.core.state = if_here (λ (s : LocalHandler). Keeps was now s.core.state)
    (handler_in (handler_of m) new.handlers) moves.new found keeps in
    state.others h.0 (number_apart h (number_in moves.new) (λ same. absent_apart old.handlers h (handler_of m) moves.handler none moves.here (same ∙ number)))

others_refused : (was now : ℕ → Stored → Type 0) → KeeperStays was now → (h : HandlerId) → StaysAt was now h.0
others_refused was now stays h = stays.each h.0

stays_at : (a : ℕ → Stored → Type 0) (n : ℕ) → StaysAt a a n
stays_at a n v = (λ x. x, λ x. x)

pub others_answered : {K : Type 0} (pass : ℕ) (d : List ℕ) (m : Message) (old new : BookValue K) (a : Answered) (buffer out : List ℕ)
    (has : K → ℕ → Stored → Type 0) → IsOf d m → AnswersFrame pass d old new a buffer out
    → KeepsNew (handler_of m) new.handlers (has old.keeper) (has new.keeper) → (h : HandlerId) → handler_in h old.handlers ≡ None
    → StaysAt (has old.keeper) (has new.keeper) h.0
others_answered pass d m old new a buffer out has one f keeps h none =
    others_heard pass m (Heard f.heard) old new (has old.keeper) (has new.keeper)
    (subst (λ (x : Message). Gains pass (Hear x) (Heard f.heard) old new) (one f.version f.message f.carried) f.gains) keeps h none

module _ {K : Type 0} (has : K → ℕ → Stored → Type 0) (incs : K → ℕ → Option ℕ) (is_honest : K → Type 0) where
  pub elsewhere_same : (hs : List LocalHandler) (a : K) → KeepsElsewhere has incs is_honest hs a a
  elsewhere_same hs a = record { honest = λ is. is; handlers = λ is h none. stays_at (has a) h.0; clients = λ is. is_same_same (incs a) }

  -- one after the other, while no handler comes
  pub elsewhere_more : (hs ks : List LocalHandler) (a b c : K) → ((h : HandlerId) → handler_in h hs ≡ None → handler_in h ks ≡ None)
      → KeepsElsewhere has incs is_honest hs a b
      → KeepsElsewhere has incs is_honest ks b c → KeepsElsewhere has incs is_honest hs a c
  elsewhere_more hs ks a b c absent first second = record {
    honest = λ is. first.honest (second.honest is);
    handlers = λ is h none v.
        let before = first.handlers (second.honest is) h none v in
        let behind = second.handlers is h (absent h none) v in
        (λ x. behind.0 (before.0 x), λ x. before.1 (behind.1 x));
    clients = λ is. is_same_more (incs a) (incs b) (incs c) (first.clients (second.honest is)) (second.clients is);
  }

  -- a handler that is here ran
  pub elsewhere_ran : (hs : List LocalHandler) (h : HandlerId) (a b : K) → IsHere hs h → KeepsOthers has incs is_honest h a b
      → KeepsElsewhere has incs is_honest hs a b
  elsewhere_ran hs h a b here others = record {
    honest = others.honest;
    handlers = λ is k none. others.handlers is k.0 (number_apart k h (absent_apart hs k h here.handler none here.here));
    clients = others.clients;
  }

-- a handler that is here isn't unknown
pub not_away : {K : Type 0} (h : HandlerId) (old new : BookValue K) (e : BookError) → IsHere old.handlers h → BreaksOff h old new e → e ≢ UnknownHandler
not_away h old new e here breaks is =
    let away = subst (BreaksOff h old new) is breaks in
    some_none here.handler (sym here.here ∙ away.1)
