-- A line has one answer, which the book's handlers and history determine. Bytes have one reading. A move of known handlers
-- has one reply and one outcome. The entry that runs is always the one in front. So books that differ in their keepers alone
-- print the same for the same lines, and still differ in their keepers alone after them.
use Rattle.std.proofs.Common.{◌≡◌, ℕ, ◌+◌, List, [], ◌∷◌, ◌++◌, codes, Option, Some, None, Result, Ok, Err, refl, sym, ap, ◌∙◌, subst}
use Rattle.std.proofs.lemmas.Option.{same_Some}
use Rattle.hex.proofs.HexLemmas.{decode_of-same}
use Rattle.scoop_message.specs.declared.name.Block.{Block}
use Rattle.scoop_message.specs.declared.name.HandlerId.{HandlerId}
use Rattle.scoop_message.specs.declared.message.Message.{Message}
use Rattle.scoop_message.specs.Message.{handler_of}
use Rattle.scoop_frame.specs.declared.error.FrameError.{FrameError}
use Rattle.scoop_frame.specs.declared.version.Version.{Version}
use Rattle.scoop_frame.specs.Fault.{IsFirstFault}
use Rattle.scoop_frame.specs.Frame.{IsFrame, both}
use Rattle.scoop_frame.specs.Text.{error_text}
use Rattle.scoop_frame.proofs.Exact.{reads_exactly, refuses_exactly}
use Rattle.scoop_handler.specs.declared.note.Heard.{Heard as Told}
use Rattle.scoop_handler.specs.Running.{Task, ran_of}
use Rattle.scoop_handler.specs.Text.{note_text}
use Rattle.scoop_book.specs.declared.event.Event.{Event}
use Rattle.scoop_book.specs.declared.event.Event.TheVariants.{Hear, Begin, Finish}
use Rattle.scoop_book.specs.declared.event.Reply.{Reply}
use Rattle.scoop_book.specs.declared.event.Reply.TheVariants.{Heard, Began, Finished}
use Rattle.scoop_book.specs.Moves.{Entry, LocalHandler, HandlerMoves, Moves, after_finish, handler_in, leaves, with_handler}
use Rattle.scoop_book.specs.Books.{BookValue, Gains}
use Rattle.scoop_netloop.specs.RunningOut.{FindsNothing, RunsDry, RunsEntries, RunsEntry}
use Rattle.scoop_netloop.specs.RunningOut.RunsEntries.{none_ran, then_ran}
use Rattle.scoop_demo.specs.Hex.{digits_of}
use Rattle.scoop_demo.specs.Answer.{Prints, PrintsElsewhere, PrintsHeard, PrintsRefused, Rests, note_elsewhere, runs_by, text_of}
use Rattle.scoop_demo.specs.Answer.Prints.{refused, heard, elsewhere}
use Rattle.scoop_demo.specs.Run.{AnswersFirst, AnswersLine, AnswersLines, RunsBehind}

-- ---- bytes are read in one way

ok_same : (x y : Version × Message) (r : Result (Version × Message) FrameError) → r ≡ Ok x → r ≡ Ok y → x ≡ y
ok_same x y r p q = cc

err_same : (x y : FrameError) (r : Result (Version × Message) FrameError) → r ≡ Err x → r ≡ Err y → x ≡ y
err_same x y r p q = cc

not_both_read : (x : FrameError) (y : Version × Message) (r : Result (Version × Message) FrameError) → r ≡ Err x → r ≡ Ok y → ⊥
not_both_read x y r p q = cc

pub one_frame : (d : List ℕ) (v w : Version) (m n : Message) → IsFrame v m d → IsFrame w n d → both v m ≡ both w n
one_frame d v w m n is again = ok_same (both v m) (both w n) (Ok (both v m)) refl ((reads_exactly d (Ok (both v m)) is w n).1 again)

one_fault : (d : List ℕ) (e f : FrameError) → IsFirstFault e d → IsFirstFault f d → e ≡ f
one_fault d e f is again = err_same e f (Err e) refl ((refuses_exactly d (Err e) is f).1 again)

no_frame : (d : List ℕ) (e : FrameError) (v : Version) (m : Message) → IsFirstFault e d → IsFrame v m d → ⊥
no_frame d e v m is frame = not_both_read e (both v m) (Err e) refl ((reads_exactly d (Err e) is v m).1 frame)

-- ---- one move

handler_only : (event : Event) (r q : Reply) (s t u : LocalHandler) → HandlerMoves event r s t → HandlerMoves event q s u → (r ≡ q) × (t ≡ u)
handler_only (Hear m) (Heard a) (Heard b) s t u x y = (ap Heard (x.tells ∙ sym y.tells), x.after ∙ sym y.after)
handler_only (Hear m) (Heard a) (Began b) s t u x y = absurd y
handler_only (Hear m) (Heard a) (Finished b) s t u x y = absurd y
handler_only (Hear m) (Began a) q s t u x y = absurd x
handler_only (Hear m) (Finished a) q s t u x y = absurd x
handler_only (Begin h) (Began a) (Began b) s t u x y = (ap Began (x.tells ∙ sym y.tells), x.after ∙ sym y.after)
handler_only (Begin h) (Began a) (Heard b) s t u x y = absurd y
handler_only (Begin h) (Began a) (Finished b) s t u x y = absurd y
handler_only (Begin h) (Heard a) q s t u x y = absurd x
handler_only (Begin h) (Finished a) q s t u x y = absurd x
handler_only (Finish h) (Finished a) (Finished b) s t u x y =
    let task : x.task ≡ y.task = same_Some x.task y.task (sym x.out ∙ y.out) in
    (ap Finished (x.tells ∙ ap ran_of task ∙ sym y.tells), x.after ∙ ap (λ (k : Task). after_finish k s) task ∙ sym y.after)
handler_only (Finish h) (Finished a) (Heard b) s t u x y = absurd y
handler_only (Finish h) (Finished a) (Began b) s t u x y = absurd y
handler_only (Finish h) (Heard a) q s t u x y = absurd x
handler_only (Finish h) (Began a) q s t u x y = absurd x

moves_only : (event : Event) (r q : Reply) (hs ks ls : List LocalHandler) → Moves event r hs ks → Moves event q hs ls → (r ≡ q) × (ks ≡ ls)
moves_only event r q hs ks ls x y =
    let same : y.handler ≡ x.handler = same_Some y.handler x.handler (sym y.here ∙ x.here) in
    let moves = subst (λ (s : LocalHandler). HandlerMoves event q s y.new) same y.moves in
    let one = handler_only event r q x.handler x.new y.new x.moves moves in
    (one.0, x.after ∙ ap (λ (s : LocalHandler). with_handler s hs) one.1 ∙ sym y.after)

nothing_left : (x : Block × ℕ) → Began None ≡ Began (Some x) → ⊥
nothing_left x e = cc

-- entries that run, the first of them in front
data RunsFront {K : Type 0} (pass : ℕ) (h : HandlerId) : (old new : BookValue K) → Type 0 where
  stop : (b : BookValue K) → RunsFront pass h b b
  more : (a b c : BookValue K) → RunsEntry pass h a b → RunsFront pass h b c → RunsFront pass h a c

-- ---- books that differ in their keepers alone

module _ {K : Type 0} where
  pub rests_same : (a : BookValue K) → Rests a a
  rests_same a = record { stays = record { handlers = refl; history = refl; opening = refl; limit = refl }; failed = refl }

  rests_back : (a b : BookValue K) → Rests a b → Rests b a
  rests_back a b r = record {
    stays = record { handlers = sym r.stays.handlers; history = sym r.stays.history; opening = sym r.stays.opening; limit = sym r.stays.limit };
    failed = sym r.failed;
  }

  rests_more : (a b c : BookValue K) → Rests a b → Rests b c → Rests a c
  rests_more a b c r s = record {
    stays = record {
      handlers = s.stays.handlers ∙ r.stays.handlers;
      history = s.stays.history ∙ r.stays.history;
      opening = s.stays.opening ∙ r.stays.opening;
      limit = s.stays.limit ∙ r.stays.limit;
    };
    failed = s.failed ∙ r.failed;
  }

  rests_aside : (a b c d : BookValue K) → Rests a b → Rests c d → Rests a c → Rests b d
  rests_aside a b c d r s same = rests_more b a d (rests_back a b r) (rests_more a c d same s)

  gains_only : (pass : ℕ) (event : Event) (r q : Reply) (a b c d : BookValue K) → Rests a c → Gains pass event r a b → Gains pass event q c d → (r ≡ q)
      × Rests b d
  gains_only pass event r q a b c d same x y =
      let moves = subst (λ (hs : List LocalHandler). Moves event q hs d.handlers) same.stays.handlers y.moves in
      let one = moves_only event r q a.handlers b.handlers d.handlers x.moves moves in (
        one.0,
        record {
          stays = record {
            handlers = sym one.1;
            history =
                y.history ∙ ap (λ (es : List Entry). es ++ (pass, event, q) ∷ []) same.stays.history
                ∙ ap (λ (z : Reply). a.history ++ (pass, event, z) ∷ []) (sym one.0) ∙ sym x.history;
            opening = y.opening ∙ same.stays.opening ∙ sym x.opening;
            limit = y.limit ∙ same.stays.limit ∙ sym x.limit;
          };
          failed = y.failed ∙ same.failed ∙ sym x.failed;
        },
      )

  -- ---- runs

  entry_only : (pass : ℕ) (h : HandlerId) (a b c d : BookValue K) → Rests a c → RunsEntry pass h a b → RunsEntry pass h c d → Rests b d
  entry_only pass h a b c d same x y =
      let between = gains_only pass (Begin h) (Began (Some (leaves x.task))) (Began (Some (leaves y.task))) a x.between c y.between same x.begins y.begins in
      (gains_only pass (Finish h) (Finished (ran_of x.task)) (Finished (ran_of y.task)) x.between b y.between d between.1 x.finishes y.finishes).1

  to_front : (pass : ℕ) (h : HandlerId) (a b c : BookValue K) → RunsEntries pass h a b → RunsFront pass h b c → RunsFront pass h a c
  to_front pass h a b c (none_ran x) front = front
  to_front pass h a b c (then_ran x y z before last) front = to_front pass h a y c before (more y b c last front)

  front_only : (pass : ℕ) (h : HandlerId) (a b c d e f : BookValue K) → Rests a d → RunsFront pass h a b → FindsNothing pass h b c → RunsFront pass h d e
      → FindsNothing pass h e f → Rests c f
  front_only pass h a b c d e f same (stop x) none (stop y) again = (gains_only pass (Begin h) (Began None) (Began None) a c d f same none again).1
  front_only pass h a b c d e f same (stop x) none (more y z w one rest) again =
      absurd (nothing_left (leaves one.task) (gains_only pass (Begin h) (Began None) (Began (Some (leaves one.task))) a c d one.between same none one.begins).0)
  front_only pass h a b c d e f same (more x z w one rest) none (stop y) again =
      absurd (nothing_left (leaves one.task) (sym (gains_only pass (Begin h) (Began (Some (leaves one.task)))
      (Began None) a one.between d f same one.begins again).0))
  front_only pass h a b c d e f same (more x z w one rest) none (more y u v two rests) again =
      front_only pass h z b c u e f (entry_only pass h a z d u same one two) rest none rests again

  dry_only : (pass : ℕ) (h : HandlerId) (a b c d : BookValue K) → Rests a c → RunsDry pass h a b → RunsDry pass h c d → Rests b d
  dry_only pass h a b c d same x y =
      front_only pass h a x.last b c y.last d same
      (to_front pass h a x.last x.last x.ran (stop x.last)) x.nothing
      (to_front pass h c y.last y.last y.ran (stop y.last)) y.nothing

  behind_only : (next : Option HandlerId) (a b c d : BookValue K) → Rests a c → RunsBehind next a b → RunsBehind next c d → Rests b d
  behind_only None a b c d same x y = rests_aside a b c d (subst (Rests a) (sym x) (rests_same a)) (subst (Rests c) (sym y) (rests_same c)) same
  behind_only (Some h) a b c d same x y = dry_only 0 h a b c d same x y

  -- ---- answers

  heard_only : (d : List ℕ) (a b c e : BookValue K) (next other : Option HandlerId) (text again : List ℕ) → Rests a c
      → PrintsHeard d a b next text → PrintsHeard d c e other again → Rests b e × (next ≡ other) × (text ≡ again)
  heard_only d a b c e next other text again same x y =
      let frames : both y.version y.message ≡ both x.version x.message = one_frame d y.version x.version y.message x.message y.carried x.carried in
      let version = ap (λ (f : Version × Message). f.0) frames in
      let message = ap (λ (f : Version × Message). f.1) frames in
      let gains = subst (λ (m : Message). Gains 0 (Hear m) (Heard y.heard) c e) message y.gains in
      let one = gains_only 0 (Hear x.message) (Heard x.heard) (Heard y.heard) a b c e same x.gains gains in
      let told : y.heard ≡ x.heard = told_same x.heard y.heard one.0 in (
        one.1,
        x.runs ∙ sym (y.runs ∙ ap (λ (t : Told). runs_by t.note (handler_of y.message)) told
            ∙ ap (λ (m : Message). runs_by x.heard.note (handler_of m)) message),
        x.is ∙ sym (y.is ∙ ap (λ (t : Told). text_of y.version t.reply t.note) told ∙ ap (λ (v : Version). text_of v x.heard.reply x.heard.note) version),
      )
    where
      told_same : (s t : Told) → Heard s ≡ Heard t → t ≡ s
      told_same s t e = cc

  elsewhere_only : (d : List ℕ) (a b c e : BookValue K) (next other : Option HandlerId) (text again : List ℕ) → Rests a c
      → PrintsElsewhere d a b next text → PrintsElsewhere d c e other again → Rests b e × (next ≡ other) × (text ≡ again)
  elsewhere_only d a b c e next other text again same x y =
      let message = ap (λ (f : Version × Message). f.1) (one_frame d x.version y.version x.message y.message x.carried y.carried) in (
        rests_aside a b c e x.rests y.rests same,
        x.nothing ∙ sym y.nothing,
        x.is ∙ ap (λ (m : Message). codes "none " ++ note_text (note_elsewhere m)) message ∙ sym y.is,
      )

  refused_only : (d : List ℕ) (a b c e : BookValue K) (next other : Option HandlerId) (text again : List ℕ) → Rests a c
      → PrintsRefused d a b next text → PrintsRefused d c e other again → Rests b e × (next ≡ other) × (text ≡ again)
  refused_only d a b c e next other text again same x y = (
    rests_aside a b c e x.rests y.rests same,
    x.nothing ∙ sym y.nothing,
    x.is ∙ ap (λ (f : FrameError). codes "refused " ++ error_text f) (one_fault d x.error y.error x.first_fault y.first_fault) ∙ sym y.is,
  )

  -- a handler that is here isn't elsewhere
  not_both : (d : List ℕ) (a b c e : BookValue K) (next other : Option HandlerId) (text again : List ℕ) → Rests a c → PrintsHeard d a b next text
      → PrintsElsewhere d c e other again → ⊥
  not_both d a b c e next other text again same x y =
      let message = ap (λ (f : Version × Message). f.1) (one_frame d x.version y.version x.message y.message x.carried y.carried) in
      let away : handler_in (handler_of x.message) a.handlers ≡ None =
      ap (λ (hs : List LocalHandler). handler_in (handler_of x.message) hs) (sym same.stays.handlers)
      ∙ ap (λ (m : Message). handler_in (handler_of m) c.handlers) message ∙ y.away in
      let here = x.gains.moves.here in
      clash x.gains.moves.handler (sym away ∙ here)
    where
      clash : (s : LocalHandler) → None ≡ Some s → ⊥
      clash s e = cc

  pub prints_only : (d : List ℕ) (a b c e : BookValue K) (next other : Option HandlerId) (text again : List ℕ) → Rests a c
      → Prints d a b next text → Prints d c e other again → Rests b e × (next ≡ other) × (text ≡ again)
  prints_only d a b c e next other text again same (refused x) (refused y) = refused_only d a b c e next other text again same x y
  prints_only d a b c e next other text again same (refused x) (heard y) = absurd (no_frame d x.error y.version y.message x.first_fault y.carried)
  prints_only d a b c e next other text again same (refused x) (elsewhere y) = absurd (no_frame d x.error y.version y.message x.first_fault y.carried)
  prints_only d a b c e next other text again same (heard x) (refused y) = absurd (no_frame d y.error x.version x.message y.first_fault x.carried)
  prints_only d a b c e next other text again same (heard x) (heard y) = heard_only d a b c e next other text again same x y
  prints_only d a b c e next other text again same (heard x) (elsewhere y) = absurd (not_both d a b c e next other text again same x y)
  prints_only d a b c e next other text again same (elsewhere x) (refused y) = absurd (no_frame d y.error x.version x.message y.first_fault x.carried)
  prints_only d a b c e next other text again same (elsewhere x) (heard y) = absurd (not_both d c e a b other next again text (rests_back a c same) y x)
  prints_only d a b c e next other text again same (elsewhere x) (elsewhere y) = elsewhere_only d a b c e next other text again same x y

  line_only : (number : ℕ) (line : List ℕ) (a b c e : BookValue K) (text again : List ℕ) → Rests a c → AnswersLine number a line b text
      → AnswersLine number c line e again
      → Rests b e × (text ≡ again)
  line_only number line a b c e text again same x y =
      let datagram : y.hears.datagram ≡ x.hears.datagram =
      decode_of-same (digits_of line) y.hears.datagram x.hears.datagram y.hears.is_datagram.stands x.hears.is_datagram.stands in
      let prints = subst (λ (d : List ℕ). Prints d c y.heard y.next again) datagram y.hears.prints in
      let one = prints_only x.hears.datagram a x.heard c y.heard x.next y.next text again same x.hears.prints prints in
      let runs = subst (λ (n : Option HandlerId). RunsBehind n y.heard e) (sym one.1) y.runs in
      (behind_only x.next x.heard b y.heard e one.0 x.runs runs, one.2)

  lines_only : (number : ℕ) (lines : List (List ℕ)) (a b c e : BookValue K) (text again : List ℕ) → Rests a c → AnswersLines number a lines b text
      → AnswersLines number c lines e again
      → Rests b e × (text ≡ again)
  lines_only number [] a b c e text again same x y =
      (rests_aside a b c e (subst (Rests a) (sym x.0) (rests_same a)) (subst (Rests c) (sym y.0) (rests_same c)) same, x.1 ∙ sym y.1)
  lines_only number (line ∷ lines) a b c e text again same x y =
      let first = line_only number line a x.0 c y.0 x.1 y.1 same x.3 y.3 in
      let rest = lines_only (number + 1) lines x.0 b y.0 e x.2 y.2 first.0 x.4 y.4 in
      (rest.0, x.5 ∙ ap (λ (t : List ℕ). t ++ 10 ∷ x.2) first.1 ∙ ap (λ (t : List ℕ). y.1 ++ 10 ∷ t) rest.1 ∙ sym y.5)

  -- lines have one answer
  pub answers_first : (lines : List (List ℕ)) (old new : BookValue K) (text : List ℕ) → AnswersLines 1 old lines new text → AnswersFirst old lines new text
  answers_first lines old new text answers = record {
    answers = answers;
    only = λ other again others. let one = lines_only 1 lines old new old other text again (rests_same old) answers others in (one.0, sym one.1);
  }
