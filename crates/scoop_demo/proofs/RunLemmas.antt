-- A run over lines, one line at a time. The lines that were taken and the rest make the input. Each line that was taken has its
-- answer, written after those before it (`Progress`). At the input's end these are all lines. A line that can't be taken or
-- answered stops the run after them.
use Rattle.std.proofs.Common.{◌≡◌, ◌≤◌, ℕ, ◌+◌, List, [], ◌∷◌, ◌++◌, length, Option, Some, None, IfSome, Result, Ok, Err, IfErr, OnOk, refl, sym, ◌∙◌, ap}
use Rattle.std.proofs.Common.{subst, arith, append_assoc, append-nil}
use Rattle.std.specs.Prelude.{⊤}
use Rattle.std.proofs.lemmas.List.{length_push}
use Rattle.std.specs.Option.{option_map}
use Rattle.std.specs.Io.KnownBytes.{Appends, Keeps, IsAtEnd}
use Rattle.std.proofs.lemmas.Bool.Decides.{nat_tests}
use Rattle.scoop_message.specs.declared.name.HandlerId.{HandlerId}
use Rattle.scoop_book.specs.Books.{BookValue}
use Rattle.scoop_netloop.specs.RunningOut.{RunsDry}
use Rattle.scoop_demo.specs.declared.fault.InputFault.{InputFault}
use Rattle.scoop_demo.specs.declared.fault.InputFault.TheVariants.{Source}
use Rattle.scoop_lines.specs.declared.error.LinesError.{LinesError}
use Rattle.scoop_lines.specs.declared.error.SourceFault.TheVariants.{ReadFault}
use Rattle.scoop_demo.specs.declared.fault.RunError.{RunError}
use Rattle.scoop_demo.specs.declared.fault.RunError.TheVariants.{Input as InputError, Write}
use Rattle.scoop_lines.specs.Line.{count_limit, lines_of, limit_fault, BeginsWith, TakesFirst}
use Rattle.scoop_demo.specs.Hex.{hex_fault, StandsFor}
use Rattle.scoop_demo.specs.Answer.{Prints, StopsRunning}
use Rattle.scoop_lines.specs.Input.{Input, TakesLine, StopsAtNext}
use Rattle.scoop_lines.specs.Input.StopsAtNext.{read_fault as next_unread, past_limit, flush_fault}
use Rattle.scoop_demo.specs.Run.{HearsLine, IsDatagram, AnswersFirst, AnswersLine, AnswersLines, AnswersAll, BeginsWithLines, WritesAnswer, StopsInLine}
use Rattle.scoop_demo.specs.Run.{StopsBehind, StopsEarly, fault_of, first_fault, run_error}
use Rattle.scoop_demo.specs.Run.StopsInLine.{in_digits, in_book, in_output, in_run}
use Rattle.scoop_demo.specs.Run.StopsBehind.{read_fault, line_fault}
use Rattle.scoop_demo.specs.Run.StopsEarly.{at_line, at_output, at_answer, at_book, at_run}
use Rattle.scoop_lines.proofs.InputLemmas.{begins_with}
use Rattle.scoop_demo.proofs.OnlyLemmas.{answers_first, prints_only, rests_same}

-- ---- known bytes

-- the lines of an input are those that were taken and those that are left
abbrev pub Splits : Option (List ℕ) → List (List ℕ) → Option (List ℕ) → Type 0
Splits None taken left = ⊤
Splits (Some xs) taken None = ⊥
Splits (Some xs) taken (Some ys) = lines_of xs ≡ taken ++ lines_of ys

pub splits_none : (input : Option (List ℕ)) → Splits input [] input
splits_none None = tt
splits_none (Some xs) = refl

pub splits_more : (input left left' : Option (List ℕ)) (taken : List (List ℕ)) (line : List ℕ) → Splits input taken left → TakesFirst left line left'
    → Splits input (taken ++ line ∷ []) left'
splits_more None left left' taken line s t = tt
splits_more (Some xs) None left' taken line s t = absurd s
splits_more (Some xs) (Some ys) None taken line s t = absurd t
splits_more (Some xs) (Some ys) (Some zs) taken line s t = s ∙ ap (λ v. taken ++ v) t ∙ sym (append_assoc taken (line ∷ []) (lines_of zs))

pub splits_all : (input left : Option (List ℕ)) (taken : List (List ℕ)) → Splits input taken left → IsAtEnd left
    → IfSome input (λ bytes. lines_of bytes ≡ taken)
splits_all None left taken s e = tt
splits_all (Some xs) None taken s e = absurd s
splits_all (Some xs) (Some ys) taken s e = s ∙ ap (λ v. taken ++ lines_of v) e ∙ append-nil taken

pub splits_first : (input left : Option (List ℕ)) (taken : List (List ℕ)) → Splits input taken left → BeginsWithLines input taken
splits_first None left taken s = tt
splits_first (Some xs) None taken s = absurd s
splits_first (Some xs) (Some ys) taken s = (lines_of ys, s)

pub splits_next : (input left : Option (List ℕ)) (taken : List (List ℕ)) (line : List ℕ) → Splits input taken left → BeginsWith left line
    → BeginsWithLines input (taken ++ line ∷ [])
splits_next None left taken line s b = tt
splits_next (Some xs) None taken line s b = absurd s
splits_next (Some xs) (Some ys) taken line s b = (b.0, s ∙ ap (λ v. taken ++ v) b.1 ∙ sym (append_assoc taken (line ∷ []) b.0))

pub all_begin : (input : Option (List ℕ)) (lines : List (List ℕ)) → IfSome input (λ bytes. lines_of bytes ≡ lines) → BeginsWithLines input lines
all_begin None lines a = tt
all_begin (Some xs) lines a = ([], a ∙ sym (append-nil lines))

appends_nil : (old : Option (List ℕ)) → Appends old old []
appends_nil None = tt
appends_nil (Some xs) = sym (append-nil xs)

pub keeps_all : (a : Option (List ℕ)) → Keeps a a
keeps_all None = tt
keeps_all (Some xs) = refl

appends_more : (a b c : Option (List ℕ)) (xs ys : List ℕ) → Appends a b xs → Appends b c ys → Appends a c (xs ++ ys)
appends_more None b c xs ys f s = tt
appends_more (Some ws) None c xs ys f s = absurd f
appends_more (Some ws) (Some bs) None xs ys f s = absurd s
appends_more (Some ws) (Some bs) (Some cs) xs ys f s = s ∙ ap (λ v. v ++ ys) f ∙ append_assoc ws xs ys

appends_keeps : (a b c : Option (List ℕ)) (xs : List ℕ) → Appends a b xs → Keeps b c → Appends a c xs
appends_keeps None b c xs f s = tt
appends_keeps (Some ws) None c xs f s = absurd f
appends_keeps (Some ws) (Some bs) None xs f s = absurd s
appends_keeps (Some ws) (Some bs) (Some cs) xs f s = s ∙ f

-- ---- answers

-- within the limits, a line's fault is that of its digits
pub digits_fault : (number : ℕ) (line : List ℕ) (fault : Option InputFault) → limit_fault number line ≡ None → hex_fault line ≡ fault
    → fault_of number line ≡ fault
digits_fault number line fault none found = ap (λ f. first_fault (option_map Source f) (hex_fault line)) none ∙ found

pub is_datagram : (number : ℕ) (line datagram : List ℕ) → limit_fault number line ≡ None → hex_fault line ≡ None → StandsFor line datagram
    → IsDatagram number line datagram
is_datagram number line datagram none found stands = record { faultless = digits_fault number line None none found; stands = stands }

module _ {K : Type 0} (number : ℕ) (line : List ℕ) (old heard : BookValue K) where
  pub hears_line : (datagram text : List ℕ) (next : Option HandlerId) → limit_fault number line ≡ None → hex_fault line ≡ None → StandsFor line datagram
      → Prints datagram old heard next text
      → HearsLine number old line heard next text
  hears_line datagram text next none found stands prints =
      record {
        datagram = datagram;
        is_datagram = is_datagram number line datagram none found stands;
        prints = prints;
        only = λ other after again others. prints_only datagram old heard old other next after text again (rests_same old) prints others;
      }

  module _ (next : Option HandlerId) (text : List ℕ) (before after : Option (List ℕ)) (hears : HearsLine number old line heard next text)
      (writes : Appends before after (text ++ 10 ∷ [])) where
    hears_as : (other : Option HandlerId) → next ≡ other → HearsLine number old line heard other text
    hears_as other is = subst (λ (n : Option HandlerId). HearsLine number old line heard n text) is hears

    -- the handler runs after the answer
    pub ran_behind : (r : Result Unit RunError) (h : HandlerId) (new : BookValue K) → next ≡ Some h → OnOk r (RunsDry 0 h heard new)
        → OnOk r (WritesAnswer number old line new before after)
    ran_behind (Ok u) h new is dry = record {
      text = text;
      answers = record { heard = heard; next = Some h; hears = hears_as (Some h) is; runs = dry };
      writes =
          writes;
    }
    ran_behind (Err e) h new is dry = tt

    pub stopped_behind : (r : Result Unit RunError) (h : HandlerId) (new : BookValue K) → next ≡ Some h → IfErr r (StopsRunning h heard new)
        → IfErr r (StopsInLine number old line new before after)
    stopped_behind (Ok u) h new is stops = tt
    stopped_behind (Err e) h new is stops = in_run heard h text (hears_as (Some h) is) stops writes

    -- nothing runs after it
    pub rested_behind : next ≡ None → WritesAnswer number old line heard before after
    rested_behind is = record { text = text; answers = record { heard = heard; next = None; hears = hears_as None is; runs = refl }; writes = writes }

-- one line more has its answer
answers_more : {K : Type 0} (number : ℕ) (first mid last : BookValue K) (lines : List (List ℕ)) (text line answer : List ℕ)
    → AnswersLines number first lines mid text
    → AnswersLine (number + length lines) mid line last answer → AnswersLines number first (lines ++ line ∷ []) last (text ++ (answer ++ 10 ∷ []))
answers_more {K} number first mid last [] text line answer a l =
    let here : AnswersLine number first line last answer =
    (let at : number + 0 ≡ number = omega arith in
    let P : ℕ → Type 0 = λ n. AnswersLine n first line last answer in
    let Q : BookValue K → Type 0 = λ s. AnswersLine (number + 0) s line last answer in
    subst P at (subst Q a.0 l)) in
    (last, answer, [], here, (refl, refl), ap (λ v. v ++ (answer ++ 10 ∷ [])) a.1)
answers_more number first mid last (x ∷ xs) text line answer a l =
    let at : number + length (x ∷ xs) ≡ (number + 1) + length xs = omega arith in
    let P : ℕ → Type 0 = λ n. AnswersLine n mid line last answer in
    let more = answers_more (number + 1) a.0 mid last xs a.2 line answer a.4 (subst P at l) in
    let joined : text ++ (answer ++ 10 ∷ []) ≡ a.1 ++ 10 ∷ (a.2 ++ (answer ++ 10 ∷ [])) =
    ap (λ v. v ++ (answer ++ 10 ∷ [])) a.5 ∙ append_assoc a.1 (10 ∷ a.2) (answer ++ 10 ∷ []) in
    (a.0, a.1, a.2 ++ (answer ++ 10 ∷ []), a.3, more, joined)

-- ---- a run

-- the lines that were taken have their answers
pub record Progress {K : Type 0} (input : Option (List ℕ)) (lines : Input) (first last : BookValue K) (before after : Option (List ℕ)) : Type 0 where
  pub taken : List (List ℕ)
  pub text : List ℕ
  pub count : length taken ≡ lines.taken
  pub limit : lines.taken ≤ count_limit
  pub answers : AnswersLines 1 first taken last text
  pub writes : Appends before after text
  pub splits : Splits input taken lines.left

pub progress_none : {K : Type 0} (input before : Option (List ℕ)) (s : BookValue K) → Progress input (record { taken = 0; left = input }) s s before before
progress_none input before s = record {
  taken = [];
  text = [];
  count = refl;
  limit = omega arith;
  answers = (refl, refl);
  writes = appends_nil before;
  splits = splits_none input;
}

pub few_lines : (number : ℕ) (line : List ℕ) → limit_fault number line ≡ None → number ≤ count_limit
few_lines number line none = grind (arith, nat_tests)

module _ {K : Type 0} {input : Option (List ℕ)} {lines : Input} {first mid : BookValue K} {before after : Option (List ℕ)}
    (p : Progress input lines first mid before after) where
  module _ {next : Input} (line : List ℕ) (t : TakesLine lines line next) where
    next_number : next.taken ≡ length p.taken + 1
    next_number = let c = t.count in let d = p.count in omega (arith, c, d)

    goes_on : BeginsWithLines input (p.taken ++ line ∷ [])
    goes_on = splits_next _ _ p.taken line p.splits (begins_with _ _ line t.bytes)

    answers_next : (last : BookValue K) (text : List ℕ) → AnswersLine next.taken mid line last text
        → AnswersLines 1 first (p.taken ++ line ∷ []) last (p.text ++ (text ++ 10 ∷ []))
    answers_next last text a =
        let c = t.count in let d = p.count in
        let at : next.taken ≡ 1 + length p.taken = omega (arith, c, d) in
        let P : ℕ → Type 0 = λ n. AnswersLine n mid line last text in
        answers_more 1 first mid last p.taken p.text line text p.answers (subst P at a)

    -- a line was taken, and has its answer
    pub progress_more : {last : BookValue K} {kept more : Option (List ℕ)} → Keeps after kept → WritesAnswer next.taken mid line last kept more
        → Progress input next first last before more
    progress_more {last} k w = record {
      taken = p.taken ++ line ∷ [];
      text = p.text ++ (w.text ++ 10 ∷ []);
      count = let c = t.count in let d = p.count in let e = length_push p.taken line in omega (arith, c, d, e);
      limit = few_lines next.taken line t.limits;
      answers = answers_next last w.text w.answers;
      writes = appends_more _ _ _ _ _ (appends_keeps _ _ _ _ p.writes k) w.writes;
      splits = splits_more _ _ _ _ _ p.splits t.bytes;
    }

    answers_same : (last : BookValue K) → last ≡ mid → AnswersFirst first p.taken last p.text
    answers_same last same = let P : BookValue K → Type 0 = λ s. AnswersFirst first p.taken s p.text in
        subst P (sym same) (answers_first p.taken first mid p.text p.answers)

    -- the line that was taken was not answered to the end
    pub progress_stops_in : {last : BookValue K} {kept more : Option (List ℕ)} (e : RunError) → Keeps after kept
        → StopsInLine next.taken mid line last kept more e → StopsEarly input first last before more e
    progress_stops_in {last} e k (in_digits {fault} found same kept) =
        let P : ℕ → Type 0 = λ n. fault_of n line ≡ Some fault → StopsBehind input p.taken (InputError n fault) in
        let stops : P (length p.taken + 1) = λ f. line_fault line f goes_on in
        at_line p.taken p.text (answers_same last same) (appends_keeps _ _ _ _ (appends_keeps _ _ _ _ p.writes k) kept) (subst P (sym next_number) stops found)
    progress_stops_in {last} e k (in_book datagram is unheard kept) =
        let P : ℕ → Type 0 = λ n. IsDatagram n line datagram in
        at_book p.taken p.text mid line datagram (answers_first p.taken first mid p.text p.answers)
        (appends_keeps _ _ _ _ (appends_keeps _ _ _ _ p.writes k) kept) (subst P next_number is) unheard goes_on
    progress_stops_in {last} e k (in_output runs text hears) =
        let P : ℕ → Type 0 = λ n. HearsLine n mid line last runs text in
        at_answer p.taken p.text mid line runs text (answers_first p.taken first mid p.text p.answers) (subst P next_number hears) goes_on
    progress_stops_in {last} e k (in_run heard h text hears stops writes) =
        let P : ℕ → Type 0 = λ n. HearsLine n mid line heard (Some h) text in
        at_run p.taken p.text mid line heard h text (answers_first p.taken first mid p.text p.answers) (subst P next_number hears)
        (appends_more _ _ _ _ _ (appends_keeps _ _ _ _ p.writes k) writes) stops goes_on

  -- the input is at its end
  pub progress_all : {kept : Option (List ℕ)} → IsAtEnd lines.left → Keeps after kept → AnswersAll input first mid [] before kept
  progress_all {kept} e k = record {
    lines = p.taken;
    text = p.text;
    answers = answers_first p.taken first mid p.text p.answers;
    writes = subst (λ v. Appends before kept v) (sym (append-nil p.text)) (appends_keeps _ _ _ _ p.writes k);
    all = splits_all _ _ p.taken p.splits e;
  }

  -- the next line could not be taken
  pub progress_stops : {kept : Option (List ℕ)} (e : LinesError) → StopsAtNext lines e → Keeps after kept → StopsEarly input first mid before kept (run_error e)
  progress_stops e next_unread k =
      let P : ℕ → Type 0 = λ n. StopsBehind input p.taken (InputError (n + 1) (Source ReadFault)) in
      at_line p.taken p.text (answers_first p.taken first mid p.text p.answers) (appends_keeps _ _ _ _ p.writes k)
      (subst P p.count (read_fault (splits_first _ _ p.taken p.splits)))
  progress_stops e (past_limit {fault} b) k =
      let P : ℕ → Type 0 = λ n. limit_fault (n + 1) b.line ≡ Some fault → StopsBehind input p.taken (InputError (n + 1) (Source fault)) in
      let stops : P (length p.taken) = λ found. line_fault b.line (ap (λ f. first_fault (option_map Source f) (hex_fault b.line)) found)
      (splits_next _ _ p.taken b.line p.splits b.next) in
      at_line p.taken p.text (answers_first p.taken first mid p.text p.answers) (appends_keeps _ _ _ _ p.writes k) (subst P p.count stops b.found)
  progress_stops e flush_fault k = at_output p.taken p.text (answers_first p.taken first mid p.text p.answers) (splits_first _ _ p.taken p.splits)

-- ---- after the lines

module _ {K : Type 0} (input : Option (List ℕ)) (first last : BookValue K) where
  -- the writer is flushed after a run that stopped early
  flushed : (before after kept : Option (List ℕ)) (e : RunError) → StopsEarly input first last before after e → Keeps after kept
      → StopsEarly input first last before kept e
  flushed before after kept e (at_line lines text a w s) k = at_line lines text a (appends_keeps _ _ _ _ w k) s
  flushed before after kept e (at_output lines text a b) k = at_output lines text a b
  flushed before after kept e (at_answer lines text mid line next answer a l b) k = at_answer lines text mid line next answer a l b
  flushed before after kept e (at_book lines text mid line datagram a w d u b) k = at_book lines text mid line datagram a (appends_keeps _ _ _ _ w k) d u b
  flushed before after kept e (at_run lines text mid line heard h answer a l w s b) k =
      at_run lines text mid line heard h answer a l (appends_keeps _ _ _ _ w k) s b

  pub stops_flushed : (r : Result Unit RunError) (before after kept : Option (List ℕ)) → IfErr r (StopsEarly input first last before after) → Keeps after kept
      → IfErr r (StopsEarly input first last before kept)
  stops_flushed (Ok u) before after kept s k = tt
  stops_flushed (Err e) before after kept s k = flushed before after kept e s k

  -- the writer is flushed after a whole run
  pub all_flushed : (r : Result Unit RunError) (shown : List ℕ) (before after kept : Option (List ℕ)) → OnOk r (AnswersAll input first last shown before after)
      → Keeps after kept
      → OnOk r (AnswersAll input first last shown before kept)
  all_flushed (Ok u) shown before after kept a k = record {
    lines = a.lines;
    text = a.text;
    answers = a.answers;
    writes = appends_keeps _ _ _ _ a.writes k;
    all = a.all;
  }
  all_flushed (Err e) shown before after kept a k = tt

  -- the words are written after the answers
  pub all_shown : (shown : List ℕ) (before after more : Option (List ℕ)) → AnswersAll input first last [] before after → Appends after more shown
      → AnswersAll input first last shown before more
  all_shown shown before after more a w =
      let P : List ℕ → Type 0 = λ v. Appends before more (v ++ shown) in
      let writes = subst P (append-nil a.text) (appends_more _ _ _ _ _ a.writes w) in
      record { lines = a.lines; text = a.text; answers = a.answers; writes = writes; all = a.all }

  -- all lines have their answers, but the writer may have lost some
  pub all_but_output : (shown : List ℕ) (before after kept : Option (List ℕ)) → AnswersAll input first last shown before after
      → StopsEarly input first last before kept Write
  all_but_output shown before after kept a = at_output a.lines a.text a.answers (all_begin input a.lines a.all)
