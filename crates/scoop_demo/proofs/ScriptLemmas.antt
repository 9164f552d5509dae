-- A script, one line at a time. The lines that were taken have no fault, and the cast stands for the parties that they name
-- (`Taken`). One line more keeps this, or has the fault of the run. At the end of the input the world opens if it hasn't.
use Rattle.std.proofs.Common.{◌≡◌, ◌≤◌, if◌then◌else◌, ℕ, ◌+◌, max, Bool, true, false, ◌||◌, ◌&&◌, not, List, [], ◌∷◌, ◌++◌, length, Option, Some, None, Result}
use Rattle.std.proofs.Common.{Ok, Err, IfErr, OnOk, refl, sym, ◌∙◌, ap, subst, arith}
use Rattle.std.proofs.lemmas.Bool.{and_parts}
use Rattle.std.proofs.lemmas.List.{length_push}
use Rattle.std.proofs.lemmas.List.Folds.{list_any-append}
use Rattle.std.specs.List.{list_any}
use Rattle.std.specs.Option.{option_map}
use Rattle.std.specs.Io.KnownBytes.{IsAtEnd}
use Rattle.scoop_demo.specs.declared.fault.InputFault.{InputFault}
use Rattle.scoop_demo.specs.declared.fault.InputFault.TheVariants.{Source, UnknownLine, TooLateForParty, CannotOpen, Refused}
use Rattle.scoop_demo.specs.declared.script.kind.LineKind.{LineKind}
use Rattle.scoop_demo.specs.declared.fault.RunError.{RunError}
use Rattle.scoop_demo.specs.declared.fault.RunError.TheVariants.{Input as InputError, Write, OutOfMemory}
use Rattle.scoop_lines.specs.declared.error.LinesError.{LinesError}
use Rattle.scoop_lines.specs.declared.error.SourceFault.TheVariants.{ReadFault}
use Rattle.scoop_lines.specs.Line.{count_limit, limit_fault}
use Rattle.scoop_lines.specs.Input.{Input, TakesLine, StopsAtNext}
use Rattle.scoop_lines.specs.Input.StopsAtNext.{read_fault as next_unread, past_limit, flush_fault}
use Rattle.scoop_demo.specs.Run.{first_fault, run_error}
use Rattle.scoop_lines.specs.Words.{words_of, is_blank}
use Rattle.scoop_demo.specs.ScriptKind.{kind_of}
use Rattle.scoop_message.specs.declared.name.ClientId.{ClientId}
use Rattle.scoop_object.specs.Class.{ClassTable}
use Rattle.scoop_world.specs.declared.placing.Placement.{Placement}
use Rattle.scoop_demo.specs.Script.{Parties, Opens, PlaysAll, PlaysFirst, kind_fault, Faultless, StopsAtLine, StopsOpening, StopsClosed, StopsPlaying}
use Rattle.scoop_demo.specs.Script.{script_fault, words_fault, party_fault, is_event, is_event_kind, opens_at, parties_of}
use Rattle.scoop_demo.specs.Staging.{IsStaged, IsWaiting, with_line}
use Rattle.scoop_demo.proofs.StagingLemmas.{parties_more, staged_opens, staged_if_waits}
use Rattle.scoop_demo.specs.Script.StopsAtLine.{in_words, in_opening, in_output, in_memory}
use Rattle.scoop_demo.specs.Script.StopsOpening.{of_parties, of_memory}
use Rattle.scoop_demo.specs.Script.StopsPlaying.{event_refused, read_fault, limit_broken, line_fault, first_event, no_event, output, memory}
use Rattle.scoop_lines.proofs.InputLemmas.{begins_with}
use Rattle.scoop_demo.proofs.RunLemmas.{Splits, splits_none, splits_more, splits_all, splits_first, splits_next, all_begin, few_lines}

-- ---- one line

module _ (parties : Parties) (stored : ℕ → Option ℕ) where
  -- a line of a party after an event
  pub too_late : (number : ℕ) (opened : Bool) (found : Option InputFault) (e : RunError) → opened ≡ true → e ≡ InputError number TooLateForParty
      → StopsAtLine number false (party_fault opened found) parties stored e
  too_late number true found e is told = rw told (in_words refl (λ opens. cc))
  too_late number false found e is told = cc

  -- a line of a party with a fault
  pub party_stops : (number : ℕ) (opened : Bool) (found : Option InputFault) (fault : InputFault) (e : RunError) → opened ≡ false → found ≡ Some fault
      → e ≡ InputError number fault → StopsAtLine number false (party_fault opened found) parties stored e
  party_stops number true found fault e is has told = cc
  party_stops number false found fault e is has told = rw told (in_words has (λ opens. cc))

  -- the first event doesn't open the world
  pub closed_stops : (number : ℕ) (opened : Bool) (found : Option InputFault) (e : RunError) → StopsClosed opened number parties stored e
      → StopsAtLine number (not opened) found parties stored e
  closed_stops number opened found e s = opening_stops (not opened) (ap not s.closed) e s.stops where
    opening_stops : (opens : Bool) → opens ≡ true → (e : RunError) → StopsOpening number parties stored e → StopsAtLine number opens found parties stored e
    opening_stops opens is (InputError n f) (of_parties why) = in_opening is why
    opening_stops opens is e of_memory = in_memory

  -- in the world only output and memory stop a line
  pub inside_stops : (number : ℕ) (opens : Bool) (found : Option InputFault) (e : RunError) → StopsAtLine number false None parties stored e
      → StopsAtLine number opens found parties stored e
  inside_stops number opens found e (in_words has opened) = cc
  inside_stops number opens found e (in_opening is why) = cc
  inside_stops number opens found e in_output = in_output
  inside_stops number opens found e in_memory = in_memory

  -- the same for any result
  pub inside_if : (number : ℕ) (opens : Bool) (found : Option InputFault) (r : Result Unit RunError) → IfErr r (StopsAtLine number false None parties stored)
      → IfErr r (StopsAtLine number opens found parties stored)
  inside_if number opens found (Ok u) s = tt
  inside_if number opens found (Err e) s = inside_stops number opens found e s

-- the first words are unknown
unknown_found : (opened blank : Bool) (kind : Option (LineKind × List (List ℕ))) → blank ≡ false → kind ≡ None
    → (if blank then None else kind_fault opened kind) ≡ Some UnknownLine
unknown_found opened true kind is unknown = cc
unknown_found opened false None is unknown = refl
unknown_found opened false (Some kind) is unknown = cc

pub unknown_stops : (number : ℕ) (opened : Bool) (line : List ℕ) (parties : Parties) (stored : ℕ → Option ℕ) (e : RunError) → is_blank line ≡ false
    → kind_of (words_of line) ≡ None
    → e ≡ InputError number UnknownLine → StopsAtLine number (opens_at opened line) (words_fault opened line) parties stored e
unknown_stops number opened line parties stored e blank unknown told =
    rw told (in_words (unknown_found opened (is_blank line) (kind_of (words_of line)) blank unknown) (λ opens. absurd (no_event_here opens)))
  where
    no_kind : (kind : Option (LineKind × List (List ℕ))) → kind ≡ None → is_event_kind kind ≡ false
    no_kind None is = refl
    no_kind (Some kind) is = cc

    none_there : (b : Bool) → b ≡ false → (if b then false else is_event_kind (kind_of (words_of line))) ≡ false
    none_there true is = refl
    none_there false is = no_kind (kind_of (words_of line)) unknown

    no_event_here : opens_at opened line ≡ true → ⊥
    no_event_here opens = let none = none_there (is_blank line) blank in let both = and_parts (not opened) (is_event line) opens in let is = both.1 in cc

-- ---- several lines

-- the lines that were taken have no fault, an event is among them exactly if the world has opened, and the cast stands for
-- the parties that they name
pub record Taken {B : Type 0} (class : B → ClassTable) (input : Option (List ℕ)) (stored : ℕ → Option ℕ) (lines : Input) (opened : Bool)
    (kept : List (Placement B)) (clients : List (ClientId × ℕ))
    (own : ℕ → Option ℕ) : Type 0 where
  pub taken : List (List ℕ)
  pub count : length taken ≡ lines.taken
  pub limit : lines.taken ≤ count_limit
  pub faultless : Faultless 1 false taken
  pub events : list_any is_event taken ≡ opened
  pub splits : Splits input taken lines.left
  pub staged : IsStaged class opened kept clients own (parties_of taken) stored

pub taken_none : {B : Type 0} (class : B → ClassTable) (input : Option (List ℕ)) (stored : ℕ → Option ℕ) (opened : Bool) (kept : List (Placement B))
    (clients : List (ClientId × ℕ)) (own : ℕ → Option ℕ)
    → opened ≡ false → IsWaiting class kept clients own (parties_of []) stored
    → Taken class input stored (record { taken = 0; left = input }) opened kept clients own
taken_none class input stored opened kept clients own is waits = record {
  taken = [];
  count = refl;
  limit = omega arith;
  faultless = tt;
  events = sym is;
  splits = splits_none input;
  staged = staged_if_waits class opened kept clients own (parties_of []) stored is waits;
}

or_false : (b : Bool) → (b || false) ≡ b
or_false true = refl
or_false false = refl

or_assoc : (a b c : Bool) → ((a || b) || c) ≡ (a || (b || c))
or_assoc true b c = refl
or_assoc false b c = refl

-- one line more has no fault
faultless_more : (number : ℕ) (opened : Bool) (lines : List (List ℕ)) (line : List ℕ) → Faultless number opened lines
    → script_fault (number + length lines) (opened || list_any is_event lines) line ≡ None → Faultless number opened (lines ++ line ∷ [])
faultless_more number opened [] line f none =
    let at : number + 0 ≡ number = omega arith in
    let P : ℕ → Type 0 = λ n. script_fault n opened line ≡ None in
    let Q : Bool → Type 0 = λ o. script_fault (number + 0) o line ≡ None in
    (subst P at (subst Q (or_false opened) none), tt)
faultless_more number opened (x ∷ xs) line f none =
    let at : number + length (x ∷ xs) ≡ (number + 1) + length xs = omega arith in
    let P : ℕ → Type 0 = λ n. script_fault n (opened || (is_event x || list_any is_event xs)) line ≡ None in
    let Q : Bool → Type 0 = λ o. script_fault ((number + 1) + length xs) o line ≡ None in (
      f.0,
      faultless_more (number + 1) (opened || is_event x) xs line f.1
          (subst Q (sym (or_assoc opened (is_event x) (list_any is_event xs))) (subst P at none)),
    )

-- within the limits, a line's fault is that of its words
words_found : (number : ℕ) (opened : Bool) (line : List ℕ) (found : Option InputFault) → limit_fault number line ≡ None → words_fault opened line ≡ found
    → script_fault number opened line ≡ found
words_found number opened line found none is = ap (λ f. first_fault (option_map Source f) (words_fault opened line)) none ∙ is

not_true : (a : Bool) → not a ≡ true → a ≡ false
not_true true is = cc
not_true false is = refl

module _ {B : Type 0} {class : B → ClassTable} {input : Option (List ℕ)} {stored : ℕ → Option ℕ} {lines : Input} {opened : Bool} {kept : List (Placement B)}
    {clients : List (ClientId × ℕ)}
    {own : ℕ → Option ℕ} (strict : Bool) (p : Taken class input stored lines opened kept clients own) where
  next_number : {next : Input} {line : List ℕ} → TakesLine lines line next → next.taken ≡ length p.taken + 1
  next_number t = omega (arith, t.count, p.count)

  -- if an event is among them, the world has opened
  first_lines : PlaysFirst stored p.taken
  first_lines = record {
    faultless = p.faultless;
    opens = λ is. staged_opens class opened kept clients own (parties_of p.taken) stored
        (sym p.events ∙ is) p.staged;
  }

  -- a line was taken, and has no fault
  pub taken_more : {next : Input} {after : Bool} (line : List ℕ) (kept' : List (Placement B)) (clients' : List (ClientId × ℕ)) (own' : ℕ → Option ℕ)
      → TakesLine lines line next
      → words_fault opened line ≡ None → after ≡ (opened || is_event line)
      → IsStaged class after kept' clients' own' (with_line (parties_of p.taken) line) stored
      → Taken class input stored next after kept' clients' own'
  taken_more {next = next} {after = after} line kept' clients' own' t none is staged =
      let at : next.taken ≡ 1 + length p.taken = omega (arith, t.count, p.count) in
      let P : ℕ → Type 0 = λ n. script_fault n opened line ≡ None in
      let Q : Bool → Type 0 = λ o. script_fault (1 + length p.taken) o line ≡ None in
      let here = subst P at (words_found next.taken opened line None t.limits none) in
      record {
        taken = p.taken ++ line ∷ [];
        count = omega (arith, length_push p.taken line, t.count, p.count);
        limit = few_lines next.taken line t.limits;
        faultless = faultless_more 1 false p.taken line p.faultless (subst Q (sym p.events) here);
        events = list_any-append is_event p.taken (line ∷ []) ∙ ap (λ o. o || (is_event line || false)) p.events
            ∙ ap (λ o. opened || o) (or_false (is_event line)) ∙ sym is;
        splits = splits_more _ _ _ _ _ p.splits t.bytes;
        staged = subst (λ (ps : Parties). IsStaged class after kept' clients' own' ps stored) (parties_more p.taken line) staged;
      }

  -- the input is at its end, and the world has opened
  pub taken_all : IsAtEnd lines.left → Opens (parties_of p.taken) stored → PlaysAll input stored
  taken_all e opens = record { lines = p.taken; plays = record { faultless = p.faultless; opens = opens }; all = splits_all _ _ p.taken p.splits e }

  -- the world doesn't open at the end of the input
  pub end_stops : (number : ℕ) (e : RunError) → IsAtEnd lines.left → number ≡ max lines.taken 1 → StopsClosed opened number (parties_of p.taken) stored e
      → StopsPlaying strict input stored e
  end_stops number e end at s = at_end number e at s.stops where
    at_end : (n : ℕ) (e : RunError) → n ≡ max lines.taken 1 → StopsOpening n (parties_of p.taken) stored e → StopsPlaying strict input stored e
    at_end n (InputError m f) at (of_parties {error} why) =
        let last : n ≡ max (length p.taken) 1 = at ∙ ap (λ k. max k 1) (sym p.count) in
        let P : ℕ → Type 0 = λ k. StopsPlaying strict input stored (InputError k (CannotOpen error)) in
        subst P (sym last) (no_event p.taken first_lines (p.events ∙ s.closed) why (splits_all _ _ p.taken p.splits end))
    at_end n e at of_memory = memory p.taken first_lines (splits_first _ _ p.taken p.splits)

  pub end_if : (number : ℕ) (r : Result Unit RunError) → IsAtEnd lines.left → number ≡ max lines.taken 1
      → IfErr r (StopsClosed opened number (parties_of p.taken) stored)
      → IfErr r (StopsPlaying strict input stored)
  end_if number (Ok u) end at s = tt
  end_if number (Err e) end at s = end_stops number e end at s

  pub end_plays : (r : Result Unit RunError) → IsAtEnd lines.left → OnOk r (Opens (parties_of p.taken) stored) → OnOk r (PlaysAll input stored)
  end_plays (Ok u) end o = taken_all end o
  end_plays (Err e) end o = tt

  -- the next line could not be taken
  pub taken_stops : (e : LinesError) → StopsAtNext lines e → StopsPlaying strict input stored (run_error e)
  taken_stops e next_unread =
      let P : ℕ → Type 0 = λ n. StopsPlaying strict input stored (InputError (n + 1) (Source ReadFault)) in
      subst P p.count (read_fault p.taken first_lines (splits_first _ _ p.taken p.splits))
  taken_stops e (past_limit {fault} b) =
      let P : ℕ → Type 0 = λ n. limit_fault (n + 1) b.line ≡ Some fault → StopsPlaying strict input stored (InputError (n + 1) (Source fault)) in
      let stops : P (length p.taken) = λ found. limit_broken p.taken b.line first_lines found (splits_next _ _ p.taken b.line p.splits b.next) in
      subst P p.count stops b.found
  taken_stops e flush_fault = output p.taken first_lines (splits_first _ _ p.taken p.splits)

  -- if the line is that of an event, the world has opened before, or opens by it
  opens_by : (line : List ℕ) → (opens_at opened line ≡ true → Opens (parties_of p.taken) stored) → is_event line ≡ true → Opens (parties_of p.taken) stored
  opens_by line here is = by_then opened p.staged here where
    by_then : (before : Bool) → IsStaged class before kept clients own (parties_of p.taken) stored
        → (opens_at before line ≡ true → Opens (parties_of p.taken) stored) → Opens (parties_of p.taken) stored
    by_then true staged here = staged
    by_then false staged here = here is

  -- the line that was taken stops the run
  pub line_stops : {next : Input} (e : RunError) (line : List ℕ) → TakesLine lines line next
      → StopsAtLine next.taken (opens_at opened line) (words_fault opened line) (parties_of p.taken) stored e → StopsPlaying strict input stored e
  line_stops {next = next} e line t (in_words {fault} found here) =
      let P : ℕ → Type 0 = λ n. limit_fault n line ≡ None → words_fault (list_any is_event p.taken) line ≡ Some fault
      → StopsPlaying strict input stored (InputError n fault) in
      let stops : P (length p.taken + 1) = λ none f. line_fault p.taken line first_lines none f (opens_by line here)
      (splits_next _ _ p.taken line p.splits (begins_with _ _ line t.bytes)) in
      subst P (sym (next_number t)) stops t.limits (ap (λ o. words_fault o line) p.events ∙ found)
  line_stops {next = next} e line t (in_opening {error} is why) =
      let first = and_parts (not opened) (is_event line) is in
      let P : ℕ → Type 0 = λ n. limit_fault n line ≡ None → StopsPlaying strict input stored (InputError n (CannotOpen error)) in
      let stops : P (length p.taken + 1) = λ none.
      first_event p.taken line first_lines none (p.events ∙ not_true opened first.0) first.1 why
      (splits_next _ _ p.taken line p.splits (begins_with _ _ line t.bytes)) in
      subst P (sym (next_number t)) stops t.limits
  line_stops e line t in_output = output p.taken first_lines (splits_first _ _ p.taken p.splits)
  line_stops e line t in_memory = memory p.taken first_lines (splits_first _ _ p.taken p.splits)

  -- the last line's event was refused
  pub refused_stops : (number : ℕ) → number ≡ lines.taken → strict ≡ true → StopsPlaying strict input stored (InputError number Refused)
  refused_stops number at is =
      let P : ℕ → Type 0 = λ n. StopsPlaying strict input stored (InputError n Refused) in
      subst P (p.count ∙ sym at) (event_refused p.taken is first_lines (splits_first _ _ p.taken p.splits))

-- all lines were played, but the writer may have lost some of what they wrote
pub output_stops : (strict : Bool) (input : Option (List ℕ)) (stored : ℕ → Option ℕ) → PlaysAll input stored → StopsPlaying strict input stored Write
output_stops strict input stored a = output a.lines (record { faultless = a.plays.faultless; opens = λ is. a.plays.opens }) (all_begin input a.lines a.all)

-- the same if memory ran out after them
pub memory_stops : (strict : Bool) (input : Option (List ℕ)) (stored : ℕ → Option ℕ) → PlaysAll input stored → StopsPlaying strict input stored OutOfMemory
memory_stops strict input stored a = memory a.lines (record { faultless = a.plays.faultless; opens = λ is. a.plays.opens }) (all_begin input a.lines a.all)
