-- The output of a run over the lines of an input.
use Rattle.std.specs.Prelude.{◌≡◌, ℕ, ◌+◌, List, [], ◌∷◌, ◌++◌, length, codes, Option, Some, None, IfSome}
use Rattle.std.specs.Option.{option_map}
use Rattle.std.specs.Fmt.{decimal}
use Rattle.std.specs.Io.KnownBytes.{Appends, Keeps}
use Rattle.scoop_message.specs.declared.name.HandlerId.{HandlerId}
use Rattle.scoop_book.specs.Moves.{LocalHandler, handler_in}
use Rattle.scoop_book.specs.Books.{BookValue}
use Rattle.scoop_netloop.specs.RunningOut.{RunsDry}
use Rattle.scoop_lines.specs.declared.error.LinesError.{LinesError}
use Rattle.scoop_lines.specs.declared.error.LinesError.TheVariants as of_lines
use Rattle.scoop_lines.specs.declared.error.SourceFault.TheVariants.{ReadFault}
use Rattle.scoop_lines.specs.Line.{lines_of, limit_fault}
use Rattle.scoop_demo.specs.declared.fault.InputFault.{InputFault}
use Rattle.scoop_demo.specs.declared.fault.InputFault.TheVariants.{Source}
use Rattle.scoop_demo.specs.declared.fault.RunError.{RunError}
use Rattle.scoop_demo.specs.declared.fault.RunError.TheVariants.{Input, Write}
use Rattle.scoop_demo.specs.Hex.{hex_fault, StandsFor}
use Rattle.scoop_demo.specs.Answer.{Prints, Rests, StopsRunning, Unheard}

-- ---- one line

abbrev pub first_fault : Option InputFault → Option InputFault → Option InputFault
first_fault None other = other
first_fault (Some fault) other = Some fault

-- the error of a run that can't take the next line
abbrev pub run_error : LinesError → RunError
run_error (of_lines.Source error) = Input error.line (Source error.fault)
run_error of_lines.Flush = Write

-- the limit that the line of this number breaks, if any
abbrev pub broken_limit : ℕ → List ℕ → Option InputFault
broken_limit number line = option_map Source (limit_fault number line)

-- the fault of the line of this number, if any: that of its limits comes first
abbrev pub fault_of : ℕ → List ℕ → Option InputFault
fault_of number line = first_fault (broken_limit number line) (hex_fault line)

-- the line of this number has no fault and stands for this datagram
pub record IsDatagram (number : ℕ) (line datagram : List ℕ) : Type 0 where
  pub faultless : fault_of number line ≡ None
  pub stands : StandsFor line datagram

-- the book after the line's datagram, the handler that may have something to run then, and the text of the answer.
-- Nothing else answers the datagram: no other handlers or history, no other handler to run, no other text
pub record HearsLine {K : Type 0} (number : ℕ) (old : BookValue K) (line : List ℕ) (new : BookValue K) (next : Option HandlerId) (text : List ℕ) : Type 0 where
  pub datagram : List ℕ
  pub is_datagram : IsDatagram number line datagram
  pub prints : Prints datagram old new next text
  pub only : (other : BookValue K) (after : Option HandlerId) (again : List ℕ) → Prints datagram old other after again → Rests new other × (next ≡ after)
      × (text ≡ again)

-- the handler, if there is one, runs until nothing can run
abbrev pub RunsBehind : {K : Type 0} → Option HandlerId → (heard new : BookValue K) → Type 0
RunsBehind None heard new = new ≡ heard
RunsBehind (Some h) heard new = RunsDry 0 h heard new

-- the line's datagram has this answer, and then its handler runs
pub record AnswersLine {K : Type 0} (number : ℕ) (old : BookValue K) (line : List ℕ) (new : BookValue K) (text : List ℕ) : Type 0 where
  pub heard : BookValue K
  pub next : Option HandlerId
  pub hears : HearsLine number old line heard next text
  pub runs : RunsBehind next heard new

-- this is the answer, and the writer has gained it and a newline
pub record WritesAnswer {K : Type 0} (number : ℕ) (old : BookValue K) (line : List ℕ) (new : BookValue K) (before after : Option (List ℕ)) : Type 0 where
  pub text : List ℕ
  pub answers : AnswersLine number old line new text
  pub writes : Appends before after (text ++ 10 ∷ [])

-- why the line of this number, which is within the limits, was not answered to the end
pub data StopsInLine {K : Type 0} (number : ℕ) (old : BookValue K) (line : List ℕ) (new : BookValue K) (before after : Option (List ℕ)) : RunError
    → Type 0 where
  -- its digits have a fault, and nothing has changed
  in_digits : {fault : InputFault} → fault_of number line ≡ Some fault → new ≡ old → Keeps before after
      → StopsInLine number old line new before after (Input number fault)
  -- the book refuses its message, and nothing is written
  in_book : {e : RunError} (datagram : List ℕ) → IsDatagram number line datagram → Unheard datagram old new e → Keeps before after
      → StopsInLine number old line new before after e
  -- the book has its message, but the output failed, and nothing has run
  in_output : (next : Option HandlerId) (text : List ℕ) → HearsLine number old line new next text → StopsInLine number old line new before after Write
  -- the answer is written, but the book refuses as the handler runs
  in_run : {e : RunError} (heard : BookValue K) (h : HandlerId) (text : List ℕ) → HearsLine number old line heard (Some h) text → StopsRunning h heard new e
      → Appends before after (text ++ 10 ∷ []) → StopsInLine number old line new before after e

-- ---- several lines

-- the first of these lines has this number, and the text has one line for each of them
abbrev pub AnswersLines : {K : Type 0} → ℕ → BookValue K → List (List ℕ) → BookValue K → List ℕ → Type 0
AnswersLines number old [] new text = (new ≡ old) × (text ≡ [])
AnswersLines {K} number old (line ∷ lines) new text =
    (next : BookValue K) × (answer rest : List ℕ) × AnswersLine number old line next answer × AnswersLines (number + 1) next lines new rest
    × (text ≡ answer ++ 10 ∷ rest)

-- these are the first lines. Nothing else answers them: no other text, handlers or history
pub record AnswersFirst {K : Type 0} (old : BookValue K) (lines : List (List ℕ)) (new : BookValue K) (text : List ℕ) : Type 0 where
  pub answers : AnswersLines 1 old lines new text
  pub only : (other : BookValue K) (other_text : List ℕ) → AnswersLines 1 old lines other other_text → Rests new other × (other_text ≡ text)

-- ---- the words after the last line

-- numbers in decimal, with a space before each
abbrev pub numbers_text : List ℕ → List ℕ
numbers_text [] = []
numbers_text (n ∷ ns) = 32 ∷ decimal n ++ numbers_text ns

abbrev pub words_text : List ℕ → List ℕ
words_text words = codes "words" ++ numbers_text words

-- the line of an object's words, if there are any to show
abbrev pub shown_line : Option (List ℕ) → List ℕ
shown_line None = []
shown_line (Some words) = words_text words ++ 10 ∷ []

-- the words of the handler's object, if it is asked for and here
abbrev pub shown_words : Option HandlerId → List LocalHandler → Option (List ℕ)
shown_words None hs = None
shown_words (Some h) hs = option_map (λ s. s.core.state.words) (handler_in h hs)

abbrev pub words_line : Option HandlerId → List LocalHandler → List ℕ
words_line shown hs = shown_line (shown_words shown hs)

-- ---- a whole run

-- these are the first lines of known bytes
abbrev pub BeginsWithLines : Option (List ℕ) → List (List ℕ) → Type 0
BeginsWithLines input lines = IfSome input (λ bytes. (rest : List (List ℕ)) × (lines_of bytes ≡ lines ++ rest))

-- the book has answered all lines of the input, and the writer has gained the answers and the words after them
pub record AnswersAll {K : Type 0} (input : Option (List ℕ)) (old new : BookValue K) (shown : List ℕ) (before after : Option (List ℕ)) : Type 0 where
  pub lines : List (List ℕ)
  pub text : List ℕ
  pub answers : AnswersFirst old lines new text
  pub writes : Appends before after (text ++ shown)
  pub all : IfSome input (λ bytes. lines_of bytes ≡ lines)

-- why a run stops at the line after these: the input can't be read, or the line has a fault
pub data StopsBehind (input : Option (List ℕ)) (lines : List (List ℕ)) : RunError → Type 0 where
  read_fault : BeginsWithLines input lines → StopsBehind input lines (Input (length lines + 1) (Source ReadFault))
  line_fault : {fault : InputFault} (line : List ℕ) → fault_of (length lines + 1) line ≡ Some fault → BeginsWithLines input (lines ++ line ∷ [])
      → StopsBehind input lines (Input (length lines + 1) fault)

-- a run that stopped early
pub data StopsEarly {K : Type 0} (input : Option (List ℕ)) (old new : BookValue K) (before after : Option (List ℕ)) : RunError → Type 0 where
  -- the lines before that one are answered and no more, and the writer has gained the answers and no more
  at_line : {e : RunError} (lines : List (List ℕ)) (text : List ℕ) → AnswersFirst old lines new text → Appends before after text → StopsBehind input lines e
      → StopsEarly input old new before after e
  -- the output failed between two lines: some of the answers may be lost
  at_output : (lines : List (List ℕ)) (text : List ℕ) → AnswersFirst old lines new text → BeginsWithLines input lines
      → StopsEarly input old new before after Write
  -- or at the answer to one more line, whose message the book has, and nothing has run for it
  at_answer : (lines : List (List ℕ)) (text : List ℕ) (mid : BookValue K) (line : List ℕ) (next : Option HandlerId) (answer : List ℕ)
      → AnswersFirst old lines mid text
      → HearsLine (length lines + 1) mid line new next answer → BeginsWithLines input (lines ++ line ∷ []) → StopsEarly input old new before after Write
  -- the book refuses the message of one more line: the writer has gained the answers before
  at_book : {e : RunError} (lines : List (List ℕ)) (text : List ℕ) (mid : BookValue K) (line datagram : List ℕ) → AnswersFirst old lines mid text
      → Appends before after text
      → IsDatagram (length lines + 1) line datagram → Unheard datagram mid new e → BeginsWithLines input (lines ++ line ∷ [])
      → StopsEarly input old new before after e
  -- one more line is answered, but the book refuses as its handler runs
  at_run : {e : RunError} (lines : List (List ℕ)) (text : List ℕ) (mid : BookValue K) (line : List ℕ) (heard : BookValue K) (h : HandlerId) (answer : List ℕ)
      → AnswersFirst old lines mid text → HearsLine (length lines + 1) mid line heard (Some h) answer → Appends before after (text ++ (answer ++ 10 ∷ []))
      → StopsRunning h heard new e → BeginsWithLines input (lines ++ line ∷ []) → StopsEarly input old new before after e
