-- The words of a client's line.
use Rattle.std.specs.Prelude.{ℕ, ◌==◌, ◌-◌, ◌||◌, Bool, false, if◌then◌else◌, List, [], ◌∷◌, length, take, slice_get, Option, Some, None, codes}
use Rattle.scoop_classes.specs.Classes.{same_text}
use Rattle.scoop_lines.specs.Words.{Word}
use Rattle.scoop_system.specs.declared.line.words.Border.{Border}
use Rattle.scoop_system.specs.declared.line.words.Border.TheVariants.{When, Test}

abbrev pub is_return : Option ℕ → Bool
is_return None = false
is_return (Some byte) = byte == 13

-- the line without the carriage return at its end
abbrev pub without_return : List ℕ → List ℕ
without_return line = if is_return (slice_get line (length line - 1)) then take (length line - 1) line else line

-- `when` ends the handlers of a block; `least`, `most` or `is` ends the arguments of a condition
abbrev pub is_border : Border → Word → Bool
is_border When word = same_text word (codes "when")
is_border Test word = same_text word (codes "least") || (same_text word (codes "most") || same_text word (codes "is"))

-- the words before the first border, or all of them
abbrev pub before : Border → List Word → List Word
before border [] = []
before border (word ∷ words) = if is_border border word then [] else word ∷ before border words

-- the first border and the words after it, if it is there
abbrev pub behind : Border → List Word → Option (Word × List Word)
behind border [] = None
behind border (word ∷ words) = if is_border border word then Some (word, words) else behind border words

-- the words after a handler and an operation
abbrev pub arguments_in : List Word → Option (List Word)
arguments_in [] = None
arguments_in (handler ∷ []) = None
arguments_in (handler ∷ operation ∷ words) = Some words
