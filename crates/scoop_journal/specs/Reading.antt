-- The text of a line that was read.
use Rattle.std.specs.Prelude.{◌≡◌, ℕ, List, [], ◌∷◌, Option, Some, None}
use Rattle.scoop_lines.specs.Words.{Word}
use Rattle.scoop_journal.specs.declared.line.Line.{Line}
use Rattle.scoop_journal.specs.Line.{name_of, words_of, text_of, spaced, FitsLine}

-- the text after a word: nothing, or a space and the rest
abbrev pub following : Option (List ℕ) → List ℕ
following None = []
following (Some text) = 32 ∷ text

-- the text is that of the line, which can be written
pub record IsTextOf (text : List ℕ) (l : Line) : Type 0 where
  pub text_is : text ≡ text_of l
  pub fits : FitsLine l

-- the first word and the rest are those of the line, which can be written
pub record Tells (name : Word) (rest : Option (List ℕ)) (l : Line) : Type 0 where
  pub name_is : name ≡ name_of l
  pub rest_is : following rest ≡ spaced (words_of l)
  pub fits : FitsLine l
