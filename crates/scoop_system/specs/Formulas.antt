-- The words of formulas, as the lists that they stand for.
use Rattle.std.specs.Prelude.{◌||◌, Bool, if◌then◌else◌, List, [], ◌∷◌, Option, Some, None, codes, ℕ}
use Rattle.std.specs.Option.{option_and_then}
use Rattle.scoop_lines.specs.Words.{Word}
use Rattle.scoop_classes.specs.Classes.{same_text}

-- the two terms of `LEFT <= RIGHT`
abbrev pub test_words : List Word → Option (Word × Word)
test_words [] = None
test_words (left ∷ []) = None
test_words (left ∷ sign ∷ []) = None
test_words (left ∷ sign ∷ right ∷ []) = if same_text sign (codes "<=") then Some (left, right) else None
test_words (left ∷ sign ∷ right ∷ word ∷ words) = None

abbrev pub first_word : List Word → Option (Word × List Word)
first_word [] = None
first_word (word ∷ words) = Some (word, words)

-- the word after this sign, and the words after it; without the sign `0`, and all words
abbrev pub signed : List ℕ → List Word → Option (Word × List Word)
signed sign [] = Some (codes "0", [])
signed sign (word ∷ words) = if same_text word sign then first_word words else Some (codes "0", word ∷ words)

abbrev pub no_more : Word → Word → Word → Word × List Word → Option (Word × Word × Word × Word)
no_more word base plus (minus, []) = Some (word, base, plus, minus)
no_more word base plus (minus, more ∷ words) = None

-- the four words of a write of this word, after its base
abbrev pub after_base : Word → Word → List Word → Option (Word × Word × Word × Word)
after_base word base words =
    option_and_then (λ p. option_and_then (no_more word base p.0) (signed (codes "-") p.1)) (signed (codes "+") words)

abbrev pub is_assignment : Word → Bool
is_assignment sign = same_text sign (codes "=") || same_text sign (codes ":=")

-- the word, base, plus and minus of `WORD = BASE + PLUS - MINUS`. `:=` is `=`, and what is added or taken away may be missing: it is 0
abbrev pub write_words : List Word → Option (Word × Word × Word × Word)
write_words [] = None
write_words (word ∷ []) = None
write_words (word ∷ sign ∷ []) = None
write_words (word ∷ sign ∷ base ∷ words) = if is_assignment sign then after_base word base words else None
