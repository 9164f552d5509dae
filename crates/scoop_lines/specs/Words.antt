-- Words of a line.
use Rattle.std.specs.Prelude.{ℕ, ◌==◌, ◌||◌, Bool, true, false, List, [], ◌∷◌, filter, Option, Some, None}
use Rattle.std.specs.List.{slice_split}

-- the bytes of one word
abbrev pub Word : Type 0
Word = List ℕ

abbrev pub is_word : List ℕ → Bool
is_word [] = false
is_word (byte ∷ bytes) = true

-- the parts of a line between its spaces, without the empty ones
abbrev pub words_of : List ℕ → List Word
words_of line = filter is_word (slice_split (λ byte. byte == 32) line)

-- the word, if there is exactly one
abbrev pub one_of : List Word → Option Word
one_of [] = None
one_of (a ∷ []) = Some a
one_of (a ∷ b ∷ more) = None

-- the words, if there are exactly two
abbrev pub two_of : List Word → Option (Word × Word)
two_of [] = None
two_of (a ∷ []) = None
two_of (a ∷ b ∷ []) = Some (a, b)
two_of (a ∷ b ∷ c ∷ more) = None

abbrev pub begins_with_space : List ℕ → Bool
begins_with_space [] = false
begins_with_space (byte ∷ bytes) = byte == 32

abbrev pub is_remark : List ℕ → Bool
is_remark [] = false
is_remark (byte ∷ bytes) = byte == 35

abbrev pub is_none : List Word → Bool
is_none [] = true
is_none (word ∷ words) = false

-- a remark, or a line without words
abbrev pub is_blank : List ℕ → Bool
is_blank line = is_remark line || is_none (words_of line)
