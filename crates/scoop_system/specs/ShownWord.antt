-- A word of a line, as faults print it.
use Rattle.std.specs.Prelude.{ℕ, ◌==◌, if◌then◌else◌, List, [], ◌∷◌, ◌++◌}
use Rattle.std.specs.Char.{encode_utf8}
use Rattle.scoop_message.specs.Padded.{padded}
use Rattle.scoop_system.specs.declared.shown_word.ShownWord.{ShownWord}
use Rattle.scoop_system.specs.declared.name.TheConstants.{MAX_NAME_LEN}
use Rattle.scoop_system.specs.Name.{told}

-- its beginning, with `?` for each byte that isn't printable, and zeros after it
abbrev pub shown : List ℕ → ShownWord
shown word = record { letters = padded 0 MAX_NAME_LEN (told word) }

-- the letters up to the first zero
abbrev pub letters_text : List ℕ → List ℕ
letters_text [] = []
letters_text (letter ∷ letters) = if letter == 0 then [] else encode_utf8 letter ++ letters_text letters
