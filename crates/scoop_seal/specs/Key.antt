-- Keys as text.
use Rattle.std.specs.Prelude.{ℕ, ◌-◌, ◌==◌, List, [], ◌∷◌, ◌++◌, length, take, slice_index, Result, Ok, Err, if◌then◌else◌}
use Rattle.hex.specs.declared.error.FromHexError.{FromHexError}
use Rattle.hex.specs.declared.error.FromHexError.TheVariants.{InvalidHexCharacter, OddLength, InvalidStringLength, OutOfMemory}
use Rattle.hex.specs.Hex.{decode_sized, encode_lower}
use Rattle.scoop_seal.specs.declared.key.KeyError.{KeyError}
use Rattle.scoop_seal.specs.declared.key.KeyError.TheVariants.{Length, Digit}

-- the length of a text's end of line: a line feed, with the carriage return before it if there is one
abbrev pub end_len : List ℕ → ℕ
end_len text =
    if slice_index text (length text - 1) == 10 then (if slice_index text (length text - 2) == 13 then 2 else 1) else 0

-- the text before that
abbrev pub line_of : List ℕ → List ℕ
line_of text = take (length text - end_len text) text

abbrev pub key_from : Result (List ℕ) FromHexError → Result (List ℕ) KeyError
key_from (Ok bytes) = Ok bytes
key_from (Err (InvalidHexCharacter c i)) = Err Digit
key_from (Err OddLength) = Err Length
key_from (Err InvalidStringLength) = Err Length
key_from (Err OutOfMemory) = Err Length

-- the key of a text, or the reason why it has none: it must have 64 bytes, each a hex digit
abbrev pub key_in : List ℕ → Result (List ℕ) KeyError
key_in text = key_from (decode_sized (line_of text) 32)

-- the text of a key: its digits, and a line feed
abbrev pub key_text : List ℕ → List ℕ
key_text key = encode_lower key ++ 10 ∷ []
