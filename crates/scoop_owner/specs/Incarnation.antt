-- The incarnation that a client's store was seen with, in the text beside it.
use Rattle.std.specs.Prelude.{ℕ, ◌==◌, ◌^◌, not, Bool, true, false, List, ◌++◌, codes, drop, length, filter, find, Option, Some, None, if◌then◌else◌}
use Rattle.std.specs.List.{starts_with}
use Rattle.std.specs.Fmt.{decimal}
use Rattle.std.specs.Str.Lines.{lines}
use Rattle.scoop_lines.specs.Number.{decimal_below}
use Rattle.scoop_owner.specs.Newest.{lines_text}

-- `incarnation = 5`, where 5 is the client's last one
unfoldable pub incarnation_line : ℕ → List ℕ
incarnation_line inc = codes "incarnation = " ++ decimal inc

-- the text after this one at the beginning of a line
abbrev pub after_key : List ℕ → List ℕ → Option (List ℕ)
after_key line key = if starts_with ◌==◌ line key then Some (drop (length key) line) else None

abbrev pub in_digits : Option (List ℕ) → Option ℕ
in_digits None = None
in_digits (Some digits) = decimal_below (2 ^ 32) digits

-- the incarnation that a line says
abbrev pub incarnation_of : List ℕ → Option ℕ
incarnation_of line = in_digits (after_key line (codes "incarnation = "))

abbrev pub says_one : Option ℕ → Bool
says_one None = false
says_one (Some inc) = true

abbrev pub says_incarnation : List ℕ → Bool
says_incarnation line = says_one (incarnation_of line)

abbrev pub in_line : Option (List ℕ) → Option ℕ
in_line None = None
in_line (Some line) = incarnation_of line

-- the incarnation that the first line says which says one
abbrev pub last_incarnation : List ℕ → Option ℕ
last_incarnation text = in_line (find says_incarnation (lines text))

abbrev pub is_other_line : List ℕ → Bool
is_other_line line = not (says_incarnation line)

-- the other lines of the text, and then one for this incarnation
abbrev pub text_with_incarnation : List ℕ → ℕ → List ℕ
text_with_incarnation text inc = lines_text (filter is_other_line (lines text)) ++ incarnation_line inc ++ codes "\n"
