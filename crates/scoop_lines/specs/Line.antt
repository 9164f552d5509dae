-- The lines of an input, and their limits.
use Rattle.std.specs.Prelude.{◌≡◌, ℕ, ◌<◌, ◌≤◌, ◌==◌, nat_lt, List, [], ◌∷◌, length, if◌then◌else◌, Option, Some, None, IfSome, ⊤}
use Rattle.scoop_lines.specs.declared.error.SourceFault.{SourceFault}
use Rattle.scoop_lines.specs.declared.error.SourceFault.TheVariants.{LineTooLong, TooManyLines}

-- a byte joins the first line of the rest, or begins a line of its own
abbrev pub onto_first : ℕ → List (List ℕ) → List (List ℕ)
onto_first x [] = (x ∷ []) ∷ []
onto_first x (line ∷ lines) = (x ∷ line) ∷ lines

-- the lines of an input, without their ends. A newline ends a line, and the input ends the last one
abbrev pub lines_of : List ℕ → List (List ℕ)
lines_of [] = []
lines_of (x ∷ xs) = if x == 10 then [] ∷ lines_of xs else onto_first x (lines_of xs)

-- bytes of a line, and lines of an input, at most
abbrev pub line_limit : ℕ
line_limit = 4096

abbrev pub count_limit : ℕ
count_limit = 1000000

-- the limit that the line of this number breaks, if any
abbrev pub limit_fault : ℕ → List ℕ → Option SourceFault
limit_fault number line =
    if nat_lt line_limit (length line) then Some LineTooLong
    else if nat_lt count_limit number then Some TooManyLines
    else None

-- a line that is not too long
abbrev pub IsWithin : List ℕ → Type 0
IsWithin line = length line ≤ line_limit

-- known bytes begin with this line
abbrev pub BeginsWith : Option (List ℕ) → List ℕ → Type 0
BeginsWith left line = IfSome left (λ bytes. (rest : List (List ℕ)) × (lines_of bytes ≡ line ∷ rest))

-- known bytes begin with this line, and have lost it and its end
abbrev pub TakesFirst : Option (List ℕ) → List ℕ → Option (List ℕ) → Type 0
TakesFirst None line new = ⊤
TakesFirst (Some xs) line None = ⊥
TakesFirst (Some xs) line (Some ys) = lines_of xs ≡ line ∷ lines_of ys

-- known bytes begin with a line that is too long
pub record BeginsTooLong (left : Option (List ℕ)) : Type 0 where
  pub line : List ℕ
  pub long : line_limit < length line
  pub next : BeginsWith left line
