-- A line, read piece by piece.
use Rattle.std.specs.Prelude.{◌≡◌, ℕ, ◌<◌, ◌≤◌, nat_eq, Bool, true, false, List, [], ◌∷◌, ◌++◌, length, take, Option}
use Rattle.std.specs.Io.KnownBytes.{Consumes, IsAtEnd}
use Rattle.scoop_lines.specs.Line.{line_limit}
use Rattle.scoop_lines.specs.declared.source.Piece.{Piece}
use Rattle.scoop_lines.specs.declared.source.Piece.TheVariants.{Part, Last, Nothing}

-- no byte ends a line
abbrev pub HasNoNewline : List ℕ → Type 0
HasNoNewline [] = Unit {0}
HasNoNewline (x ∷ xs) = (nat_eq x 10 ≡ false) × HasNoNewline xs

-- the newline after a piece, if the piece ends its line
abbrev pub newline_of : Bool → List ℕ
newline_of true = 10 ∷ []
newline_of false = []

-- bytes begin with a piece of a line, and with its newline if it is the last piece; the piece was appended to the line
pub record IsFront (bytes before after : List ℕ) (taken : ℕ) (ended : Bool) : Type 0 where
  pub piece : List ℕ
  pub unended : HasNoNewline piece
  pub line : after ≡ before ++ piece
  pub bound : taken ≤ length bytes
  pub some : 0 < length bytes → 0 < taken
  pub front : take taken bytes ≡ piece ++ newline_of ended

-- bytes begin with a piece that makes its line too long
pub record IsTooMuch (bytes before : List ℕ) : Type 0 where
  pub piece : List ℕ
  pub rest : List ℕ
  pub unended : HasNoNewline piece
  pub is : bytes ≡ piece ++ rest
  pub long : line_limit < length (before ++ piece)

-- known bytes have lost a piece of a line, and its newline if it is the last piece; the piece was appended to the line
pub record Extends (old : Option (List ℕ)) (before after : List ℕ) (new : Option (List ℕ)) (ended : Bool) : Type 0 where
  pub piece : List ℕ
  pub unended : HasNoNewline piece
  pub line : after ≡ before ++ piece
  pub taken : Consumes old new (piece ++ newline_of ended)

-- a part of a line takes bytes, so that a line has an end
pub record IsPart (old : Option (List ℕ)) (before after : List ℕ) (new : Option (List ℕ)) : Type 0 where
  pub extends : Extends old before after new false
  pub grows : length before < length after

-- nothing was left
pub record IsNothing (old : Option (List ℕ)) (before after : List ℕ) (new : Option (List ℕ)) : Type 0 where
  pub same : after ≡ before
  pub taken : Consumes old new []
  pub end : IsAtEnd old

-- a piece of a line was read
abbrev pub IsPiece : Piece → Option (List ℕ) → List ℕ → List ℕ → Option (List ℕ) → Type 0
IsPiece Part old before after new = IsPart old before after new
IsPiece Last old before after new = Extends old before after new true
IsPiece Nothing old before after new = IsNothing old before after new

-- known bytes begin with a piece that makes its line too long
pub record Overflows (old : Option (List ℕ)) (before : List ℕ) : Type 0 where
  pub piece : List ℕ
  pub rest : Option (List ℕ)
  pub unended : HasNoNewline piece
  pub taken : Consumes old rest piece
  pub long : line_limit < length (before ++ piece)
