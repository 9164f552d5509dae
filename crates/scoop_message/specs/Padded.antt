-- A short list kept in an array: the items first, then blanks.
use Rattle.std.specs.Prelude.{◌≡◌, ℕ, ◌-◌, ◌≤◌, List, ◌++◌, length, take, drop, replicate}
use Rattle.std.proofs.Common.{arith}
use Rattle.std.proofs.lemmas.List.{length-take, take-append-drop}

-- the first `count` of `room` cells hold the items, and the others are blank
pub record IsPadded {A : Type 0} (blank : A) (room count : ℕ) (cells : List A) : Type 0 where
  pub fits : count ≤ room
  pub size : length cells ≡ room
  pub others : drop count cells ≡ replicate (room - count) blank

-- the cells that hold these items
abbrev pub padded : {A : Type 0} → A → ℕ → List A → List A
padded blank room items = items ++ replicate (room - length items) blank

-- the items give the count and the cells back
pub length-first : {A : Type 0} (blank : A) (room count : ℕ) (cells : List A) → IsPadded blank room count cells → length (take count cells) ≡ count
length-first blank room count cells p = omega (arith, length-take count cells, p.fits, p.size)

pub padded-first : {A : Type 0} (blank : A) (room count : ℕ) (cells : List A) → IsPadded blank room count cells → padded blank room (take count cells) ≡ cells
padded-first blank room count cells p = rw (length-first blank room count cells p, ← p.others) (take-append-drop count cells)
