-- One list of what several parties did, each party by its place.
use Rattle.std.specs.Prelude.{◌≡◌, ℕ, ◌==◌, if◌then◌else◌, List, [], ◌∷◌, slice_get, unwrap_or}

-- the items of the party at this place, in order
abbrev pub own : {A : Type 0} → ℕ → List (ℕ × A) → List A
own i [] = []
own i (x ∷ xs) = if x.0 == i then x.1 ∷ own i xs else own i xs

abbrev pub party_at : {A : Type 0} → List (List A) → ℕ → List A
party_at parties i = unwrap_or (slice_get parties i) []

-- the list has all that each party did, in its own order, and nothing else
pub record IsOrder {A : Type 0} (parties : List (List A)) (order : List (ℕ × A)) : Type 0 where
  pub whole : (i : ℕ) → own i order ≡ party_at parties i
