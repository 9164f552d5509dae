-- Lists in which something comes twice.
use Rattle.std.specs.Prelude.{◌==◌, ◌||◌, ℕ, Bool, false, List, [], ◌∷◌}
use Rattle.std.specs.List.{list_any}

-- two items of a list have one key
abbrev pub repeats : {A : Type 0} → (A → ℕ) → List A → Bool
repeats key [] = false
repeats key (x ∷ xs) = list_any (λ y. key y == key x) xs || repeats key xs
