-- Lists in which nothing comes twice.
use Rattle.std.specs.Prelude.{◌≡◌, ℕ, List, slice_get, Some}

-- no element stands at two places
abbrev pub NoRepeats : {A : Type 0} → List A → Type 0
NoRepeats {A} xs = (i j : ℕ) (x : A) → slice_get xs i ≡ Some x → slice_get xs j ≡ Some x → i ≡ j
