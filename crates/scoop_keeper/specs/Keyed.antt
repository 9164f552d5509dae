-- Lists whose items are found by a key.
use Rattle.std.specs.Prelude.{◌≡◌, ℕ, ◌<◌, Bool, List, find, length, slice_get, take, Some, Contains}
use Rattle.scoop_message.specs.Lists.{NoRepeats}

-- the first that passes the test stands at this place
pub record IsFirst {A : Type 0} (test : A → Bool) (xs : List A) (i : ℕ) : Type 0 where
  pub within : i < length xs
  pub found : find test xs ≡ slice_get xs i

-- it stands at the first place that repeats an earlier one
pub record IsFirstRepeat {A : Type 0} (xs : List A) (x : A) : Type 0 where
  pub place : ℕ
  pub there : slice_get xs place ≡ Some x
  pub earlier : Contains (take place xs) x
  pub apart : NoRepeats (take place xs)
