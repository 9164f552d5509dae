-- The datagrams that links keep and give.
use Rattle.std.specs.Prelude.{◌≡◌, ℕ, ◌≤◌, List, [], ◌∷◌, take, drop, Option, Some, None}
use Rattle.scoop_message.specs.declared.limits.TheConstants.{BUFFER_LEN}

-- the part of a datagram that a link keeps
abbrev pub kept : List ℕ → List ℕ
kept bytes = take BUFFER_LEN bytes

-- The first of some datagrams, if there is one, was written to the start of a buffer.
abbrev pub TakesFirst : Option ℕ → List (List ℕ) → List (List ℕ) → List ℕ → List ℕ → Type 0
TakesFirst None old new before after = (old ≡ []) × (new ≡ []) × (after ≡ before)
TakesFirst (Some n) old new before after = (n ≤ BUFFER_LEN) × (old ≡ take n after ∷ new) × (drop n after ≡ drop n before)
