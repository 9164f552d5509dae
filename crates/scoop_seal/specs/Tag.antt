-- Seals: tags after bytes.
use Rattle.std.specs.Prelude.{◌≡◌, ℕ, List, ◌++◌, take}
use Rattle.scoop_seal.specs.Hmac.{hmac}

-- the first sixteen bytes of the code
abbrev pub tag : List ℕ → List ℕ → List ℕ
tag key bytes = take 16 (hmac key bytes)

-- some bytes, followed by their tag
abbrev pub sealed : List ℕ → List ℕ → List ℕ
sealed key bytes = bytes ++ tag key bytes

-- a datagram that is such bytes
abbrev pub IsSealed : List ℕ → List ℕ → Type 0
IsSealed key datagram = (bytes : List ℕ) × (datagram ≡ sealed key bytes)

-- a datagram that isn't sealed
pub record IsForged (key datagram : List ℕ) : Type 0 where
  pub not_sealed : IsSealed key datagram → ⊥
