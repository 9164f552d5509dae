-- The value under a handler's key: an image with its length in front, and then the pending entries.
use Rattle.std.specs.Prelude.{◌≡◌, ℕ, ◌<◌, ◌^◌, ◌++◌, length, drop, take, Option, Some, None}
use Rattle.std.specs.Int.{w64, to_be_bytes}
use Rattle.scoop_etcd.specs.Etcd.{Bytes}

-- the length of the image in eight bytes, big endian, the image, and the pending entries
abbrev pub packed : Bytes → Bytes → Bytes
packed image entries = to_be_bytes w64 (length image) ++ (image ++ entries)

-- the value is that of an image and entries
pub record IsPacked (value image entries : Bytes) : Type 0 where
  pub fits : length image < 2 ^ 64
  pub is : value ≡ packed image entries

-- the place at which the entries begin, or nothing if the value is none of an image and entries
abbrev pub SplitsAt : Bytes → Option ℕ → Type 0
SplitsAt value (Some at) = IsPacked value (drop 8 (take at value)) (drop at value)
SplitsAt value None = (image entries : Bytes) → IsPacked value image entries → ⊥
