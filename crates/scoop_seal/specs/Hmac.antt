-- The code of RFC 2104 over SHA-256, which takes blocks of 64 bytes.
use Rattle.std.specs.Prelude.{ℕ, ◌-◌, nat_lt, List, ◌++◌, length, map, replicate, bit_xor, if◌then◌else◌}
use Rattle.sha2.specs.Sha256.{sha256}

-- a key, or its digest if it is longer than a block
abbrev pub short_key : List ℕ → List ℕ
short_key key = if nat_lt 64 (length key) then sha256 key else key

-- that as one block, filled up with zeros
abbrev pub block_key : List ℕ → List ℕ
block_key key = short_key key ++ replicate (64 - length (short_key key)) 0

-- each byte of a block, exclusive-or this one
abbrev pub mixed : List ℕ → ℕ → List ℕ
mixed block byte = map (λ b. bit_xor b byte) block

unfoldable pub hmac : List ℕ → List ℕ → List ℕ
hmac key message =
    sha256 (mixed (block_key key) 0x5c ++ sha256 (mixed (block_key key) 0x36 ++ message))
