-- The key that seals the datagrams of one life of a system.
use Rattle.std.specs.Prelude.{ℕ, ◌==◌, ◌&&◌, List, ◌++◌, length, codes, if◌then◌else◌}
use Rattle.std.specs.Int.{w32, to_be_bytes}
use Rattle.scoop_seal.specs.Hmac.{hmac}

-- the name and the life of a system as bytes: twelve bytes that begin no frame, the life, and the name
abbrev pub system_bytes : List ℕ → ℕ → List ℕ
system_bytes name life = codes "scoop system" ++ to_be_bytes w32 life ++ name

-- the code of those bytes under the key; the key itself for a system without a name and a life
abbrev pub sealing_key : List ℕ → List ℕ → ℕ → List ℕ
sealing_key key name life = if length name == 0 && life == 0 then key else hmac key (system_bytes name life)
