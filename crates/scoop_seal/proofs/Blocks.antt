-- Keys as blocks.
use Rattle.std.proofs.Common.{◌≡◌, ℕ, ◌≤◌, List, ◌++◌, length, drop, replicate, refl}
use Rattle.std.proofs.lemmas.Bool.{le-ltb}
use Rattle.std.proofs.lemmas.List.{drop-replicate}
use Rattle.scoop_seal.specs.Hmac.{block_key}

-- a key that is no longer than a block, written over zeros
pub block_key-short : (key copied : List ℕ) → length key ≤ 64 → copied ≡ key → copied ++ drop (length key) (replicate 64 0) ≡ block_key key
block_key-short key copied fits is = rw (is, le-ltb 64 (length key) fits, drop-replicate {X = ℕ} (length key) 64 0) refl
