-- The differences of bytes.
use Rattle.std.proofs.Common.{◌≡◌, ℕ, bit_or, bit_xor, refl, arith}
use Rattle.std.specs.Int.Bits.{xor_self, xor_add_and}
use Rattle.std.proofs.lemmas.Nat.{and_le_l, and_le_r, le_or_l, le_or_r}

-- only equal numbers have no difference
same_from_xor : (a b : ℕ) → bit_xor a b ≡ 0 → a ≡ b
same_from_xor a b e = omega (arith, xor_add_and a b, and_le_l a b, and_le_r a b)

-- added differences come to none only if both were none
pub none_before : (d a b : ℕ) → bit_or d (bit_xor a b) ≡ 0 → d ≡ 0
none_before d a b e = omega (arith, le_or_l d (bit_xor a b))

pub same_from_none : (d a b : ℕ) → bit_or d (bit_xor a b) ≡ 0 → a ≡ b
same_from_none d a b e = same_from_xor a b (omega (arith, le_or_r d (bit_xor a b)))

pub none_from_same : (d a b : ℕ) → d ≡ 0 → a ≡ b → bit_or d (bit_xor a b) ≡ 0
none_from_same d a b none same = rw (none, same, xor_self b) refl
