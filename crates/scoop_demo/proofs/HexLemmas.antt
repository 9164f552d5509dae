-- The bytes of hex digits.
use Rattle.std.proofs.Common.{◌≡◌, ℕ, ◌+◌, ◌*◌, ◌%◌, ◌<◌, ◌≤◌, ◌==◌, inl, inr, not, bit_or, Bool, true, false, List, [], ◌∷◌, length, filter, Option, Some}
use Rattle.std.proofs.Common.{None, unwrap_or, Ok, Err, IsErr, is_err, ◌∙◌, sym, ap, arith, refl}
use Rattle.std.specs.List.Retain.{RetainsInTurn}
use Rattle.std.specs.List.{list_all}
use Rattle.std.proofs.lemmas.Bool.{and_parts, cases_eq, cases_lt}
use Rattle.std.proofs.lemmas.Nat.{le_or_l, le_or_r, or_lt}
use Rattle.std.proofs.lemmas.List.Sums.{AllPass-from_list_all, list_all-from_AllPass}
use Rattle.hex.specs.Hex.{is_hex_digit, decode_of, decode_pairs, digit_or_error, hex_digit_value, pair_value, value_at}
use Rattle.hex.specs.declared.error.FromHexError.{FromHexError}
use Rattle.hex.specs.declared.error.FromHexError.TheVariants.{InvalidHexCharacter}
use Rattle.hex.proofs.HexLemmas.{decode_of-digits, decode_of-even, decode_of-odd, decode_of-ok}
use Rattle.scoop_demo.specs.declared.fault.InputFault.TheVariants.{OddDigits}
use Rattle.scoop_demo.specs.Hex.{digits_of, fault_among, hex_fault, value_of}

-- a value below 16 is that of a digit
is_digit_value : (o : Option ℕ) → unwrap_or o 255 < 16 → o ≡ Some (unwrap_or o 255)
is_digit_value (Some v) below = refl
is_digit_value None below = absurd (omega arith)

-- another value is that of no digit
is_no_digit : (o : Option ℕ) → ((v : ℕ) → o ≡ Some v → v < 16) → 15 < unwrap_or o 255 → o ≡ None
is_no_digit (Some v) small above = let below : v < 16 = small v refl in absurd (omega arith)
is_no_digit None small above = refl

digit_small : (byte v : ℕ) → hex_digit_value byte ≡ Some v → v < 16
digit_small byte v h = grind (arith)

digit_found : (byte value : ℕ) → value ≡ value_of byte → value < 16 → hex_digit_value byte ≡ Some value
digit_found byte value is below =
    let small : unwrap_or (hex_digit_value byte) 255 < 16 = omega (arith, is) in
    is_digit_value (hex_digit_value byte) small ∙ ap Some (sym is)

digit_missed : (byte value : ℕ) → value ≡ value_of byte → 15 < value → hex_digit_value byte ≡ None
digit_missed byte value is above =
    let large : 15 < unwrap_or (hex_digit_value byte) 255 = omega (arith, is) in
    is_no_digit (hex_digit_value byte) (digit_small byte) large

-- two digits make a byte
pub pair_reads : (a b i high low : ℕ) → high ≡ value_of a → low ≡ value_of b → high < 16 → low < 16 → pair_value a b i ≡ Ok (16 * high + low)
pair_reads a b i high low is_high is_low below_high below_low =
    let first : value_at a i ≡ Ok high = ap (digit_or_error a i) (digit_found a high is_high below_high) in
    let second : value_at b (i + 1) ≡ Ok low = ap (digit_or_error b (i + 1)) (digit_found b low is_low below_low) in
    let both : pair_value a b i ≡ Ok (high * 16 + low) = rw (first, second) refl in
    let same : high * 16 + low ≡ 16 * high + low = omega arith in
    both ∙ ap Ok same

-- the first of two is no digit
first_fails : (a b i high : ℕ) → high ≡ value_of a → 15 < high → pair_value a b i ≡ Err (InvalidHexCharacter a i)
first_fails a b i high is above =
    let first : value_at a i ≡ Err (InvalidHexCharacter a i) = ap (digit_or_error a i) (digit_missed a high is above) in
    rw first refl

-- the second of two is no digit
second_fails : (a b i high low : ℕ) → high ≡ value_of a → high < 16 → low ≡ value_of b → 15 < low
    → pair_value a b i ≡ Err (InvalidHexCharacter b (i + 1))
second_fails a b i high low is_high below is_low above =
    let first : value_at a i ≡ Ok high = ap (digit_or_error a i) (digit_found a high is_high below) in
    let second : value_at b (i + 1) ≡ Err (InvalidHexCharacter b (i + 1)) = ap (digit_or_error b (i + 1)) (digit_missed b low is_low above) in
    rw (first, second) refl

-- one of two is no digit if the bits of both values together are above 15
pub pair_fails : (a b i high low : ℕ) → high ≡ value_of a → low ≡ value_of b → 15 < bit_or high low
    → (e : FromHexError) × (pair_value a b i ≡ Err e)
pair_fails a b i high low is_high is_low above =
    elim (cases_lt 15 high) [
      | inl first ↦ (InvalidHexCharacter a i, first_fails a b i high is_high first)
      | inr below_high ↦
          elim (cases_lt 15 low) [
            | inl second ↦ (InvalidHexCharacter b (i + 1), second_fails a b i high low is_high (omega arith) is_low second)
            | inr below_low ↦ absurd (omega (arith, or_lt 4 high low (omega arith) (omega arith)))
          ]
    ]

-- both are digits if the bits of both values together are at most 15
pub both_below : (high low : ℕ) → bit_or high low ≤ 15 → (high < 16) × (low < 16)
both_below high low below = (omega (arith, le_or_l high low), omega (arith, le_or_r high low))

-- digits that stop at a pair decode to nothing
pub pairs_fail : (digits : List ℕ) (e : FromHexError) → length digits % 2 ≡ 0 → decode_pairs 0 digits ≡ Err e → IsErr (decode_of digits)
pairs_fail digits e even h = ap is_err (decode_of-even digits even ∙ h)

pub odd_fails : (digits : List ℕ) → length digits % 2 ≡ 1 → IsErr (decode_of digits)
odd_fails digits odd = ap is_err (decode_of-odd digits odd)

-- a digit is no space
digit_unspaced : (x : ℕ) → is_hex_digit x ≡ true → not (x == 32) ≡ true
digit_unspaced x h = grind (arith)

unspaced : (digits : List ℕ) → list_all is_hex_digit digits ≡ true → digits_of digits ≡ digits
unspaced [] h = refl
unspaced (x ∷ xs) h =
    let parts = and_parts (is_hex_digit x) (list_all is_hex_digit xs) h in
    rw (digit_unspaced x parts.0, unspaced xs parts.1) refl

all_digits : (digits bytes : List ℕ) → decode_of digits ≡ Ok bytes → list_all is_hex_digit digits ≡ true
all_digits digits bytes h = list_all-from_AllPass is_hex_digit digits (decode_of-ok digits bytes h).1

-- a line that decodes as it is has no spaces
pub stands : (line bytes : List ℕ) → decode_of line ≡ Ok bytes → decode_of (digits_of line) ≡ Ok bytes
stands line bytes h = ap decode_of (unspaced line (all_digits line bytes h)) ∙ h

pub no_fault : (line bytes : List ℕ) → decode_of (digits_of line) ≡ Ok bytes → hex_fault line ≡ None
no_fault line bytes h =
    let all = all_digits (digits_of line) bytes h in
    let even : length (digits_of line) % 2 ≡ 0 = (decode_of-ok (digits_of line) bytes h).0 in
    rw (all, even) refl

-- digits of an even number decode
evenly : (digits : List ℕ) → list_all is_hex_digit digits ≡ true → length digits % 2 ≡ 0 → is_err (decode_of digits) ≡ false
evenly digits are even = ap is_err (decode_of-digits digits even (AllPass-from_list_all is_hex_digit digits are)).1

-- why digits don't decode
pub fault_odd : (digits : List ℕ) → IsErr (decode_of digits) → list_all is_hex_digit digits ≡ true → fault_among digits ≡ Some OddDigits
fault_odd digits fails are =
    elim (cases_eq (length digits % 2) 1) [
      | inl odd ↦ rw (are, odd) refl
      | inr other ↦
          let even : length digits % 2 ≡ 0 = omega (arith, other) in
          cc (sym fails ∙ evenly digits are even)
    ]

-- `retain` filters, if the closure is a test that changes nothing
pub retains_filter : {S : Type 0} (R : S → ℕ → Bool → S → ℕ → Type 0) (test : ℕ → Bool)
    → ((s : S) (x : ℕ) (b : Bool) (t : S) (y : ℕ) → R s x b t y → (b ≡ test x) × (y ≡ x))
    → (s : S) (xs ys : List ℕ) → RetainsInTurn R s xs ys → ys ≡ filter test xs
retains_filter R test says s [] ys r = r
retains_filter R test says s (x ∷ xs) ys r =
    let told = says s x r.0 r.1 r.2 r.3 in
    r.6 ∙ rw (told.0, told.1, retains_filter R test says r.1 xs r.4 r.5) refl
