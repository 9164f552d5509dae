-- Numbers that decimal digits write.
use Rattle.std.proofs.Common.{◌≡◌, ℕ, zero, suc, ◌+◌, ◌-◌, ◌*◌, ◌^◌, ◌<◌, ◌≤◌, nat_lt, lit≤, le_trans, lt_of_lt_of_le, Bool, true, false, ◌&&◌, List, [], ◌∷◌}
use Rattle.std.proofs.Common.{length, get_or, take, None, Err, refl, arith, rules}
use native.Mathlib.Nat.{pow-le-pow_right}
use Rattle.std.specs.List.{list_all}
use Rattle.std.specs.Str.{IsUtf8}
use Rattle.std.specs.Str.Parse.{digits_value, ParsesUnsigned}
use Rattle.std.proofs.lemmas.Int.Digits.{digits_value-lt, digits_value_more}
use Rattle.std.proofs.lemmas.Bool.Decides.{nat_tests}
use Rattle.std.proofs.lemmas.Str.{IsUtf8-from_ascii, digit_value_digit}
use Rattle.std.proofs.lemmas.Str.Parse.{IsDigitsTest, IsNumeralModel, numerals_by_value, parse_digits, digit_at, digits_value-take-le}
use Rattle.scoop_lines.specs.Number.{is_digit, is_decimal, decimal_of}

digits_test : IsDigitsTest (λ ds. list_all is_digit ds ≡ true)
digits_test = search rules

digits_model : IsNumeralModel (λ ds. list_all is_digit ds ≡ true) (digits_value 10)
digits_model = numerals_by_value _ digits_test

at_least : (n limit : ℕ) → ¬ (n < limit) → nat_lt n limit ≡ false
at_least n limit most = grind (arith, nat_tests)

all_digits : (some digits : Bool) → (some && digits) ≡ true → digits ≡ true
all_digits true digits is = is
all_digits false digits is = cc

pub decimal-digits : (word : List ℕ) → is_decimal word ≡ true → list_all is_digit word ≡ true
decimal-digits word is = all_digits _ _ is

pub decimal-some : (word : List ℕ) → is_decimal word ≡ true → 0 < length word
decimal-some word is = grind (arith, nat_tests)

-- if `parse` refuses a word of digits, the number is too large
pub too_large : {E : Type 0} (word : List ℕ) (e : E) → ParsesUnsigned 64 10 word (Err e) → is_decimal word ≡ true → None ≡ decimal_of word
too_large word e h is =
    let refused = parse_digits digits_model 64 word (Err e) h (decimal-digits word is) in
    rw (is, at_least (digits_value 10 word) (2 ^ 64) (λ below. refused (decimal-some word is, below))) refl

-- a few digits write a number that fits
pub short_fits : (word : List ℕ) → list_all is_digit word ≡ true → length word ≤ 19 → digits_value 10 word < 2 ^ 64
short_fits word is short =
    lt_of_lt_of_le (digits_value-lt 10 word (digits_model.to word is)) (le_trans (pow-le-pow_right (lit≤ tt) short) (lit≤ tt))

-- one digit more
pub record NextDigit (word : List ℕ) (i byte : ℕ) : Type 0 where
  pub low : 48 ≤ byte
  pub high : byte ≤ 57
  pub more : 10 * digits_value 10 (take i word) + (byte - 48) ≡ digits_value 10 (take (i + 1) word)
  pub most : digits_value 10 (take (i + 1) word) ≤ digits_value 10 word

pub next_digit : (word : List ℕ) (i byte : ℕ) → list_all is_digit word ≡ true → i < length word → byte ≡ get_or word i 0 → NextDigit word i byte
next_digit word i byte is within at =
    let range = digit_at word i (digits_model.to word is) within in
    let value = digit_value_digit (get_or word i 0) range in
    let step = digits_value_more 10 word i within in
    record {
      low = omega (arith, range);
      high = omega (arith, range);
      more = omega (arith, value, step);
      most = digits_value-take-le 10 word (i + 1) (lit≤ tt);
    }

first_ascii : (d : ℕ) (others : Bool) → (is_digit d && others) ≡ true → d < 128
first_ascii d others is = grind (arith, nat_tests)

digits_ascii : (word : List ℕ) → list_all is_digit word ≡ true → (i : ℕ) → get_or word i 0 < 128
digits_ascii [] is i = omega arith
digits_ascii (d ∷ ds) is zero = first_ascii d (list_all is_digit ds) is
digits_ascii (d ∷ ds) is (suc i) = digits_ascii ds (all_digits (is_digit d) (list_all is_digit ds) is) i

pub decimal-utf8 : (word : List ℕ) → is_decimal word ≡ true → IsUtf8 word
decimal-utf8 word is = IsUtf8-from_ascii word (digits_ascii word (decimal-digits word is))
