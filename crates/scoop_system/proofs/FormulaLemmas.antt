-- The printed text of a test or a write is read as that test or write. The text of a term is one word, since decimal
-- digits and the letters before them are no spaces. So the words of the printed text are the texts of its terms, with
-- the signs between them. Each of these texts is read as its term, since the digits of a number have its value.
use Rattle.std.proofs.Common.{◌≡◌, ℕ, ◌+◌, ◌<◌, ◌≤◌, ◌==◌, ◌&&◌, ◌^◌, nat_lt, not, Bool, true, false, List, [], ◌∷◌, ◌++◌, length, codes, Some, Ok, refl, ap, ◌∙◌}
use Rattle.std.proofs.Common.{arith, rules, append_assoc}
use Rattle.std.specs.Fmt.{decimal}
use Rattle.std.specs.List.{All, list_all}
use Rattle.std.specs.Str.Parse.{digits_value}
use Rattle.std.proofs.lemmas.Bool.Decides.{nat_tests}
use Rattle.std.proofs.lemmas.Fmt.{decimal_is_IsNumeral}
use Rattle.std.proofs.lemmas.List.Sums.{AllPass-from_list_all}
use Rattle.std.proofs.lemmas.List.Splits.{slice_split_at, slice_split_none}
use Rattle.std.proofs.lemmas.Str.Parse.{IsDigitsTest, IsNumeralModel, numerals_by_value}
use Rattle.scoop_lines.specs.Words.{words_of, is_word}
use Rattle.scoop_lines.specs.Number.{is_digit, is_decimal, decimal_of}
use Rattle.scoop_message.specs.declared.limits.TheConstants.{MAX_ARGS, MAX_WORDS}
use Rattle.scoop_object.specs.declared.term.Term.{Term}
use Rattle.scoop_object.specs.declared.term.Term.TheVariants.{Const, Word, Arg}
use Rattle.scoop_object.specs.declared.term.Write.{Write}
use Rattle.scoop_system.specs.Terms.{term_of, test_formula, write_formula}
use Rattle.scoop_system.specs.Formulas.{test_words, write_words}
use Rattle.scoop_system.specs.SystemText.{term_text, test_formula_text, write_text}
use Rattle.scoop_system.specs.ReadBack.{TermFits, WriteFits, ReadsTest, ReadsWrite}

-- ---- words

abbrev is_space : ℕ → Bool
is_space byte = byte == 32

abbrev is_letter : ℕ → Bool
is_letter byte = not (is_space byte)

no_true : (b : Bool) → not b ≡ true → b ≡ false
no_true true is = cc
no_true false is = refl

-- some bytes, and no space
record IsOneWord (w : List ℕ) : Type 0 where
  some : is_word w ≡ true
  whole : list_all is_letter w ≡ true

no_spaces : (w : List ℕ) → list_all is_letter w ≡ true → All (λ byte. (byte == 32) ≡ false) w
no_spaces w whole = λ k d within. no_true _ (AllPass-from_list_all is_letter w whole k d within)

first_of : (w line : List ℕ) → IsOneWord w → words_of (w ++ 32 ∷ line) ≡ w ∷ words_of line
first_of w line is = rw (slice_split_at (λ byte. byte == 32) w 32 line (no_spaces w is.whole) refl, is.some) refl

only : (w : List ℕ) → IsOneWord w → words_of w ≡ w ∷ []
only w is = rw (slice_split_none (λ byte. byte == 32) w (no_spaces w is.whole), is.some) refl

-- ---- digits

digits_test : IsDigitsTest (λ ds. list_all is_digit ds ≡ true)
digits_test = search rules

digits_model : IsNumeralModel (λ ds. list_all is_digit ds ≡ true) (digits_value 10)
digits_model = numerals_by_value _ digits_test

digit_first : (here rest : Bool) → (here && rest) ≡ true → here ≡ true
digit_first true rest is = refl
digit_first false rest is = cc

digit_rest : (here rest : Bool) → (here && rest) ≡ true → rest ≡ true
digit_rest true rest is = is
digit_rest false rest is = cc

digit_letter : (b : ℕ) → is_digit b ≡ true → is_letter b ≡ true
digit_letter b is = grind (arith, nat_tests)

digits_letters : (ds : List ℕ) → list_all is_digit ds ≡ true → list_all is_letter ds ≡ true
digits_letters [] is = refl
digits_letters (d ∷ ds) is =
    rw (digit_letter d (digit_first (is_digit d) (list_all is_digit ds) is), digits_letters ds (digit_rest (is_digit d) (list_all is_digit ds) is)) refl

some_word : (w : List ℕ) → 0 < length w → is_word w ≡ true
some_word [] some = absurd (omega (arith, some))
some_word (b ∷ bs) some = refl

-- the digits of a number
record AreDigits (n : ℕ) (ds : List ℕ) : Type 0 where
  some : 0 < length ds
  digits : list_all is_digit ds ≡ true
  value : decimal_of ds ≡ Some n

below_true : (n limit : ℕ) → n < limit → nat_lt n limit ≡ true
below_true n limit below = grind (arith, nat_tests)

some_length : (n : ℕ) → 0 < n → (n == 0) ≡ false
some_length n some = grind (arith, nat_tests)

digits_of : (n : ℕ) → n < 2 ^ 64 → AreDigits n (decimal n)
digits_of n below =
    let ((some, all), value) = decimal_is_IsNumeral n below in
    let digits = digits_model.from (decimal n) all in
    record {
      some = some;
      digits = digits;
      value = rw (some_length (length (decimal n)) some, digits, value, below_true n (2 ^ 64) below) refl;
    }

digits_word : (n : ℕ) (ds : List ℕ) → AreDigits n ds → IsOneWord ds
digits_word n ds d = record { some = some_word ds d.some; whole = digits_letters ds d.digits }

-- ---- terms

no_letter : (b : ℕ) → is_digit b ≡ true → ((b == 119) ≡ false) × ((b == 97) ≡ false)
no_letter b is = (grind (arith, nat_tests), grind (arith, nat_tests))

constant_read : (words n : ℕ) (ds : List ℕ) → AreDigits n ds → term_of words ds ≡ Ok (Const n)
constant_read words n [] d = absurd (omega (arith, d.some))
constant_read words n (b ∷ bs) d =
    let (no_w, no_a) = no_letter b (digit_first (is_digit b) (list_all is_digit bs) d.digits) in
    rw (no_w, no_a, d.value) refl

small : (n limit : ℕ) → n < limit → limit ≤ 16 → n < 2 ^ 64
small n limit below few = omega (arith, below, few)

-- the text of a term is one word, and is read as the term
record IsText (words : ℕ) (t : Term) : Type 0 where
  one : IsOneWord (term_text t)
  read : term_of words (term_text t) ≡ Ok t

lettered : (letter n : ℕ) (ds : List ℕ) → is_letter letter ≡ true → AreDigits n ds → IsOneWord (letter ∷ ds)
lettered letter n ds is d = record { some = refl; whole = rw (is, digits_letters ds d.digits) refl }

term_is_text : (words : ℕ) (t : Term) → words ≤ MAX_WORDS → TermFits words t → IsText words t
term_is_text words (Const n) few fits =
    let d = digits_of n fits in
    record { one = digits_word n (decimal n) d; read = constant_read words n (decimal n) d }
term_is_text words (Word i) few fits =
    let d = digits_of i (small i words fits few) in
    record { one = lettered 119 i (decimal i) refl d; read = rw (d.value, below_true i words fits) refl }
term_is_text words (Arg i) few fits =
    let d = digits_of i (omega (arith, fits)) in
    record { one = lettered 97 i (decimal i) refl d; read = rw (d.value, below_true i MAX_ARGS fits) refl }

-- ---- tests and writes

test_read_words : (l r : List ℕ) → IsOneWord l → IsOneWord r → words_of (l ++ 32 ∷ (codes "<=" ++ 32 ∷ r)) ≡ l ∷ codes "<=" ∷ r ∷ []
test_read_words l r one two =
    rw (first_of l (codes "<=" ++ 32 ∷ r) one, first_of (codes "<=") r (record { some = refl; whole = refl }), only r two) refl

pub reads_test : (t : Term × Term) → ReadsTest t
reads_test (left, right) words few fits_left fits_right =
    let l = term_is_text words left few fits_left in
    let r = term_is_text words right few fits_right in
    let text : test_formula_text (left, right) ≡ term_text left ++ 32 ∷ (codes "<=" ++ 32 ∷ term_text right) = append_assoc (term_text left) (codes " <= ") (term_text right) in
    rw (text, test_read_words (term_text left) (term_text right) l.one r.one, l.read, r.read) refl

write_read_words : (w b p m : List ℕ) → IsOneWord w → IsOneWord b → IsOneWord p → IsOneWord m
    → words_of (w ++ 32 ∷ (codes ":=" ++ 32 ∷ (b ++ 32 ∷ (codes "+" ++ 32 ∷ (p ++ 32 ∷ (codes "-" ++ 32 ∷ m))))))
    ≡ w ∷ codes ":=" ∷ b ∷ codes "+" ∷ p ∷ codes "-" ∷ m ∷ []
write_read_words w b p m one two three four =
    rw (
      first_of w _ one,
      first_of (codes ":=") (b ++ 32 ∷ (codes "+" ++ 32 ∷ (p ++ 32 ∷ (codes "-" ++ 32 ∷ m)))) (record { some = refl; whole = refl }),
      first_of b _ two,
      first_of (codes "+") (p ++ 32 ∷ (codes "-" ++ 32 ∷ m)) (record { some = refl; whole = refl }),
      first_of p _ three,
      first_of (codes "-") m (record { some = refl; whole = refl }),
      only m four,
    ) refl

-- the parts of a printed write, from the right
apart : (w b p m : List ℕ) → codes "w" ++ w ++ codes " := " ++ b ++ codes " + " ++ p ++ codes " - " ++ m
    ≡ (119 ∷ w) ++ 32 ∷ (codes ":=" ++ 32 ∷ (b ++ 32 ∷ (codes "+" ++ 32 ∷ (p ++ 32 ∷ (codes "-" ++ 32 ∷ m)))))
apart w b p m = simp append_assoc refl

-- a text of these words is read as the write of their terms
by_words : (words : ℕ) (w : Write) (text a b p m : List ℕ) → words_of text ≡ a ∷ codes ":=" ∷ b ∷ codes "+" ∷ p ∷ codes "-" ∷ m ∷ []
    → term_of words a ≡ Ok (Word w.word) → term_of words b ≡ Ok w.base → term_of words p ≡ Ok w.plus → term_of words m ≡ Ok w.minus
    → write_formula words text ≡ Ok w
by_words words w text a b p m is word base plus minus = rw (is, word, base, plus, minus) refl

pub reads_write : (w : Write) → ReadsWrite w
reads_write w words few fits =
    let word = term_is_text words (Word w.word) few fits.word in
    let base = term_is_text words w.base few fits.base in
    let plus = term_is_text words w.plus few fits.plus in
    let minus = term_is_text words w.minus few fits.minus in
    let is = ap words_of (apart (decimal w.word) (term_text w.base) (term_text w.plus) (term_text w.minus))
    ∙ write_read_words (119 ∷ decimal w.word) (term_text w.base) (term_text w.plus) (term_text w.minus) word.one base.one plus.one minus.one in
    by_words words w (write_text w) (119 ∷ decimal w.word) (term_text w.base) (term_text w.plus) (term_text w.minus) is word.read base.read plus.read minus.read
