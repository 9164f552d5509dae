-- The line of a block says that block: the digits of its numbers have no dot and no quote, so that each number is read whole.
use Rattle.std.proofs.Common.{◌≡◌, ℕ, ◌+◌, ◌<◌, ◌==◌, ◌&&◌, ◌^◌, nat_lt, not, Bool, true, false, List, [], ◌∷◌, ◌++◌, length, drop, codes, Some, refl, sym, ap, ◌∙◌}
use Rattle.std.proofs.Common.{arith, rules, append_assoc, length-append}
use Rattle.std.proofs.Math.Seq.{take-append_seam, drop-append-add}
use Rattle.std.specs.Fmt.{decimal}
use Rattle.std.specs.List.{list_all, position_or_len, before_first, after_first}
use Rattle.std.specs.Str.Parse.{digits_value}
use Rattle.std.proofs.lemmas.Bool.Decides.{nat_tests}
use Rattle.std.proofs.lemmas.Fmt.{decimal_is_IsNumeral}
use Rattle.std.proofs.lemmas.Str.Parse.{IsDigitsTest, IsNumeralModel, numerals_by_value}
use Rattle.scoop_lines.specs.Number.{is_digit, decimal_below}
use Rattle.scoop_owner.specs.declared.newest.Newest.{Newest}
use Rattle.scoop_owner.specs.Incarnation.{incarnation_line, incarnation_of}
use Rattle.scoop_owner.specs.Newest.{newest_line, newest_of, number_before, quoted_block, has_byte, first_number, second_number, ended_block, after_handler, at_handler}

-- ---- the first place of a byte

abbrev is_other : ℕ → ℕ → Bool
is_other byte b = not (b == byte)

here : (byte : ℕ) → (byte == byte) ≡ true
here byte = grind (arith, nat_tests)

first_of : (b1 b2 : Bool) → (b1 && b2) ≡ true → b1 ≡ true
first_of true b2 is = refl
first_of false b2 is = cc

rest_of : (b1 b2 : Bool) → (b1 && b2) ≡ true → b2 ≡ true
rest_of true b2 is = is
rest_of false b2 is = cc

first_place : (byte : ℕ) (xs rest : List ℕ) → list_all (is_other byte) xs ≡ true → position_or_len (λ b. b == byte) (xs ++ byte ∷ rest) ≡ length xs
first_place byte [] rest none = rw (here byte) refl
first_place byte (x ∷ xs) rest none =
    rw (first_of (is_other byte x) (list_all (is_other byte) xs) none, first_place byte xs rest (rest_of (is_other byte x) (list_all (is_other byte) xs) none)) (omega arith)

below_true : (n limit : ℕ) → n < limit → nat_lt n limit ≡ true
below_true n limit below = grind (arith, nat_tests)

drop_seam : (xs rest : List ℕ) (x : ℕ) → drop (length xs + 1) (xs ++ x ∷ rest) ≡ rest
drop_seam xs rest x = drop-append-add xs (x ∷ rest) 1

has : (byte : ℕ) (xs rest : List ℕ) → list_all (is_other byte) xs ≡ true → has_byte byte (xs ++ byte ∷ rest) ≡ true
has byte xs rest none = rw (first_place byte xs rest none) (below_true _ _ (omega (arith, length-append xs (byte ∷ rest))))

before : (byte : ℕ) (xs rest : List ℕ) → list_all (is_other byte) xs ≡ true → before_first (λ b. b == byte) (xs ++ byte ∷ rest) ≡ xs
before byte xs rest none = rw (first_place byte xs rest none) (take-append_seam xs (byte ∷ rest))

after : (byte : ℕ) (xs rest : List ℕ) → list_all (is_other byte) xs ≡ true → after_first (λ b. b == byte) (xs ++ byte ∷ rest) ≡ rest
after byte xs rest none = rw (first_place byte xs rest none) (drop_seam xs rest byte)

-- ---- digits

digits_test : IsDigitsTest (λ ds. list_all is_digit ds ≡ true)
digits_test = search rules

digits_model : IsNumeralModel (λ ds. list_all is_digit ds ≡ true) (digits_value 10)
digits_model = numerals_by_value _ digits_test

digit_other : (byte b : ℕ) → is_digit byte ≡ false → is_digit b ≡ true → is_other byte b ≡ true
digit_other byte b apart is = grind (arith, nat_tests)

digits_other : (byte : ℕ) (ds : List ℕ) → is_digit byte ≡ false → list_all is_digit ds ≡ true → list_all (is_other byte) ds ≡ true
digits_other byte [] apart is = refl
digits_other byte (d ∷ ds) apart is =
    rw (digit_other byte d apart (first_of (is_digit d) (list_all is_digit ds) is), digits_other byte ds apart (rest_of (is_digit d) (list_all is_digit ds) is)) refl

-- the digits of a number
record AreDigits (n : ℕ) (ds : List ℕ) : Type 0 where
  digits : list_all is_digit ds ≡ true
  value : decimal_below (2 ^ 32) ds ≡ Some n

some_length : (n : ℕ) → 0 < n → (n == 0) ≡ false
some_length n some = grind (arith, nat_tests)

digits_of : (n : ℕ) → n < 2 ^ 32 → AreDigits n (decimal n)
digits_of n below =
    let ((some, all), value) = decimal_is_IsNumeral n (omega arith) in
    let digits = digits_model.from (decimal n) all in
    record {
      digits = digits;
      value = rw (some_length (length (decimal n)) some, digits, value, below_true n (2 ^ 32) below) refl;
    }

number_read : (byte n : ℕ) (ds rest : List ℕ) → AreDigits n ds → is_digit byte ≡ false → number_before byte (ds ++ byte ∷ rest) ≡ Some (n, rest)
number_read byte n ds rest d apart =
    let none = digits_other byte ds apart d.digits in
    rw (has byte ds rest none, before byte ds rest none, after byte ds rest none, d.value) refl

-- ---- the line

num_read : (c i n : ℕ) (ns rest : List ℕ) → AreDigits n ns
    → second_number c (Some (i, ns ++ 34 ∷ rest)) ≡ Some (record { client = record { 0 = c }; inc = i; num = n })
num_read c i n ns rest d = ap (ended_block c i) (number_read 34 n ns rest d refl)

inc_read : (c i n : ℕ) (is ns rest : List ℕ) → AreDigits i is → AreDigits n ns
    → first_number (Some (c, is ++ 46 ∷ (ns ++ 34 ∷ rest))) ≡ Some (record { client = record { 0 = c }; inc = i; num = n })
inc_read c i n is ns rest d e = ap (second_number c) (number_read 46 i is (ns ++ 34 ∷ rest) d refl) ∙ num_read c i n ns rest e

quote_read : (c i n : ℕ) (cs is ns rest : List ℕ) → AreDigits c cs → AreDigits i is → AreDigits n ns
    → quoted_block (cs ++ 46 ∷ (is ++ 46 ∷ (ns ++ 34 ∷ rest))) ≡ Some (record { client = record { 0 = c }; inc = i; num = n })
quote_read c i n cs is ns rest d e f =
    ap first_number (number_read 46 c cs (is ++ 46 ∷ (ns ++ 34 ∷ rest)) d refl) ∙ inc_read c i n is ns rest e f

blank_other : (ds : List ℕ) → list_all (is_other 34) ds ≡ true → list_all (is_other 34) (ds ++ codes " = ") ≡ true
blank_other [] is = refl
blank_other (d ∷ ds) is =
    rw (first_of (is_other 34 d) (list_all (is_other 34) ds) is, blank_other ds (rest_of (is_other 34 d) (list_all (is_other 34) ds) is)) refl

skip_read : (handler : ℕ) (xs rest : List ℕ) → list_all (is_other 34) xs ≡ true
    → after_handler (Some (handler, xs ++ 34 ∷ rest)) ≡ at_handler handler (quoted_block rest)
skip_read handler xs rest none = rw (has 34 xs rest none) (ap (λ text. at_handler handler (quoted_block text)) (after 34 xs rest none))

value_read : (handler c : ℕ) (cs text : List ℕ) → AreDigits c cs
    → after_handler (Some (handler, cs ++ 32 ∷ 61 ∷ 32 ∷ 34 ∷ text)) ≡ at_handler handler (quoted_block text)
value_read handler c cs text d =
    ap (λ line. after_handler (Some (handler, line))) (sym (append_assoc cs (codes " = ") (34 ∷ text)))
    ∙ skip_read handler (cs ++ codes " = ") text (blank_other cs (digits_other 34 cs refl d.digits))

key_read : (h c : ℕ) (hs cs text : List ℕ) → AreDigits h hs → AreDigits c cs
    → newest_of (codes "newest." ++ (hs ++ 46 ∷ (cs ++ 32 ∷ 61 ∷ 32 ∷ 34 ∷ text))) ≡ at_handler h (quoted_block text)
key_read h c hs cs text d e = ap after_handler (number_read 46 h hs (cs ++ 32 ∷ 61 ∷ 32 ∷ 34 ∷ text) d refl) ∙ value_read h c cs text e

all_read : (h c i n : ℕ) (hs cs is ns : List ℕ) → AreDigits h hs → AreDigits c cs → AreDigits i is → AreDigits n ns
    → newest_of (codes "newest." ++ (hs ++ 46 ∷ (cs ++ 32 ∷ 61 ∷ 32 ∷ 34 ∷ (cs ++ 46 ∷ (is ++ 46 ∷ (ns ++ 34 ∷ []))))))
    ≡ Some (record { handler = record { 0 = h }; block = record { client = record { 0 = c }; inc = i; num = n } })
all_read h c i n hs cs is ns d e f g =
    key_read h c hs cs (cs ++ 46 ∷ (is ++ 46 ∷ (ns ++ 34 ∷ []))) d e ∙ ap (at_handler h) (quote_read c i n cs is ns [] e f g)

regrouped : (key hs dot cs sign is ns quote : List ℕ)
    → key ++ hs ++ dot ++ cs ++ sign ++ (cs ++ dot ++ is ++ dot ++ ns) ++ quote
    ≡ key ++ (hs ++ (dot ++ (cs ++ (sign ++ (cs ++ (dot ++ (is ++ (dot ++ (ns ++ quote)))))))))
regrouped key hs dot cs sign is ns quote = simp append_assoc

-- the same of the text as it is written
written_read : (h c i n : ℕ) (hs cs is ns : List ℕ) → AreDigits h hs → AreDigits c cs → AreDigits i is → AreDigits n ns
    → newest_of (codes "newest." ++ hs ++ codes "." ++ cs ++ codes " = \"" ++ (cs ++ codes "." ++ is ++ codes "." ++ ns) ++ codes "\"")
    ≡ Some (record { handler = record { 0 = h }; block = record { client = record { 0 = c }; inc = i; num = n } })
written_read h c i n hs cs is ns d e f g =
    ap newest_of (regrouped (codes "newest.") hs (codes ".") cs (codes " = \"") is ns (codes "\"")) ∙ all_read h c i n hs cs is ns d e f g

-- the line of a block says this block
pub line_read : (n : Newest) → n.handler.0 < 2 ^ 32 → n.block.client.0 < 2 ^ 32 → n.block.inc < 2 ^ 32 → n.block.num < 2 ^ 32 → newest_of (newest_line n) ≡ Some n
unfolding newest_line
line_read n h c i b =
    written_read n.handler.0 n.block.client.0 n.block.inc n.block.num (decimal n.handler.0) (decimal n.block.client.0) (decimal n.block.inc) (decimal n.block.num)
    (digits_of n.handler.0 h) (digits_of n.block.client.0 c) (digits_of n.block.inc i) (digits_of n.block.num b)

-- ---- the line of an incarnation

after_key : (n : ℕ) (ds : List ℕ) → AreDigits n ds → incarnation_of (codes "incarnation = " ++ ds) ≡ Some n
after_key n ds d = d.value

pub incarnation_read : (inc : ℕ) → inc < 2 ^ 32 → incarnation_of (incarnation_line inc) ≡ Some inc
unfolding incarnation_line
incarnation_read inc fits = after_key inc (decimal inc) (digits_of inc fits)
