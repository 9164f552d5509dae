-- Names as faults print them are printable ASCII.
use Rattle.std.proofs.Common.{◌≡◌, ℕ, zero, suc, ◌<◌, ◌&&◌, Bool, true, false, List, [], ◌∷◌, ◌+◌, ◌-◌, length, take, drop, replicate, get_or, map, refl, sym}
use Rattle.std.proofs.Common.{ap, ◌∙◌, arith}
use Rattle.std.proofs.lemmas.List.{take_all, drop-drop, drop-replicate}
use Rattle.std.specs.List.{list_all}
use Rattle.std.specs.Str.{IsUtf8}
use Rattle.std.proofs.lemmas.Bool.Decides.{nat_tests}
use Rattle.std.proofs.lemmas.Str.{IsUtf8-from_ascii}
use Rattle.scoop_system.specs.Name.{is_printable, told_byte}

printable_or : (b : ℕ) (is : Bool) → is_printable b ≡ is → is_printable (told_byte b) ≡ true
printable_or b true is = rw (is, is) refl
printable_or b false is = rw is refl

pub told_printable : (bytes : List ℕ) → list_all is_printable (map told_byte bytes) ≡ true
told_printable [] = refl
told_printable (b ∷ bs) = rw (printable_or b (is_printable b) refl, told_printable bs) refl

others : (here rest : Bool) → (here && rest) ≡ true → rest ≡ true
others true rest is = is
others false rest is = cc

first_ascii : (b : ℕ) (rest : Bool) → (is_printable b && rest) ≡ true → b < 128
first_ascii b rest is = grind (arith, nat_tests)

printable_ascii : (bytes : List ℕ) → list_all is_printable bytes ≡ true → (i : ℕ) → get_or bytes i 0 < 128
printable_ascii [] is i = omega arith
printable_ascii (b ∷ bs) is zero = first_ascii b (list_all is_printable bs) is
printable_ascii (b ∷ bs) is (suc i) = printable_ascii bs (others (is_printable b) (list_all is_printable bs) is) i

pub printable-utf8 : (bytes : List ℕ) → list_all is_printable bytes ≡ true → IsUtf8 bytes
printable-utf8 bytes is = IsUtf8-from_ascii bytes (printable_ascii bytes is)

-- at the end of the bytes, the cells so far are those of all bytes
pub all_told : (bytes cells : List ℕ) (place : ℕ) → place ≡ length bytes → take place cells ≡ map told_byte (take place bytes)
    → take (length bytes) cells ≡ map told_byte bytes
all_told bytes cells place end front =
    rw (← end) (front ∙ ap (map told_byte) (take_all place bytes (omega (arith, end))))

-- one blank fewer is left
pub blanks_left : (cells : List ℕ) (i : ℕ) → drop i cells ≡ replicate (32 - i) 0 → drop (i + 1) cells ≡ replicate (32 - (i + 1)) 0
blanks_left cells i left =
    let fewer : (32 - i) - 1 ≡ 32 - (i + 1) = omega arith in
    sym (drop-drop 1 i cells) ∙ ap (drop 1) left ∙ drop-replicate 1 (32 - i) 0 ∙ ap (λ n. replicate n 0) fewer
