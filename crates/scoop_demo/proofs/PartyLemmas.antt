-- The handlers and the numbers that lines name.
use Rattle.std.proofs.Common.{◌≡◌, ℕ, ◌^◌, ap, sym, Bool, true, false, ◌==◌, List, length, Ok, Err, refl, ◌∙◌, if◌then◌else◌, arith}
use Rattle.std.proofs.lemmas.Bool.Decides.{nat_tests}
use Rattle.scoop_object.specs.Class.{ClassTable}
use Rattle.scoop_demo.specs.declared.fault.InputFault.TheVariants.{WrongNumberOfWords}
use Rattle.scoop_lines.specs.Words.{Word}
use Rattle.scoop_lines.specs.Reading.{◌>>=◌, each_of}
use Rattle.scoop_demo.specs.ScriptLine.{words_for, handler_of, number_of, number_below}
use Rattle.scoop_lines.proofs.ReadingLemmas.{length-each_of}

pub handler_read : (word : Word) (n : ℕ) → Ok n ≡ number_below (2 ^ 32) word → handler_of word ≡ Ok (record { 0 = n })
handler_read word n is = ap (λ r. r >>= λ n. Ok (record { 0 = n })) (sym is)

as_many : (class : ClassTable) (words : List Word) (xs : List ℕ) (counts : Bool) → counts ≡ (length words == class.words)
    → (if counts then each_of number_of words else Err WrongNumberOfWords) ≡ Ok xs → length xs ≡ class.words
as_many class words xs true test is =
    let count : length words ≡ class.words = grind (arith, nat_tests) in length-each_of number_of words xs is ∙ count
as_many class words xs false test is = cc

-- as many as its class has
pub words_for-length : (class : ClassTable) (words : List Word) (xs : List ℕ) → words_for class words ≡ Ok xs → length xs ≡ class.words
words_for-length class words xs is = as_many class words xs (length words == class.words) refl is
