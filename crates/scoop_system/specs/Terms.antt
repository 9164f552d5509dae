-- The rows of a class in a file.
use Rattle.std.specs.Prelude.{ℕ, ◌==◌, ◌^◌, ◌-◌, nat_lt, if◌then◌else◌, List, [], ◌∷◌, ◌++◌, find, is_some, Option, Some, None, Ok, Err}
use Rattle.std.specs.List.{list_any}
use Rattle.toml.specs.Data.{Data, Items, string, get, as_str, as_array}
use Rattle.scoop_lines.specs.Number.{decimal_of}
use Rattle.scoop_lines.specs.Words.{Word as Text, words_of}
use Rattle.scoop_lines.specs.Reading.{Read, ◌>>=◌, unless}
use Rattle.scoop_message.specs.declared.limits.TheConstants.{MAX_ARGS, MAX_WRITES}
use Rattle.scoop_classes.specs.Classes.{same_text}
use Rattle.scoop_object.specs.declared.term.Term.{Term}
use Rattle.scoop_object.specs.declared.term.Term.TheVariants.{Const, Word, Arg}
use Rattle.scoop_object.specs.declared.term.Write.{Write}
use Rattle.scoop_object.specs.declared.row.OpRow.{OpRow}
use Rattle.scoop_system.specs.declared.class.OwnOperation.{OwnOperation}
use Rattle.scoop_system.specs.declared.error.Key.{Key}
use Rattle.scoop_system.specs.declared.error.Key.TheVariants as key
use Rattle.scoop_system.specs.declared.error.Wrong.{Wrong}
use Rattle.scoop_system.specs.declared.error.Wrong.TheVariants.{Missing, NotATerm, NotAText, NoSuchWord, NoSuchArgument, NotATest, NotAWrite, WrittenTwice}
use Rattle.scoop_system.specs.declared.error.Wrong.TheVariants.{Twice, NameTwice, NotATestFormula, NotAWriteFormula}
use Rattle.scoop_system.specs.Name.{told}
use Rattle.scoop_system.specs.KeyText.{key_text}
use Rattle.scoop_system.specs.Formulas.{test_words, write_words}
use Rattle.scoop_system.specs.Value.{list_of, number_at, name_at, list_at, key_fault}

-- ---- terms, in a class of this many words

-- `w` and the place of a word
abbrev pub word_term : ℕ → List ℕ → Option ℕ → Read Wrong Term
word_term words text None = Err (NotATerm (told text))
word_term words text (Some i) = if nat_lt i words then Ok (Word i) else Err (NoSuchWord (told text))

-- `a` and the place of an argument
abbrev pub argument_term : List ℕ → Option ℕ → Read Wrong Term
argument_term text None = Err (NotATerm (told text))
argument_term text (Some i) = if nat_lt i MAX_ARGS then Ok (Arg i) else Err (NoSuchArgument (told text))

abbrev pub constant_term : List ℕ → Option ℕ → Read Wrong Term
constant_term text None = Err (NotATerm (told text))
constant_term text (Some n) = Ok (Const n)

-- a term: a word, an argument, or a constant in decimal digits
abbrev pub term_of : ℕ → List ℕ → Read Wrong Term
term_of words [] = Err (NotATerm (told []))
term_of words (byte ∷ digits) =
    if byte == 119 then word_term words (byte ∷ digits) (decimal_of digits)
    else (if byte == 97 then argument_term (byte ∷ digits) (decimal_of digits)
    else constant_term (byte ∷ digits) (decimal_of (byte ∷ digits)))

abbrev pub or_no_term : ℕ → Option (List ℕ) → Read Wrong Term
or_no_term words None = Err NotAText
or_no_term words (Some text) = term_of words text

abbrev pub term_in : ℕ → Data → Read Wrong Term
term_in words d = or_no_term words (as_str d)

-- ---- the parts of an operation

-- a test of two terms
abbrev pub test_of : Read Wrong Term → Read Wrong Term → Read Wrong (Option (Term × Term))
test_of left right = left >>= λ left. right >>= λ right. Ok (Some (left, right))

abbrev pub two_terms : ℕ → List Data → Read Wrong (Option (Term × Term))
two_terms words [] = Err NotATest
two_terms words (a ∷ []) = Err NotATest
two_terms words (a ∷ b ∷ []) = test_of (term_in words a) (term_in words b)
two_terms words (a ∷ b ∷ c ∷ ds) = Err NotATest

abbrev pub listed_test : ℕ → Option Items → Read Wrong (Option (Term × Term))
listed_test words None = Err NotATest
listed_test words (Some ds) = two_terms words (list_of ds)

-- a formula means the list of the texts of its terms
abbrev pub formula_test : ℕ → List ℕ → Option (Text × Text) → Read Wrong (Option (Term × Term))
formula_test words text None = Err (NotATestFormula (told text))
formula_test words text (Some (left, right)) = two_terms words (string left ∷ string right ∷ [])

abbrev pub test_formula : ℕ → List ℕ → Read Wrong (Option (Term × Term))
test_formula words text = formula_test words text (test_words (words_of text))

abbrev pub test_or_list : ℕ → Option (List ℕ) → Option Items → Read Wrong (Option (Term × Term))
test_or_list words None ds = listed_test words ds
test_or_list words (Some text) ds = test_formula words text

abbrev pub test_in : ℕ → Option Data → Read Wrong (Option (Term × Term))
test_in words None = Ok None
test_in words (Some d) = test_or_list words (as_str d) (as_array d)

-- the test: a formula, or a list of two terms. It passes if the left one is at most the right one
abbrev pub test_at : ℕ → Data → Read Wrong (Option (Term × Term))
test_at words d = test_in words (get (key_text key.Test) d)

abbrev pub written_word : Term → Read Wrong ℕ
written_word (Const n) = Err NotAWrite
written_word (Word i) = Ok i
written_word (Arg i) = Err NotAWrite

-- the word that a text names
abbrev pub word_of : ℕ → List ℕ → Read Wrong ℕ
word_of words text = term_of words text >>= written_word

-- the word that a write names
abbrev pub word_in : ℕ → Data → Read Wrong ℕ
word_in words d = term_in words d >>= written_word

-- a write of a word and three terms
abbrev pub write_of : Read Wrong ℕ → Read Wrong Term → Read Wrong Term → Read Wrong Term → Read Wrong Write
write_of word base plus minus =
    word >>= λ word. base >>= λ base. plus >>= λ plus. minus >>= λ minus. Ok (record { word = word; base = base; plus = plus; minus = minus })

abbrev pub four_terms : ℕ → List Data → Read Wrong Write
four_terms words [] = Err NotAWrite
four_terms words (w ∷ []) = Err NotAWrite
four_terms words (w ∷ a ∷ []) = Err NotAWrite
four_terms words (w ∷ a ∷ b ∷ []) = Err NotAWrite
four_terms words (w ∷ a ∷ b ∷ c ∷ []) =
    write_of (word_in words w) (term_in words a) (term_in words b) (term_in words c)
four_terms words (w ∷ a ∷ b ∷ c ∷ d ∷ ds) = Err NotAWrite

abbrev pub listed_write : ℕ → Option Items → Read Wrong Write
listed_write words None = Err NotAWrite
listed_write words (Some ds) = four_terms words (list_of ds)

-- a formula means the list of the texts of its word and its terms
abbrev pub formula_write : ℕ → List ℕ → Option (Text × Text × Text × Text) → Read Wrong Write
formula_write words text None = Err (NotAWriteFormula (told text))
formula_write words text (Some (word, base, plus, minus)) =
    four_terms words (string word ∷ string base ∷ string plus ∷ string minus ∷ [])

abbrev pub write_formula : ℕ → List ℕ → Read Wrong Write
write_formula words text = formula_write words text (write_words (words_of text))

abbrev pub write_or_list : ℕ → Option (List ℕ) → Option Items → Read Wrong Write
write_or_list words None ds = listed_write words ds
write_or_list words (Some text) ds = write_formula words text

-- a write: a formula, or a list of a word and the three terms of `base + plus - minus`
abbrev pub write_in : ℕ → Data → Read Wrong Write
write_in words d = write_or_list words (as_str d) (as_array d)

abbrev pub written_before : List Write → Write → Option Wrong
written_before done w = if list_any (λ v. v.word == w.word) done then Some (WrittenTwice w.word) else None

-- a write, after those before it
abbrev pub next_write : ℕ → List Write → Data → Read Wrong Write
next_write words done d = write_in words d >>= λ w. unless (written_before done w) (Ok w)

abbrev pub writes_from : ℕ → List Write → List Data → Read Wrong (List Write)
writes_from words done [] = Ok done
writes_from words done (d ∷ ds) = next_write words done d >>= λ w. writes_from words (done ++ w ∷ []) ds

-- the writes. No word is written twice
abbrev pub writes_at : ℕ → Data → Read Wrong (List Write)
writes_at words d = list_at key.Writes MAX_WRITES d >>= writes_from words []

abbrev pub answer_in : ℕ → Option Data → Read Wrong Term
answer_in words None = Err (Missing key.Answer)
answer_in words (Some d) = term_in words d

abbrev pub answer_at : ℕ → Data → Read Wrong Term
answer_at words d = answer_in words (get (key_text key.Answer) d)

-- ---- an operation

abbrev pub operation_keys : List Key
operation_keys = key.Number ∷ key.Name ∷ key.Test ∷ key.Writes ∷ key.Answer ∷ []

abbrev pub number_before : List OpRow → ℕ → Option Wrong
number_before rows number = if list_any (λ row. row.op == number) rows then Some Twice else None

abbrev pub name_before : List OwnOperation → List ℕ → Option Wrong
name_before operations name = if is_some (find (λ o. same_text o.name name) operations) then Some (NameTwice name) else None

abbrev pub named_row : ℕ → List ℕ → Option (Term × Term) → List Write → Term → OpRow × OwnOperation
named_row number name test writes answer =
    (record { op = number; test = test; writes = writes; answer = answer }, record { number = number; name = name })

-- an operation and its name, after those before it
abbrev pub operation_of : ℕ → List OpRow → List OwnOperation → Data → Read Wrong (OpRow × OwnOperation)
operation_of words rows operations d =
    unless (key_fault operation_keys d)
    (number_at key.Number 0 (2 ^ 16 - 1) d >>= λ number. name_at key.Name d >>= λ name. test_at words d >>= λ test. writes_at words d >>= λ writes.
    answer_at words d >>= λ answer. unless (number_before rows number) (unless (name_before operations name) (Ok (named_row number name test writes answer))))
