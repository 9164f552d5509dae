-- The terms, tests and writes that are read make the row of a class. A term without a fault names a word of the class or an
-- argument of a request (`IsTerm`, `IsTest`, `IsWrite`), since each reader tests it first. Each write is tested against those
-- before it. By induction on the rest, all are such writes, and no word is written twice (`AreWrites`). `ClassRowLemmas` makes
-- the operations and the class of them.
use Rattle.std.proofs.Common.{◌≡◌, ℕ, ◌==◌, ◌||◌, nat_lt, Bool, true, false, if◌then◌else◌, List, [], ◌∷◌, ◌++◌, Option, Some, None, Ok, Err, refl, ap, arith}
use Rattle.std.specs.List.{list_all, list_any}
use Rattle.std.proofs.lemmas.Bool.Decides.{nat_tests}
use Rattle.std.proofs.lemmas.List.Folds.{list_all-append, list_any-append}
use Rattle.toml.specs.Data.{Data, Items, string, as_str, as_array}
use Rattle.scoop_lines.specs.Number.{decimal_of}
use Rattle.scoop_lines.specs.Words.{Word as Text, words_of}
use Rattle.scoop_lines.specs.Reading.{Read}
use Rattle.scoop_lines.proofs.ReadingLemmas.{bind_ok, unless_ok}
use Rattle.scoop_message.specs.declared.limits.TheConstants.{MAX_ARGS}
use Rattle.scoop_object.specs.declared.term.Term.{Term}
use Rattle.scoop_object.specs.declared.term.Term.TheVariants.{Const, Word, Arg}
use Rattle.scoop_object.specs.declared.term.Write.{Write}
use Rattle.scoop_object.specs.Class.{is_word_below, is_arg_below, both, write_has_words_below, write_has_args_below}
use Rattle.scoop_object.specs.Repeats.{repeats}
use Rattle.scoop_system.specs.declared.error.Wrong.{Wrong}
use Rattle.scoop_system.specs.declared.error.Wrong.TheVariants.{NoSuchWord, NoSuchArgument, WrittenTwice}
use Rattle.scoop_system.specs.declared.error.Place.{Place}
use Rattle.scoop_system.specs.Name.{told}
use Rattle.scoop_system.specs.Value.{list_of}
use Rattle.scoop_system.specs.Place.{at}
use Rattle.scoop_system.specs.Terms.{word_term, argument_term, constant_term, term_of, or_no_term, term_in, two_terms, listed_test, formula_test, test_or_list, test_in}
use Rattle.scoop_system.specs.Terms.{written_word, word_in, four_terms, listed_write, formula_write, write_or_list, write_in, written_before, next_write, writes_from}
use Rattle.scoop_system.specs.Formulas.{test_words, write_words}

-- a value that is read at a place
pub at_ok : {A P : Type 0} (place : Place) (r : Read Wrong A) (y : A) → at place r ≡ Ok y → (r ≡ Ok y → P) → P
at_ok place (Ok x) y is go = let same : x ≡ y = cc in go (ap Ok same)
at_ok place (Err wrong) y is go = cc

-- ---- terms

-- a term names words and arguments that there are
pub record IsTerm (words : ℕ) (t : Term) : Type 0 where
  pub word : is_word_below words t ≡ true
  pub argument : is_arg_below MAX_ARGS t ≡ true

word_or : (words : ℕ) (text : List ℕ) (i : ℕ) (t : Term) (b : Bool) → nat_lt i words ≡ b
    → (if b then Ok (Word i) else Err (NoSuchWord (told text))) ≡ Ok t → IsTerm words t
word_or words text i t true test is = let same : Word i ≡ t = cc in rw (← same) (record { word = test; argument = refl })
word_or words text i t false test is = cc

word_term-good : (words : ℕ) (text : List ℕ) (o : Option ℕ) (t : Term) → word_term words text o ≡ Ok t → IsTerm words t
word_term-good words text None t is = cc
word_term-good words text (Some i) t is = word_or words text i t (nat_lt i words) refl is

argument_or : (words : ℕ) (text : List ℕ) (i : ℕ) (t : Term) (b : Bool) → nat_lt i MAX_ARGS ≡ b
    → (if b then Ok (Arg i) else Err (NoSuchArgument (told text))) ≡ Ok t → IsTerm words t
argument_or words text i t true test is = let same : Arg i ≡ t = cc in rw (← same) (record { word = refl; argument = test })
argument_or words text i t false test is = cc

argument_term-good : (words : ℕ) (text : List ℕ) (o : Option ℕ) (t : Term) → argument_term text o ≡ Ok t → IsTerm words t
argument_term-good words text None t is = cc
argument_term-good words text (Some i) t is = argument_or words text i t (nat_lt i MAX_ARGS) refl is

constant_term-good : (words : ℕ) (text : List ℕ) (o : Option ℕ) (t : Term) → constant_term text o ≡ Ok t → IsTerm words t
constant_term-good words text None t is = cc
constant_term-good words text (Some n) t is = let same : Const n ≡ t = cc in rw (← same) (record { word = refl; argument = refl })

by_letter : (words : ℕ) (text digits : List ℕ) (t : Term) (w a : Bool)
    → (if w then word_term words text (decimal_of digits)
    else (if a then argument_term text (decimal_of digits) else constant_term text (decimal_of text))) ≡ Ok t
    → IsTerm words t
by_letter words text digits t true a is = word_term-good words text (decimal_of digits) t is
by_letter words text digits t false true is = argument_term-good words text (decimal_of digits) t is
by_letter words text digits t false false is = constant_term-good words text (decimal_of text) t is

term_of-good : (words : ℕ) (text : List ℕ) (t : Term) → term_of words text ≡ Ok t → IsTerm words t
term_of-good words [] t is = cc
term_of-good words (byte ∷ digits) t is = by_letter words (byte ∷ digits) digits t (byte == 119) (byte == 97) is

or_no_term-good : (words : ℕ) (o : Option (List ℕ)) (t : Term) → or_no_term words o ≡ Ok t → IsTerm words t
or_no_term-good words None t is = cc
or_no_term-good words (Some text) t is = term_of-good words text t is

pub term_in-good : (words : ℕ) (d : Data) (t : Term) → term_in words d ≡ Ok t → IsTerm words t
term_in-good words d t is = or_no_term-good words (as_str d) t is

-- ---- tests

pub record IsTest (words : ℕ) (test : Option (Term × Term)) : Type 0 where
  pub word : both (is_word_below words) test ≡ true
  pub argument : both (is_arg_below MAX_ARGS) test ≡ true

both_good : (words : ℕ) (left right : Term) → IsTerm words left → IsTerm words right → IsTest words (Some (left, right))
both_good words left right l r = record { word = rw (l.word, r.word) refl; argument = rw (l.argument, r.argument) refl }

two_terms-good : (words : ℕ) (ds : List Data) (test : Option (Term × Term)) → two_terms words ds ≡ Ok test → IsTest words test
two_terms-good words [] test is = cc
two_terms-good words (a ∷ []) test is = cc
two_terms-good words (a ∷ b ∷ []) test is =
    bind_ok (term_in words a) _ test is λ left l more.
    bind_ok (term_in words b) _ test more λ right r made.
    let same : Some (left, right) ≡ test = cc in
    rw (← same) (both_good words left right (term_in-good words a left l) (term_in-good words b right r))
two_terms-good words (a ∷ b ∷ c ∷ ds) test is = cc

listed_test-good : (words : ℕ) (o : Option Items) (test : Option (Term × Term)) → listed_test words o ≡ Ok test → IsTest words test
listed_test-good words None test is = cc
listed_test-good words (Some ds) test is = two_terms-good words (list_of ds) test is

formula_test-good : (words : ℕ) (text : List ℕ) (o : Option (Text × Text)) (test : Option (Term × Term)) → formula_test words text o ≡ Ok test
    → IsTest words test
formula_test-good words text None test is = cc
formula_test-good words text (Some (left, right)) test is = two_terms-good words (string left ∷ string right ∷ []) test is

test_or_list-good : (words : ℕ) (o : Option (List ℕ)) (ds : Option Items) (test : Option (Term × Term)) → test_or_list words o ds ≡ Ok test
    → IsTest words test
test_or_list-good words None ds test is = listed_test-good words ds test is
test_or_list-good words (Some text) ds test is = formula_test-good words text (test_words (words_of text)) test is

pub test_in-good : (words : ℕ) (o : Option Data) (test : Option (Term × Term)) → test_in words o ≡ Ok test → IsTest words test
test_in-good words None test is = let same : None ≡ test = cc in rw (← same) (record { word = refl; argument = refl })
test_in-good words (Some d) test is = test_or_list-good words (as_str d) (as_array d) test is

-- ---- writes

pub record IsWrite (words : ℕ) (w : Write) : Type 0 where
  pub word : write_has_words_below words w ≡ true
  pub argument : write_has_args_below MAX_ARGS w ≡ true

word_written : (words : ℕ) (t : Term) (word : ℕ) → written_word t ≡ Ok word → is_word_below words t ≡ true → nat_lt word words ≡ true
word_written words (Const n) word is below = cc
word_written words (Word i) word is below = let same : i ≡ word = cc in rw (← same) below
word_written words (Arg i) word is below = cc

write_good : (words word : ℕ) (base plus minus : Term) → nat_lt word words ≡ true → IsTerm words base → IsTerm words plus → IsTerm words minus
    → IsWrite words (record { word = word; base = base; plus = plus; minus = minus })
write_good words word base plus minus w b p m =
    record { word = rw (w, b.word, p.word, m.word) refl; argument = rw (b.argument, p.argument, m.argument) refl }

four_terms-good : (words : ℕ) (ds : List Data) (w : Write) → four_terms words ds ≡ Ok w → IsWrite words w
four_terms-good words [] w is = cc
four_terms-good words (t ∷ []) w is = cc
four_terms-good words (t ∷ a ∷ []) w is = cc
four_terms-good words (t ∷ a ∷ b ∷ []) w is = cc
four_terms-good words (t ∷ a ∷ b ∷ c ∷ []) w is =
    bind_ok (word_in words t) _ w is λ word one two.
    bind_ok (term_in words t) _ word one λ term t_is word_is.
    bind_ok (term_in words a) _ w two λ base base_is three.
    bind_ok (term_in words b) _ w three λ plus plus_is four.
    bind_ok (term_in words c) _ w four λ minus minus_is made.
    let new : Write = record { word = word; base = base; plus = plus; minus = minus } in
    let same : new ≡ w = cc in
    let below = word_written words term word word_is (term_in-good words t term t_is).word in
    rw (← same) (write_good words word base plus minus below (term_in-good words a base base_is) (term_in-good words b plus plus_is)
    (term_in-good words c minus minus_is))
four_terms-good words (t ∷ a ∷ b ∷ c ∷ d ∷ ds) w is = cc

listed_write-good : (words : ℕ) (o : Option Items) (w : Write) → listed_write words o ≡ Ok w → IsWrite words w
listed_write-good words None w is = cc
listed_write-good words (Some ds) w is = four_terms-good words (list_of ds) w is

formula_write-good : (words : ℕ) (text : List ℕ) (o : Option (Text × Text × Text × Text)) (w : Write) → formula_write words text o ≡ Ok w
    → IsWrite words w
formula_write-good words text None w is = cc
formula_write-good words text (Some (word, base, plus, minus)) w is =
    four_terms-good words (string word ∷ string base ∷ string plus ∷ string minus ∷ []) w is

write_or_list-good : (words : ℕ) (o : Option (List ℕ)) (ds : Option Items) (w : Write) → write_or_list words o ds ≡ Ok w → IsWrite words w
write_or_list-good words None ds w is = listed_write-good words ds w is
write_or_list-good words (Some text) ds w is = formula_write-good words text (write_words (words_of text)) w is

other_way : (a b : ℕ) → (a == b) ≡ false → (b == a) ≡ false
other_way a b is = grind (arith, nat_tests)

neither : (a b : Bool) → (a || b) ≡ false → (a ≡ false) × (b ≡ false)
neither true b is = cc
neither false b is = (refl, is)

-- one more, whose key none of the others has
pub repeats-push : {A : Type 0} (key : A → ℕ) (xs : List A) (x : A) → repeats key xs ≡ false → list_any (λ y. key y == key x) xs ≡ false
    → repeats key (xs ++ x ∷ []) ≡ false
repeats-push key [] x once new = refl
repeats-push key (z ∷ zs) x once new =
    let (apart, later) = neither (list_any (λ y. key y == key z) zs) (repeats key zs) once in
    let (here, others) = neither (key z == key x) (list_any (λ y. key y == key x) zs) new in
    rw (list_any-append (λ y. key y == key z) zs (x ∷ []), apart, other_way (key z) (key x) here, repeats-push key zs x later others) refl

pub record AreWrites (words : ℕ) (ws : List Write) : Type 0 where
  pub word : list_all (write_has_words_below words) ws ≡ true
  pub argument : list_all (write_has_args_below MAX_ARGS) ws ≡ true
  pub once : repeats (λ w. w.word) ws ≡ false

-- without a fault the test fails
pub no_fault_no : (b : Bool) (wrong : Wrong) → (if b then Some wrong else None) ≡ None → b ≡ false
no_fault_no true wrong is = cc
no_fault_no false wrong is = refl

writes-push : (words : ℕ) (done : List Write) (w : Write) → AreWrites words done → IsWrite words w → written_before done w ≡ None
    → AreWrites words (done ++ w ∷ [])
writes-push words done w are good new = record {
  word = rw (list_all-append (write_has_words_below words) done (w ∷ []), are.word, good.word) refl;
  argument = rw (list_all-append (write_has_args_below MAX_ARGS) done (w ∷ []), are.argument, good.argument) refl;
  once = repeats-push (λ v. v.word) done w are.once (no_fault_no (list_any (λ v. v.word == w.word) done) (WrittenTwice w.word) new);
}

pub writes_from-good : (words : ℕ) (done : List Write) (ds : List Data) (ws : List Write) → AreWrites words done → writes_from words done ds ≡ Ok ws
    → AreWrites words ws
writes_from-good words done [] ws are is = let same : done ≡ ws = cc in rw (← same) are
writes_from-good words done (d ∷ ds) ws are is =
    bind_ok (next_write words done d) _ ws is λ w next more.
    bind_ok (write_in words d) _ w next λ v v_is kept.
    unless_ok (written_before done v) _ w kept λ new made.
    let same : v ≡ w = cc in
    writes_from-good words (done ++ w ∷ []) ds ws
    (rw (← same) (writes-push words done v are (write_or_list-good words (as_str d) (as_array d) v v_is) new)) more
