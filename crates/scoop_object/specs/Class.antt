-- A class: the number of words of its objects, its operations, and the rows that make a class.
use Rattle.std.specs.Prelude.{◌≡◌, ◌≤◌, ◌&&◌, not, if◌then◌else◌, nat_lt, ℕ, Bool, true, List, length, Option, Some, None}
use Rattle.std.specs.List.{list_all, list_any}
use Rattle.scoop_message.specs.declared.limits.TheConstants.{MAX_ARGS, MAX_OPS, MAX_WORDS}
use Rattle.scoop_object.specs.Repeats.{repeats}
use Rattle.scoop_object.specs.declared.term.Term.{Term}
use Rattle.scoop_object.specs.declared.term.Term.TheVariants.{Const, Word, Arg}
use Rattle.scoop_object.specs.declared.term.Write.{Write}
use Rattle.scoop_object.specs.declared.row.OpRow.{OpRow}
use Rattle.scoop_object.specs.declared.fault.ClassError.{ClassError}
use Rattle.scoop_object.specs.declared.fault.ClassError.TheVariants.{TooManyOps, WordOutOfRange, ArgOutOfRange, RepeatedOp, RepeatedWrite}

-- the number of words of an object of the class, and its operations
pub record ClassTable : Type 0 where
  pub words : ℕ
  pub rows : List OpRow

-- a term names one of the first n words, or no word
abbrev pub is_word_below : ℕ → Term → Bool
is_word_below n (Const c) = true
is_word_below n (Word i) = nat_lt i n
is_word_below n (Arg i) = true

-- a term names one of the first n arguments, or no argument
abbrev pub is_arg_below : ℕ → Term → Bool
is_arg_below n (Const c) = true
is_arg_below n (Word i) = true
is_arg_below n (Arg i) = nat_lt i n

-- both terms of a test, if there is a test
abbrev pub both : (Term → Bool) → Option (Term × Term) → Bool
both p None = true
both p (Some t) = p t.0 && p t.1

-- all words that a write names, its own included, are among the first n
abbrev pub write_has_words_below : ℕ → Write → Bool
write_has_words_below n w = nat_lt w.word n && (is_word_below n w.base && (is_word_below n w.plus && is_word_below n w.minus))

-- all arguments that a write names are among the first n
abbrev pub write_has_args_below : ℕ → Write → Bool
write_has_args_below n w = is_arg_below n w.base && (is_arg_below n w.plus && is_arg_below n w.minus)

-- all words that an operation names are among the first n
abbrev pub has_words_below : ℕ → OpRow → Bool
has_words_below n row = both (is_word_below n) row.test && (list_all (write_has_words_below n) row.writes && is_word_below n row.answer)

-- all arguments that an operation names are among the first n
abbrev pub has_args_below : ℕ → OpRow → Bool
has_args_below n row = both (is_arg_below n) row.test && (list_all (write_has_args_below n) row.writes && is_arg_below n row.answer)

-- an operation writes a word twice
abbrev pub writes_twice : OpRow → Bool
writes_twice row = repeats (λ w. w.word) row.writes

-- the first reason why these rows make no class for this number of words
abbrev pub fault_of : ℕ → List OpRow → Option ClassError
fault_of words rows =
    if nat_lt MAX_OPS (length rows) then Some TooManyOps
    else (if not (list_all (has_words_below words) rows) then Some WordOutOfRange
    else (if not (list_all (has_args_below MAX_ARGS) rows) then Some ArgOutOfRange
    else (if repeats (λ row. row.op) rows then Some RepeatedOp
    else (if list_any writes_twice rows then Some RepeatedWrite
    else None))))

-- these rows make a class for this number of words
pub record IsClass (words : ℕ) (rows : List OpRow) : Type 0 where
  pub some_words : 1 ≤ words
  pub few_words : words ≤ MAX_WORDS
  pub no_fault : fault_of words rows ≡ None
