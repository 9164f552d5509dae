-- The effect of a request: the words of the object after it, and the answer.
use Rattle.std.specs.Prelude.{◌==◌, ◌&&◌, ◌+◌, ◌-◌, ◌^◌, min, nat_le, ℕ, Bool, true, false, length, List, map, slice_index, find, Option, Some, None}
use Rattle.std.specs.List.{enumerate_from}
use Rattle.scoop_message.specs.declared.request.Request.{Request}
use Rattle.scoop_message.specs.declared.request.Answer.{Answer}
use Rattle.scoop_message.specs.declared.request.Answer.TheVariants.{Refused, Value}
use Rattle.scoop_object.specs.declared.term.Term.{Term}
use Rattle.scoop_object.specs.declared.term.Term.TheVariants.{Const, Word, Arg}
use Rattle.scoop_object.specs.declared.term.Write.{Write}
use Rattle.scoop_object.specs.declared.row.OpRow.{OpRow}
use Rattle.scoop_object.specs.Class.{ClassTable, has_args_below}

-- the value of a term
abbrev pub value_of : List ℕ → List ℕ → Term → ℕ
value_of words args (Const c) = c
value_of words args (Word i) = slice_index words i
value_of words args (Arg i) = slice_index args i

-- base + plus - minus, clamped to 0 .. 2^64 - 1 (`-` stops at 0)
abbrev pub written_value : List ℕ → List ℕ → Write → ℕ
written_value words args w =
    min (value_of words args w.base + value_of words args w.plus - value_of words args w.minus) (2 ^ 64 - 1)

-- a word afterwards: the value that its write sets, or the old word if there is no write of it
abbrev pub word_after : List ℕ → List ℕ → Option Write → ℕ → ℕ
word_after words args None old = old
word_after words args (Some w) old = written_value words args w

-- all writes read the old words
abbrev pub words_after : List ℕ → List ℕ → List Write → List ℕ
words_after words args writes =
    map (λ (place : ℕ × ℕ). word_after words args (find (λ w. w.word == place.0) writes) place.1) (enumerate_from 0 words)

-- the test, if there is one, passes: its left term isn't greater than its right one
abbrev pub passes : List ℕ → List ℕ → Option (Term × Term) → Bool
passes words args None = true
passes words args (Some t) = nat_le (value_of words args t.0) (value_of words args t.1)

-- an operation that runs, or is refused
abbrev pub run_or_refused : Bool → OpRow → List ℕ → List ℕ → List ℕ × Answer
run_or_refused true row words args = let new = words_after words args row.writes in (new, Value (value_of new args row.answer))
run_or_refused false row words args = (words, Refused)

-- it runs if the request has all arguments that it names and its test passes
abbrev pub row_effect : OpRow → List ℕ → List ℕ → List ℕ × Answer
row_effect row words args = run_or_refused (has_args_below (length args) row && passes words args row.test) row words args

-- an operation that isn't in the class is refused
abbrev pub effect_of_row : Option OpRow → List ℕ → List ℕ → List ℕ × Answer
effect_of_row None words args = (words, Refused)
effect_of_row (Some row) words args = row_effect row words args

-- the effect of a request: the new words and the answer
abbrev pub eff : ClassTable → List ℕ → Request → List ℕ × Answer
eff class words request = effect_of_row (find (λ row. row.op == request.op) class.rows) words request.args
