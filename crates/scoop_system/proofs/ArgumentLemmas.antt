-- The number of arguments that an operation reads, and the numbers with which the object takes it.
use Rattle.std.proofs.Common.{◌≡◌, ℕ, ◌+◌, ◌&&◌, max, nat_lt, nat_le, true, arith, List, [], ◌∷◌, Option, Some, None}
use Rattle.std.specs.List.{list_all}
use Rattle.std.proofs.lemmas.Bool.Decides.{nat_tests}
use Rattle.scoop_object.specs.declared.term.Term.{Term}
use Rattle.scoop_object.specs.declared.term.Term.TheVariants.{Const, Word, Arg}
use Rattle.scoop_object.specs.declared.term.Write.{Write}
use Rattle.scoop_object.specs.declared.row.OpRow.{OpRow}
use Rattle.scoop_object.specs.Class.{is_arg_below, both, write_has_args_below, has_args_below}
use Rattle.scoop_system.specs.Arguments.{term_arguments, test_arguments, write_arguments, writes_arguments, row_arguments}

none_below : (n : ℕ) → true ≡ nat_le 0 n
none_below n = grind (arith, nat_tests)

next_below : (i n : ℕ) → nat_lt i n ≡ nat_le (i + 1) n
next_below i n = grind (arith, nat_tests)

below_max : (a b n : ℕ) → (nat_le a n && nat_le b n) ≡ nat_le (max a b) n
below_max a b n = grind (arith, nat_tests)

term_below : (n : ℕ) (t : Term) → is_arg_below n t ≡ nat_le (term_arguments t) n
term_below n (Const c) = none_below n
term_below n (Word i) = none_below n
term_below n (Arg i) = next_below i n

test_below : (n : ℕ) (test : Option (Term × Term)) → both (is_arg_below n) test ≡ nat_le (test_arguments test) n
test_below n None = none_below n
test_below n (Some t) = rw (term_below n t.0, term_below n t.1) (below_max (term_arguments t.0) (term_arguments t.1) n)

write_below : (n : ℕ) (w : Write) → write_has_args_below n w ≡ nat_le (write_arguments w) n
write_below n w =
    rw (term_below n w.base, term_below n w.plus, term_below n w.minus, below_max (term_arguments w.plus) (term_arguments w.minus) n)
    (below_max (term_arguments w.base) (max (term_arguments w.plus) (term_arguments w.minus)) n)

writes_below : (n : ℕ) (ws : List Write) → list_all (write_has_args_below n) ws ≡ nat_le (writes_arguments ws) n
writes_below n [] = none_below n
writes_below n (w ∷ ws) = rw (write_below n w, writes_below n ws) (below_max (write_arguments w) (writes_arguments ws) n)

-- a request with n arguments has all that the operation names exactly if the operation reads at most n
pub row_below : (n : ℕ) (row : OpRow) → has_args_below n row ≡ nat_le (row_arguments row) n
row_below n row =
    rw (test_below n row.test, writes_below n row.writes, term_below n row.answer, below_max (writes_arguments row.writes) (term_arguments row.answer) n)
    (below_max (test_arguments row.test) (max (writes_arguments row.writes) (term_arguments row.answer)) n)
