-- The number of arguments that an operation reads: all up to the last one that it names.
use Rattle.std.specs.Prelude.{ℕ, ◌==◌, ◌+◌, max, List, [], ◌∷◌, find, Option, Some, None}
use Rattle.std.specs.Option.{option_map, option_and_then}
use Rattle.scoop_message.specs.declared.name.HandlerId.{HandlerId}
use Rattle.scoop_object.specs.declared.term.Term.{Term}
use Rattle.scoop_object.specs.declared.term.Term.TheVariants.{Const, Word, Arg}
use Rattle.scoop_object.specs.declared.term.Write.{Write}
use Rattle.scoop_object.specs.declared.row.OpRow.{OpRow}
use Rattle.scoop_system.specs.declared.place.HandlerClass.{HandlerClass}
use Rattle.scoop_system.specs.System.{Plan, NamedClass, class_table, handler_named}

abbrev pub term_arguments : Term → ℕ
term_arguments (Const c) = 0
term_arguments (Word i) = 0
term_arguments (Arg i) = i + 1

abbrev pub test_arguments : Option (Term × Term) → ℕ
test_arguments None = 0
test_arguments (Some t) = max (term_arguments t.0) (term_arguments t.1)

abbrev pub write_arguments : Write → ℕ
write_arguments w = max (term_arguments w.base) (max (term_arguments w.plus) (term_arguments w.minus))

abbrev pub writes_arguments : List Write → ℕ
writes_arguments [] = 0
writes_arguments (w ∷ ws) = max (write_arguments w) (writes_arguments ws)

abbrev pub row_arguments : OpRow → ℕ
row_arguments row = max (test_arguments row.test) (max (writes_arguments row.writes) (term_arguments row.answer))

-- the arguments that the operation of this number reads, if there is one
abbrev pub rows_arguments : ℕ → List OpRow → Option ℕ
rows_arguments op rows = option_map row_arguments (find (λ row. row.op == op) rows)

abbrev pub class_arguments : List NamedClass → ℕ → HandlerClass → Option ℕ
class_arguments classes op class = option_and_then (λ t. rows_arguments op t.rows) (class_table classes class)

-- the arguments that the operation of this number reads in the class of the handler
abbrev pub handler_arguments : Plan → HandlerId → ℕ → Option ℕ
handler_arguments s handler op = option_and_then (λ p. class_arguments s.classes op p.class) (handler_named s.handlers handler)
