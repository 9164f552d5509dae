-- `==` on operations: it decides whether they are the same.
use Rattle.std.proofs.Common.{◌≡◌, ◌&&◌, ℕ, List, Option, Some, None, ap, ◌∙◌, refl}
use Rattle.std.proofs.lemmas.Bool.Decides.{Decides-like, Decides-eqb}
use Rattle.std.proofs.lemmas.Slice.Eq.{slice_eq-Decides}
use Rattle.std.specs.Bool.{Decides}
use Rattle.std.specs.Option.{option_eq}
use Rattle.scoop_message.proofs.Same.{pair, pair_decides}
use Rattle.scoop_object.specs.Class.{ClassTable}
use Rattle.scoop_object.specs.declared.term.Term.{Term}
use Rattle.scoop_object.specs.declared.term.Term.TheVariants.{Const, Word, Arg}
use Rattle.scoop_object.specs.declared.term.Write.{Write}
use Rattle.scoop_object.specs.declared.row.OpRow.{OpRow}
use Rattle.scoop_object.specs.contracts.term.TermPartialEq.TheImpl as on_term
use Rattle.scoop_object.specs.contracts.term.WritePartialEq.TheImpl as on_write
use Rattle.scoop_object.specs.contracts.writes.WritesPartialEq.TheImpl as on_writes
use Rattle.scoop_object.specs.contracts.row.OpRowPartialEq.TheImpl as on_row

pub term_decides : (a b : Term) → Decides (on_term.eq-value.it a b) (a ≡ b)
term_decides (Const x) (Const y) = Decides-like _ (ap Const) (λ e. cc) (Decides-eqb x y)
term_decides (Const x) (Word j) = ((λ e. cc), (λ e. cc))
term_decides (Const x) (Arg j) = ((λ e. cc), (λ e. cc))
term_decides (Word i) (Const y) = ((λ e. cc), (λ e. cc))
term_decides (Word i) (Word j) = Decides-like _ (ap Word) (λ e. cc) (Decides-eqb i j)
term_decides (Word i) (Arg j) = ((λ e. cc), (λ e. cc))
term_decides (Arg i) (Const y) = ((λ e. cc), (λ e. cc))
term_decides (Arg i) (Word j) = ((λ e. cc), (λ e. cc))
term_decides (Arg i) (Arg j) = Decides-like _ (ap Arg) (λ e. cc) (Decides-eqb i j)

abbrev write_fields : Write → ℕ × (Term × (Term × Term))
write_fields w = pair w.word (pair w.base (pair w.plus w.minus))

abbrev write_of_fields : ℕ × (Term × (Term × Term)) → Write
write_of_fields t = record { word = t.0; base = t.1.0; plus = t.1.1.0; minus = t.1.1.1 }

pub write_decides : (a b : Write) → Decides (on_write.eq-value.it a b) (a ≡ b)
write_decides a b =
    Decides-like _ (ap write_of_fields) (ap write_fields)
    (pair_decides a.word b.word (pair a.base (pair a.plus a.minus)) (pair b.base (pair b.plus b.minus)) (Decides-eqb a.word b.word)
    (pair_decides a.base b.base (pair a.plus a.minus) (pair b.plus b.minus) (term_decides a.base b.base)
    (pair_decides a.plus b.plus a.minus b.minus (term_decides a.plus b.plus) (term_decides a.minus b.minus))))

pub writes_decides : (xs ys : List Write) → Decides (on_writes.eq-value.it xs ys) (xs ≡ ys)
writes_decides xs ys = slice_eq-Decides write_decides xs ys _ refl

terms_decides : (a b : Term × Term) → Decides (on_term.eq-value.it a.0 b.0 && on_term.eq-value.it a.1 b.1) (a ≡ b)
terms_decides a b = pair_decides a.0 b.0 a.1 b.1 (term_decides a.0 b.0) (term_decides a.1 b.1)

test_decides : (a b : Option (Term × Term)) → Decides (option_eq (λ (x y : Term × Term). on_term.eq-value.it x.0 y.0 && on_term.eq-value.it x.1 y.1) a b)
    (a ≡ b)
test_decides None None = ((λ e. refl), (λ e. refl))
test_decides None (Some y) = ((λ e. cc), (λ e. cc))
test_decides (Some x) None = ((λ e. cc), (λ e. cc))
test_decides (Some x) (Some y) = Decides-like _ (ap Some) (λ e. cc) (terms_decides x y)

abbrev row_fields : OpRow → ℕ × (Option (Term × Term) × (List Write × Term))
row_fields r = pair r.op (pair r.test (pair r.writes r.answer))

abbrev row_of_fields : ℕ × (Option (Term × Term) × (List Write × Term)) → OpRow
row_of_fields t = record { op = t.0; test = t.1.0; writes = t.1.1.0; answer = t.1.1.1 }

pub row_decides : (a b : OpRow) → Decides (on_row.eq-value.it a b) (a ≡ b)
row_decides a b =
    Decides-like _ (ap row_of_fields) (ap row_fields)
    (pair_decides a.op b.op (pair a.test (pair a.writes a.answer)) (pair b.test (pair b.writes b.answer)) (Decides-eqb a.op b.op)
    (pair_decides a.test b.test (pair a.writes a.answer) (pair b.writes b.answer) (test_decides a.test b.test)
    (pair_decides a.writes b.writes a.answer b.answer (writes_decides a.writes b.writes) (term_decides a.answer b.answer))))

-- classes of as many words with the same rows are the same
pub class_same : (a b : ClassTable) → a.words ≡ b.words → a.rows ≡ b.rows → a ≡ b
class_same a b e f =
    let make : ℕ → List OpRow → ClassTable = λ n rows. record { words = n; rows = rows } in
    ap (λ n. make n a.rows) e ∙ ap (make b.words) f
