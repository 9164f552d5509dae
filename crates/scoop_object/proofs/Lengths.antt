-- An object keeps its number of words.
use Rattle.std.proofs.Common.{◌≡◌, ◌∙◌, ◌==◌, ◌&&◌, Bool, true, false, ℕ, List, length, find, Option, Some, None, refl}
use Rattle.std.specs.List.{enumerate_from}
use Rattle.std.proofs.lemmas.List.{length-map}
use Rattle.std.proofs.lemmas.List.FromFn.{length-enumerate_from}
use Rattle.scoop_message.specs.declared.request.Request.{Request}
use Rattle.scoop_object.specs.declared.row.OpRow.{OpRow}
use Rattle.scoop_object.specs.Class.{ClassTable, has_args_below}
use Rattle.scoop_object.specs.Effect.{passes, effect_of_row, eff, run_or_refused}

length-run_or_refused : (b : Bool) (row : OpRow) (words args : List ℕ) → length (run_or_refused b row words args).0 ≡ length words
length-run_or_refused true row words args = length-map (enumerate_from 0 words) _ ∙ length-enumerate_from 0 words
length-run_or_refused false row words args = refl

length-effect_of_row : (row : Option OpRow) (words args : List ℕ) → length (effect_of_row row words args).0 ≡ length words
length-effect_of_row None words args = refl
length-effect_of_row (Some row) words args = length-run_or_refused (has_args_below (length args) row && passes words args row.test) row words args

pub length-eff : (class : ClassTable) (words : List ℕ) (request : Request) → length (eff class words request).0 ≡ length words
length-eff class words request = length-effect_of_row (find (λ row. row.op == request.op) class.rows) words request.args
