-- The printed text of a test or a write, which is a formula of it.
use Rattle.std.specs.Prelude.{◌≡◌, ℕ, ◌<◌, ◌≤◌, ◌^◌, Some, Ok}
use Rattle.scoop_message.specs.declared.limits.TheConstants.{MAX_ARGS, MAX_WORDS}
use Rattle.scoop_object.specs.declared.term.Term.{Term}
use Rattle.scoop_object.specs.declared.term.Term.TheVariants.{Const, Word, Arg}
use Rattle.scoop_object.specs.declared.term.Write.{Write}
use Rattle.scoop_system.specs.Terms.{test_formula, write_formula}
use Rattle.scoop_system.specs.SystemText.{test_formula_text, write_text}

-- a term that a class of this many words may have
abbrev pub TermFits : ℕ → Term → Type 0
TermFits words (Const n) = n < 2 ^ 64
TermFits words (Word i) = i < words
TermFits words (Arg i) = i < MAX_ARGS

-- a write that such a class may have
pub record WriteFits (words : ℕ) (w : Write) : Type 0 where
  pub word : w.word < words
  pub base : TermFits words w.base
  pub plus : TermFits words w.plus
  pub minus : TermFits words w.minus

-- the printed test is read as this one
abbrev pub ReadsTest : Term × Term → Type 0
ReadsTest t = (words : ℕ) → words ≤ MAX_WORDS → TermFits words t.0 → TermFits words t.1 → test_formula words (test_formula_text t) ≡ Ok (Some t)

-- the printed write is read as this one
abbrev pub ReadsWrite : Write → Type 0
ReadsWrite w = (words : ℕ) → words ≤ MAX_WORDS → WriteFits words w → write_formula words (write_text w) ≡ Ok w
