use Rattle.std.proofs.Common.{ℕ, List, nat_eq, ap, sym, ◌∙◌}
use Rattle.std.specs.Cmp.Lexicographic.{pointwise, same_text}
use Rattle.std.proofs.lemmas.Cmp.{nat_list_eq_equiv}
use Rattle.scoop_book.specs.Lines.{entry_of}
use Rattle.scoop_book.specs.Moves.{moved}
use Rattle.scoop_book.proofs.Packed.{same_words}
use Rattle.scoop_book.proofs.closing.is_of.Goals as goal

pub returns : goal.returns
returns c =
    let made : List ℕ = c.args.made.now in
    let words : List ℕ = c.args.words.now in (
      (λ equal. ap (λ (ws : List ℕ). moved (entry_of 0 ws)) (same_text made words (sym (sym c.eq.ensures ∙ equal)))),
      (λ same.
          c.eq.ensures
          ∙ (ap (λ (ws : List ℕ). pointwise nat_eq made ws) (sym (same_words made words c.requires.made c.requires.words same))
          ∙ nat_list_eq_equiv.refl made)),
    )
