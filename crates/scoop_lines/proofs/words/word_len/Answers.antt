use Rattle.std.proofs.Common.{◌==◌, ◌∙◌, sym}
use Rattle.scoop_lines.proofs.WordLemmas.{position_somewhere, position_nowhere}
use Rattle.scoop_lines.proofs.words.word_len.Goals as goal

pub returns-in-Some : goal.returns-in-Some
returns-in-Some c = position_somewhere (λ byte. byte == 32) c.args.line.now _ (sym c.first_space.ensures ∙ c.in-Some.is)

pub returns-in-None : goal.returns-in-None
returns-in-None c = position_nowhere (λ byte. byte == 32) c.args.line.now (sym c.first_space.ensures ∙ c.in-None.is)
