use Rattle.std.proofs.Common.{sym}
use Rattle.scoop_demo.proofs.PartyLemmas.{words_for-length}
use Rattle.scoop_demo.proofs.script.party.read_placement.Goals as goal

pub returns-in-Ok-read_words-clause-fits : goal.returns-in-Ok-read_words-clause-fits
returns-in-Ok-read_words-clause-fits c = words_for-length c.in-Ok-read_class.class _ c.in-Ok-read_words.words (sym c.in-Ok-read_words.ensures)
