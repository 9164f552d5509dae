use Rattle.scoop_demo.specs.Storing.FailsToOpen.{no_memory}
use Rattle.scoop_demo.proofs.OpenLemmas.{fails_to_open, opens_one}
use Rattle.scoop_demo.proofs.opening.open_book.Goals as goal

pub refusal_of-requires : goal.refusal_of-requires
refusal_of-requires g c = opens_one _ _ _ _ _ _ _ (rw c.in-Some.ensures at c.in-Err.ensures.refused)

pub returns-in_default-clause-refused : goal.returns-in_default-clause-refused
returns-in_default-clause-refused g c = no_memory

pub returns-in-Err-clause-refused : goal.returns-in-Err-clause-refused
returns-in-Err-clause-refused g c = fails_to_open _ _ _ _ _ _ _ _ (rw c.in-Some.ensures at c.in-Err.ensures.refused) c.refusal_of.ensures
