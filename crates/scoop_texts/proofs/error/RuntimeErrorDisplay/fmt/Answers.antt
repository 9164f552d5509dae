use Rattle.scoop_texts.proofs.error.RuntimeErrorDisplay.fmt.Goals as goal

pub returns-in-NotUsed-clause-writes : goal.returns-in-NotUsed-clause-writes
returns-in-NotUsed-clause-writes g c = rw c.in-NotUsed.is c.write-in-NotUsed.ensures.writes
