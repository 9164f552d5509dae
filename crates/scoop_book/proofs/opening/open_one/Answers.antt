use Rattle.scoop_book.proofs.opening.open_one.Goals as goal

pub returns-in-Err-clause-refused : goal.returns-in-Err-clause-refused
returns-in-Err-clause-refused g c = c.in-Err.ensures.refused c.args.handed.1
