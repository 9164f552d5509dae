use Rattle.scoop_system.proofs.line.when.+find_tries.Given as goal

abbrev pub decreases-find_tries : goal.decreases-find_tries
decreases-find_tries l = l.left
