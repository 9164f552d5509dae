use Rattle.scoop_journal.proofs.file.whole_len.Given as goal

abbrev pub decreases-loop-end : goal.decreases-loop-end
decreases-loop-end l = l.end
