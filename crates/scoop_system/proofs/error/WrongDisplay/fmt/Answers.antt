use Rattle.std.proofs.Common.{append_assoc}
use Rattle.scoop_system.proofs.error.WrongDisplay.fmt.Goals as goal

pub returns-in-WordCount-clause-writes : goal.returns-in-WordCount-clause-writes
returns-in-WordCount-clause-writes g c plain ok = rw c.in-WordCount.is (simp append_assoc (c.write-in-WordCount.ensures.writes plain ok))

pub returns-in-NameTwice-clause-writes : goal.returns-in-NameTwice-clause-writes
returns-in-NameTwice-clause-writes g c plain ok = rw c.in-NameTwice.is (simp append_assoc (c.write-in-NameTwice.ensures.writes plain ok))

pub returns-in-NotATerm-clause-writes : goal.returns-in-NotATerm-clause-writes
returns-in-NotATerm-clause-writes g c plain ok = rw c.in-NotATerm.is (simp append_assoc (c.write-in-NotATerm.ensures.writes plain ok))

pub returns-in-NoSuchWord-clause-writes : goal.returns-in-NoSuchWord-clause-writes
returns-in-NoSuchWord-clause-writes g c plain ok = rw c.in-NoSuchWord.is (c.write-in-NoSuchWord.ensures.writes plain ok)

pub returns-in-LineWord-clause-writes : goal.returns-in-LineWord-clause-writes
returns-in-LineWord-clause-writes g c plain ok = rw c.in-LineWord.is (simp append_assoc (c.write-in-LineWord.ensures.writes plain ok))

pub returns-in-NotATestFormula-clause-writes : goal.returns-in-NotATestFormula-clause-writes
returns-in-NotATestFormula-clause-writes g c plain ok = rw c.in-NotATestFormula.is (simp append_assoc (c.write-in-NotATestFormula.ensures.writes plain ok))

pub returns-in-NotAWriteFormula-clause-writes : goal.returns-in-NotAWriteFormula-clause-writes
returns-in-NotAWriteFormula-clause-writes g c plain ok = rw c.in-NotAWriteFormula.is (simp append_assoc (c.write-in-NotAWriteFormula.ensures.writes plain ok))
