use Rattle.scoop_system.proofs.FormulaLemmas.{reads_test}
use Rattle.scoop_system.proofs.printing.class.print_formula.Goals as goal

pub returns-in_err-print_term-clause-read : goal.returns-in_err-print_term-clause-read
returns-in_err-print_term-clause-read g c = reads_test (c.args.left, c.args.right)

pub returns-in_err-write_all-clause-read : goal.returns-in_err-write_all-clause-read
returns-in_err-write_all-clause-read g c = reads_test (c.args.left, c.args.right)

pub returns-clause-read : goal.returns-clause-read
returns-clause-read g c = reads_test (c.args.left, c.args.right)
