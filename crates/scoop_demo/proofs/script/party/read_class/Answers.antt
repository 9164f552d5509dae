use Rattle.std.proofs.Common.{ap}
use Rattle.scoop_demo.specs.ScriptLine.{or_no_class}
use Rattle.scoop_classes.proofs.ClassLemmas.{no_class}
use Rattle.scoop_demo.proofs.script.party.read_class.Goals as goal

pub returns-in_default-clause-fault : goal.returns-in_default-clause-fault
returns-in_default-clause-fault c = ap or_no_class (no_class c.args.word.now c.in_default.ensures.cases.0)
