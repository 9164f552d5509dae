use Rattle.scoop_programs.proofs.ExampleRuns.{example}
use Rattle.scoop_programs.proofs.example.example_may_run.Goals as goal

pub returns : goal.returns
returns c = example
