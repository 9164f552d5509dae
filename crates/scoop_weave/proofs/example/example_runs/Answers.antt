use Rattle.scoop_weave.proofs.Names.{[], ◌∷◌, refl}
use Rattle.scoop_model.proofs.OpenedExamples.{two_cells_open}
use Rattle.scoop_weave.specs.Example.{node, order, party}
use Rattle.scoop_weave.proofs.ExampleRuns.{runs}
use Rattle.scoop_weave.proofs.JoinedLives.{is_a_world}
use Rattle.scoop_weave.proofs.example.example_runs.Goals as goal

pub returns-clause-runs : goal.returns-clause-runs
returns-clause-runs c = runs

pub returns-clause-world : goal.returns-clause-world
returns-clause-world c = is_a_world (node ∷ []) (party ∷ []) two_cells_open order runs

pub returns-clause-blocks : goal.returns-clause-blocks
returns-clause-blocks c = refl

pub returns-clause-words : goal.returns-clause-words
returns-clause-words c = refl
