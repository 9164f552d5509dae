use Rattle.std.proofs.Common.{[], ◌∷◌, ◌++◌, map, refl}
use Rattle.scoop_rules.specs.Examples.ThreeClients.{greetings, blocks}
use Rattle.scoop_model.specs.Examples.Parties.{cell, placed, joins}
use Rattle.scoop_model.proofs.OpenedExamples.{three_cells_open}
use Rattle.scoop_rules.proofs.Follows.Runs.{runs_by_rules}
use Rattle.scoop_rules.proofs.examples.three_clients.Goals as goal

pub returns : goal.returns
returns c = record {
  opens = three_cells_open;
  all_taken = refl;
  notes = refl;
  joint = refl;
  first = refl;
  second = refl;
  third = refl;
  moves = refl;
  by_rules = runs_by_rules (map (placed cell 0) (1 ∷ 2 ∷ 3 ∷ [])) (map (joins (1 ∷ 2 ∷ 3 ∷ [])) (7 ∷ 8 ∷ 9 ∷ [])) (greetings ++ blocks) three_cells_open;
  first_queues = refl;
  second_queues = refl;
  third_queues = refl;
  first_replayed = refl;
  second_replayed = refl;
  third_replayed = refl;
}
