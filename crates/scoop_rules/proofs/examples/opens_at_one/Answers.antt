use Rattle.std.proofs.Common.{[], ◌∷◌, ◌++◌, map, refl}
use Rattle.scoop_rules.specs.Examples.CutShort.{opening_both, restarting}
use Rattle.scoop_model.specs.Examples.Parties.{cell, placed, joins}
use Rattle.scoop_model.proofs.OpenedExamples.{two_cells_open}
use Rattle.scoop_rules.proofs.Follows.Runs.{runs_by_rules}
use Rattle.scoop_rules.proofs.examples.opens_at_one.Goals as goal

pub returns : goal.returns
returns c = record {
  opens = two_cells_open;
  notes = refl;
  joint = refl;
  first = refl;
  second = refl;
  first_ran = refl;
  second_ran = refl;
  moves = refl;
  by_rules = runs_by_rules (map (placed cell 0) (1 ∷ 2 ∷ [])) (map (joins (1 ∷ 2 ∷ [])) (7 ∷ [])) (opening_both ++ restarting) two_cells_open;
  first_queues = refl;
  second_queues = refl;
  first_replayed = refl;
  second_replayed = refl;
}
