use Rattle.std.proofs.Common.{[], ◌∷◌, map, refl}
use Rattle.scoop_rules.specs.Examples.OneCell.{events}
use Rattle.scoop_model.specs.Examples.Parties.{cell, placed, joins}
use Rattle.scoop_model.proofs.OpenedExamples.{one_cell_opens}
use Rattle.scoop_rules.proofs.Follows.Runs.{runs_by_rules}
use Rattle.scoop_rules.proofs.examples.one_cell.Goals as goal

pub returns : goal.returns
returns c = record {
  opens = one_cell_opens;
  all_taken = refl;
  notes = refl;
  joint = refl;
  opened = refl;
  ran = refl;
  moves = refl;
  by_rules = runs_by_rules (map (placed cell 0) (1 ∷ [])) (map (joins (1 ∷ [])) (7 ∷ [])) events one_cell_opens;
  queues = refl;
}
