use Rattle.std.proofs.Common.{[], ◌∷◌, map, refl}
use Rattle.scoop_rules.specs.Examples.CutShort.{all_events}
use Rattle.scoop_model.specs.Examples.Parties.{cell, placed, joins}
use Rattle.scoop_model.proofs.OpenedExamples.{one_cell_opens}
use Rattle.scoop_rules.proofs.Follows.Runs.{runs_by_rules}
use Rattle.scoop_rules.proofs.examples.runs_what_came.Goals as goal

pub returns : goal.returns
returns c = record {
  opens = one_cell_opens;
  all_taken = refl;
  queues = refl;
  replays = refl;
  ran = refl;
  nothing_more = refl;
  too_late = refl;
  moves = refl;
  gone = refl;
  by_rules = runs_by_rules (map (placed cell 0) (1 ∷ [])) (map (joins (1 ∷ [])) (7 ∷ [])) all_events one_cell_opens;
  gone_replayed = refl;
  ran_replayed = refl;
}
