use Rattle.std.proofs.Common.{[], ◌∷◌, ◌++◌, map, refl}
use Rattle.scoop_rules.specs.Examples.NodeRestarts.{asking, restarting, answering}
use Rattle.scoop_model.specs.Examples.Parties.{counter, placed, joins}
use Rattle.scoop_model.proofs.OpenedExamples.{counter_opens}
use Rattle.scoop_rules.proofs.Follows.Runs.{runs_by_rules}
use Rattle.scoop_rules.proofs.examples.runs_once.Goals as goal

pub returns : goal.returns
returns c = record {
  opens = counter_opens;
  all_taken = refl;
  no_job = refl;
  notes = refl;
  ran = refl;
  accepted = refl;
  words = refl;
  moves = refl;
  by_rules = runs_by_rules (placed counter 0 1 ∷ []) (map (joins (1 ∷ [])) (7 ∷ [])) (asking ++ restarting ++ answering) counter_opens;
  queues = refl;
  ran_replayed = refl;
  queues_replayed = refl;
}
