use Rattle.std.proofs.Common.{◌≡◌, true, false, Option, Some, None, refl, arith}
use Rattle.scoop_etcd.specs.Etcd.{Kept, kept}
use Rattle.scoop_rows_etcd.specs.Examples.{before, half, met, outcome}
use Rattle.scoop_rows_etcd.proofs.ExampleLemmas.{both_put, parts}
use Rattle.scoop_rows_etcd.proofs.examples.both_are_put.Goals as goal
use Rattle.std.specs.Prelude.{codes}

pub returns : goal.returns
returns c = record {
  puts = both_put;
  not_idle = λ txn is t. let no : 4 ≡ 5 = (parts before before txn (outcome true 4) met is t).1.revision in omega arith;
  not_half = λ txn is t.
      let no : ◌≡◌ {A = Option Kept} None (Some (kept (codes "z") 5)) = (parts before half txn (outcome true 5) met is t).1.there.1.0 in absurd (cc);
  not_failed = λ txn new revision is t. (parts before new txn (outcome false revision) met is t).0 (refl, (refl, (refl, tt)));
}
