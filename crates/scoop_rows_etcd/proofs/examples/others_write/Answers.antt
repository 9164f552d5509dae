use Rattle.std.proofs.Common.{◌≡◌, true, Option, refl, ap, sym, ◌∙◌, arith}
use Rattle.scoop_etcd.specs.Etcd.{Bytes, Kept, revision_of}
use Rattle.scoop_rows_etcd.specs.Examples.{before, after, one, met, outcome}
use Rattle.scoop_rows_etcd.proofs.ExampleLemmas.{both_put, parts}
use Rattle.scoop_rows_etcd.proofs.examples.others_write.Goals as goal

pub returns : goal.returns
returns c = record {
  others = λ txn is. record { met = before; own = λ no. absurd no; transacts = both_put txn is };
  alone = λ txn is. record { met = before; own = λ _. refl; transacts = both_put txn is };
  raised = λ txn is. record { met = before; own = λ _. refl; transacts = both_put txn is };
  not_alone = λ txn is a.
      let no : 0 ≡ 3 = ap (λ (under : Bytes → Option Kept). revision_of (under one)) (sym (a.own tt)) ∙ (parts a.met after txn (outcome true 5) met is a.transacts).0.0 in omega arith;
}
