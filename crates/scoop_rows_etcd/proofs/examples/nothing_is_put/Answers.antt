use Rattle.std.proofs.Common.{◌≡◌, true, false, refl, ap, arith}
use Rattle.scoop_etcd.specs.Etcd.{Contents}
use Rattle.scoop_rows_etcd.specs.Examples.{before, after, unmet, outcome}
use Rattle.scoop_rows_etcd.proofs.ExampleLemmas.{by_parts, parts}
use Rattle.scoop_rows_etcd.proofs.examples.nothing_is_put.Goals as goal

pub returns : goal.returns
returns c = record {
  stays = λ txn is. by_parts before before txn (outcome false 4) unmet is
      (λ holds. let no : 4 ≡ 0 = holds.1.0 in omega arith, refl) refl;
  not_made = λ txn new revision is t. let no : 4 ≡ 0 = (parts before new txn (outcome true revision) unmet is t).0.1.0 in omega arith;
  not_put = λ txn revision is t.
      let no : 5 ≡ 4 = ap (λ (c : Contents). c.revision) (parts before after txn (outcome false revision) unmet is t).1 in omega arith;
}
