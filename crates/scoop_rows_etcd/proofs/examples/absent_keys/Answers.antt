use Rattle.std.proofs.Common.{◌≡◌, Option, Some, None, [], refl, arith}
use Rattle.scoop_etcd.specs.Etcd.{Bytes}
use Rattle.scoop_rows_etcd.proofs.examples.absent_keys.Goals as goal

pub returns : goal.returns
returns c = record {
  absent = refl;
  not_there = λ e. let no : 3 ≡ 0 = e in omega arith;
  no_value = λ e. let no : ◌≡◌ {A = Option Bytes} None (Some []) = e in absurd (cc);
}
