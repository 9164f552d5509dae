use Rattle.std.proofs.Common.{◌≡◌, Bool, true, false, Option, bytes_eq, refl, sym, ap, subst, arith}
use Rattle.std.specs.Prelude.{if◌then◌else◌}
use Rattle.std.specs.Cmp.Lexicographic.{bytes_decides}
use Rattle.scoop_etcd.specs.Etcd.{Bytes, Kept, revision_of}
use Rattle.scoop_rows_etcd.specs.Examples.{before, last_put, one}
use Rattle.scoop_rows_etcd.proofs.examples.two_callers.Goals as goal

-- each key stands as it did
same : (asked : Bytes) → (if bytes_eq asked one then last_put.under asked else before.under asked) ≡ (if bytes_eq asked one then before.under asked else before.under asked)
same asked = at (bytes_eq asked one) refl
  where
    at : (b : Bool) → bytes_eq asked one ≡ b → (if b then last_put.under asked else before.under asked) ≡ (if b then before.under asked else before.under asked)
    at true e = subst (λ key. last_put.under key ≡ before.under key) (sym ((bytes_decides asked one).0 e)) refl
    at false e = refl

pub returns : goal.returns
returns c = record {
  raised = refl;
  alone = λ i asked. same asked i;
  not_alone = λ seen. let no : 5 ≡ 3 = ap (λ (under : Bytes → Option Kept). revision_of (under one)) seen in omega arith;
}
