use Rattle.std.proofs.Common.{arith}
use Rattle.scoop_etcd.proofs.PackedLemmas.{split_is}
use Rattle.scoop_etcd.proofs.packing.split_place.Goals as goal

pub returns-clause-place : goal.returns-clause-place
returns-clause-place c =
    split_is c.args.value.now c.u64_at-len.result (λ i. omega (arith, c.type_inv.value i)) (omega (arith, c.if-len-rest.false))
    c.u64_at-len.ensures (omega arith)
