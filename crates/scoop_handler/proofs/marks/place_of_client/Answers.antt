use Rattle.std.proofs.Common.{ltb, arith, rules}
use Rattle.std.proofs.lemmas.List.Sorted.{IsPartitionPoint-from_clause, IsPartitionedBy-ltb}
use Rattle.scoop_handler.specs.declared.mark.Mark.{Mark}
use Rattle.scoop_handler.proofs.MarkPlaces.{in_order, place_at}
use Rattle.scoop_handler.proofs.marks.place_of_client.Goals as goal

pub returns-clause-place : goal.returns-clause-place
returns-clause-place c =
    let marks = c.args.marks.now in
    let client = c.args.client in
    let parted = IsPartitionedBy-ltb (λ (k : Mark). k.client.0) marks client.0 (in_order marks c.requires) in
    let point = IsPartitionPoint-from_clause (λ (k : Mark). ltb k.client.0 client.0) _ _ c.partition_point.ensures.partitioned parted
    (λ a r q k. search rules) in
    place_at client marks c.partition_point.result c.partition_point.ensures.bound (λ k d lt. point.0 k d (omega arith) lt)
    (λ d lt. point.1 c.partition_point.result d (omega arith) lt)
