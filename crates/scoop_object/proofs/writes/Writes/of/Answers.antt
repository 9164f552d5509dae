use Rattle.scoop_object.specs.Blank.{blank_write}
use Rattle.scoop_object.proofs.Start.{padded_start}
use Rattle.scoop_object.proofs.writes.Writes.of.Goals as goal

pub invariant_of-result : goal.invariant_of-result
invariant_of-result c =
    padded_start blank_write 16 c.args.writes.now c.copy_from_slice.new.self c.copy_from_slice.ensures.after c.if-count-gt-MAX_WRITES.false
