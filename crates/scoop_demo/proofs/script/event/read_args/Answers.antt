use Rattle.scoop_demo.specs.ScriptLine.{number_of}
use Rattle.scoop_lines.proofs.ReadingLemmas.{length-each_of}
use Rattle.scoop_demo.proofs.script.event.read_args.Goals as goal

pub unreachable-requires : goal.unreachable-requires
unreachable-requires c =
    let count = length-each_of number_of _ c.in_ok-numbers.numbers.items c.in_ok-numbers.ensures in
    c.in-Err.ensures (rw (c.as_slice.ensures.value, count) c.requires)
