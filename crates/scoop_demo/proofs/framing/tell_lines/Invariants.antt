use Rattle.std.proofs.Common.{◌-◌}
use Rattle.scoop_lines.specs.Line.{count_limit}
use Rattle.scoop_demo.proofs.framing.tell_lines.Given as goal

abbrev pub decreases-loop-lines : goal.decreases-loop-lines
decreases-loop-lines g l = count_limit - l.lines.taken
