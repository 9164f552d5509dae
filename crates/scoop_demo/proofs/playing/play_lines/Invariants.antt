use Rattle.std.proofs.Common.{◌-◌, is_some}
use Rattle.scoop_keeper.specs.Memory.{incarnation_at}
use Rattle.scoop_lines.specs.Line.{count_limit}
use Rattle.scoop_demo.proofs.ScriptLemmas.{Taken}
use Rattle.scoop_demo.proofs.playing.play_lines.Given as goal

abbrev pub invariant-loop-cast : goal.invariant-loop-cast
invariant-loop-cast g l =
    Taken (λ t. t.class) (g.R.Read.remaining l.fn.reader) (incarnation_at l.initial.cast.keeper) l.lines
    (is_some l.cast.world) l.cast.placements.items l.cast.clients.items (incarnation_at l.cast.keeper)

abbrev pub decreases-loop-cast : goal.decreases-loop-cast
decreases-loop-cast g l = count_limit - l.lines.taken
