use Rattle.scoop_demo.specs.Script.StopsAtLine.{in_output, in_memory}
use Rattle.scoop_demo.proofs.playing.cast.Cast.play_in_world.Goals as goal

pub returns-in-Err-Write-clause-err : goal.returns-in-Err-Write-clause-err
returns-in-Err-Write-clause-err g c parties stored = in_output

pub returns-in-Err-OutOfMemory-clause-err : goal.returns-in-Err-OutOfMemory-clause-err
returns-in-Err-OutOfMemory-clause-err g c parties stored = in_memory
