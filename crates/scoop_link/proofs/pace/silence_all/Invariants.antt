use Rattle.std.proofs.Common.{◌≡◌, ◌++◌, map, take, drop}
use Rattle.scoop_link.specs.Pace.{silenced}
use Rattle.scoop_link.proofs.pace.silence_all.Given as goal

-- the records before the index have changed
abbrev pub invariant-loop-last : goal.invariant-loop-last
invariant-loop-last l = l.lasts ≡ map silenced (take l.last-index l.fn.lasts) ++ drop l.last-index l.fn.lasts
