use Rattle.std.proofs.Common.{◌≡◌, ◌++◌, map, take, drop}
use Rattle.scoop_pacing.specs.Pacing.{hears}
use Rattle.scoop_pacing.proofs.pacing.hear_all.Given as goal

-- the asks before the index have heard the reply
abbrev pub invariant-loop-ask : goal.invariant-loop-ask
invariant-loop-ask l = l.asks ≡ map (hears l.fn.from l.fn.now) (take l.ask-index l.fn.asks) ++ drop l.ask-index l.fn.asks
