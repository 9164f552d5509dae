use Rattle.std.proofs.Common.{◌≡◌, ◌++◌, take, drop}
use Rattle.scoop_seal.specs.Hmac.{mixed}
use Rattle.scoop_seal.proofs.mac.mix.Given as goal

-- those before the index are mixed
abbrev pub invariant-loop-b : goal.invariant-loop-b
invariant-loop-b l = l.b-items ≡ mixed (take l.b-index l.fn.block) l.fn.byte ++ drop l.b-index l.fn.block
