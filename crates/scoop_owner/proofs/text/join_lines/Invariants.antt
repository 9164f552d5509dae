use Rattle.std.proofs.Common.{◌≡◌, ◌++◌, map, take, drop}
use Rattle.scoop_owner.specs.Owner.{joined}
use Rattle.scoop_owner.proofs.text.join_lines.Given as goal

-- the bytes before the index are joined
abbrev pub invariant-loop-byte : goal.invariant-loop-byte
invariant-loop-byte l = l.text ≡ map joined (take l.byte-index l.fn.text) ++ drop l.byte-index l.fn.text
