use Rattle.std.proofs.Common.{◌≡◌, ◌++◌, map, take, drop}
use Rattle.scoop_link.specs.Udp.{moved}
use Rattle.scoop_link.proofs.udp_link.move_all.Given as goal

-- the parties before the index have moved
abbrev pub invariant-loop-listed : goal.invariant-loop-listed
invariant-loop-listed g l = l.listed-items ≡ map (moved l.fn.party l.fn.to) (take l.listed-index l.fn.addresses.items) ++ drop l.listed-index l.fn.addresses.items
