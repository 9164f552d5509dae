-- The numbers of the members so far.
use Rattle.std.proofs.Common.{◌≡◌, map, take}
use Rattle.scoop_runtime.specs.declared.plan.Member.{Member}
use Rattle.scoop_runtime.proofs.plan.numbers_of.Given as goal

abbrev pub invariant-loop-member : goal.invariant-loop-member
invariant-loop-member l = l.numbers.items ≡ map (λ (m : Member). m.handler) (take l.member-index l.members)
