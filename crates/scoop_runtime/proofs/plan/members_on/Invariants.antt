-- The members so far are the node's handlers so far.
use Rattle.std.proofs.Common.{take}
use Rattle.std.specs.List.{AllZip}
use Rattle.scoop_system.specs.Known.{handlers_on}
use Rattle.scoop_runtime.specs.Members.{IsMemberOf}
use Rattle.scoop_runtime.proofs.plan.members_on.Given as goal

abbrev pub invariant-loop-place : goal.invariant-loop-place
invariant-loop-place l = AllZip (IsMemberOf l.system) (handlers_on l.number (take l.place-index l.handlers)) l.members.items
