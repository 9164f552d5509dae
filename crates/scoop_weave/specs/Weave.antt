-- The promise for every weave.
use Rattle.std.specs.Prelude.{◌≡◌, List, []}
use Rattle.scoop_model.specs.World.{World}
use Rattle.scoop_model.specs.Step.{Placement, Newcomer, opening}
use Rattle.scoop_model.specs.declared.event.Event.{Event}
use Rattle.scoop_model.specs.Reach.{Leads}
use Rattle.scoop_model.specs.Safe.{Safe}
use Rattle.scoop_rules.specs.Paper.{RunsByRules, FollowsRules}
use Rattle.scoop_weave.specs.System.{System, new_system}
use Rattle.scoop_weave.specs.Moves.{LocalMove, IsWeave}
use Rattle.scoop_weave.specs.Promises.{Promises}
use Rattle.scoop_weave.specs.Histories.{world_by, events_of}

-- from the system as it opens, the moves lead to this one
abbrev pub Weave : List Placement → List Newcomer → List LocalMove → System → Type 0
Weave ps ns ms now = IsWeave [] (new_system ps ns) ms now

-- None of the moves' events is refused. They lead from the opening world to the one with the system's handlers and clients and
-- the moves' histories. So these are safe and a run of the written rules, and so is whatever happens next.
pub record IsWorld (ps : List Placement) (ns : List Newcomer) (ms : List LocalMove) (now : System) : Type 0 where
  pub leads : Leads (opening ps ns) (events_of ms) (world_by ms now)
  pub safe : Safe (world_by ms now)
  pub rules : RunsByRules (opening ps ns) (events_of ms) (world_by ms now)
  pub promises : Promises ms now
  pub follows : (e : Event) → FollowsRules (world_by ms now) e

-- the world is that of some weave
pub record IsOfWeave (ps : List Placement) (ns : List Newcomer) (w : World) : Type 0 where
  pub moves : List LocalMove
  pub now : System
  pub weave : Weave ps ns moves now
  pub is : w ≡ world_by moves now
