-- The state of a reservation.
use Rattle.std.specs.Prelude.{List}
use Rattle.scoop_message.specs.declared.name.HandlerId.{HandlerId}
use Rattle.scoop_message.specs.declared.name.Block.{Block}
use Rattle.scoop_reserve.specs.declared.stage.Stage.{Stage}

-- the block's handlers as they were named, and those that are left to do in this stage
pub record ReservationState : Type 0 where
  pub block : Block
  pub handlers : List HandlerId
  pub stage : Stage
  pub left : List HandlerId

-- a stage begins
abbrev pub at_stage : ReservationState → Stage → List HandlerId → ReservationState
at_stage r stage left = record r { stage = stage; left = left }
