-- The start of a reservation.
use Rattle.std.specs.Prelude.{◌==◌, nat_lt, if◌then◌else◌, List, length, Option, Some, None, Result, Ok, Err}
use Rattle.scoop_message.specs.declared.limits.TheConstants.{MAX_BLOCK_HANDLERS}
use Rattle.scoop_message.specs.declared.name.HandlerId.{HandlerId}
use Rattle.scoop_message.specs.declared.name.Block.{Block}
use Rattle.scoop_reserve.specs.declared.stage.Stage.TheVariants.{Locking}
use Rattle.scoop_reserve.specs.declared.error.ReserveError.{ReserveError}
use Rattle.scoop_reserve.specs.declared.error.ReserveError.TheVariants.{Empty, TooMany, Repeated, Unknown}
use Rattle.scoop_reserve.specs.Handlers.{first_repeated, first_unknown}
use Rattle.scoop_reserve.specs.State.{ReservationState}

-- nothing is locked yet
abbrev pub fresh : Block → List HandlerId → ReservationState
fresh b hs = record { block = b; handlers = hs; stage = Locking; left = hs }

abbrev pub unless_unknown : ReservationState → Option HandlerId → Result ReservationState ReserveError
unless_unknown r (Some h) = Err (Unknown h)
unless_unknown r None = Ok r

-- a repeated handler is reported before any unknown one
abbrev pub unless_repeated : ReservationState → Option HandlerId → Option HandlerId → Result ReservationState ReserveError
unless_repeated r (Some h) unknown = Err (Repeated h)
unless_repeated r None unknown = unless_unknown r unknown

abbrev pub started : Block → List HandlerId → List HandlerId → Result ReservationState ReserveError
started b hs known =
    if length hs == 0 then Err Empty
    else if nat_lt MAX_BLOCK_HANDLERS (length hs) then Err TooMany
    else unless_repeated (fresh b hs) (first_repeated hs) (first_unknown known hs)
