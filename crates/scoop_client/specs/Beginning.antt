-- The beginning of a client.
use Rattle.std.specs.Prelude.{◌≡◌, ℕ, ◌==◌, nat_lt, if◌then◌else◌, List, [], length, Option, Some, None, Result, Ok, Err, IsOk}
use Rattle.scoop_message.specs.declared.limits.TheConstants.{MAX_HANDLERS}
use Rattle.scoop_message.specs.declared.name.HandlerId.{HandlerId}
use Rattle.scoop_message.specs.declared.name.ClientId.{ClientId}
use Rattle.scoop_reserve.specs.Handlers.{first_repeated}
use Rattle.scoop_client.specs.declared.error.BeginError.{BeginError}
use Rattle.scoop_client.specs.declared.error.BeginError.TheVariants.{NoHandlers, TooManyHandlers, Repeated, OutOfMemory}
use Rattle.scoop_client.specs.State.{ClientState}

-- a client that no handler has welcomed yet
abbrev pub greeting : ClientId → ℕ → List HandlerId → ℕ → ℕ → ClientState
greeting id inc hs last batch =
    record { id = id; inc = inc; batch = batch; handlers = hs; unwelcomed = hs; last = last; reservation = None; windows = []; waits = None }

abbrev pub unless_repeated : ClientState → Option HandlerId → Result ClientState BeginError
unless_repeated c (Some h) = Err (Repeated h)
unless_repeated c None = Ok c

abbrev pub begun : ClientId → ℕ → List HandlerId → ℕ → ℕ → Result ClientState BeginError
begun id inc hs last batch =
    if length hs == 0 then Err NoHandlers
    else if nat_lt MAX_HANDLERS (length hs) then Err TooManyHandlers
    else unless_repeated (greeting id inc hs last batch) (first_repeated hs)

-- the outcome of beginning; out of memory is the last refusal
abbrev pub Begins : Result ClientState BeginError → Result ClientState BeginError → Type 0
Begins outcome (Ok c) = outcome ≡ Ok c
Begins outcome (Err NoHandlers) = outcome ≡ Err NoHandlers
Begins outcome (Err TooManyHandlers) = outcome ≡ Err TooManyHandlers
Begins outcome (Err (Repeated h)) = outcome ≡ Err (Repeated h)
Begins outcome (Err OutOfMemory) = IsOk outcome
