-- The end that a loop reports.
use Rattle.std.specs.Prelude.{◌≡◌, ◌⊎◌, ◌+◌, ⊤, ℕ, Bool, true, false, Option, Some, None}
use Rattle.scoop_netloop.specs.declared.stop.ServeEnd.{ServeEnd}
use Rattle.scoop_netloop.specs.declared.stop.ServeEnd.TheVariants.{Stopped, TurnsOver, LinkFault, NodeFailed, HistoryFull, GateShut, NoThread, OutOfMemory}

-- An executor or the node's refusal of an event can be the reason: neither takes turns, and neither uses the link.
abbrev pub IsExecutorEnd : ServeEnd → Type 0
IsExecutorEnd Stopped = ⊤
IsExecutorEnd TurnsOver = ⊥
IsExecutorEnd LinkFault = ⊥
IsExecutorEnd NodeFailed = ⊤
IsExecutorEnd HistoryFull = ⊤
IsExecutorEnd GateShut = ⊤
IsExecutorEnd NoThread = ⊤
IsExecutorEnd OutOfMemory = ⊤

-- the receiver's end is reported, or an executor's if the receiver was stopped
abbrev pub Reports : (receiver reported : ServeEnd) → Type 0
Reports e r = (r ≡ e) ⊎ ((e ≡ Stopped) × IsExecutorEnd r)

-- the loop took all its turns
abbrev pub is_over : ServeEnd → Bool
is_over Stopped = false
is_over TurnsOver = true
is_over LinkFault = false
is_over NodeFailed = false
is_over HistoryFull = false
is_over GateShut = false
is_over NoThread = false
is_over OutOfMemory = false

-- a turn after which the loop goes on, or the end after the last turn
abbrev pub is_complete : Option ServeEnd → Bool
is_complete None = true
is_complete (Some e) = is_over e

-- the end is LinkFault exactly if the link's count of faults rose, by one
abbrev pub CountsEnd : ServeEnd → (old new : ℕ) → Type 0
CountsEnd Stopped old new = new ≡ old
CountsEnd TurnsOver old new = new ≡ old
CountsEnd LinkFault old new = new ≡ old + 1
CountsEnd NodeFailed old new = new ≡ old
CountsEnd HistoryFull old new = new ≡ old
CountsEnd GateShut old new = new ≡ old
CountsEnd NoThread old new = new ≡ old
CountsEnd OutOfMemory old new = new ≡ old

-- the same of one turn, after which the loop goes on if there is no end
abbrev pub CountsTurn : Option ServeEnd → (old new : ℕ) → Type 0
CountsTurn None old new = new ≡ old
CountsTurn (Some e) old new = CountsEnd e old new
