-- The reasons to refuse a call on the queue of queues, memory apart.
use Rattle.std.specs.Prelude.{◌≡◌, ℕ, ◌+◌, not, nat_le, nat_lt, if◌then◌else◌, IsTrue, List, length, Option, Some, None}
use Rattle.std.specs.Option.{ForSome}
use Rattle.scoop_message.specs.declared.limits.TheConstants.{MAX_QUEUES, MAX_PENDING}
use Rattle.scoop_message.specs.declared.name.Block.{Block}
use Rattle.scoop_message.specs.declared.request.Entry.{Entry}
use Rattle.scoop_queue.specs.declared.error.OpenQueueError.{OpenQueueError}
use Rattle.scoop_queue.specs.declared.error.OpenQueueError.TheVariants as of_open
use Rattle.scoop_queue.specs.declared.error.PutError.{PutError}
use Rattle.scoop_queue.specs.declared.error.PutError.TheVariants as of_put
use Rattle.scoop_queue.specs.declared.error.AppendError.{AppendError}
use Rattle.scoop_queue.specs.declared.error.AppendError.TheVariants as of_append
use Rattle.scoop_queue.specs.declared.state.Head.{Head}
use Rattle.scoop_queue.specs.Queue.{PrivateQueue, is_open, has_queue, queue_of, queue_with, with_entries}
use Rattle.scoop_queue.specs.Sound.{FitsNumbers, IsQueue}

-- a new queue finds no room, or its block has one
abbrev pub open_refusal : Block → List PrivateQueue → Option OpenQueueError
open_refusal b qs =
    if nat_le MAX_QUEUES (length qs) then Some of_open.QueueFull
    else if has_queue b qs then Some of_open.AlreadyThere
    else None

-- `n` new entries find no queue, one that takes none, or no room
abbrev pub refusal_at : ℕ → Option PrivateQueue → Option PutError
refusal_at n None = Some of_put.NotThere
refusal_at n (Some q) =
    if not (is_open q.state) then Some of_put.Ended
    else if nat_lt MAX_PENDING (length q.entries + n) then Some of_put.PendingFull
    else None

abbrev pub put_refusal : Block → ℕ → List PrivateQueue → Option PutError
put_refusal b n qs = refusal_at n (queue_of b qs)

-- the block's queue, if it is open, has numbers for these entries
abbrev pub HasNumbersFor : Block → List Entry → List PrivateQueue → Type 0
HasNumbersFor b es qs = ForSome (queue_of b qs) (λ q. IsTrue (is_open q.state) → FitsNumbers (with_entries es q))

-- a whole queue may be appended: its block might open one, and it is a private queue
abbrev pub MayAppend : Head → List Entry → List PrivateQueue → Type 0
MayAppend h es qs = (open_refusal h.block qs ≡ None) × IsQueue (queue_with h es)

-- why it isn't appended: its block might not open one, it is no private queue, or memory ran out
abbrev pub AppendRefused : Head → List Entry → List PrivateQueue → AppendError → Type 0
AppendRefused h es qs of_append.QueueFull = open_refusal h.block qs ≡ Some of_open.QueueFull
AppendRefused h es qs of_append.AlreadyThere = open_refusal h.block qs ≡ Some of_open.AlreadyThere
AppendRefused h es qs of_append.BadQueue = (open_refusal h.block qs ≡ None) × (IsQueue (queue_with h es) → ⊥)
AppendRefused h es qs of_append.OutOfMemory = MayAppend h es qs
