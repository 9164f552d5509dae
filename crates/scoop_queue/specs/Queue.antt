-- The queue of queues of a handler: its private queues, in the order in which it works on them.
use Rattle.std.specs.Prelude.{ℕ, ◌+◌, Bool, true, false, ◌&&◌, ◌||◌, ◌==◌, if◌then◌else◌, List, [], ◌∷◌, ◌++◌, length, Option, Some, None, find, is_some}
use Rattle.std.specs.Prelude.{slice_get, option_and_then}
use Rattle.std.specs.Option.{option_map, option_map_or}
use Rattle.scoop_message.specs.declared.name.Block.{Block}
use Rattle.scoop_message.specs.declared.request.Entry.{Entry}
use Rattle.scoop_message.specs.Entry.{is_end}
use Rattle.scoop_message.specs.Entries.{ends}
use Rattle.scoop_message.specs.Message.{same_block}
use Rattle.scoop_queue.specs.declared.state.QueueState.{QueueState}
use Rattle.scoop_queue.specs.declared.state.QueueState.TheVariants.{Open, Ended, Cut}
use Rattle.scoop_queue.specs.declared.state.Head.{Head}

-- a private queue: its block, the number of its first pending entry, its pending entries, and whether more may come
pub record PrivateQueue : Type 0 where
  pub block : Block
  pub first : ℕ
  pub entries : List Entry
  pub state : QueueState

abbrev pub is_open : QueueState → Bool
is_open Open = true
is_open Ended = false
is_open Cut = false

abbrev pub is_ended : QueueState → Bool
is_ended Open = false
is_ended Ended = true
is_ended Cut = false

abbrev pub is_cut : QueueState → Bool
is_cut Open = false
is_cut Ended = false
is_cut Cut = true

abbrev pub is_queue_of : Block → PrivateQueue → Bool
is_queue_of b q = same_block b q.block

-- the block's private queue
abbrev pub queue_of : Block → List PrivateQueue → Option PrivateQueue
queue_of b qs = find (is_queue_of b) qs

abbrev pub has_queue : Block → List PrivateQueue → Bool
has_queue b qs = is_some (queue_of b qs)

-- the block's private queue is there and takes more entries
abbrev pub has_open : Block → List PrivateQueue → Bool
has_open b qs = option_map_or (λ q. is_open q.state) (queue_of b qs) false

-- how many entries the block has pending
abbrev pub pending : Block → List PrivateQueue → ℕ
pending b qs = option_map_or (λ q. length q.entries) (queue_of b qs) 0

-- the number that the next entry gets
abbrev pub next_number : PrivateQueue → ℕ
next_number q = q.first + length q.entries

-- a private queue by its head and its entries, and back
abbrev pub queue_with : Head → List Entry → PrivateQueue
queue_with h es = record { block = h.block; first = h.first; entries = es; state = h.state }

abbrev pub head_of : PrivateQueue → Head
head_of q = record { block = q.block; first = q.first; state = q.state }

abbrev pub head_at : ℕ → List PrivateQueue → Option Head
head_at i qs = option_map head_of (slice_get qs i)

abbrev pub entry_at : ℕ → ℕ → List PrivateQueue → Option Entry
entry_at i j qs = option_and_then (λ q. slice_get q.entries j) (slice_get qs i)

-- the private queues with what `change` makes of the block's queue in its place
abbrev pub at_block : Block → (PrivateQueue → List PrivateQueue) → List PrivateQueue → List PrivateQueue
at_block b change [] = []
at_block b change (q ∷ qs) = if is_queue_of b q then change q ++ qs else q ∷ at_block b change qs

-- a block's private queue as it is opened, and the private queues with it at the end
abbrev pub new_queue : Block → PrivateQueue
new_queue b = record { block = b; first = 1; entries = []; state = Open }

abbrev pub opened : Block → List PrivateQueue → List PrivateQueue
opened b qs = qs ++ new_queue b ∷ []

-- the queue with these entries after its own; an End closes it
abbrev pub with_entries : List Entry → PrivateQueue → PrivateQueue
with_entries es q = record q { entries = q.entries ++ es; state = if ends es then Ended else q.state }

abbrev pub put_all : Block → List Entry → List PrivateQueue → List PrivateQueue
put_all b es qs = at_block b (λ q. with_entries es q ∷ []) qs

-- a queue after a cut: an open one is cut, and goes at once if it is empty
abbrev pub cut_open : PrivateQueue → List Entry → List PrivateQueue
cut_open q [] = []
cut_open q (e ∷ es) = record q { entries = e ∷ es; state = Cut } ∷ []

abbrev pub left_by_cut : PrivateQueue → List PrivateQueue
left_by_cut q = if is_open q.state then cut_open q q.entries else q ∷ []

abbrev pub cut : Block → List PrivateQueue → List PrivateQueue
cut b qs = at_block b left_by_cut qs

-- the first entry of the first queue, with its block and number
abbrev pub first_of : PrivateQueue → List Entry → Option (Block × ℕ × Entry)
first_of q [] = None
first_of q (e ∷ es) = Some (q.block, q.first, e)

abbrev pub front : List PrivateQueue → Option (Block × ℕ × Entry)
front [] = None
front (q ∷ qs) = first_of q q.entries

-- a queue goes with its End, and a cut one with its last entry
abbrev pub goes_with : QueueState → Entry → List Entry → Bool
goes_with s e es = is_end e || (is_cut s && length es == 0)

-- a queue after its first entry is taken
abbrev pub left_by_first : PrivateQueue → List Entry → List PrivateQueue
left_by_first q [] = q ∷ []
left_by_first q (e ∷ es) = if goes_with q.state e es then [] else record q { first = q.first + 1; entries = es } ∷ []

abbrev pub advance : List PrivateQueue → List PrivateQueue
advance [] = []
advance (q ∷ qs) = left_by_first q q.entries ++ qs
