-- Facts about the private queues at any time.
use Rattle.std.specs.Prelude.{◌≡◌, ℕ, ◌-◌, ◌^◌, ◌≤◌, ◌<◌, false, IsTrue, List, [], ◌∷◌, length, if◌then◌else◌, ⊤}
use Rattle.std.specs.List.{AllByRecursion}
use Rattle.scoop_message.specs.declared.limits.TheConstants.{MAX_QUEUES, MAX_PENDING}
use Rattle.scoop_message.specs.Entries.{EndOnlyLast, ends}
use Rattle.scoop_queue.specs.declared.state.QueueState.{QueueState}
use Rattle.scoop_queue.specs.Queue.{PrivateQueue, is_open, is_ended, is_cut, has_queue, next_number}

-- numbers have 32 bits; the next entry of an open queue never has the highest one, which is kept for an End
abbrev pub number_limit : QueueState → ℕ
number_limit s = if is_open s then 2 ^ 32 - 1 else 2 ^ 32

pub record FitsNumbers (q : PrivateQueue) : Type 0 where
  pub next : next_number q ≤ number_limit q.state

-- only the last entry of an ended queue is an End, and an ended queue has one
pub record IsQueue (q : PrivateQueue) : Type 0 where
  pub first : 1 ≤ q.first
  pub limit : length q.entries ≤ MAX_PENDING
  pub numbers : FitsNumbers q
  pub end : EndOnlyLast q.entries
  pub ended : ends q.entries ≡ is_ended q.state
  pub some : IsTrue (is_cut q.state) → 0 < length q.entries

-- no two queues are of one block
abbrev pub AreApart : List PrivateQueue → Type 0
AreApart [] = ⊤
AreApart (q ∷ qs) = (has_queue q.block qs ≡ false) × AreApart qs

pub record IsQueues (qs : List PrivateQueue) : Type 0 where
  pub limit : length qs ≤ MAX_QUEUES
  pub apart : AreApart qs
  pub each : AllByRecursion IsQueue qs
