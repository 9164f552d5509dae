-- A handler's state, and the facts of it at all times.
use Rattle.std.specs.Prelude.{◌≡◌, ◌<◌, ◌≤◌, ◌⊎◌, ◌+◌, ℕ, Bool, false, IsTrue, IsFalse, ◌&&◌, ◌||◌, not, ⊤, List, [], ◌∷◌, length, Option, Some, None}
use Rattle.std.specs.List.{AllByRecursion}
use Rattle.scoop_message.specs.declared.name.Block.{Block}
use Rattle.scoop_message.specs.declared.name.HandlerId.{HandlerId}
use Rattle.scoop_message.specs.declared.limits.TheConstants.{MAX_MARKS, MAX_WORDS}
use Rattle.scoop_message.specs.Message.{same_block}
use Rattle.scoop_queue.specs.Queue.{PrivateQueue, is_open as takes_more, is_cut, has_open, next_number}
use Rattle.scoop_queue.specs.Sound.{IsQueues}
use Rattle.scoop_handler.specs.declared.mark.Mark.{Mark}
use Rattle.scoop_handler.specs.Marks.{is_held, is_open, is_shut, block_of, mark_of}

pub record HandlerState : Type 0 where
  pub number : HandlerId
  pub holder : Option Block  -- the block that holds the lock
  pub marks : List Mark  -- by ascending client
  pub queues : List PrivateQueue  -- in the order in which they opened
  pub words : List ℕ  -- the object's, or those with which it left for a job

abbrev pub state_of : HandlerId → Option Block → List Mark → List PrivateQueue → List ℕ → HandlerState
state_of number holder marks queues words = record { number = number; holder = holder; marks = marks; queues = queues; words = words }

-- no client has greeted the handler yet
abbrev pub new_state : HandlerId → List ℕ → HandlerState
new_state number words = state_of number None [] [] words

abbrev pub is_holder : Option Block → Block → Bool
is_holder None b = false
is_holder (Some x) b = same_block x b

-- the client's newest block holds the lock, or is open and has not ended
abbrev pub is_unfinished : HandlerState → Mark → Bool
is_unfinished s k = is_holder s.holder (block_of k) || is_open k.stage && not k.ended

-- ---- facts of every state: the marks and the holder

abbrev pub IsAscending : List Mark → Type 0
IsAscending [] = ⊤
IsAscending (k ∷ []) = ⊤
IsAscending (k ∷ x ∷ xs) = (k.client.0 < x.client.0) × IsAscending (x ∷ xs)

-- the block is its client's newest, and held or open
pub record IsUnderWay (b : Block) (marks : List Mark) : Type 0 where
  pub mark : Mark
  pub found : mark_of b.client marks ≡ Some mark
  pub newest : block_of mark ≡ b
  pub stage : IsFalse (is_shut mark.stage)

abbrev pub HolderIsUnderWay : Option Block → List Mark → Type 0
HolderIsUnderWay None marks = ⊤
HolderIsUnderWay (Some b) marks = IsUnderWay b marks

-- a held mark's block is the holder
pub record HoldsIfHeld (holder : Option Block) (k : Mark) : Type 0 where
  pub holds : IsTrue (is_held k.stage) → holder ≡ Some (block_of k)

-- nothing of the mark's block was received
pub record IsUnused (k : Mark) : Type 0 where
  pub received : k.received ≡ 0
  pub ended : k.ended ≡ false
  pub kept : k.kept ≡ None

-- only an open block has received entries
pub record IsUnusedUnlessOpen (k : Mark) : Type 0 where
  pub unused : IsFalse (is_open k.stage) → IsUnused k

-- ---- facts of every state: the private queues beside the marks

-- a block that takes more entries has a private queue that does
pub record HasQueueIfOpen (queues : List PrivateQueue) (k : Mark) : Type 0 where
  pub has : IsTrue (is_open k.stage) → IsFalse k.ended → IsTrue (has_open (block_of k) queues)

-- the block isn't above its client's newest one
abbrev pub IsNotAbove : Block → Mark → Type 0
IsNotAbove b k = (b.inc < k.inc) ⊎ ((b.inc ≡ k.inc) × (b.num ≤ k.num))

-- the private queue of the client's newest block holds the received entries that have not run; it takes more only while
-- the block is open and has not ended
pub record FitsNewest (q : PrivateQueue) (k : Mark) : Type 0 where
  pub received : next_number q ≡ k.received + 1
  pub unfinished : IsTrue (takes_more q.state) → IsTrue (is_open k.stage && not k.ended)

-- a private queue beside its client's mark: an older block's takes no more, and a queue is cut only by the greeting of
-- a newer incarnation
pub record FitsMark (q : PrivateQueue) (k : Mark) : Type 0 where
  pub not_above : IsNotAbove q.block k
  pub newest : block_of k ≡ q.block → FitsNewest q k
  pub older : (block_of k ≡ q.block → ⊥) → IsFalse (takes_more q.state)
  pub cut : IsTrue (is_cut q.state) → q.block.inc < k.inc

pub record HasMark (marks : List Mark) (q : PrivateQueue) : Type 0 where
  pub mark : Mark
  pub found : mark_of q.block.client marks ≡ Some mark
  pub fits : FitsMark q mark

-- ---- all facts

pub record AreWords (words : List ℕ) : Type 0 where
  pub some : 1 ≤ length words
  pub few : length words ≤ MAX_WORDS

pub record IsState (s : HandlerState) : Type 0 where
  pub room : length s.marks ≤ MAX_MARKS
  pub ascending : IsAscending s.marks
  pub holder : HolderIsUnderWay s.holder s.marks
  pub held : AllByRecursion (HoldsIfHeld s.holder) s.marks
  pub unused : AllByRecursion IsUnusedUnlessOpen s.marks
  pub opened : AllByRecursion (HasQueueIfOpen s.queues) s.marks
  pub queues : IsQueues s.queues
  pub marked : AllByRecursion (HasMark s.marks) s.queues
  pub words : AreWords s.words
