-- How the private queues are kept: in the order of a map from their blocks.
use Rattle.std.specs.Prelude.{◌≡◌, ℕ, zero, suc, true, false, List, [], ◌∷◌, map}
use Rattle.scoop_message.specs.declared.name.Block.{Block}
use Rattle.scoop_queue.specs.declared.key.Key.{Key}
use Rattle.scoop_queue.specs.declared.pending.Pending.{Pending}
use Rattle.scoop_queue.specs.Queue.{PrivateQueue, is_queue_of}

abbrev pub block_of : Key → Block
block_of k = record { client = record { 0 = k.client }; inc = k.inc; num = k.num }

-- the private queue at this place is the block's, and no earlier one is
abbrev pub IsPlaceOf : Block → List PrivateQueue → ℕ → Type 0
IsPlaceOf b [] i = ⊥
IsPlaceOf b (q ∷ qs) zero = is_queue_of b q ≡ true
IsPlaceOf b (q ∷ qs) (suc i) = (is_queue_of b q ≡ false) × IsPlaceOf b qs i

module _ {A : Type 0} where
  -- the private queue of a block with these pending entries
  abbrev pub queue_at : Block → Pending A → PrivateQueue
  queue_at b p = record { block = b; first = p.first; entries = p.entries.items; state = p.state }

  abbrev pub queue_kept : Key × Pending A → PrivateQueue
  queue_kept e = queue_at (block_of e.0) e.1

  abbrev pub queues_kept : List (Key × Pending A) → List PrivateQueue
  queues_kept es = map queue_kept es
