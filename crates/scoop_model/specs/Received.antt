-- The condition on a message that reports how many entries of a block were received.
use Rattle.std.specs.Prelude.{◌≡◌, ◌≤◌, ℕ, List, [], ◌++◌, filter, length, take}
use Rattle.std.specs.Option.{option_map_or}
use Rattle.scoop_message.specs.declared.name.Block.{Block}
use Rattle.scoop_message.specs.declared.name.HandlerId.{HandlerId}
use Rattle.scoop_message.specs.declared.request.Entry.{Entry}
use Rattle.scoop_message.specs.declared.message.Message.{Message}
use Rattle.scoop_message.specs.declared.message.Message.TheVariants.{Logged}
use Rattle.scoop_message.specs.Message.{same_block}
use Rattle.scoop_queue.specs.Queue.{PrivateQueue, queue_of}
use Rattle.scoop_model.specs.World.{World, site_of, ran_at, log_of}
use Rattle.scoop_model.specs.Safe.{entries_of}

-- the entries that are pending in the block's private queue, none where it has no queue
abbrev pub entries_in : Block → List PrivateQueue → List Entry
entries_in b qs = option_map_or (λ q. q.entries) (queue_of b qs) []

abbrev pub queues_at : HandlerId → World → List PrivateQueue
queues_at h w = option_map_or (λ s. s.core.state.queues) (site_of h w) []

-- the block's entries that have run at the handler, and after them those that are pending there
abbrev pub arrived_at : Block → HandlerId → World → List Entry
arrived_at b h w = entries_of (filter (λ r. same_block r.block b) (ran_at h w)) ++ entries_in b (queues_at h w)

-- the first n entries that the block's client logged for the handler have run there or are pending there
pub record HasReceived (w : World) (h : HandlerId) (b : Block) (n : ℕ) : Type 0 where
  pub enough : n ≤ length (arrived_at b h w)
  pub first : take n (arrived_at b h w) ≡ take n (log_of b h w)

-- if the message tells a count of received entries, so many have been received
pub record TellsReceived (w : World) (m : Message) : Type 0 where
  pub received : (h : HandlerId) (b : Block) (n : ℕ) → m ≡ Logged h b n → HasReceived w h b n
