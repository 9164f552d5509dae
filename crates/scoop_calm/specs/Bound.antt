-- How many steps a world has left at most until it is calm: for its clients, and at its handlers.
use Rattle.std.specs.Prelude.{ℕ, suc, ◌+◌, ◌-◌, ◌*◌, nat_lt, ◌==◌, ◌&&◌, ◌||◌, if◌then◌else◌, not, Bool, List, length, filter, find, is_none, Option, unwrap_or}
use Rattle.std.specs.Option.{option_map_or}
use Rattle.scoop_message.specs.declared.name.Block.{Block}
use Rattle.scoop_message.specs.declared.name.ClientId.{ClientId}
use Rattle.scoop_message.specs.declared.name.HandlerId.{HandlerId}
use Rattle.scoop_message.specs.Entry.{is_end}
use Rattle.scoop_message.specs.Message.{same_block, same_client}
use Rattle.scoop_queue.specs.Queue.{PrivateQueue}
use Rattle.scoop_handler.specs.declared.mark.Mark.{Mark}
use Rattle.scoop_handler.specs.Hearing.{greeting_mark}
use Rattle.scoop_handler.specs.Marks.{is_held, block_of, mark_of}
use Rattle.scoop_handler.specs.State.{HandlerState}
use Rattle.scoop_model.specs.World.{World, Site, Party, HandlerLog, BlockLog, id_of, is_share_of}
use Rattle.scoop_calm.specs.Left.{total, queue_work, clients_left}

-- ---- what a handler is still to take from a client

-- the entries that a block has for a handler: the calls and queries that are logged, and its End
abbrev pub entries_of : HandlerLog → ℕ
entries_of l = suc (length (filter (λ e. not (is_end e)) l.entries))

-- the block is newer than the mark of its client
abbrev pub is_later : Block → Mark → Bool
is_later b k = same_client b.client k.client && (nat_lt k.inc b.inc || (k.inc == b.inc && nat_lt k.num b.num))

-- a newer block, with all its entries; of the mark's own block, the entries that weren't received
abbrev pub share_left : Mark → Block → HandlerLog → ℕ
share_left k b l =
    if is_later b k then suc (entries_of l)
    else if same_block b (block_of k) then entries_of l - k.received
    else 0

abbrev pub block_left : HandlerId → Mark → BlockLog → ℕ
block_left h k l = option_map_or (share_left k l.block) (find (is_share_of h) l.shares) 0

-- the client's mark, or one before its first incarnation
abbrev pub mark_at : ClientId → List Mark → Mark
mark_at c marks = unwrap_or (mark_of c marks) (greeting_mark c 0)

-- the incarnations that the client is ahead, its newer blocks, and the entries that weren't received
abbrev pub places_from : List BlockLog → HandlerId → ℕ → Mark → ℕ
places_from logs h inc k = (inc - k.inc) + total (block_left h k) logs

abbrev pub places_left : List BlockLog → HandlerState → Party → ℕ
places_left logs s p = places_from logs s.number p.client.inc (mark_at (id_of p) s.marks)

-- ---- at a handler

abbrev pub holder_left : Option Block → ℕ
holder_left o = if is_none o then 0 else 1

abbrev pub hold_left : Mark → ℕ
hold_left k = if is_held k.stage then 1 else 0

-- a lock that is held is to be given back, and before that its block may open
abbrev pub lock_left : HandlerState → ℕ
lock_left s = holder_left s.holder + total hold_left s.marks

-- an entry that is pending begins and is finished, and one that is out has begun
abbrev pub out_left : Bool → ℕ
out_left out = if out then 1 else 0

abbrev pub jobs_left : List PrivateQueue → Bool → ℕ
jobs_left qs out = 2 * total queue_work qs - out_left out

-- a place that is taken may bring a lock that is held, a block that is to open, or an entry that is to run
abbrev pub handler_left : List BlockLog → List Party → HandlerState → Bool → ℕ
handler_left logs ps s out = 3 * total (places_left logs s) ps + lock_left s + jobs_left s.queues out

abbrev pub site_left : List BlockLog → List Party → Site → ℕ
site_left logs ps s = handler_left logs ps s.core.state s.core.out

-- ---- a world

abbrev pub left : World → ℕ
left w = clients_left w + total (site_left w.logs w.parties) w.sites
