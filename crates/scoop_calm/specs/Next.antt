-- Which events are next, in a world that isn't calm yet.
use Rattle.std.specs.Prelude.{ℕ, zero, suc, ◌+◌, ◌==◌, ◌&&◌, ◌||◌, not, Bool, true, false, List, [], ◌∷◌, ◌++◌, length, find, Option, Some, None, is_none}
use Rattle.std.specs.Prelude.{is_some}
use Rattle.std.specs.Option.{option_map, option_map_or, option_or}
use Rattle.std.specs.Result.{is_ok}
use Rattle.scoop_message.specs.declared.limits.TheConstants.{MAX_QUEUES}
use Rattle.scoop_message.specs.declared.name.Block.{Block}
use Rattle.scoop_message.specs.declared.message.Message.{Message}
use Rattle.scoop_message.specs.declared.message.Message.TheVariants.{Hello, Welcome, Lock, Locked, Busy, Open, Opened, Unlock, Unlocked, Log, Logged, Answer}
use Rattle.scoop_queue.specs.Queue.{pending}
use Rattle.scoop_handler.specs.declared.mark.Mark.{Mark}
use Rattle.scoop_handler.specs.Marks.{is_open, mark_of}
use Rattle.scoop_handler.specs.State.{HandlerState, is_holder}
use Rattle.scoop_handler.specs.Running.{ready}
use Rattle.scoop_client.specs.Due.{due}
use Rattle.scoop_client.specs.declared.command.Command.TheVariants.{End as DoEnd}
use Rattle.scoop_client.specs.Commands.{command}
use Rattle.scoop_client.specs.declared.command.Command.TheVariants as command
use Rattle.scoop_model.specs.declared.event.Event.{Event}
use Rattle.scoop_model.specs.declared.event.Event.TheVariants.{Do, Tick, Take, Begin, Finish}
use Rattle.scoop_model.specs.World.{World, Site, Party, number_of, id_of}
use Rattle.scoop_model.specs.Reach.{steps}
use Rattle.scoop_calm.specs.declared.next.Next.{Next}
use Rattle.scoop_calm.specs.declared.next.Next.TheVariants as next

-- ---- the events

-- a client that asks sends what it owes, the handler takes it, and the client the reply
abbrev pub events_of : World → Next → List Event
events_of w (next.Finish h) = Finish h ∷ []
events_of w (next.Begin h) = Begin h ∷ []
events_of w (next.Ask c h) = Tick c h ∷ Take (length w.sent + 1) ∷ Take (length w.sent + 2) ∷ []
events_of w (next.End c) = Do c command.End ∷ []

-- ---- what helps

-- the mark is at the block, which is open
abbrev pub is_open_at : Block → Option Mark → Bool
is_open_at b None = false
is_open_at b (Some k) = k.num == b.num && is_open k.stage

-- the handler can do what it is asked for. It always greets and takes locks back. It grants a lock that is free or the
-- block's own. It opens a block if there is room for a private queue, or if the block has opened. It takes entries if
-- none of the block's entries is pending
abbrev pub can_do : HandlerState → Message → Bool
can_do s (Hello h c inc) = true
can_do s (Welcome h c inc) = false
can_do s (Lock h b) = is_none s.holder || is_holder s.holder b
can_do s (Locked h b) = false
can_do s (Busy h b) = false
can_do s (Open h b) = is_open_at b (mark_of b.client s.marks) || not (length s.queues == MAX_QUEUES)
can_do s (Opened h b) = false
can_do s (Unlock h b) = true
can_do s (Unlocked h b) = false
can_do s (Log h b n es) = pending b s.queues == 0
can_do s (Logged h b n) = false
can_do s (Answer h b n a) = false

-- the client owes the handler something that the handler can do
abbrev pub asks_well : Party → Site → Bool
asks_well p s = option_map_or (can_do s.core.state) (due p.client (number_of s)) false

abbrev pub is_out : Site → Bool
is_out s = s.core.out

abbrev pub can_begin : Site → Bool
can_begin s = is_some (ready s.core)

abbrev pub can_end : Party → Bool
can_end p = is_ok (command p.client DoEnd)

-- ---- what is next

-- the first job that is out is finished
abbrev pub next_finish : World → Option Next
next_finish w = option_map (λ s. next.Finish (number_of s)) (find is_out w.sites)

-- the first entry that can leaves to be run
abbrev pub next_begin : World → Option Next
next_begin w = option_map (λ s. next.Begin (number_of s)) (find can_begin w.sites)

-- the first of these clients that can asks the first handler that can do it
abbrev pub ask_of : List Site → Party → Option Next
ask_of ss p = option_map (λ s. next.Ask (id_of p) (number_of s)) (find (asks_well p) ss)

abbrev pub next_ask : List Site → List Party → Option Next
next_ask ss [] = None
next_ask ss (p ∷ ps) = option_or (ask_of ss p) (next_ask ss ps)

-- the first client that can ends its block
abbrev pub next_end : World → Option Next
next_end w = option_map (λ p. next.End (id_of p)) (find can_end w.parties)

-- the first of these that there is
abbrev pub next_of : World → Option Next
next_of w = option_or (next_finish w) (option_or (next_begin w) (option_or (next_ask w.sites w.parties) (next_end w)))

-- ---- again and again

-- none where nothing is next
abbrev pub next_events : World → List Event
next_events w = option_map_or (events_of w) (next_of w) []

-- so often one after another
abbrev pub settling : ℕ → World → List Event
settling zero w = []
settling (suc n) w = next_events w ++ settling n (steps w (next_events w))
