-- A run of one node and one client, computed. The node has two handlers, closes and opens again. The client reserves both,
-- restarts while a Log is under way, and reserves one of them in its next incarnation.
use Rattle.std.specs.Prelude.{ℕ, List, [], ◌∷◌, ◌++◌, drop, map, take, Some, None}
use Rattle.std.specs.Option.{option_map, option_map_or}
use Rattle.scoop_message.specs.declared.name.Block.{Block}
use Rattle.scoop_message.specs.declared.request.Entry.TheVariants.{Call as CallEntry}
use Rattle.scoop_message.specs.declared.message.Message.{Message}
use Rattle.scoop_message.specs.declared.message.Message.TheVariants.{Hello, Welcome, Lock, Locked, Open, Opened, Unlock, Unlocked, Log, Logged}
use Rattle.scoop_handler.specs.State.{new_state}
use Rattle.scoop_handler.specs.Hearing.{hear}
use Rattle.scoop_handler.specs.Running.{ready, job_out, ran_of}
use Rattle.scoop_handler.specs.Local.{LocalHandler, after_hearing, after_begin, after_finish, leaves, handler_in, with_handler, opening_handler}
use Rattle.scoop_client.specs.declared.command.Command.TheVariants.{Reserve, Call}
use Rattle.scoop_model.specs.Step.{Placement, Newcomer}
use Rattle.scoop_model.specs.Examples.Parties.{cell, handler, client, block, placed, joins, set_to}
use Rattle.scoop_book.specs.declared.event.Event.{Event}
use Rattle.scoop_book.specs.declared.event.Event.TheVariants.{Hear, Begin, Finish}
use Rattle.scoop_book.specs.declared.event.Reply.{Reply}
use Rattle.scoop_book.specs.declared.event.Reply.TheVariants as reply
use Rattle.scoop_book.specs.Moves.{Entry, handler_at}
use Rattle.scoop_frame.specs.declared.version.Version.TheVariants.{One}
use Rattle.scoop_driver.specs.declared.step.Received.TheVariants.{Frame}
use Rattle.scoop_driver.specs.declared.step.Step.{Step}
use Rattle.scoop_driver.specs.declared.step.Step.TheVariants.{Gave, Turned}
use Rattle.scoop_weave.specs.System.{LocalClient, after_restart, new_client}
use Rattle.scoop_weave.specs.Moves.{LocalMove}
use Rattle.scoop_weave.specs.NodeHistories.{reopened}
use Rattle.scoop_weave.specs.ClientSteps.{driven}
use Rattle.scoop_weave.specs.Lives.{NodeLife, ClientLife, words_in, moves_of_node, moves_of_client}

-- ---- what events make of a node's handlers

-- the handler after the event
abbrev pub gone_on : Event → LocalHandler → LocalHandler
gone_on (Hear m) s = after_hearing (hear s.core.state m).0 s
gone_on (Begin h) s = after_begin s
gone_on (Finish h) s = option_map_or (λ t. after_finish t s) (job_out s.core) s

-- the handler's reply to the event
abbrev pub told_at : Event → LocalHandler → Reply
told_at (Hear m) s = reply.Heard (hear s.core.state m).1
told_at (Begin h) s = reply.Began (option_map leaves (ready s.core))
told_at (Finish h) s = option_map_or (λ t. reply.Finished (ran_of t)) (job_out s.core) (reply.Began None)

abbrev pub after_event : Event → List LocalHandler → List LocalHandler
after_event e hs = option_map_or (λ s. with_handler (gone_on e s) hs) (handler_in (handler_at e) hs) hs

abbrev pub reply_to : Event → List LocalHandler → Reply
reply_to e hs = option_map_or (told_at e) (handler_in (handler_at e) hs) (reply.Began None)

-- the entries of a history with these events, made by pass 0
abbrev pub entries_by : List LocalHandler → List Event → List Entry
entries_by hs [] = []
entries_by hs (e ∷ es) = (0, e, reply_to e hs) ∷ entries_by (after_event e hs) es

abbrev pub handlers_by : List LocalHandler → List Event → List LocalHandler
handlers_by hs [] = hs
handlers_by hs (e ∷ es) = handlers_by (after_event e hs) es

-- the handlers as they open after these events
abbrev pub opened_again : List Placement → List LocalHandler → List Event → List LocalHandler
opened_again ps hs es = map (reopened (words_in ps)) (handlers_by hs es)

-- a node that closes after the first events, and opens again for the further ones
abbrev pub reopening_node : ℕ → List Placement → List LocalHandler → (first next : List Event) → NodeLife
reopening_node n ps hs first next = record {
  number = n;
  placed = ps;
  opening = hs;
  first = entries_by hs first;
  more = entries_by (opened_again ps hs first) next ∷ [];
  now = handlers_by (opened_again ps hs first) next;
}

-- ---- what steps make of a client

-- the client as it restarts after these steps
abbrev pub restarted : Newcomer → List Step → LocalClient
restarted c steps = after_restart (driven (new_client c) steps)

-- a client that restarts once
abbrev pub restarting_client : Newcomer → (first next : List Step) → ClientLife
restarting_client c first next =
    record { joined = c; first = first; more = next ∷ []; now = driven (restarted c first) next }

-- ---- one order of two parties' moves

-- that many of the one party's moves, then that many of the other's, and so on; in the end all that is left
abbrev pub by_turns : {A : Type 0} → List ℕ → (one other : ℕ) → List A → List A → List (ℕ × A)
by_turns [] i j xs ys = map (λ x. (i, x)) xs ++ map (λ y. (j, y)) ys
by_turns (n ∷ ns) i j xs ys = map (λ x. (i, x)) (take n xs) ++ by_turns ns j i ys (drop n xs)

-- the client's moves and the node's by turns, the client's first
abbrev pub order_of : List ℕ → NodeLife → ClientLife → List (ℕ × LocalMove)
order_of turns n c = by_turns turns 1 0 (moves_of_client c) (moves_of_node n)

-- ---- the node

abbrev pub joint_block : Block
joint_block = block 7 1 1

abbrev pub next_block : Block
next_block = block 7 2 1

-- handlers 1 and 2, with a cell of 0 each
abbrev pub cells : List Placement
cells = placed cell 0 1 ∷ placed cell 0 2 ∷ []

-- nothing is stored of handler 1, and of handler 2 its state as a new one
abbrev pub opening : List LocalHandler
opening =
    opening_handler (handler 1) cell (0 ∷ []) None ∷ opening_handler (handler 2) cell (0 ∷ []) (Some (new_state (handler 2) (0 ∷ []))) ∷ []

-- a Log of one call, which sets the cell
abbrev pub log_at : ℕ → ℕ → Event
log_at h x = Hear (Log (handler h) joint_block 1 (CallEntry (set_to x) ∷ []))

-- before it closes: the block opens at both handlers, and what is logged for handler 1 runs
abbrev pub first_events : List Event
first_events =
    Hear (Hello (handler 1) (client 7) 1) ∷ Hear (Hello (handler 2) (client 7) 1)
    ∷ Hear (Lock (handler 1) joint_block) ∷ Hear (Lock (handler 2) joint_block)
    ∷ Hear (Open (handler 1) joint_block) ∷ Hear (Open (handler 2) joint_block)
    ∷ Hear (Unlock (handler 1) joint_block) ∷ Hear (Unlock (handler 2) joint_block)
    ∷ log_at 1 5 ∷ Begin (handler 1) ∷ Finish (handler 1) ∷ []

-- once it is open again: the Log for handler 2 comes, and runs after the client's next incarnation has cut the block
abbrev pub next_events : List Event
next_events =
    log_at 2 6
    ∷ Hear (Hello (handler 1) (client 7) 2) ∷ Hear (Hello (handler 2) (client 7) 2)
    ∷ Begin (handler 2) ∷ Finish (handler 2)
    ∷ Hear (Lock (handler 2) next_block) ∷ Hear (Open (handler 2) next_block) ∷ []

abbrev pub node : NodeLife
node = reopening_node 1 cells opening first_events next_events

-- ---- the client

-- a turn that sends what is due, and takes the frame of this message
abbrev pub takes : Message → Step
takes m = Turned (Frame One m)

abbrev pub first_steps : List Step
first_steps =
    takes (Welcome (handler 1) (client 7) 1) ∷ takes (Welcome (handler 2) (client 7) 1)
    ∷ Gave (Reserve (handler 1 ∷ handler 2 ∷ []))
    ∷ takes (Locked (handler 1) joint_block) ∷ takes (Locked (handler 2) joint_block)
    ∷ takes (Opened (handler 1) joint_block) ∷ takes (Opened (handler 2) joint_block)
    ∷ takes (Unlocked (handler 1) joint_block) ∷ takes (Unlocked (handler 2) joint_block)
    ∷ Gave (Call (handler 1) (set_to 5)) ∷ Gave (Call (handler 2) (set_to 6))
    ∷ takes (Logged (handler 1) joint_block 1) ∷ []

abbrev pub next_steps : List Step
next_steps =
    takes (Welcome (handler 1) (client 7) 2) ∷ takes (Welcome (handler 2) (client 7) 2)
    ∷ Gave (Reserve (handler 2 ∷ []))
    ∷ takes (Locked (handler 2) next_block) ∷ takes (Opened (handler 2) next_block) ∷ []

abbrev pub party : ClientLife
party = restarting_client (joins (1 ∷ 2 ∷ []) 7) first_steps next_steps

-- ---- all of it

-- how many moves each of the two makes before it is the other's turn
abbrev pub turns : List ℕ
turns = 2 ∷ 2 ∷ 7 ∷ 1 ∷ 3 ∷ 1 ∷ 3 ∷ 1 ∷ 3 ∷ 1 ∷ 3 ∷ 2 ∷ 8 ∷ 3 ∷ 1 ∷ 2 ∷ 3 ∷ 4 ∷ 7 ∷ 1 ∷ 3 ∷ 1 ∷ []

abbrev pub order : List (ℕ × LocalMove)
order = order_of turns node party
