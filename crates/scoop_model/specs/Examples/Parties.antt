-- Parties and events for worlds to compute.
use Rattle.std.specs.Prelude.{ℕ, ◌+◌, List, [], ◌∷◌, ◌++◌, map, flat_map, None, Ok, Err}
use Rattle.scoop_message.specs.declared.name.ClientId.{ClientId}
use Rattle.scoop_message.specs.declared.name.HandlerId.{HandlerId}
use Rattle.scoop_message.specs.declared.name.Block.{Block}
use Rattle.scoop_message.specs.declared.request.Request.{Request}
use Rattle.scoop_object.specs.declared.term.Term.TheVariants.{Const, Word, Arg}
use Rattle.scoop_object.specs.Class.{ClassTable}
use Rattle.scoop_handler.specs.declared.note.Note.{Note}
use Rattle.scoop_client.specs.declared.phase.ClientNote.{ClientNote}
use Rattle.scoop_client.specs.declared.command.Command.TheVariants.{Reserve}
use Rattle.scoop_model.specs.declared.event.Event.{Event}
use Rattle.scoop_model.specs.declared.event.Event.TheVariants.{Do, Tick, Take, Begin, Finish}
use Rattle.scoop_model.specs.declared.note.WorldNote.{WorldNote}
use Rattle.scoop_model.specs.declared.note.WorldNote.TheVariants as note
use Rattle.scoop_model.specs.World.{World}
use Rattle.scoop_model.specs.Step.{Placement, Newcomer, step, opening}
use Rattle.scoop_model.specs.Opening.{MayOpen}

-- operation 1 sets the word, and operation 2 gets it
abbrev pub cell : ClassTable
cell = record {
  words = 1;
  rows =
      record { op = 1; test = None; writes = record { word = 0; base = Arg 0; plus = Const 0; minus = Const 0 } ∷ []; answer = Word 0 }
      ∷ record { op = 2; test = None; writes = []; answer = Word 0 }
      ∷ [];
}

-- operation 1 adds to the word
abbrev pub counter : ClassTable
counter = record {
  words = 1;
  rows = record { op = 1; test = None; writes = record { word = 0; base = Word 0; plus = Arg 0; minus = Const 0 } ∷ []; answer = Word 0 } ∷ [];
}

abbrev pub handler : ℕ → HandlerId
handler n = record { 0 = n }

abbrev pub client : ℕ → ClientId
client n = record { 0 = n }

abbrev pub block : ℕ → ℕ → ℕ → Block
block c inc num = record { client = client c; inc = inc; num = num }

-- an object of this class and word, on node 1
abbrev pub placed : ClassTable → ℕ → ℕ → Placement
placed class word h = record { node = 1; handler = handler h; class = class; words = word ∷ [] }

-- a client of batch 1 that was never here, and knows these handlers
abbrev pub joins : List ℕ → ℕ → Newcomer
joins hs c = record { id = client c; batch = 1; stored = 0; handlers = map handler hs }

-- handlers with a cell of 0 each, and clients
abbrev pub cells : List ℕ → List ℕ → World
cells hs cs = opening (map (placed cell 0) hs) (map (joins hs) cs)

abbrev pub CellsMayOpen : List ℕ → List ℕ → Type 0
CellsMayOpen hs cs = MayOpen (map (placed cell 0) hs) (map (joins hs) cs)

-- handler 1 with a counter of 0, and clients
abbrev pub counting : List ℕ → World
counting cs = opening (placed counter 0 1 ∷ []) (map (joins (1 ∷ [])) cs)

abbrev pub CounterMayOpen : List ℕ → Type 0
CounterMayOpen cs = MayOpen (placed counter 0 1 ∷ []) (map (joins (1 ∷ [])) cs)

-- one client sends what it owes, as the i-th message, which is taken, and so is the reply
abbrev pub trip : ℕ → ℕ × ℕ → List Event
trip i t = Tick (client t.0) (handler t.1) ∷ Take i ∷ Take (i + 1) ∷ []

-- trips of clients to handlers, one after another, the first of which sends the i-th message
abbrev pub trips : ℕ → List (ℕ × ℕ) → List Event
trips i [] = []
trips i (t ∷ ts) = trip i t ++ trips (i + 2) ts

abbrev pub reserve : ℕ → List ℕ → Event
reserve c hs = Do (client c) (Reserve (map handler hs))

abbrev pub set_to : ℕ → Request
set_to x = record { op = 1; args = x ∷ [] }

abbrev pub add : ℕ → Request
add x = record { op = 1; args = x ∷ [] }

abbrev pub runs : ℕ → List Event
runs h = Begin (handler h) ∷ Finish (handler h) ∷ []

-- the notes of events, up to the first that is refused
abbrev pub told : World → List Event → List WorldNote
told w [] = []
told w (e ∷ es) = elim (step w e) [ Ok r ↦ r.1 ∷ told r.0 es | Err x ↦ [] ]

-- the notes of clients and of handlers on messages
abbrev pub of_client : WorldNote → List ClientNote
of_client (note.Client told) = told ∷ []
of_client (note.Handler told i) = []
of_client note.Done = []
of_client note.Silent = []
of_client (note.Sent i) = []
of_client (note.Began b n) = []
of_client (note.Ran r) = []
of_client (note.Restarted inc) = []
of_client note.Reopened = []

abbrev pub of_handler : WorldNote → List Note
of_handler (note.Handler told i) = told ∷ []
of_handler (note.Client told) = []
of_handler note.Done = []
of_handler note.Silent = []
of_handler (note.Sent i) = []
of_handler (note.Began b n) = []
of_handler (note.Ran r) = []
of_handler (note.Restarted inc) = []
of_handler note.Reopened = []

abbrev pub told_clients : List WorldNote → List ClientNote
told_clients notes = flat_map of_client notes

abbrev pub told_handlers : List WorldNote → List Note
told_handlers notes = flat_map of_handler notes
