-- A node whose lives are replayed: its histories so far, its handlers, and its traffic.
use Rattle.std.specs.Prelude.{◌≡◌, ℕ, List, [], ◌∷◌, ◌++◌, map, Option, Some}
use Rattle.hex.specs.Hex.{encode_lower}
use Rattle.scoop_message.specs.declared.name.HandlerId.{HandlerId}
use Rattle.scoop_message.specs.declared.message.Message.{Message}
use Rattle.scoop_message.specs.Lists.{NoRepeats}
use Rattle.scoop_object.specs.Class.{ClassTable}
use Rattle.scoop_handler.specs.State.{HandlerState, new_state}
use Rattle.scoop_handler.specs.Local.{LocalHandler, number_in, opening_handler}
use Rattle.scoop_record.specs.Image.{image, pending_row}
use Rattle.scoop_message.specs.declared.name.Block.{Block}
use Rattle.scoop_handler.specs.declared.note.Heard.{Heard}
use Rattle.scoop_handler.specs.declared.ran.Ran.{Ran}
use Rattle.scoop_book.specs.declared.event.Event.TheVariants as event
use Rattle.scoop_book.specs.declared.event.Reply.TheVariants as reply
use Rattle.scoop_book.specs.Moves.{Entry, Replays}
use Rattle.scoop_weave.specs.NodeHistories.{reopened}
use Rattle.scoop_weaver.specs.declared.traffic.Traffic.{Traffic}
use Rattle.scoop_weaver.specs.declared.trail.Passage.{Passage}
use Rattle.scoop_weaver.specs.Passing.{by_node}
use Rattle.scoop_weaver.specs.Trails.{HasTraffic}
use Rattle.scoop_replay.specs.declared.node.Placed.{Placed}

-- ---- a handler

-- a new handler, whose state is stored
abbrev pub new_local : HandlerId → ClassTable → List ℕ → LocalHandler
new_local h class words = opening_handler h class words (Some (new_state h words))

-- the hex digits are those of the two blobs of a state, as a store keeps them
pub record AreBlobs (s : HandlerState) (image_digits pending_digits : List ℕ) : Type 0 where
  pub image_is : image_digits ≡ encode_lower (image s)
  pub pending_is : pending_digits ≡ encode_lower (pending_row s)

-- a store that has the handler's state has these blobs
abbrev pub IsStoredAs : LocalHandler → List ℕ → List ℕ → Type 0
IsStoredAs l image_digits pending_digits = AreBlobs l.core.state image_digits pending_digits

-- ---- its histories

-- Each history replays: the first from these handlers, each further one from those of the last as they open again. The
-- newest one leads to the handlers as they are.
abbrev pub Told : (HandlerId → List ℕ) → List LocalHandler → (done : List (List Entry)) → (newest : List Entry) → List LocalHandler → Type 0
Told words opening [] newest now = Replays opening newest now
Told words opening (es ∷ done) newest now =
    (last : List LocalHandler) × Replays opening es last × Told words (map (reopened words) last) done newest now

-- the traffic of these histories
abbrev pub passed_by : ℕ → List (List Entry) → List Entry → List Traffic
passed_by n [] newest = by_node n newest []
passed_by n (es ∷ done) newest = by_node n es (done ++ newest ∷ [])

-- the histories of the lives that are over, that of the newest life, and the handlers as they are
pub record NodeTale : Type 0 where
  pub done : List (List Entry)
  pub newest : List Entry
  pub handlers : List LocalHandler

-- nothing has happened yet
abbrev pub new_tale : List LocalHandler → NodeTale
new_tale opening = record { done = []; newest = []; handlers = opening }

-- one more entry, after which the handlers are these
abbrev pub after_entry : Entry → List LocalHandler → NodeTale → NodeTale
after_entry e hs t = record { done = t.done; newest = t.newest ++ e ∷ []; handlers = hs }

-- the node opens again
abbrev pub after_reopening : (HandlerId → List ℕ) → NodeTale → NodeTale
after_reopening words t = record { done = t.done ++ t.newest ∷ []; newest = []; handlers = map (reopened words) t.handlers }

-- the tale is that of lives which begin with these handlers, and the trail has its traffic
pub record IsNodeTale (words : HandlerId → List ℕ) (number : ℕ) (opening : List LocalHandler) (t : NodeTale) (post : List Message) (trail : List Passage)
    : Type 0 where
  pub told : Told words opening t.done t.newest t.handlers
  pub passed : HasTraffic post trail (passed_by number t.done t.newest)

-- a handler that is placed, as it is new
abbrev pub placed_local : Placed → LocalHandler
placed_local p = new_local p.handler p.class p.words

-- ---- the steps of a replay

-- the number of a node, its handlers, and its moves
pub record NodeValue : Type 0 where
  pub number : ℕ
  pub handlers : List LocalHandler
  pub trail : List Passage

abbrev pub node_value : ℕ → List LocalHandler → List Passage → NodeValue
node_value number handlers trail = record { number = number; handlers = handlers; trail = trail }

-- from each tale of the node it leads to one with a further entry like this
abbrev pub GoesOn : (Entry → Type 0) → (old new : NodeValue) → (post more : List Message) → Type 0
GoesOn P old new post more =
    (words : HandlerId → List ℕ) (opening : List LocalHandler) (t : NodeTale) → t.handlers ≡ old.handlers
    → IsNodeTale words old.number opening t post old.trail
    → (e : Entry) × P e × IsNodeTale words old.number opening (after_entry e new.handlers t) more new.trail

-- from each tale of the node it leads to the one in which it opens again
abbrev pub OpensAgain : (old new : NodeValue) → (post more : List Message) → Type 0
OpensAgain old new post more =
    (words : HandlerId → List ℕ) (opening : List LocalHandler) (t : NodeTale) → t.handlers ≡ old.handlers
    → IsNodeTale words old.number opening t post old.trail
    → IsNodeTale words old.number opening (after_reopening words t) more new.trail × (new.handlers ≡ map (reopened words) old.handlers)

-- the handler heard the message and replied this
abbrev pub HeardSo : Message → Option Message → Entry → Type 0
HeardSo m r e = (told : Heard) × (e ≡ (0, event.Hear m, reply.Heard told)) × (told.reply ≡ r)

-- the handler's next entry left, if it had one
abbrev pub BeganSo : HandlerId → Entry → Type 0
BeganSo h e = (told : Option (Block × ℕ)) × (e ≡ (0, event.Begin h, reply.Began told))

-- the entry that left the handler has run
abbrev pub RanSo : HandlerId → Entry → Type 0
RanSo h e = (ran : Ran) × (e ≡ (0, event.Finish h, reply.Finished ran))
