-- Trails: the moves of parties, with numbers in place of messages.
use Rattle.std.specs.Prelude.{◌≡◌, ◌≤◌, ℕ, ⊤, Bool, true, false, List, [], length, map, slice_get, slice_index, Contains, Option, Some, None}
use Rattle.std.proofs.Common.{zero, suc, get_or}
use Rattle.std.specs.List.{AllByRecursion, AllZip}
use Rattle.scoop_message.specs.Lists.{NoRepeats}
use Rattle.scoop_message.specs.declared.message.Message.{Message}
use Rattle.scoop_weaver.specs.declared.traffic.Traffic.{Traffic}
use Rattle.scoop_weaver.specs.declared.trail.Passage.{Passage}
use Rattle.scoop_weaver.specs.Post.{message_at}
use Rattle.scoop_weave.specs.Order.{party_at}
use Rattle.scoop_weaver.specs.Weaving.{IsRun, IsWoven}

-- the traffic of a move
abbrev pub traffic_at : List Message → Passage → Traffic
traffic_at post x = record { heard = message_at post x.heard; sent = message_at post x.sent }

abbrev pub traffic_along : List Message → List Passage → List Traffic
traffic_along post xs = map (traffic_at post) xs

-- the numbers are those of messages, or of none
pub record IsNumbered (post : List Message) (x : Passage) : Type 0 where
  pub heard : x.heard ≤ length post
  pub sent : x.sent ≤ length post

-- the trail has this traffic
pub record HasTraffic (post : List Message) (trail : List Passage) (ts : List Traffic) : Type 0 where
  pub is : traffic_along post trail ≡ ts
  pub numbered : AllByRecursion (IsNumbered post) trail

abbrev pub HaveTraffic : List Message → List (List Passage) → List (List Traffic) → Type 0
HaveTraffic post trails parties = AllZip (HasTraffic post) trails parties

-- there is an order of the parties' moves in which it is the turn of these, one after another
pub record HasOrder (parties : List (List Traffic)) (turns : List ℕ) : Type 0 where
  pub order : List (ℕ × Traffic)
  pub turns_are : map (λ x. x.0) order ≡ turns
  pub woven : IsWoven parties order

-- ---- how it is found

-- the message of this number was sent, by a flag for each message; none is always
abbrev pub WasSent : List Bool → ℕ → Type 0
WasSent flags zero = ⊤
WasSent flags (suc n) = get_or flags n false ≡ true

-- the move is there, and the message that it hears was sent
abbrev pub IsReadyBy : List Bool → Option Passage → Type 0
IsReadyBy flags None = ⊥
IsReadyBy flags (Some x) = WasSent flags x.heard

-- the party's next move, after that many moves of each
abbrev pub step_at : List (List Passage) → List ℕ → ℕ → Option Passage
step_at trails places p = slice_get (party_at trails p) (slice_index places p)

abbrev pub trail_len : List (List Passage) → ℕ → ℕ
trail_len trails p = length (party_at trails p)

abbrev pub parties_along : List Message → List (List Passage) → List (List Traffic)
parties_along post trails = map (traffic_along post) trails

-- there is a flag for each message, which says whether it was sent
pub record AreFlags (post : List Message) (flags : List Bool) (sent : List Message) : Type 0 where
  pub once : NoRepeats post
  pub count : length flags ≡ length post
  pub only : (n : ℕ) (m : Message) → get_or flags n false ≡ true → slice_get post n ≡ Some m → Contains sent m
  pub all : (n : ℕ) (m : Message) → slice_get post n ≡ Some m → Contains sent m → get_or flags n false ≡ true

-- that many moves of each party were taken, with these turns, and they sent the messages of these flags
pub record IsTrailRun (post : List Message) (trails : List (List Passage)) (places : List ℕ) (turns : List ℕ) (flags : List Bool) : Type 0 where
  pub order : List (ℕ × Traffic)
  pub turns_are : map (λ x. x.0) order ≡ turns
  pub sent : List Message
  pub run : IsRun (parties_along post trails) places order sent
  pub flagged : AreFlags post flags sent

-- the numbers of all trails are those of messages
abbrev pub AllNumbered : List Message → List (List Passage) → Type 0
AllNumbered post trails = AllByRecursion (λ xs. AllByRecursion (IsNumbered post) xs) trails
