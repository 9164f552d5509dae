-- Orders of several parties' moves, and how one is found.
use Rattle.std.specs.Prelude.{◌≡◌, ◌↔◌, ℕ, ◌+◌, ◌-◌, ◌<◌, ◌≤◌, ⊤, List, [], ◌∷◌, ◌++◌, length, map, flat_map, slice_get, slice_index, Contains, Option, Some}
use Rattle.std.specs.Prelude.{None, IfSome, option_to_list}
use Rattle.scoop_message.specs.declared.message.Message.{Message}
use Rattle.scoop_weaver.specs.declared.traffic.Traffic.{Traffic}
use Rattle.scoop_weaver.specs.declared.error.NoWeave.{NoWeave}
use Rattle.scoop_weaver.specs.declared.error.NoWeave.TheVariants.{Unsent, OutOfMemory}
use Rattle.scoop_weave.specs.Order.{own, party_at, IsOrder}

abbrev pub sent_by : List Traffic → List Message
sent_by ts = flat_map (λ t. option_to_list t.sent) ts

-- after these moves, each message that one of those hears was sent before it
abbrev pub AllSent : List Traffic → List Traffic → Type 0
AllSent past [] = ⊤
AllSent past (t ∷ ts) = IfSome t.heard (Contains (sent_by past)) × AllSent (past ++ t ∷ []) ts

-- the list has each party's moves in their order, and each message that is heard was sent before
pub record IsWoven (parties : List (List Traffic)) (order : List (ℕ × Traffic)) : Type 0 where
  pub whole : IsOrder parties order
  pub sent : AllSent [] (map (λ x. x.1) order)

-- ---- beginnings

pub record IsStart {A : Type 0} (xs ys : List A) : Type 0 where
  pub rest : List A
  pub is : xs ++ rest ≡ ys

-- the list has the first moves of each party, and each message that is heard was sent before
pub record Begins (parties : List (List Traffic)) (order : List (ℕ × Traffic)) : Type 0 where
  pub starts : (i : ℕ) → IsStart (own i order) (party_at parties i)
  pub sent : AllSent [] (map (λ x. x.1) order)

-- some list has the party's moves before this place, and no list has its move at this place
pub record IsUnexplained (parties : List (List Traffic)) (party place : ℕ) : Type 0 where
  pub order : List (ℕ × Traffic)
  pub begins : Begins parties order
  pub reached : length (own party order) ≡ place
  pub there : place < length (party_at parties party)
  pub never : (other : List (ℕ × Traffic)) → Begins parties other → length (own party other) ≤ place

abbrev pub IsNoWeave : List (List Traffic) → NoWeave → Type 0
IsNoWeave parties (Unsent party place) = IsUnexplained parties party place
IsNoWeave parties OutOfMemory = ⊤

-- ---- how one is found

-- the move is there, and the message that it hears is among these
abbrev pub IsReady : List Message → Option Traffic → Type 0
IsReady sent None = ⊥
IsReady sent (Some t) = IfSome t.heard (Contains sent)

-- the party's next move, after that many moves of each
abbrev pub next_at : List (List Traffic) → List ℕ → ℕ → Option Traffic
next_at parties places p = slice_get (party_at parties p) (slice_index places p)

abbrev pub party_len : List (List Traffic) → ℕ → ℕ
party_len parties p = length (party_at parties p)

-- how many moves are left
abbrev pub left : List (List Traffic) → List ℕ → ℕ
left [] ks = 0
left (p ∷ ps) [] = length p + left ps []
left (p ∷ ps) (k ∷ ks) = (length p - k) + left ps ks

-- that many moves of each party were taken, in this order, and they sent these messages
pub record IsRun (parties : List (List Traffic)) (places : List ℕ) (order : List (ℕ × Traffic)) (sent : List Message) : Type 0 where
  pub begins : Begins parties order
  pub count : length places ≡ length parties
  pub taken : (i : ℕ) → i < length parties → slice_index places i ≡ length (own i order)
  pub known : (m : Message) → Contains sent m ↔ Contains (sent_by (map (λ x. x.1) order)) m
