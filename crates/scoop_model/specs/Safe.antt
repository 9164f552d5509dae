-- The safety of a world: the property of every world that can be reached.
use Rattle.std.specs.Prelude.{◌≡◌, ◌≢◌, ◌⊎◌, ℕ, ◌+◌, IsTrue, List, [], ◌∷◌, ◌++◌, length, filter, flat_map, map, take, slice_get, Some, Contains}
use Rattle.std.specs.List.{AllByRecursion}
use Rattle.scoop_message.specs.declared.name.Block.{Block}
use Rattle.scoop_message.specs.declared.name.HandlerId.{HandlerId}
use Rattle.scoop_message.specs.declared.request.Answer.{Answer as ObjectAnswer}
use Rattle.scoop_message.specs.declared.request.Entry.{Entry}
use Rattle.scoop_message.specs.Entry.{is_query}
use Rattle.scoop_message.specs.Entries.{ends}
use Rattle.scoop_message.specs.Lists.{NoRepeats}
use Rattle.scoop_message.specs.Message.{same_block}
use Rattle.scoop_object.specs.Play.{entry_effect, play}
use Rattle.scoop_handler.specs.declared.ran.Ran.{Ran}
use Rattle.scoop_model.specs.World.{World, Site, Party, Accepted, number_of, id_of, ran_at, log_of, received, is_succeeded}

-- ---- in order

-- the first list is what is left of the second once some elements are taken out
pub data IsSubsequence {A : Type 0} : List A → List A → Type 0 where
  nothing : IsSubsequence [] []
  left_out : (x : A) (xs ys : List A) → IsSubsequence xs ys → IsSubsequence xs (x ∷ ys)
  taken : (x : A) (xs ys : List A) → IsSubsequence xs ys → IsSubsequence (x ∷ xs) (x ∷ ys)

-- every handler takes the blocks that open at it in the order of one common list
pub record InOrder (w : World) : Type 0 where
  pub once : NoRepeats w.joint
  pub common : AllByRecursion (λ s. IsSubsequence s.opened w.joint) w.sites

-- ---- the tape

-- the entries that ran of a block, in their order
abbrev pub part : Block → Site → List Ran
part b s = filter (λ r. same_block r.block b) s.ran

-- an entry without its answer
abbrev pub untold : Ran → Block × ℕ × Entry
untold r = (r.block, r.number, r.entry)

-- entries of a block with their numbers, the first of which is given
abbrev pub numbered : Block → ℕ → List Entry → List (Block × ℕ × Entry)
numbered b n [] = []
numbered b n (e ∷ es) = (b, n, e) ∷ numbered b (n + 1) es

-- the entries that ran of the block are the first that its client logged here, each once
abbrev pub IsBeginning : World → Site → Block → Type 0
IsBeginning w s b = map untold (part b s) ≡ numbered b 1 (take (length (part b s)) (log_of b (number_of s) w))

-- the entries that ran are, block after block in the order of their opening, a beginning of each block's log
pub record Tape (w : World) (s : Site) : Type 0 where
  pub in_turn : s.ran ≡ flat_map (λ b. part b s) s.opened
  pub beginnings : AllByRecursion (IsBeginning w s) s.opened

-- ---- whole before next

abbrev pub entries_of : List Ran → List Entry
entries_of rs = map (λ r. r.entry) rs

-- the block has run to its End, or the handler has been greeted by a newer incarnation of its client, and all
-- entries that the handler acknowledged have run
abbrev pub IsWhole : World → Site → Block → Type 0
IsWhole w s b =
    IsTrue (ends (entries_of (part b s)))
    ⊎ (IsTrue (is_succeeded b (number_of s) w)
    × (entries_of (part b s) ≡ take (received b (number_of s) w) (log_of b (number_of s) w)))

-- a block runs something only once each block that opened before it is whole
abbrev pub WholeBeforeNext : World → Site → Type 0
WholeBeforeNext w s =
    (front between back : List Block) (b later : Block) →
    s.opened ≡ front ++ b ∷ between ++ later ∷ back → part later s ≢ [] → IsWhole w s b

-- ---- right answers

-- each answer is the object's, after exactly the entries that ran before
abbrev pub RightAnswers : Site → Type 0
RightAnswers s =
    (k : ℕ) (r : Ran) → slice_get s.ran k ≡ Some r →
    r.answer ≡ (entry_effect s.core.class (play s.core.class s.placed (entries_of (take k s.ran))) r.entry).1

-- ---- accepted

-- the query ran at the handler, with this answer
pub record HasRun (rs : List Ran) (b : Block) (n : ℕ) (a : ObjectAnswer) : Type 0 where
  pub ran : Ran
  pub at : Contains rs ran
  pub block : ran.block ≡ b
  pub number : ran.number ≡ n
  pub query : IsTrue (is_query ran.entry)
  pub answer : ran.answer ≡ Some a

-- the block is the client's, and its query has run with the answer that was accepted
pub record IsAnswered (w : World) (p : Party) (a : Accepted) : Type 0 where
  pub own : a.1.client ≡ id_of p
  pub ran : HasRun (ran_at a.0 w) a.1 a.2 a.3

-- the query that an answer was accepted for
abbrev pub query_of : Accepted → HandlerId × Block × ℕ
query_of a = (a.0, a.1, a.2)

pub record AcceptsRight (w : World) (p : Party) : Type 0 where
  pub answered : AllByRecursion (IsAnswered w p) p.accepted
  pub once : NoRepeats (map query_of p.accepted)

-- ---- all of it

pub record Safe (w : World) : Type 0 where
  pub in_order : InOrder w
  pub tapes : AllByRecursion (Tape w) w.sites
  pub whole : AllByRecursion (WholeBeforeNext w) w.sites
  pub answers : AllByRecursion RightAnswers w.sites
  pub accepted : AllByRecursion (AcceptsRight w) w.parties
