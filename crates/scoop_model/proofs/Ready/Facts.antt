-- The invariants of all layers, stated for each handler: its slots with the entries that ran and wait, its place in the common
-- list, and its marks' record of greetings.
use Rattle.scoop_model.proofs.Names.{◌≡◌, ℕ, ◌<◌, List, [], ◌∷◌, ◌++◌, map, Some, None, ◌≤◌, true, false, length, ◌⊎◌, AllByRecursion, EndOnlyLast, Hello}
use Rattle.scoop_model.proofs.Names.{Block, ClientId, HandlerId, play, mark_of, Mark, has, entries_of, IsSubsequence, untold, World, ran_at, Site, site_of}
use Rattle.scoop_model.proofs.Names.{sent_at, has_block, opened_at, log_of, received, is_succeeded, inc_of, set_of, has_end}
use Rattle.scoop_model.proofs.Order.{AreApart}
use Rattle.scoop_model.proofs.Tape.{Slot, queues_of, ran_of, blocks_of, IsBegun}

-- as many entries were received as the slot has
abbrev pub IsToldAs : World → HandlerId → Slot → Type 0
IsToldAs w h t = received t.block h w ≡ length (t.ran ++ t.rest)

-- a block whose private queue is gone has nothing waiting, and has run its End or was succeeded
pub record IsOverIfGone (w : World) (h : HandlerId) (t : Slot) : Type 0 where
  pub rest : t.state ≡ None → t.rest ≡ []
  pub why : t.state ≡ None → (has_end t.ran ≡ true) ⊎ (is_succeeded t.block h w ≡ true)

-- the block's reserve named the handler
pub record IsNamedAt (w : World) (h : HandlerId) (t : Slot) : Type 0 where
  pub named : has (set_of t.block w) h ≡ true

-- a handler, whether it is in the world or not
pub record HandlerReady (w : World) (h : HandlerId) : Type 0 where
  pub slots : List Slot
  pub opened : opened_at h w ≡ blocks_of slots
  pub ran : map untold (ran_at h w) ≡ ran_of slots
  pub queues : (s : Site) → site_of h w ≡ Some s → s.core.state.queues ≡ queues_of slots
  pub begun : AllByRecursion (IsBegun (λ b. log_of b h w)) slots
  pub told : AllByRecursion (IsToldAs w h) slots
  pub gone : AllByRecursion (IsOverIfGone w h) slots
  pub named : AllByRecursion (IsNamedAt w h) slots
  -- no count was sent of blocks that haven't opened here
  pub silent : (b : Block) → has_block (opened_at h w) b ≡ false → received b h w ≡ 0
  -- the blocks that opened here are a part of the common list, and stand before all that may still open here
  pub left : IsSubsequence (opened_at h w) w.joint
  pub placed : (b : Block) → has_block w.joint b ≡ true → has (set_of b w) h ≡ true
      → (has_block (opened_at h w) b ≡ true) ⊎ ((is_succeeded b h w ≡ true) ⊎ IsSubsequence (opened_at h w ++ b ∷ []) w.joint)

-- the marks of a handler tell which incarnations have greeted
pub record MarksReady (w : World) (h : HandlerId) (s : Site) : Type 0 where
  pub greeted : (c : ClientId) (k : Mark) (b : Block) → mark_of c s.core.state.marks ≡ Some k → b.client ≡ c → b.inc < k.inc → is_succeeded b h w ≡ true
  pub ahead : (b : Block) (k : Mark) → is_succeeded b h w ≡ true → mark_of b.client s.core.state.marks ≡ Some k → b.inc < k.inc

pub record Ready (w : World) : Type 0 where
  pub once : AreApart w.joint
  pub handlers : (h : HandlerId) → HandlerReady w h
  pub marks : (h : HandlerId) (s : Site) → site_of h w ≡ Some s → MarksReady w h s
  -- the object's words are those after all that has run
  pub words : (h : HandlerId) (s : Site) → site_of h w ≡ Some s → s.core.state.words ≡ play s.core.class s.placed (entries_of s.ran)
  -- an End is logged last, and nothing before the block has opened somewhere
  pub logs : (b : Block) (h : HandlerId) → EndOnlyLast (log_of b h w)
  pub unlogged : (b : Block) (h : HandlerId) → has_block w.joint b ≡ false → log_of b h w ≡ []
  -- no handler is ahead of a client, and no message is
  pub below : (b : Block) (h : HandlerId) → is_succeeded b h w ≡ true → b.inc < inc_of w b.client
  pub hellos : (i : ℕ) (h : HandlerId) (c : ClientId) (inc : ℕ) → sent_at i w ≡ Some (Hello h c inc) → inc ≤ inc_of w c
