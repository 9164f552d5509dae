-- The turns of a demo's nodes, and the incarnations that its clients take.
use Rattle.std.specs.Prelude.{◌≡◌, ◌-◌, ◌*◌, ◌^◌, ℕ, min}
use Rattle.scoop_message.specs.declared.name.ClientId.{ClientId}
use Rattle.scoop_keeper.specs.Keeper.{Sets, next_of}
use Rattle.scoop_keeper.specs.Memory.{MemoryRecord, incarnation_at}
use Rattle.scoop_two_cells.specs.declared.plan.Plan.{Plan}

-- the turns that a node's loop takes at most
abbrev pub node_turns : Plan → ℕ
node_turns p = min (p.turns * 100) (2 ^ 64 - 1)

-- the client has taken its next incarnation, and nothing else has changed
pub record TakesNext (old new : MemoryRecord) (c : ClientId) : Type 0 where
  pub next : Sets (incarnation_at old) (incarnation_at new) c.0 (next_of (incarnation_at old c.0))
  pub states : new.states ≡ old.states

-- clients 7, 8 and 9 have taken their next incarnations, one after another
pub record HaveBegun (old new : MemoryRecord) : Type 0 where
  pub first : MemoryRecord
  pub second : MemoryRecord
  pub seven : TakesNext old first (record { 0 = 7 })
  pub eight : TakesNext first second (record { 0 = 8 })
  pub nine : TakesNext second new (record { 0 = 9 })
