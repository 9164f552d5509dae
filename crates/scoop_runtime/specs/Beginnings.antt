-- The beginning of a system's client.
use Rattle.std.specs.Prelude.{◌≡◌, ◌≤◌, ℕ, List, Option, Ok}
use Rattle.scoop_message.specs.declared.name.ClientId.{ClientId}
use Rattle.scoop_message.specs.declared.name.HandlerId.{HandlerId}
use Rattle.scoop_client.specs.State.{ClientState}
use Rattle.scoop_client.specs.Beginning.{begun}
use Rattle.scoop_keeper.specs.Keeper.{Sets, last_incarnation, next_of}

-- A client with these handlers and this batch has begun, with an incarnation that an honest keeper of incarnations gave
-- it: the next one, which is stored.
pub record BeginsNext (id : ClientId) (batch : ℕ) (known : List HandlerId) (old new : ℕ → Option ℕ) (is_honest : Type 0) (client : ClientState) : Type 0 where
  pub inc : ℕ
  pub begins : begun id inc known 0 batch ≡ Ok client
  pub limit : inc ≤ last_incarnation
  pub next : is_honest → inc ≡ next_of (old id.0)
  pub stored : is_honest → Sets old new id.0 inc
