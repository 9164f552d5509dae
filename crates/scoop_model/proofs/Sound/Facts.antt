-- The soundness of every handler, every message that was sent and every client.
use Rattle.scoop_model.proofs.Names.{◌≤◌, AllByRecursion, IsCore, HasEntries, ClientState, World}
use Rattle.scoop_message.specs.declared.limits.TheConstants.{MAX_ENTRIES}

-- a Log carries one to four entries
pub record HasBatch (c : ClientState) : Type 0 where
  pub some : 1 ≤ c.batch
  pub limit : c.batch ≤ MAX_ENTRIES

pub record Sound (w : World) : Type 0 where
  pub sites : AllByRecursion (λ s. IsCore s.core) w.sites
  pub messages : AllByRecursion HasEntries w.sent
  pub parties : AllByRecursion (λ p. HasBatch p.client) w.parties
