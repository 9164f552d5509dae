-- A client opens with the highest incarnation there is.
use Rattle.std.specs.Prelude.{◌≡◌, [], ◌∷◌, map, Err}
use Rattle.scoop_model.specs.declared.event.Event.TheVariants.{ClientRestart}
use Rattle.scoop_model.specs.declared.error.WorldError.TheVariants.{IncarnationsSpent}
use Rattle.scoop_model.specs.World.{World}
use Rattle.scoop_model.specs.Step.{step, opening}
use Rattle.scoop_model.specs.Examples.Parties.{client, handler, cell, placed}

abbrev pub world : World
world = opening (placed cell 0 1 ∷ []) (record { id = client 7; batch = 1; stored = 4294967294; handlers = handler 1 ∷ [] } ∷ [])

pub record LastIncarnation : Type 0 where
  pub opens : map (λ p. p.client.inc) world.parties ≡ 4294967295 ∷ []
  pub spent : step world (ClientRestart (client 7)) ≡ Err IncarnationsSpent
