use Rattle.std.proofs.Common.{◌≡◌, drop, map}
use Rattle.toml.specs.View.{view}
use Rattle.scoop_system.specs.Meaning.{clients_from}
use Rattle.scoop_system.proofs.reading.party.add_clients.Given as goal

abbrev pub invariant-loop-value : goal.invariant-loop-value
invariant-loop-value l =
    clients_from l.nodes l.handlers l.fn.clients.items (map view l.values)
    ≡ clients_from l.nodes l.handlers l.clients.items (map view (drop l.value-index l.values))
