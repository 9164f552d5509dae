-- The faults of a file, in their order.
use Rattle.std.proofs.Common.{◌≡◌, List, Ok, Err, refl}
use Rattle.toml.specs.Data.{Data}
use Rattle.scoop_system.specs.declared.place.NodePlace.{NodePlace}
use Rattle.scoop_system.specs.declared.place.HandlerPlace.{HandlerPlace}
use Rattle.scoop_system.specs.declared.identity.Identity.{Identity}
use Rattle.scoop_system.specs.declared.reading.stop.Stop.{Stop}
use Rattle.scoop_system.specs.declared.reading.stop.Stop.TheVariants.{Fault, OutOfMemory}
use Rattle.scoop_system.specs.System.{NamedClass}
use Rattle.scoop_system.specs.Stop.{IfFault}
use Rattle.scoop_system.specs.Meaning.{classes_of, nodes_of, handlers_of, clients_of, parts_of}

-- the fault of the clients is the first one if nothing else has a fault
pub clients_fault : (d : Data) (identity : Identity) (classes : List NamedClass) (nodes : List NodePlace) (handlers : List HandlerPlace) (stop : Stop)
    → classes_of d ≡ Ok classes → nodes_of d ≡ Ok nodes → handlers_of classes nodes d ≡ Ok handlers
    → IfFault stop (λ fault. clients_of nodes handlers d ≡ Err fault) → IfFault stop (λ fault. parts_of identity d ≡ Err fault)
clients_fault d identity classes nodes handlers (Fault fault) cs ns hs is = rw (cs, ns, hs, is) refl
clients_fault d identity classes nodes handlers OutOfMemory cs ns hs is = tt
