use Rattle.std.proofs.Common.{◌≡◌, [], length, take, drop, map}
use Rattle.toml.specs.View.{view}
use Rattle.scoop_system.specs.declared.node_addresses.TheConstants.{MAX_ADDRESSES}
use Rattle.scoop_system.specs.Addresses.{addresses_from}
use Rattle.scoop_system.proofs.reading.addresses.read_addresses.Given as goal

abbrev pub invariant-loop-place : goal.invariant-loop-place
invariant-loop-place l = record {
  read : addresses_from [] (map view l.values) ≡ addresses_from (take l.place l.addresses) (map view (drop l.place l.values));
  size : length l.addresses ≡ MAX_ADDRESSES;
}
