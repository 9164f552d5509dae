-- The addresses that the table of a node gives.
use Rattle.std.specs.Prelude.{◌&&◌, nat_le, if◌then◌else◌, List, [], ◌∷◌, ◌++◌, length, Option, Some, None, Ok, Err}
use Rattle.std.specs.declared.net.socket_addr.SocketAddr.{SocketAddr}
use Rattle.toml.specs.Data.{Data, Items, get, as_array}
use Rattle.scoop_lines.specs.Reading.{Read, ◌>>=◌, unless}
use Rattle.scoop_system.specs.declared.error.Key.TheVariants as key
use Rattle.scoop_system.specs.declared.error.Wrong.{Wrong}
use Rattle.scoop_system.specs.declared.error.Wrong.TheVariants.{AddressTwice, Missing, NotAddresses}
use Rattle.scoop_system.specs.declared.node_addresses.TheConstants.{MAX_ADDRESSES}
use Rattle.scoop_system.specs.Address.{has_address}
use Rattle.scoop_system.specs.Value.{list_of, written_address}
use Rattle.scoop_system.specs.KeyText.{key_text}

abbrev pub address_before : List SocketAddr → SocketAddr → Option Wrong
address_before done a = if has_address done a then Some (AddressTwice a) else None

-- an address, after those before it
abbrev pub next_address : List SocketAddr → Data → Read Wrong SocketAddr
next_address done d = written_address key.Address d >>= λ a. unless (address_before done a) (Ok a)

abbrev pub addresses_from : List SocketAddr → List Data → Read Wrong (List SocketAddr)
addresses_from done [] = Ok done
addresses_from done (d ∷ ds) = next_address done d >>= λ a. addresses_from (done ++ a ∷ []) ds

-- at least one, and not more than a node may have
abbrev pub some_addresses : List Data → Read Wrong (List SocketAddr)
some_addresses ds = if nat_le 1 (length ds) && nat_le (length ds) MAX_ADDRESSES then addresses_from [] ds else Err NotAddresses

abbrev pub addresses_in : Data → Option Items → Read Wrong (List SocketAddr)
addresses_in d None = written_address key.Address d >>= λ a. Ok (a ∷ [])
addresses_in d (Some ds) = some_addresses (list_of ds)

abbrev pub addresses_or_none : Option Data → Read Wrong (List SocketAddr)
addresses_or_none None = Err (Missing key.Address)
addresses_or_none (Some d) = addresses_in d (as_array d)

-- the addresses of a node: one address, or a list of one to four, none of them twice
abbrev pub addresses_at : Data → Read Wrong (List SocketAddr)
addresses_at d = addresses_or_none (get (key_text key.Address) d)
