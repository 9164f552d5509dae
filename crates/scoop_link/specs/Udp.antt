-- A link over UDP, and the address of a party.
use Rattle.std.specs.Prelude.{◌≡◌, ℕ, List, [], ◌∷◌, find, map, if◌then◌else◌, Option, Some, None, Result, Ok, Err, IsSome}
use Rattle.std.specs.Option.{option_map}
use Rattle.std.specs.declared.net.ip_addr.IpAddr.{IpAddr}
use Rattle.std.specs.declared.net.ip_addr.IpAddr.TheVariants.{V4, V6}
use Rattle.std.specs.declared.net.socket_addr.SocketAddr.{SocketAddr}
use Rattle.std.specs.Net.Addr.{ipv4_octets, ipv6_octets}
use Rattle.std.specs.Net.Socket.{socket_ip, socket_port, socket_flowinfo, socket_scope_id}
use Rattle.scoop_link.specs.declared.party.Party.{Party}
use Rattle.scoop_link.specs.declared.link.LinkFault.{LinkFault}
use Rattle.scoop_link.specs.Party.{same_party}

-- the octets of an IP address, four or sixteen, a port, and for sixteen octets a flow label and a scope
pub record Address : Type 0 where
  pub octets : List ℕ
  pub port : ℕ
  pub flow : ℕ
  pub scope : ℕ

abbrev pub octets_of : IpAddr → List ℕ
octets_of (V4 ip) = ipv4_octets ip
octets_of (V6 ip) = ipv6_octets ip

abbrev pub address_of : SocketAddr → Address
address_of a =
    record { octets = octets_of (socket_ip a); port = socket_port a; flow = socket_flowinfo a; scope = socket_scope_id a }

-- a port of 127.0.0.1
abbrev pub local_address : ℕ → Address
local_address port = record { octets = 127 ∷ 0 ∷ 0 ∷ 1 ∷ []; port = port; flow = 0; scope = 0 }

-- a party with its address, given as a socket address or as a port of this machine

abbrev pub reached_at : Party × SocketAddr → Party × Address
reached_at p = (p.0, address_of p.1)

abbrev pub reached_here : Party × ℕ → Party × Address
reached_here p = (p.0, local_address p.1)

-- the addresses of parties, where the last datagram came from, and the count of faults
pub record UdpValue : Type 0 where
  pub addresses : List (Party × Address)
  pub origin : Option SocketAddr
  pub faults : ℕ

abbrev pub open_udp : List (Party × Address) → UdpValue
open_udp addresses = record { addresses = addresses; origin = None; faults = 0 }

-- the first address listed for the party

abbrev pub socket_addr_to : List (Party × SocketAddr) → Party → Option SocketAddr
socket_addr_to addresses to = option_map (λ p. p.1) (find (λ p. same_party p.0 to) addresses)

abbrev pub address_to : List (Party × Address) → Party → Option Address
address_to addresses to = option_map (λ p. p.1) (find (λ p. same_party p.0 to) addresses)

-- the party at another address; the others stay, and a party that isn't listed gets none

abbrev pub moved : {A : Type 0} → Party → A → Party × A → Party × A
moved party to p = if same_party p.0 party then (p.0, to) else p

abbrev pub moved_all : Party → Address → List (Party × Address) → List (Party × Address)
moved_all party to addresses = map (moved party to) addresses

-- a receive: a datagram has an origin, and without one the last origin stays
abbrev pub ComesFrom : Result (Option ℕ) LinkFault → (old new : Option SocketAddr) → Type 0
ComesFrom (Ok (Some n)) old new = IsSome new
ComesFrom (Ok None) old new = new ≡ old
ComesFrom (Err fault) old new = new ≡ old
