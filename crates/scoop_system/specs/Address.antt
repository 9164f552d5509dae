-- The socket address that a text writes.
use Rattle.std.specs.Prelude.{ℕ, Bool, List, [], ◌∷◌, Option, Some, None}
use Rattle.std.specs.List.{list_any}
use Rattle.std.specs.Option.{option_map}
use Rattle.std.specs.declared.net.socket_addr.SocketAddr.{SocketAddr}
use Rattle.std.specs.declared.net.socket_addr.SocketAddr.TheVariants.{V4, V6}
use Rattle.std.specs.contracts.net.socket_addr.SocketAddrPartialEq.TheImpl as on_address
use Rattle.std.specs.Net.Reader.{read_socket_v4, read_socket_v6, whole_value}

abbrev pub v4_of : List ℕ × ℕ → SocketAddr
v4_of parts = V4 (record { ip = record { octets = parts.0 }; port = parts.1 })

abbrev pub v6_of : List ℕ × ℕ × ℕ × ℕ → SocketAddr
v6_of parts = V6 (record { ip = record { segments = parts.0 }; port = parts.1; flowinfo = parts.2; scope_id = parts.3 })

abbrev pub or_else : Option SocketAddr → Option SocketAddr → Option SocketAddr
or_else None other = other
or_else (Some a) other = Some a

-- an IPv4 address with a port, or an IPv6 address in brackets with a port
unfoldable pub address_of : List ℕ → Option SocketAddr
address_of text = or_else (option_map v4_of (whole_value (read_socket_v4 text))) (option_map v6_of (whole_value (read_socket_v6 text)))

-- the same IP address with the same port
abbrev pub same_address : SocketAddr → SocketAddr → Bool
same_address = on_address.eq-value.it

-- the address is among these
abbrev pub has_address : List SocketAddr → SocketAddr → Bool
has_address addresses a = list_any (λ own. same_address own a) addresses

-- the value of an unused cell of a node's addresses
abbrev pub nowhere : SocketAddr
nowhere = v4_of (0 ∷ 0 ∷ 0 ∷ 0 ∷ [], 0)

-- the first of a node's addresses
abbrev pub first_of : List SocketAddr → SocketAddr
first_of [] = nowhere
first_of (a ∷ rest) = a
