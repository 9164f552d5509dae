-- The system that a TOML table describes, or its first fault.
use Rattle.std.specs.Prelude.{ℕ, ◌==◌, ◌+◌, ◌^◌, ◌-◌, not, Bool, true, false, if◌then◌else◌, List, [], ◌∷◌, ◌++◌, length, find, Option, Some, None, Ok, Err}
use Rattle.std.specs.List.{list_any}
use Rattle.std.specs.Option.{option_map}
use Rattle.std.specs.declared.net.socket_addr.SocketAddr.{SocketAddr}
use Rattle.std.specs.Net.Socket.{socket_ip}
use Rattle.std.specs.Net.Addr.{is_ipv4}
use Rattle.toml.specs.Data.{Data, get}
use Rattle.scoop_lines.specs.Reading.{Read, ◌>>=◌, unless}
use Rattle.scoop_message.specs.declared.limits.TheConstants.{MAX_NODES, MAX_HANDLERS, MAX_CLIENTS, MAX_ENTRIES}
use Rattle.scoop_message.specs.declared.name.HandlerId.{HandlerId}
use Rattle.scoop_classes.specs.Classes.{class_of_name, table_of}
use Rattle.scoop_classes.specs.declared.classes.DemoClass.{DemoClass}
use Rattle.scoop_system.specs.declared.error.Key.{Key}
use Rattle.scoop_system.specs.declared.error.Key.TheVariants as key
use Rattle.scoop_system.specs.declared.error.Wrong.{Wrong}
use Rattle.scoop_system.specs.declared.error.Wrong.TheVariants.{Twice, NameTwice, AddressOf, StatusOf, OtherFamily, NoSuchNode, NoSuchClass}
use Rattle.scoop_system.specs.declared.error.Wrong.TheVariants.{WordCount}
use Rattle.scoop_system.specs.declared.error.Place.TheVariants.{File, System}
use Rattle.scoop_system.specs.declared.place.NodePlace.{NodePlace}
use Rattle.scoop_system.specs.declared.place.HandlerPlace.{HandlerPlace}
use Rattle.scoop_system.specs.declared.place.HandlerClass.{HandlerClass}
use Rattle.scoop_system.specs.declared.place.HandlerClass.TheVariants.{Known, Own}
use Rattle.scoop_system.specs.declared.place.ClientPlace.{ClientPlace}
use Rattle.scoop_system.specs.declared.identity.Identity.{Identity}
use Rattle.scoop_system.specs.declared.reading.TheConstants.{MAX_CLASSES}
use Rattle.scoop_system.specs.Name.{told}
use Rattle.scoop_system.specs.System.{Plan, NamedClass, class_named, has_name}
use Rattle.scoop_system.specs.Addresses.{addresses_at}
use Rattle.scoop_system.specs.Value.{number_at, text_at, name_at, address_at, status_at, words_at, handler_name_at, list_at, key_fault, in_range, whole_of}
use Rattle.scoop_system.specs.KeyText.{key_text}
use Rattle.scoop_system.specs.Address.{same_address, has_address, first_of}
use Rattle.scoop_system.specs.Place.{Told, at, place_at}
use Rattle.scoop_system.specs.Classes.{classes_from}
use Rattle.scoop_system.specs.Used.{used_at}

-- this fault, if the test passes
abbrev pub wrong_if : Bool → Wrong → Option Wrong
wrong_if test wrong = if test then Some wrong else None

abbrev pub number_of : Data → Read Wrong ℕ
number_of d = number_at key.Number 0 (2 ^ 32 - 1) d

-- ---- nodes

abbrev pub is_v4 : SocketAddr → Bool
is_v4 a = is_ipv4 (socket_ip a)

abbrev pub differs : Bool → Bool → Bool
differs true b = not b
differs false b = b

abbrev pub other_family : Option SocketAddr → SocketAddr → Bool
other_family None a = false
other_family (Some first) a = differs (is_v4 first) (is_v4 a)

abbrev pub first_client : List ClientPlace → Option SocketAddr
first_client [] = None
first_client (c ∷ cs) = Some c.address

-- the first address of the file
abbrev pub first_address : List NodePlace → List ClientPlace → Option SocketAddr
first_address [] clients = first_client clients
first_address (n ∷ ns) clients = Some n.address

-- the node, or the client, that has the address
abbrev pub node_at : List NodePlace → SocketAddr → Option NodePlace
node_at nodes a = find (λ n. has_address n.addresses a) nodes

abbrev pub client_at : List ClientPlace → SocketAddr → Option ClientPlace
client_at clients a = find (λ c. same_address c.address a) clients

abbrev pub or_else : Option Wrong → Option Wrong → Option Wrong
or_else None other = other
or_else (Some wrong) other = Some wrong

abbrev pub address_taken : List NodePlace → List ClientPlace → SocketAddr → Option Wrong
address_taken nodes clients a =
    or_else (option_map (λ n. AddressOf key.Node n.number) (node_at nodes a)) (option_map (λ c. AddressOf key.Client c.client.0) (client_at clients a))

-- the fault of the address of a party after these: a party has it, or it is of the other family
abbrev pub address_fault : List NodePlace → List ClientPlace → SocketAddr → Option Wrong
address_fault nodes clients a = or_else (address_taken nodes clients a) (wrong_if (other_family (first_address nodes clients) a) OtherFamily)

abbrev pub some_fault : List NodePlace → List SocketAddr → Option Wrong
some_fault nodes [] = None
some_fault nodes (a ∷ rest) = or_else (address_fault nodes [] a) (some_fault nodes rest)

-- addresses of both families
abbrev pub is_mixed : List SocketAddr → Bool
is_mixed [] = false
is_mixed (a ∷ rest) = list_any (other_family (Some a)) rest

-- the fault of the addresses of a node after these: the first fault of one, or that they are of both families
abbrev pub addresses_fault : List NodePlace → List SocketAddr → Option Wrong
addresses_fault nodes addresses = or_else (some_fault nodes addresses) (wrong_if (is_mixed addresses) OtherFamily)

abbrev pub node_keys : List Key
node_keys = key.Number ∷ key.Address ∷ key.Status ∷ []

abbrev pub is_status : Option SocketAddr → SocketAddr → Bool
is_status None a = false
is_status (Some status) a = same_address status a

-- the node whose status address this is
abbrev pub status_node : List NodePlace → SocketAddr → Option NodePlace
status_node nodes a = find (λ n. is_status n.status a) nodes

-- the fault of the status address of a node after these: one of them has it
abbrev pub status_fault : List NodePlace → Option SocketAddr → Option Wrong
status_fault nodes None = None
status_fault nodes (Some a) = option_map (λ n. StatusOf n.number) (status_node nodes a)

-- a node stands at its first address
abbrev pub new_node : ℕ → List SocketAddr → Option SocketAddr → NodePlace
new_node number addresses status = record { number = number; address = first_of addresses; addresses = addresses; status = status }

-- a node, after those before it
abbrev pub node_of : List NodePlace → Data → Read Wrong NodePlace
node_of nodes d =
    unless (key_fault node_keys d)
    (number_of d >>= λ number. addresses_at d >>= λ addresses. status_at d >>= λ status.
    unless (wrong_if (list_any (λ n. n.number == number) nodes) Twice)
    (unless (addresses_fault nodes addresses) (unless (status_fault nodes status) (Ok (new_node number addresses status)))))

abbrev pub nodes_from : List NodePlace → List Data → Told (List NodePlace)
nodes_from nodes [] = Ok nodes
nodes_from nodes (d ∷ ds) = at (place_at key.Node (length nodes + 1) d) (node_of nodes d) >>= λ n. nodes_from (nodes ++ n ∷ []) ds

-- ---- handlers

abbrev pub own_class : List ℕ → Option NamedClass → Read Wrong (HandlerClass × ℕ)
own_class name None = Err (NoSuchClass (told name))
own_class name (Some class) = Ok (Own class.name, class.table.words)

abbrev pub class_or_own : List NamedClass → List ℕ → Option DemoClass → Read Wrong (HandlerClass × ℕ)
class_or_own classes name None = own_class name (class_named classes name)
class_or_own classes name (Some class) = Ok (Known class, (table_of class).words)

-- the class of this name, and its number of words
abbrev pub handler_class : List NamedClass → List ℕ → Read Wrong (HandlerClass × ℕ)
handler_class classes name = class_or_own classes name (class_of_name name)

abbrev pub handler_keys : List Key
handler_keys = key.Number ∷ key.Name ∷ key.Node ∷ key.Class ∷ key.Words ∷ []

-- the fault of the name of a handler after these: one of them has it
abbrev pub name_fault : List HandlerPlace → Option (List ℕ) → Option Wrong
name_fault handlers None = None
name_fault handlers (Some name) = wrong_if (list_any (λ h. has_name h.name name) handlers) (NameTwice name)

abbrev pub new_handler : ℕ → ℕ → HandlerClass → List ℕ → Option (List ℕ) → HandlerPlace
new_handler number node class words name =
    record { handler = record { 0 = number }; node = node; class = class; words = words; name = name }

-- a handler, after those before it
abbrev pub handler_of : List NamedClass → List NodePlace → List HandlerPlace → Data → Read Wrong HandlerPlace
handler_of classes nodes handlers d =
    unless (key_fault handler_keys d)
    (number_of d >>= λ number. number_at key.Node 0 (2 ^ 32 - 1) d >>= λ node. text_at key.Class d >>= λ text. words_at d >>= λ words.
    handler_name_at d >>= λ name. unless (wrong_if (list_any (λ h. h.handler.0 == number) handlers) Twice)
    (unless (name_fault handlers name) (unless (wrong_if (not (list_any (λ n. n.number == node) nodes)) (NoSuchNode node))
    (handler_class classes text >>= λ class. unless (wrong_if (not (length words == class.1)) (WordCount (length words) class.1))
    (Ok (new_handler number node class.0 words name))))))

abbrev pub handlers_from : List NamedClass → List NodePlace → List HandlerPlace → List Data → Told (List HandlerPlace)
handlers_from classes nodes handlers [] = Ok handlers
handlers_from classes nodes handlers (d ∷ ds) =
    at (place_at key.Handler (length handlers + 1) d) (handler_of classes nodes handlers d) >>= λ h. handlers_from classes nodes (handlers ++ h ∷ []) ds

-- ---- clients

abbrev pub client_keys : List Key
client_keys = key.Number ∷ key.Address ∷ key.Batch ∷ key.Handlers ∷ []

abbrev pub batch_in : Option Data → Read Wrong ℕ
batch_in None = Ok 1
batch_in (Some d) = in_range key.Batch 1 MAX_ENTRIES (whole_of d)

-- the number of entries that a client puts into one Log: 1 by default
abbrev pub batch_at : Data → Read Wrong ℕ
batch_at d = batch_in (get (key_text key.Batch) d)

abbrev pub new_client : ℕ → SocketAddr → ℕ → Option (List HandlerId) → ClientPlace
new_client number address batch handlers =
    record { client = record { 0 = number }; address = address; batch = batch; handlers = handlers }

-- a client, after those before it
abbrev pub client_of : List NodePlace → List HandlerPlace → List ClientPlace → Data → Read Wrong ClientPlace
client_of nodes handlers clients d =
    unless (key_fault client_keys d)
    (number_of d >>= λ number. address_at d >>= λ address. batch_at d >>= λ batch. used_at handlers d >>= λ used.
    unless (wrong_if (list_any (λ c. c.client.0 == number) clients) Twice)
    (unless (address_fault nodes clients address) (Ok (new_client number address batch used))))

abbrev pub clients_from : List NodePlace → List HandlerPlace → List ClientPlace → List Data → Told (List ClientPlace)
clients_from nodes handlers clients [] = Ok clients
clients_from nodes handlers clients (d ∷ ds) =
    at (place_at key.Client (length clients + 1) d) (client_of nodes handlers clients d) >>= λ c. clients_from nodes handlers (clients ++ c ∷ []) ds

-- ---- the name and the life

abbrev pub name_in : Option Data → Read Wrong (List ℕ) → Read Wrong (Option (List ℕ))
name_in None name = Ok None
name_in (Some d) name = name >>= λ n. Ok (Some n)

-- the name of the system, if it has one
abbrev pub own_name_at : Data → Read Wrong (Option (List ℕ))
own_name_at d = name_in (get (key_text key.Name) d) (name_at key.Name d)

abbrev pub life_in : Option Data → Read Wrong (Option ℕ)
life_in None = Ok None
life_in (Some d) = in_range key.Life 1 (2 ^ 32 - 1) (whole_of d) >>= λ n. Ok (Some n)

-- the life of the system, if it says one
abbrev pub life_at : Data → Read Wrong (Option ℕ)
life_at d = life_in (get (key_text key.Life) d)

abbrev pub identity_keys : List Key
identity_keys = key.Name ∷ key.Life ∷ []

abbrev pub new_identity : Option (List ℕ) → Option ℕ → Identity
new_identity name life = record { name = name; life = life }

-- the name and the life in a table
abbrev pub identity_from : Data → Read Wrong Identity
identity_from d = unless (key_fault identity_keys d) (own_name_at d >>= λ name. life_at d >>= λ life. Ok (new_identity name life))

abbrev pub identity_in : Option Data → Told Identity
identity_in None = Ok (new_identity None None)
identity_in (Some d) = at System (identity_from d)

-- the name and the life of the file; none without a table of them
abbrev pub identity_of : Data → Told Identity
identity_of d = identity_in (get (key_text key.System) d)

-- ---- the whole

abbrev pub file_keys : List Key
file_keys = key.System ∷ key.Class ∷ key.Node ∷ key.Handler ∷ key.Client ∷ []

-- the classes of the file, the nodes, the handlers, the clients
abbrev pub classes_of : Data → Told (List NamedClass)
classes_of d = at File (list_at key.Class MAX_CLASSES d) >>= classes_from []

abbrev pub nodes_of : Data → Told (List NodePlace)
nodes_of d = at File (list_at key.Node MAX_NODES d) >>= nodes_from []

abbrev pub handlers_of : List NamedClass → List NodePlace → Data → Told (List HandlerPlace)
handlers_of classes nodes d = at File (list_at key.Handler MAX_HANDLERS d) >>= handlers_from classes nodes []

abbrev pub clients_of : List NodePlace → List HandlerPlace → Data → Told (List ClientPlace)
clients_of nodes handlers d = at File (list_at key.Client MAX_CLIENTS d) >>= clients_from nodes handlers []

abbrev pub plan_of : Identity → List NamedClass → List NodePlace → List HandlerPlace → List ClientPlace → Plan
plan_of identity classes nodes handlers clients =
    record { identity = identity; classes = classes; nodes = nodes; handlers = handlers; clients = clients }

-- the classes, nodes, handlers and clients of a file, with this name and life
abbrev pub parts_of : Identity → Data → Told Plan
parts_of identity d =
    classes_of d >>= λ classes. nodes_of d >>= λ nodes. handlers_of classes nodes d >>= λ handlers. clients_of nodes handlers d >>= λ clients.
    Ok (plan_of identity classes nodes handlers clients)

-- the system of a table. The first fault is that of its keys, then of its name and life, its classes, nodes, handlers and clients
abbrev pub system_of : Data → Told Plan
system_of d = at File (unless (key_fault file_keys d) (Ok d)) >>= λ file. identity_of file >>= λ identity. parts_of identity file
