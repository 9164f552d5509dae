-- The printed text of a system.
use Rattle.std.specs.Prelude.{ℕ, ◌==◌, if◌then◌else◌, List, [], ◌∷◌, ◌++◌, codes, Option, Some, None}
use Rattle.std.specs.Fmt.{decimal}
use Rattle.std.specs.Net.Text.{socket_text}
use Rattle.std.specs.declared.net.socket_addr.SocketAddr.{SocketAddr}
use Rattle.scoop_message.specs.declared.name.HandlerId.{HandlerId}
use Rattle.scoop_object.specs.declared.term.Term.{Term}
use Rattle.scoop_object.specs.declared.term.Term.TheVariants.{Const, Word, Arg}
use Rattle.scoop_object.specs.declared.term.Write.{Write}
use Rattle.scoop_object.specs.declared.row.OpRow.{OpRow}
use Rattle.scoop_classes.specs.Classes.{class_name}
use Rattle.scoop_system.specs.declared.class.OwnOperation.{OwnOperation}
use Rattle.scoop_system.specs.declared.place.NodePlace.{NodePlace}
use Rattle.scoop_system.specs.declared.place.HandlerPlace.{HandlerPlace}
use Rattle.scoop_system.specs.declared.place.HandlerClass.{HandlerClass}
use Rattle.scoop_system.specs.declared.place.HandlerClass.TheVariants.{Known, Own}
use Rattle.scoop_system.specs.declared.place.ClientPlace.{ClientPlace}
use Rattle.scoop_system.specs.declared.identity.Identity.{Identity}
use Rattle.scoop_system.specs.Identity.{is_none}
use Rattle.scoop_system.specs.System.{Plan, NamedClass}

-- ---- nodes, handlers and clients

-- numbers, with a space before each
abbrev pub numbers_text : List ℕ → List ℕ
numbers_text [] = []
numbers_text (x ∷ xs) = codes " " ++ decimal x ++ numbers_text xs

abbrev pub handler_class_text : HandlerClass → List ℕ
handler_class_text (Known class) = class_name class
handler_class_text (Own name) = name

-- the name of a handler, if it has one
abbrev pub name_text : Option (List ℕ) → List ℕ
name_text None = []
name_text (Some name) = codes " name " ++ name

unfoldable pub handler_text : HandlerPlace → List ℕ
handler_text h =
    codes "  handler " ++ decimal h.handler.0 ++ codes " " ++ handler_class_text h.class ++ numbers_text h.words ++ name_text h.name ++ codes "\n"

-- the handlers of a node, in the order of the file
abbrev pub handlers_text : ℕ → List HandlerPlace → List ℕ
handlers_text node [] = []
handlers_text node (h ∷ hs) = (if h.node == node then handler_text h else []) ++ handlers_text node hs

-- the status address of a node, if it has one
abbrev pub status_text : Option SocketAddr → List ℕ
status_text None = []
status_text (Some address) = codes " status " ++ socket_text address

-- addresses, with a space before each
abbrev pub addresses_text : List SocketAddr → List ℕ
addresses_text [] = []
addresses_text (a ∷ rest) = codes " " ++ socket_text a ++ addresses_text rest

abbrev pub node_text : List HandlerPlace → NodePlace → List ℕ
node_text handlers n =
    codes "node " ++ decimal n.number ++ addresses_text n.addresses ++ status_text n.status ++ codes "\n" ++ handlers_text n.number handlers

abbrev pub nodes_text : List HandlerPlace → List NodePlace → List ℕ
nodes_text handlers [] = []
nodes_text handlers (n ∷ ns) = node_text handlers n ++ nodes_text handlers ns

-- the numbers of handlers, with a space before each
abbrev pub handler_numbers_text : List HandlerId → List ℕ
handler_numbers_text [] = []
handler_numbers_text (h ∷ hs) = codes " " ++ decimal h.0 ++ handler_numbers_text hs

-- the handlers that a client uses, if its table names them
abbrev pub used_text : Option (List HandlerId) → List ℕ
used_text None = []
used_text (Some handlers) = codes " handlers" ++ handler_numbers_text handlers

unfoldable pub client_text : ClientPlace → List ℕ
client_text c =
    codes "client " ++ decimal c.client.0 ++ codes " " ++ socket_text c.address ++ codes " batch " ++ decimal c.batch ++ used_text c.handlers ++ codes "\n"

abbrev pub clients_text : List ClientPlace → List ℕ
clients_text [] = []
clients_text (c ∷ cs) = client_text c ++ clients_text cs

-- ---- classes

abbrev pub term_text : Term → List ℕ
term_text (Const n) = decimal n
term_text (Word i) = codes "w" ++ decimal i
term_text (Arg i) = codes "a" ++ decimal i

abbrev pub test_formula_text : Term × Term → List ℕ
test_formula_text t = term_text t.0 ++ codes " <= " ++ term_text t.1

abbrev pub test_text : Option (Term × Term) → List ℕ
test_text None = []
test_text (Some t) = test_formula_text t ++ codes "; "

abbrev pub write_text : Write → List ℕ
write_text w = codes "w" ++ decimal w.word ++ codes " := " ++ term_text w.base ++ codes " + " ++ term_text w.plus ++ codes " - " ++ term_text w.minus

-- the writes after the first one
abbrev pub more_writes_text : List Write → List ℕ
more_writes_text [] = codes "; "
more_writes_text (w ∷ ws) = codes ", " ++ write_text w ++ more_writes_text ws

abbrev pub writes_text : List Write → List ℕ
writes_text [] = []
writes_text (w ∷ ws) = write_text w ++ more_writes_text ws

-- the writes and the answer of an operation
abbrev pub effect_text : OpRow → List ℕ
effect_text row = writes_text row.writes ++ term_text row.answer ++ codes "\n"

unfoldable pub row_text : OpRow → List ℕ → List ℕ
row_text row name = codes "  " ++ decimal row.op ++ codes " " ++ name ++ codes ": " ++ test_text row.test ++ effect_text row

-- the operations, each with its name
abbrev pub rows_text : List OpRow → List OwnOperation → List ℕ
rows_text [] operations = []
rows_text (row ∷ rows) [] = []
rows_text (row ∷ rows) (operation ∷ operations) = row_text row operation.name ++ rows_text rows operations

abbrev pub words_text : ℕ → List ℕ
words_text words = if words == 1 then codes "1 word" else (decimal words ++ codes " words")

abbrev pub class_text : NamedClass → List ℕ
class_text c = codes "class " ++ c.name ++ codes " " ++ words_text c.table.words ++ codes "\n" ++ rows_text c.table.rows c.operations

abbrev pub classes_text : List NamedClass → List ℕ
classes_text [] = []
classes_text (c ∷ cs) = class_text c ++ classes_text cs

-- ---- the name and the life

abbrev pub own_name_text : Option (List ℕ) → List ℕ
own_name_text None = []
own_name_text (Some name) = codes " " ++ name

abbrev pub life_text : Option ℕ → List ℕ
life_text None = []
life_text (Some life) = codes " life " ++ decimal life

-- a line of the name and the life; none if the system has neither
abbrev pub identity_text : Identity → List ℕ
identity_text i = if is_none i then [] else (codes "system" ++ own_name_text i.name ++ life_text i.life ++ codes "\n")

-- the name and the life, the nodes with their handlers, the clients, and the classes of the system's own
abbrev pub system_text : Plan → List ℕ
system_text s = identity_text s.identity ++ nodes_text s.handlers s.nodes ++ clients_text s.clients ++ classes_text s.classes
