-- The text beside a store, which names the store's owner.
use Rattle.std.specs.Prelude.{ℕ, ◌==◌, Bool, List, [], ◌∷◌, ◌++◌, map, codes, bytes_eq, Option, Some, None, if◌then◌else◌}
use Rattle.std.specs.List.{list_any, before_first, starts_with}
use Rattle.std.specs.Fmt.{decimal}
use Rattle.std.specs.Str.Lines.{lines}
use Rattle.scoop_journal.specs.declared.file.Owner.{Owner}
use Rattle.scoop_journal.specs.declared.file.Owner.TheVariants.{Node, Client}
use Rattle.scoop_classes.specs.Classes.{class_name}
use Rattle.scoop_system.specs.declared.place.HandlerPlace.{HandlerPlace}
use Rattle.scoop_system.specs.declared.place.HandlerClass.{HandlerClass}
use Rattle.scoop_system.specs.declared.place.HandlerClass.TheVariants.{Known, Own}
use Rattle.scoop_system.specs.Identity.{name_bytes, life_number}
use Rattle.scoop_system.specs.System.{Plan, NamedClass, class_named}
use Rattle.scoop_system.specs.SystemText.{class_text}

-- the text has this line
abbrev pub has_line : List ℕ → List ℕ → Bool
has_line text line = list_any (λ l. bytes_eq l line) (lines text)

-- the key of a line: the text before its first equals sign
abbrev pub key_of : List ℕ → List ℕ
key_of line = before_first (λ b. b == 61) line

abbrev pub has_key : List ℕ → List ℕ → Bool
has_key line key = starts_with ◌==◌ line key

-- the name and the life of the system: an empty one and 0 if it has none
abbrev pub head_text : List ℕ → ℕ → List ℕ
head_text name life = codes "system = \"" ++ name ++ codes "\"\nlife = " ++ decimal life ++ codes "\n"

abbrev pub party_text : Owner → List ℕ
party_text (Node number) = codes "node = " ++ decimal number ++ codes "\n"
party_text (Client client) = codes "client = " ++ decimal client.0 ++ codes "\n"

-- a semicolon for the end of a line
abbrev pub joined : ℕ → ℕ
joined byte = if byte == 10 then 59 else byte

-- a class of the system's own in one line; nothing if there is none
abbrev pub own_class_text : Option NamedClass → List ℕ
own_class_text None = []
own_class_text (Some class) = map joined (class_text class)

-- the name of a known class, or all of a class of the system's own
abbrev pub class_line : List NamedClass → HandlerClass → List ℕ
class_line classes (Known class) = class_name class
class_line classes (Own name) = own_class_text (class_named classes name)

abbrev pub handler_line : List NamedClass → HandlerPlace → List ℕ
handler_line classes h = codes "handler." ++ decimal h.handler.0 ++ codes " = \"" ++ class_line classes h.class ++ codes "\"\n"

-- the handlers of a node, each with its class
abbrev pub handler_lines : List NamedClass → ℕ → List HandlerPlace → List ℕ
handler_lines classes node [] = []
handler_lines classes node (h ∷ hs) = (if h.node == node then handler_line classes h else []) ++ handler_lines classes node hs

abbrev pub class_lines : Plan → Owner → List ℕ
class_lines s (Node number) = handler_lines s.classes number s.handlers
class_lines s (Client client) = []

-- the name and the life of the system, the party, and for a node the classes of its handlers
abbrev pub owner_text : Plan → Owner → List ℕ
owner_text s owner = head_text (name_bytes s.identity.name) (life_number s.identity.life) ++ party_text owner ++ class_lines s owner
