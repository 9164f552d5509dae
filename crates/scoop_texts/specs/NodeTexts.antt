-- The lines of a node.
use Rattle.std.specs.Prelude.{ℕ, List, [], ◌∷◌, ◌++◌, codes}
use Rattle.std.specs.Fmt.{decimal}
use Rattle.std.specs.Net.Text.{socket_text}
use Rattle.scoop_message.specs.declared.name.HandlerId.{HandlerId}
use Rattle.scoop_system.specs.declared.place.NodePlace.{NodePlace}
use Rattle.scoop_links.specs.Texts.{numbers_text}

abbrev pub ready_text : NodePlace → List HandlerId → List ℕ
ready_text p hs =
    codes "node " ++ decimal p.number ++ codes " at " ++ socket_text p.address ++ codes ": handlers" ++ numbers_text hs ++ 10 ∷ []

abbrev pub reopened_text : ℕ → List ℕ
reopened_text number = codes "node " ++ decimal number ++ codes " reopened" ++ 10 ∷ []

abbrev pub closed_text : ℕ → List ℕ
closed_text number = codes "node " ++ decimal number ++ codes " closed" ++ 10 ∷ []
