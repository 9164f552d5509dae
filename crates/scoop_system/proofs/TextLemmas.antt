-- Texts, as they are written and in the definitions.
use Rattle.std.proofs.Common.{◌≡◌, ℕ, List, ◌++◌, codes, sym, ◌∙◌, append_assoc}
use Rattle.scoop_system.specs.FaultText.{quoted}

-- the text of an operation's place, and the name of its class
pub of_class : (front count class : List ℕ) → front ++ (count ++ (codes " of class " ++ quoted class)) ≡ front ++ count ++ codes " of class " ++ quoted class
of_class front count class =
    sym (append_assoc (front ++ count) (codes " of class ") (quoted class) ∙ append_assoc front count (codes " of class " ++ quoted class))
