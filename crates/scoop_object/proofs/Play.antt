-- Entries played on an object, one after another.
use Rattle.std.proofs.Common.{◌≡◌, ◌∙◌, ℕ, List, [], ◌∷◌, ◌++◌, length, refl}
use Rattle.scoop_message.specs.declared.request.Entry.{Entry}
use Rattle.scoop_message.specs.declared.request.Entry.TheVariants.{Call, Query, End}
use Rattle.scoop_object.specs.Class.{ClassTable}
use Rattle.scoop_object.specs.Play.{entry_effect, play}
use Rattle.scoop_object.proofs.Lengths.{length-eff}

-- entries that were played in two parts
pub play-append : (class : ClassTable) (words : List ℕ) (es fs : List Entry) → play class words (es ++ fs) ≡ play class (play class words es) fs
play-append class words [] fs = refl
play-append class words (e ∷ es) fs = play-append class (entry_effect class words e).0 es fs

-- one more entry
pub play-snoc : (class : ClassTable) (words : List ℕ) (es : List Entry) (e : Entry)
    → play class words (es ++ e ∷ []) ≡ (entry_effect class (play class words es) e).0
play-snoc class words es e = play-append class words es (e ∷ [])

-- an object keeps its number of words
pub length-entry_effect : (class : ClassTable) (words : List ℕ) (e : Entry) → length (entry_effect class words e).0 ≡ length words
length-entry_effect class words (Call r) = length-eff class words r
length-entry_effect class words (Query r) = length-eff class words r
length-entry_effect class words End = refl

pub length-play : (class : ClassTable) (words : List ℕ) (es : List Entry) → length (play class words es) ≡ length words
length-play class words [] = refl
length-play class words (e ∷ es) = length-play class (entry_effect class words e).0 es ∙ length-entry_effect class words e
