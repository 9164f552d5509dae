-- The effect of a private queue's entries on an object.
use Rattle.std.specs.Prelude.{ℕ, List, [], ◌∷◌, Option, Some, None}
use Rattle.scoop_message.specs.declared.request.Request.{Request}
use Rattle.scoop_message.specs.declared.request.Entry.{Entry}
use Rattle.scoop_message.specs.declared.request.Entry.TheVariants.{Call, Query, End}
use Rattle.scoop_message.specs.declared.request.Answer.{Answer}
use Rattle.scoop_object.specs.Class.{ClassTable}
use Rattle.scoop_object.specs.Effect.{eff}

-- the words after a request, and the answer
abbrev pub request_effect : ClassTable → List ℕ → Request → List ℕ × Option Answer
request_effect class words r = ((eff class words r).0, Some (eff class words r).1)

-- the words after an entry, and the answer: an End changes nothing and gets no answer
abbrev pub entry_effect : ClassTable → List ℕ → Entry → List ℕ × Option Answer
entry_effect class words (Call r) = request_effect class words r
entry_effect class words (Query r) = request_effect class words r
entry_effect class words End = (words, None)

-- the words after entries, one after another
abbrev pub play : ClassTable → List ℕ → List Entry → List ℕ
play class words [] = words
play class words (e ∷ es) = play class (entry_effect class words e).0 es
