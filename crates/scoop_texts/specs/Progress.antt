-- The text of a client's progress.
use Rattle.std.specs.Prelude.{ℕ, List, [], ◌++◌, codes, Option, Some, None, Bool, true, false, if◌then◌else◌}
use Rattle.std.specs.Fmt.{decimal}
use Rattle.scoop_message.specs.Text.{block_text}
use Rattle.scoop_texts.specs.declared.progress.Progress.{Progress}
use Rattle.scoop_texts.specs.declared.progress.Unended.{Unended}
use Rattle.scoop_texts.specs.declared.progress.Unended.TheVariants.{Nothing, When, GivenUp, Cut, Held}

abbrev pub begun_text : Bool → List ℕ
begun_text false = []
begun_text true = codes ", the next one may be done"

-- the words on the block that isn't ended, and the advice
abbrev pub unended_text : Unended → List ℕ
unended_text Nothing = codes ": resume with --store"
unended_text When = codes ", and nothing of the waiting block is done: resume with --store, and begin with its reserve"
unended_text (GivenUp b) =
    codes ", and block " ++ (block_text b ++ codes " is given up: resume with --store, and begin with its reserve")
unended_text (Cut b) = codes ", and block " ++ (block_text b ++ codes " is cut: resume with --store, and begin with reserve")
unended_text (Held b) = codes ", and block " ++ (block_text b ++ codes " may be open still: run the client with --store and --cut")

-- the last line that has its reply, the words on the next one, and how to go on
abbrev pub lines_text : Option ℕ → List ℕ → List ℕ → List ℕ
lines_text None begun goes_on = codes "no line was answered" ++ (begun ++ goes_on)
lines_text (Some line) begun goes_on =
    codes "the lines up to line " ++ (decimal line ++ (codes " were answered" ++ (begun ++ goes_on)))

-- for a client that isn't welcome everywhere: its handlers may know another store
abbrev pub unready_text : List ℕ
unready_text =
    codes "the client was not ready, and no line was read: resume with --store, or with the store of an earlier run if there is one"

abbrev pub progress_text : Progress → List ℕ
progress_text p =
    if p.is_ready then lines_text p.answered (begun_text p.has_begun) (unended_text p.unended) else unready_text
