-- The ranges of a node's and a client's numbers.
use Rattle.std.specs.Prelude.{ℕ, ◌-◌, ◌^◌, ◌&&◌, nat_le, Bool, if◌then◌else◌, List, [], ◌∷◌, ◌++◌, codes, Option, Some, None}
use Rattle.std.specs.Fmt.{decimal}
use Rattle.scoop_message.specs.declared.limits.TheConstants.{MAX_ENTRIES, MAX_HISTORY}
use Rattle.scoop_texts.specs.declared.ranges.OutOfRange.{OutOfRange}
use Rattle.scoop_texts.specs.declared.ranges.OutOfRange.TheVariants.{Executors, History, Turns, Batch}
use Rattle.scoop_texts.specs.declared.ranges.TheConstants.{MAX_EXECUTORS, MIN_HISTORY}

abbrev pub least : OutOfRange → ℕ
least Executors = 1
least History = MIN_HISTORY
least Turns = 1
least Batch = 1

abbrev pub greatest : OutOfRange → ℕ
greatest Executors = MAX_EXECUTORS
greatest History = MAX_HISTORY
greatest Turns = 2 ^ 64 - 1
greatest Batch = MAX_ENTRIES

abbrev pub is_within : OutOfRange → ℕ → Bool
is_within range n = nat_le (least range) n && nat_le n (greatest range)

-- the first of the numbers that is out of its range
abbrev pub first_outside : List (OutOfRange × ℕ) → Option OutOfRange
first_outside [] = None
first_outside (x ∷ xs) = if is_within x.0 x.1 then first_outside xs else Some x.0

-- for the numbers of a node
abbrev pub serving_fault : ℕ → ℕ → ℕ → Option OutOfRange
serving_fault executors history turns = first_outside ((Executors, executors) ∷ (History, history) ∷ (Turns, turns) ∷ [])

-- for the numbers of a client
abbrev pub client_fault : ℕ → ℕ → Option OutOfRange
client_fault turns batch = first_outside ((Turns, turns) ∷ (Batch, batch) ∷ [])

-- the program's name for the number
abbrev pub name_text : OutOfRange → List ℕ
name_text Executors = codes "--executors"
name_text History = codes "--history"
name_text Turns = codes "--turns"
name_text Batch = codes "batch"

abbrev pub range_text : OutOfRange → List ℕ
range_text range = name_text range ++ codes " must be a whole number from " ++ decimal (least range) ++ codes " to " ++ decimal (greatest range)

abbrev pub range_advice : OutOfRange → List ℕ
range_advice Executors = codes "give such a number, or omit the option for 2"
range_advice History = codes "give such a number, or omit the option for 100000"
range_advice Turns =
    codes "give such a number, or omit the option: then a client's command takes at most 100000 turns, and scoop node serves until you kill it"
range_advice Batch = codes "fix the client's batch in the system's file"
