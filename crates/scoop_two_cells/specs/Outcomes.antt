-- The texts of a demo, and the program's exit status.
use Rattle.std.specs.Prelude.{◌==◌, if◌then◌else◌, ℕ, Bool, true, false, List, [], ◌∷◌, ◌++◌, codes, Option, Some, None}
use Rattle.std.specs.Fmt.{decimal}
use Rattle.scoop_message.specs.Text.{answer_text}
use Rattle.scoop_message.specs.declared.request.Answer.{Answer}
use Rattle.scoop_message.specs.declared.request.Answer.TheVariants.{Refused, Value}
use Rattle.scoop_two_cells.specs.declared.outcome.Outcome.{Outcome}
use Rattle.scoop_two_cells.specs.declared.outcome.Waited.{Waited}
use Rattle.scoop_two_cells.specs.declared.outcome.Waited.TheVariants.{Balance, ConditionFailed}
use Rattle.scoop_two_cells.specs.declared.outcome.Woven.{Woven}
use Rattle.scoop_two_cells.specs.declared.outcome.Woven.TheVariants.{Moves, Unsent}

-- both are the same value
abbrev pub are_same : Answer → Answer → Bool
are_same (Value x) (Value y) = x == y
are_same (Value x) Refused = false
are_same Refused y = false

abbrev pub wait_text : Option Waited → List ℕ
wait_text None = []
wait_text (Some (Balance answer)) = codes "balance " ++ answer_text answer ++ 10 ∷ []
wait_text (Some ConditionFailed) = codes "condition failed" ++ 10 ∷ []

abbrev pub cells_text : Answer → Answer → List ℕ
cells_text x y = (if are_same x y then codes "cells same" else codes "cells different") ++ 10 ∷ []

-- the name of the party at this place
abbrev pub party_text : ℕ → List ℕ
party_text p =
    if p == 0 then codes "node 1"
    else if p == 1 then codes "node 2"
    else if p == 2 then codes "client 7"
    else if p == 3 then codes "client 8"
    else codes "client 9"

-- the move at this place of the party of this name is one that no order explains
abbrev pub unsent_text : ℕ → List ℕ → List ℕ
unsent_text place name =
    codes "not woven: move " ++ decimal place ++ codes " of " ++ name ++ codes " hears a message that was not sent before" ++ 10 ∷ []

abbrev pub woven_text : Option Woven → List ℕ
woven_text None = []
woven_text (Some (Moves count)) = codes "woven: " ++ decimal count ++ codes " moves" ++ 10 ∷ []
woven_text (Some (Unsent party place)) = unsent_text place (party_text party)

-- the lines of a demo
abbrev pub outcome_text : Outcome → List ℕ
outcome_text o =
    wait_text o.waited ++ cells_text o.first o.second ++ codes "node 1 closed" ++ 10 ∷ codes "node 2 closed" ++ 10 ∷ woven_text o.woven

-- 1 if client 8 waited in vain
abbrev pub wait_status : Option Waited → ℕ
wait_status None = 0
wait_status (Some (Balance answer)) = 0
wait_status (Some ConditionFailed) = 1

-- the search for an order found none
abbrev pub is_unsent : Option Woven → Bool
is_unsent None = false
is_unsent (Some (Moves count)) = false
is_unsent (Some (Unsent party place)) = true

-- 1 if client 8 waited in vain, the cells differ or the search found no order, else 0
abbrev pub outcome_status : Outcome → ℕ
outcome_status o = if is_unsent o.woven then 1 else if are_same o.first o.second then wait_status o.waited else 1

-- the rounds that each client has done, written over the line before
abbrev pub progress_text : ℕ → ℕ → ℕ → List ℕ
progress_text seven eight all =
    13 ∷ codes "client 7: " ++ decimal seven ++ codes " of " ++ decimal all ++ codes " rounds, client 8: "
    ++ decimal eight ++ codes " of " ++ decimal all ++ codes " rounds"
