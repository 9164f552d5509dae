-- The contents of a server after some calls, and the answers of an honest server.
use Rattle.std.specs.Prelude.{◌≡◌, ℕ, true, List, [], ◌∷◌, ◌++◌, Ok, string_bytes, ⊤}
use Rattle.serde_json.specs.Written.{compact_text}
use Rattle.scoop_etcd_calls.specs.declared.calls.Range.{Range}
use Rattle.scoop_etcd_calls.specs.declared.calls.Found.{Found}
use Rattle.scoop_etcd_calls.specs.declared.calls.Txn.{Txn}
use Rattle.scoop_etcd_calls.specs.declared.calls.Outcome.{Outcome}
use Rattle.scoop_etcd_calls.specs.Asking.{range_data, txn_data}
use Rattle.scoop_etcd_calls.specs.Stored.{listed}
use Rattle.scoop_etcd_calls.specs.Answer.{found_in, outcome_in}
use Rattle.scoop_etcd.specs.Etcd.{Contents, Finds, Answers, SameKeys}
use Rattle.scoop_etcd_gateway.specs.declared.call.Call.{Call}
use Rattle.scoop_etcd_gateway.specs.declared.call.Call.TheVariants.{Ranges, Transacts}
use Rattle.scoop_etcd_gateway.specs.declared.call.Answer.{Answer}
use Rattle.scoop_etcd_gateway.specs.declared.call.Answer.TheVariants.{Body, Made, Lost}

-- the outcome of a transaction that was made at this revision
abbrev pub made_at : ℕ → Outcome
made_at revision = record { succeeded = true; revision = revision }

-- calls with their answers, one after another
abbrev pub Calls : Type 0
Calls = List (Call × Answer)

-- The contents of a server after some calls, under the keys that these write or ask for. Other keys may stand as they
-- first did.
abbrev pub History : Type 0
History = Calls → Contents

-- Since the calls in front, only this one has written the keys that the calls write or ask for. The contents under them
-- changed by it alone, if at all. The server's revision may have grown before it.
abbrev pub WritesAlone : History → Calls → Call → Answer → Type 0
WritesAlone after front (Ranges text) answer = SameKeys (after front) (after (front ++ (Ranges text, answer) ∷ []))
WritesAlone after front (Transacts text) (Body body) =
    (txn : Txn) (outcome : Outcome) → string_bytes text ≡ compact_text (txn_data txn) → outcome_in body.items ≡ Ok outcome
    → Answers ⊤ (after front) (after (front ++ (Transacts text, Body body) ∷ [])) txn outcome
WritesAlone after front (Transacts text) (Made revision) =
    (txn : Txn) → string_bytes text ≡ compact_text (txn_data txn)
    → Answers ⊤ (after front) (after (front ++ (Transacts text, Made revision) ∷ [])) txn (made_at revision)
WritesAlone after front (Transacts text) Lost = SameKeys (after front) (after (front ++ (Transacts text, Lost) ∷ []))

-- no other program has written the keys of these calls since the first one, and no transaction was made whose answer is lost
abbrev pub IsAlone : History → Calls → Type 0
IsAlone after calls =
    (front : Calls) (call : Call) (answer : Answer) (back : Calls) → calls ≡ front ++ (call, answer) ∷ back → WritesAlone after front call answer

-- the answer to a call after those in front is what stands there, and what the call does to it
abbrev pub Fits : History → Calls → Call → Answer → Type 0
Fits after front (Ranges text) (Body body) =
    (range : Range) (found : Found) → string_bytes text ≡ compact_text (range_data range) → found_in body.items ≡ Ok (listed found)
    → Finds (after (front ++ (Ranges text, Body body) ∷ [])) range found
Fits after front (Ranges text) (Made revision) = ⊤
Fits after front (Ranges text) Lost = ⊤
Fits after front (Transacts text) (Body body) =
    let all = front ++ (Transacts text, Body body) ∷ [] in
    (txn : Txn) (outcome : Outcome) → string_bytes text ≡ compact_text (txn_data txn) → outcome_in body.items ≡ Ok outcome
    → Answers (IsAlone after all) (after front) (after all) txn outcome
Fits after front (Transacts text) (Made revision) =
    let all = front ++ (Transacts text, Made revision) ∷ [] in
    (txn : Txn) → string_bytes text ≡ compact_text (txn_data txn)
    → Answers (IsAlone after all) (after front) (after all) txn (made_at revision)
Fits after front (Transacts text) Lost = ⊤

-- the server is honest: each answer fits
abbrev pub IsHonest : History → Calls → Type 0
IsHonest after calls =
    (front : Calls) (call : Call) (answer : Answer) (back : Calls) → calls ≡ front ++ (call, answer) ∷ back → Fits after front call answer
