-- One call more.
use Rattle.std.proofs.Common.{◌≡◌, [], ◌∷◌, ◌++◌, ◌∙◌, refl, sym, ap, subst, append_assoc, Ok, Err, Result, IfOk, OnErr, String, Global, string_bytes}
use Rattle.serde_json.specs.Written.{compact_text}
use Rattle.scoop_etcd_calls.specs.declared.calls.Range.{Range}
use Rattle.scoop_etcd_calls.specs.declared.calls.Found.{Found}
use Rattle.scoop_etcd_calls.specs.declared.calls.Txn.{Txn}
use Rattle.scoop_etcd_calls.specs.declared.calls.Outcome.{Outcome}
use Rattle.scoop_etcd_calls.specs.Asking.{txn_data}
use Rattle.scoop_etcd.specs.declared.etcd.EtcdError.{EtcdError}
use Rattle.scoop_etcd.specs.Etcd.{Finds, Answers, SameKeys}
use Rattle.scoop_etcd_gateway.specs.declared.call.Call.{Call}
use Rattle.scoop_etcd_gateway.specs.declared.call.Call.TheVariants.{Ranges, Transacts}
use Rattle.scoop_etcd_gateway.specs.declared.call.Answer.{Answer}
use Rattle.scoop_etcd_gateway.specs.declared.call.Answer.TheVariants.{Body, Made, Lost}
use Rattle.scoop_etcd_gateway.specs.Told.{TellsFound, TellsOutcome, Tells}
use Rattle.scoop_etcd_gateway.specs.History.{Calls, History, WritesAlone, IsAlone, Fits, IsHonest}

one_more : (calls front : Calls) (x y : Call × Answer) (back : Calls) → calls ≡ front ++ x ∷ back → calls ++ y ∷ [] ≡ front ++ x ∷ (back ++ y ∷ [])
one_more calls front x y back is = ap (λ (cs : Calls). cs ++ y ∷ []) is ∙ append_assoc front (x ∷ back) (y ∷ [])

module _ (after : History) (calls : Calls) (call : Call) (answer : Answer) where
  pub honest_before : IsHonest after (calls ++ (call, answer) ∷ []) → IsHonest after calls
  honest_before honest = λ front c a back is. honest front c a (back ++ (call, answer) ∷ []) (one_more calls front (c, a) (call, answer) back is)

  pub honest_last : IsHonest after (calls ++ (call, answer) ∷ []) → Fits after calls call answer
  honest_last honest = honest calls call answer [] refl

  pub alone_before : IsAlone after (calls ++ (call, answer) ∷ []) → IsAlone after calls
  alone_before alone = λ front c a back is. alone front c a (back ++ (call, answer) ∷ []) (one_more calls front (c, a) (call, answer) back is)

  pub alone_last : IsAlone after (calls ++ (call, answer) ∷ []) → WritesAlone after calls call answer
  alone_last alone = alone calls call answer [] refl

-- a range that was answered
pub range_finds : (after : History) (calls : Calls) (range : Range) (call : Call) (answer : Answer) (found : Found) → TellsFound range call answer found
    → IsHonest after (calls ++ (call, answer) ∷ []) → Finds (after (calls ++ (call, answer) ∷ [])) range found
range_finds after calls range (Ranges text) (Body body) found told honest = honest_last after calls (Ranges text) (Body body) honest range found told.0 told.1
range_finds after calls range (Ranges text) (Made revision) found told honest = absurd told
range_finds after calls range (Ranges text) Lost found told honest = absurd told
range_finds after calls range (Transacts text) answer found told honest = absurd told

-- a range left what stood under each key
pub range_leaves : (after : History) (calls : Calls) (range : Range) (call : Call) (answer : Answer) (found : Found) → TellsFound range call answer found
    → IsAlone after (calls ++ (call, answer) ∷ []) → SameKeys (after calls) (after (calls ++ (call, answer) ∷ []))
range_leaves after calls range (Ranges text) answer found told alone = alone_last after calls (Ranges text) answer alone
range_leaves after calls range (Transacts text) answer found told alone = absurd told

transacted : (after : History) (calls : Calls) (txn : Txn) (text : String Global) (answer : Answer) (outcome : Outcome)
    → string_bytes text ≡ compact_text (txn_data txn) → TellsOutcome answer (Ok outcome) → IsHonest after (calls ++ (Transacts text, answer) ∷ [])
    → (let all = calls ++ (Transacts text, answer) ∷ [] in Answers (IsAlone after all) (after calls) (after all) txn outcome)
transacted after calls txn text (Body body) outcome is told honest = honest_last after calls (Transacts text) (Body body) honest txn outcome is told
transacted after calls txn text (Made revision) outcome is told honest =
    let all : Calls = calls ++ (Transacts text, Made revision) ∷ [] in
    let P : Outcome → Type 0 = λ o. Answers (IsAlone after all) (after calls) (after all) txn o in
    subst P (sym told) (honest_last after calls (Transacts text) (Made revision) honest txn is)
transacted after calls txn text Lost outcome is told honest = absurd told

-- a transaction that was answered
pub txn_answers : (after : History) (calls : Calls) (txn : Txn) (call : Call) (answer : Answer) (outcome : Result Outcome EtcdError) → Tells txn call answer outcome
    → IsHonest after (calls ++ (call, answer) ∷ [])
    → (let all = calls ++ (call, answer) ∷ [] in IfOk outcome (Answers (IsAlone after all) (after calls) (after all) txn))
txn_answers after calls txn (Ranges text) answer outcome told honest = absurd told
txn_answers after calls txn (Transacts text) answer (Ok outcome) told honest = transacted after calls txn text answer outcome told.0 told.1 honest
txn_answers after calls txn (Transacts text) answer (Err error) told honest = tt

lost_leaves : (after : History) (calls : Calls) (text : String Global) (answer : Answer) (error : EtcdError) → TellsOutcome answer (Err error)
    → IsAlone after (calls ++ (Transacts text, answer) ∷ []) → SameKeys (after calls) (after (calls ++ (Transacts text, answer) ∷ []))
lost_leaves after calls text (Body body) error told alone = absurd told
lost_leaves after calls text (Made revision) error told alone = absurd told
lost_leaves after calls text Lost error told alone = alone_last after calls (Transacts text) Lost alone

-- a transaction that failed left what stood under each key
pub txn_leaves : (after : History) (calls : Calls) (txn : Txn) (call : Call) (answer : Answer) (outcome : Result Outcome EtcdError) → Tells txn call answer outcome
    → IsAlone after (calls ++ (call, answer) ∷ []) → OnErr outcome (SameKeys (after calls) (after (calls ++ (call, answer) ∷ [])))
txn_leaves after calls txn (Ranges text) answer outcome told alone = absurd told
txn_leaves after calls txn (Transacts text) answer (Ok outcome) told alone = tt
txn_leaves after calls txn (Transacts text) answer (Err error) told alone = lost_leaves after calls text answer error told.1 alone
