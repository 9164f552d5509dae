-- The results of calls, by their answers.
use Rattle.std.specs.Prelude.{◌≡◌, Ok, Err, Result, string_bytes}
use Rattle.serde_json.specs.Written.{compact_text}
use Rattle.scoop_etcd_calls.specs.declared.calls.Range.{Range}
use Rattle.scoop_etcd_calls.specs.declared.calls.Found.{Found}
use Rattle.scoop_etcd_calls.specs.declared.calls.Txn.{Txn}
use Rattle.scoop_etcd_calls.specs.declared.calls.Outcome.{Outcome}
use Rattle.scoop_etcd_calls.specs.Asking.{range_data, txn_data}
use Rattle.scoop_etcd_calls.specs.Stored.{listed}
use Rattle.scoop_etcd_calls.specs.Answer.{found_in, outcome_in}
use Rattle.scoop_etcd.specs.declared.etcd.EtcdError.{EtcdError}
use Rattle.scoop_etcd_gateway.specs.declared.call.Call.{Call}
use Rattle.scoop_etcd_gateway.specs.declared.call.Call.TheVariants.{Ranges, Transacts}
use Rattle.scoop_etcd_gateway.specs.declared.call.Answer.{Answer}
use Rattle.scoop_etcd_gateway.specs.declared.call.Answer.TheVariants.{Body, Made, Lost}
use Rattle.scoop_etcd_gateway.specs.History.{made_at}

-- the call is this range, and its answer says what was found
abbrev pub TellsFound : Range → Call → Answer → Found → Type 0
TellsFound range (Ranges text) (Body body) found =
    (string_bytes text ≡ compact_text (range_data range)) × (found_in body.items ≡ Ok (listed found))
TellsFound range (Ranges text) (Made revision) found = ⊥
TellsFound range (Ranges text) Lost found = ⊥
TellsFound range (Transacts text) answer found = ⊥

-- the answer says what came of a transaction
abbrev pub TellsOutcome : Answer → Result Outcome EtcdError → Type 0
TellsOutcome (Body body) (Ok outcome) = outcome_in body.items ≡ Ok outcome
TellsOutcome (Body body) (Err error) = ⊥
TellsOutcome (Made revision) (Ok outcome) = outcome ≡ made_at revision
TellsOutcome (Made revision) (Err error) = ⊥
TellsOutcome Lost (Ok outcome) = ⊥
TellsOutcome Lost (Err error) = Unit {0}

-- the call is this transaction, and its answer says what came of it
abbrev pub Tells : Txn → Call → Answer → Result Outcome EtcdError → Type 0
Tells txn (Ranges text) answer outcome = ⊥
Tells txn (Transacts text) answer outcome = (string_bytes text ≡ compact_text (txn_data txn)) × TellsOutcome answer outcome
