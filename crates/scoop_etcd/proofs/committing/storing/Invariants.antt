-- The transaction stores the states so far.
use Rattle.std.proofs.Common.{◌≡◌, ◌∷◌, map, take}
use Rattle.std.specs.List.{AllByRecursion}
use Rattle.scoop_etcd.specs.Etcd.{HasValue, conditions_of, entries_of}
use Rattle.scoop_etcd.specs.Owning.{keys_of}
use Rattle.scoop_etcd.specs.States.{IsWritable, state_condition, state_entry}
use Rattle.scoop_etcd.proofs.committing.storing.Given as goal

abbrev pub invariant-loop-state : goal.invariant-loop-state
invariant-loop-state l = record {
  conditions : conditions_of l.txn ≡ HasValue (keys_of l.keys).owner (keys_of l.keys).token
      ∷ map (state_condition (keys_of l.keys).name l.revisions.entries) (take l.state-index l.states);
  entries : entries_of l.txn ≡ map (state_entry (keys_of l.keys).name) (take l.state-index l.states);
  writable : AllByRecursion IsWritable (take l.state-index l.states);
}
