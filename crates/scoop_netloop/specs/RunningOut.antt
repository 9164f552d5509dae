-- Runs of a handler of a book until nothing can run.
use Rattle.std.specs.Prelude.{◌≡◌, ◌≢◌, ◌≤◌, ℕ, Bool, true, false, length, Option, Some, None}
use Rattle.scoop_message.specs.declared.name.Block.{Block}
use Rattle.scoop_message.specs.declared.name.HandlerId.{HandlerId}
use Rattle.scoop_handler.specs.Running.{Task, ran_of}
use Rattle.scoop_book.specs.declared.event.Event.TheVariants.{Begin, Finish}
use Rattle.scoop_book.specs.declared.event.Reply.TheVariants.{Began, Finished}
use Rattle.scoop_book.specs.Moves.{handler_in, leaves}
use Rattle.scoop_book.specs.Books.{BookValue, Gains, Stays, MayEnter, MayHappen}
use Rattle.scoop_book.specs.declared.error.BookError.{BookError}
use Rattle.scoop_book.specs.declared.error.BookError.TheVariants.{NodeFailed, HistoryFull, UnknownHandler, StoreRefused, OutOfMemory}
use Rattle.scoop_book.specs.declared.error.FinishRefusal.{FinishRefusal}
use Rattle.scoop_book.specs.declared.error.FinishRefusal.TheVariants as unfinished
use Rattle.scoop_keeper.specs.Keeper.{Stored, StaysAt, IsSame}

-- an entry of the handler leaves, and runs
pub record RunsEntry {K : Type 0} (pass : ℕ) (h : HandlerId) (old new : BookValue K) : Type 0 where
  pub task : Task
  pub between : BookValue K
  pub begins : Gains pass (Begin h) (Began (Some (leaves task))) old between
  pub finishes : Gains pass (Finish h) (Finished (ran_of task)) between new

-- the handler has nothing to run
abbrev pub FindsNothing : {K : Type 0} → ℕ → HandlerId → (old new : BookValue K) → Type 0
FindsNothing pass h old new = Gains pass (Begin h) (Began None) old new

abbrev pub RunsNext : {K : Type 0} → ℕ → HandlerId → (ran : Bool) → (old new : BookValue K) → Type 0
RunsNext pass h true old new = RunsEntry pass h old new
RunsNext pass h false old new = FindsNothing pass h old new

-- entries of the handler run, one after another
pub data RunsEntries {K : Type 0} (pass : ℕ) (h : HandlerId) : (old new : BookValue K) → Type 0 where
  none_ran : (b : BookValue K) → RunsEntries pass h b b
  then_ran : (a b c : BookValue K) → RunsEntries pass h a b → RunsEntry pass h b c → RunsEntries pass h a c

-- entries run until the handler has nothing to run
pub record RunsDry {K : Type 0} (pass : ℕ) (h : HandlerId) (old new : BookValue K) : Type 0 where
  pub last : BookValue K
  pub ran : RunsEntries pass h old last
  pub nothing : FindsNothing pass h last new

-- the next entry doesn't leave, or leaves and doesn't come back
pub data Breaks {K : Type 0} (pass : ℕ) (h : HandlerId) (old new : BookValue K) : Type 0 where
  not_begun : Stays old new → Breaks pass h old new
  not_finished : (left : Block × ℕ) (between : BookValue K) → Gains pass (Begin h) (Began (Some left)) old between → Stays between new → Breaks pass h old new

-- entries run, and then one doesn't
pub record RunsSome {K : Type 0} (pass : ℕ) (h : HandlerId) (old new : BookValue K) : Type 0 where
  pub last : BookValue K
  pub ran : RunsEntries pass h old last
  pub breaks : Breaks pass h last new

-- a job's refusal, as that of a run: a job that has just left is no stranger
abbrev pub Tells : FinishRefusal → BookError → Type 0
Tells unfinished.NodeFailed e = e ≡ NodeFailed
Tells unfinished.HistoryFull e = e ≡ HistoryFull
Tells unfinished.UnknownHandler e = e ≡ UnknownHandler
Tells unfinished.Stranger e = ⊥
Tells unfinished.StoreRefused e = e ≡ StoreRefused
Tells unfinished.OutOfMemory e = e ≡ OutOfMemory

-- The reasons to break off a run. The keeper refused a state before. The keeper refuses that of an entry that left;
-- then no event is entered any more. The history is full by then. The handler isn't here. Or memory ran out.
abbrev pub BreaksOff : {K : Type 0} → HandlerId → (old new : BookValue K) → BookError → Type 0
BreaksOff h old new NodeFailed = old.failed ≡ true
BreaksOff h old new HistoryFull = (new.failed ≡ false) × (new.limit ≤ length new.history)
BreaksOff h old new UnknownHandler = MayEnter old × (handler_in h old.handlers ≡ None)
BreaksOff h old new StoreRefused = (old.failed ≡ false) × (new.failed ≡ true)
BreaksOff h old new OutOfMemory = MayHappen old h

-- While the keeper is honest it was so before. For the other handlers and for all clients it has the same records.
pub record KeepsOthers {K : Type 0} (has : K → ℕ → Stored → Type 0) (incarnations : K → ℕ → Option ℕ) (is_honest : K → Type 0) (h : HandlerId)
    (old new : K) : Type 0 where
  pub honest : is_honest new → is_honest old
  pub handlers : is_honest new → (other : ℕ) → other ≢ h.0 → StaysAt (has old) (has new) other
  pub clients : is_honest new → IsSame (incarnations old) (incarnations new)
