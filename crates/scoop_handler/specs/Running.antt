-- How a handler runs the first entry of its first private queue.
use Rattle.std.specs.Prelude.{◌≡◌, ℕ, true, false, ◌||◌, ◌&&◌, if◌then◌else◌, List, [], ◌∷◌, length, map, Option, Some, None, is_some}
use Rattle.std.specs.Option.{option_map, option_map_or}
use Rattle.scoop_message.specs.declared.name.Block.{Block}
use Rattle.scoop_message.specs.declared.name.HandlerId.{HandlerId}
use Rattle.scoop_message.specs.declared.request.Entry.{Entry}
use Rattle.scoop_message.specs.declared.request.Answer.{Answer}
use Rattle.scoop_message.specs.Entry.{is_query}
use Rattle.scoop_message.specs.Message.{same_block}
use Rattle.scoop_object.specs.Class.{ClassTable}
use Rattle.scoop_object.specs.Play.{entry_effect}
use Rattle.scoop_queue.specs.Queue.{front, advance}
use Rattle.scoop_handler.specs.declared.mark.Mark.{Mark}
use Rattle.scoop_handler.specs.declared.ran.Ran.{Ran}
use Rattle.scoop_handler.specs.Marks.{block_of}
use Rattle.scoop_handler.specs.State.{HandlerState}
use Rattle.scoop_handler.specs.Core.{Core, core_of, with_state}

-- an entry that is to run, and its object
pub record Task : Type 0 where
  pub handler : HandlerId
  pub block : Block
  pub number : ℕ
  pub entry : Entry
  pub class : ClassTable
  pub words : List ℕ

-- the task of an entry with its block and its number
abbrev pub task_with : HandlerId → Block × ℕ × Entry → ClassTable → List ℕ → Task
task_with handler f class words = record { handler = handler; block = f.0; number = f.1; entry = f.2; class = class; words = words }

abbrev pub task_of : Core → Block × ℕ × Entry → Task
task_of c f = task_with c.state.number f c.class c.state.words

-- the task of the first entry of the first private queue
abbrev pub first_task : Core → Option Task
first_task c = option_map (task_of c) (front c.state.queues)

-- the task that may start now, and the task of the job that is out
abbrev pub ready : Core → Option Task
ready c = if c.out then None else first_task c

abbrev pub job_out : Core → Option Task
job_out c = if c.out then first_task c else None

-- the words after a task, and its answer
abbrev pub task_effect : Task → List ℕ × Option Answer
task_effect t = entry_effect t.class t.words t.entry

abbrev pub ran_of : Task → Ran
ran_of t = record { block = t.block; number = t.number; entry = t.entry; answer = (task_effect t).1 }

-- a query's answer is kept if its block is still its client's newest
abbrev pub kept_after : Ran → Mark → Option (ℕ × Answer)
kept_after r k =
    if is_query r.entry && same_block (block_of k) r.block then option_map (λ a. (r.number, a)) r.answer else k.kept

abbrev pub mark_after : Ran → Mark → Mark
mark_after r k = record k { kept = kept_after r k }

-- the state once the first entry has run: it is taken, its answer is kept, and the words are new
abbrev pub after_ran : Ran → List ℕ → HandlerState → HandlerState
after_ran r words s = record s { marks = map (mark_after r) s.marks; queues = advance s.queues; words = words }

abbrev pub after : Task → HandlerState → HandlerState
after t s = after_ran (ran_of t) (task_effect t).0 s

-- a job goes out, and nothing else changes
abbrev pub begun : Core → Core
begun c = core_of c.class c.state (c.out || is_some (ready c))

-- a task has run, and no job is out
abbrev pub finished : Task → Core → Core
finished t c = core_of c.class (after t c.state) false

-- a run at once is both
abbrev pub run : Core → Core
run c = option_map_or (λ t. finished t c) (ready c) c

-- ---- states that a handler takes

-- the words of the state have the number that the class says
abbrev pub FitsClass : ClassTable → HandlerState → Type 0
FitsClass class s = length s.words ≡ class.words

-- the state may replace the handler's: if a job is out, it is the job of the new state too
pub record MayReset (s : HandlerState) (c : Core) : Type 0 where
  pub number : s.number ≡ c.state.number
  pub words : FitsClass c.class s
  pub job : job_out (with_state s c) ≡ job_out c

-- an object of this class may replace the one that is out, with this state
pub record MayRecall (class : ClassTable) (s : HandlerState) (c : Core) : Type 0 where
  pub out : c.out ≡ true
  pub number : s.number ≡ c.state.number
  pub same_class : class ≡ c.class
  pub words : FitsClass c.class s

-- ---- runs

-- the entries that run, one after another, until nothing can run
pub data RunsOut : Core → List Ran → Core → Type 0 where
  idle : (c : Core) → ready c ≡ None → RunsOut c [] c
  then_more : (c d : Core) (t : Task) (rs : List Ran) → ready c ≡ Some t → RunsOut (finished t c) rs d → RunsOut c (ran_of t ∷ rs) d
