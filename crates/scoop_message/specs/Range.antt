-- The values that a program can hold. A clause that ranges over all messages ranges over all numbers
-- in them, so it asks for these bounds.
use Rattle.std.specs.Prelude.{ℕ, ◌<◌, ◌≤◌, ◌^◌, List, length, ⊤}
use Rattle.std.specs.List.{AllByRecursion}
use Rattle.scoop_message.specs.declared.limits.TheConstants.{MAX_ARGS, MAX_ENTRIES}
use Rattle.scoop_message.specs.declared.name.HandlerId.{HandlerId}
use Rattle.scoop_message.specs.declared.name.ClientId.{ClientId}
use Rattle.scoop_message.specs.declared.name.Block.{Block}
use Rattle.scoop_message.specs.declared.request.Request.{Request}
use Rattle.scoop_message.specs.declared.request.Entry.{Entry}
use Rattle.scoop_message.specs.declared.request.Entry.TheVariants.{Call, Query, End}
use Rattle.scoop_message.specs.declared.request.Answer.{Answer}
use Rattle.scoop_message.specs.declared.request.Answer.TheVariants.{Refused, Value}
use Rattle.scoop_message.specs.Entries.{EndOnlyLast}
use Rattle.scoop_message.specs.declared.message.Message.{Message}
use Rattle.scoop_message.specs.declared.message.Message.TheVariants as m

pub record IsClient (h : HandlerId) (c : ClientId) (inc : ℕ) : Type 0 where
  pub handler : h.0 < 2 ^ 32
  pub client : c.0 < 2 ^ 32
  pub incarnation : inc < 2 ^ 32

pub record IsBlock (h : HandlerId) (b : Block) : Type 0 where
  pub client : IsClient h b.client b.inc
  pub num : b.num < 2 ^ 32

pub record IsRequest (r : Request) : Type 0 where
  pub op : r.op < 2 ^ 16
  pub count : length r.args ≤ MAX_ARGS
  pub args : AllByRecursion (λ x. x < 2 ^ 64) r.args

abbrev pub IsEntry : Entry → Type 0
IsEntry (Call r) = IsRequest r
IsEntry (Query r) = IsRequest r
IsEntry End = ⊤

pub record IsEntries (es : List Entry) : Type 0 where
  pub some : 0 < length es
  pub limit : length es ≤ MAX_ENTRIES
  pub end : EndOnlyLast es
  pub entries : AllByRecursion IsEntry es

abbrev pub IsAnswer : Answer → Type 0
IsAnswer Refused = ⊤
IsAnswer (Value x) = x < 2 ^ 64

pub record IsNumberOf (h : HandlerId) (b : Block) (n : ℕ) : Type 0 where
  pub block : IsBlock h b
  pub number : n < 2 ^ 32

abbrev pub IsMessage : Message → Type 0
IsMessage (m.Hello h c inc) = IsClient h c inc
IsMessage (m.Welcome h c inc) = IsClient h c inc
IsMessage (m.Lock h b) = IsBlock h b
IsMessage (m.Locked h b) = IsBlock h b
IsMessage (m.Busy h b) = IsBlock h b
IsMessage (m.Open h b) = IsBlock h b
IsMessage (m.Opened h b) = IsBlock h b
IsMessage (m.Unlock h b) = IsBlock h b
IsMessage (m.Unlocked h b) = IsBlock h b
IsMessage (m.Log h b n es) = IsNumberOf h b n × IsEntries es
IsMessage (m.Logged h b n) = IsNumberOf h b n
IsMessage (m.Answer h b n a) = IsNumberOf h b n × IsAnswer a
