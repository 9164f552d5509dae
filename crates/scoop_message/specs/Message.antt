-- The parties that a message names, its direction, and the messages that may be sent.
use Rattle.std.specs.Prelude.{ℕ, ◌+◌, ◌^◌, ◌≤◌, ◌==◌, ◌&&◌, Bool, true, false, length, Option, Some, None}
use Rattle.scoop_message.specs.declared.name.HandlerId.{HandlerId}
use Rattle.scoop_message.specs.declared.name.ClientId.{ClientId}
use Rattle.scoop_message.specs.declared.name.Block.{Block}
use Rattle.scoop_message.specs.declared.message.Message.{Message}
use Rattle.scoop_message.specs.declared.message.Message.TheVariants.{Hello, Welcome, Lock, Locked, Busy, Open, Opened, Unlock, Unlocked, Log, Logged, Answer}

-- tests that compute
abbrev pub same_handler : HandlerId → HandlerId → Bool
same_handler a b = a.0 == b.0

abbrev pub same_client : ClientId → ClientId → Bool
same_client a b = a.0 == b.0

abbrev pub same_block : Block → Block → Bool
same_block a b = same_client a.client b.client && (a.inc == b.inc && a.num == b.num)

-- the handler that the message goes to or comes from
abbrev pub handler_of : Message → HandlerId
handler_of (Hello h c inc) = h
handler_of (Welcome h c inc) = h
handler_of (Lock h b) = h
handler_of (Locked h b) = h
handler_of (Busy h b) = h
handler_of (Open h b) = h
handler_of (Opened h b) = h
handler_of (Unlock h b) = h
handler_of (Unlocked h b) = h
handler_of (Log h b n es) = h
handler_of (Logged h b n) = h
handler_of (Answer h b n a) = h

-- the client that the message goes to or comes from
abbrev pub client_of : Message → ClientId
client_of (Hello h c inc) = c
client_of (Welcome h c inc) = c
client_of (Lock h b) = b.client
client_of (Locked h b) = b.client
client_of (Busy h b) = b.client
client_of (Open h b) = b.client
client_of (Opened h b) = b.client
client_of (Unlock h b) = b.client
client_of (Unlocked h b) = b.client
client_of (Log h b n es) = b.client
client_of (Logged h b n) = b.client
client_of (Answer h b n a) = b.client

-- the client's incarnation
abbrev pub inc_of : Message → ℕ
inc_of (Hello h c inc) = inc
inc_of (Welcome h c inc) = inc
inc_of (Lock h b) = b.inc
inc_of (Locked h b) = b.inc
inc_of (Busy h b) = b.inc
inc_of (Open h b) = b.inc
inc_of (Opened h b) = b.inc
inc_of (Unlock h b) = b.inc
inc_of (Unlocked h b) = b.inc
inc_of (Log h b n es) = b.inc
inc_of (Logged h b n) = b.inc
inc_of (Answer h b n a) = b.inc

-- the message goes from a client to a handler, and not back
abbrev pub is_for_handler : Message → Bool
is_for_handler (Hello h c inc) = true
is_for_handler (Welcome h c inc) = false
is_for_handler (Lock h b) = true
is_for_handler (Locked h b) = false
is_for_handler (Busy h b) = false
is_for_handler (Open h b) = true
is_for_handler (Opened h b) = false
is_for_handler (Unlock h b) = true
is_for_handler (Unlocked h b) = false
is_for_handler (Log h b n es) = true
is_for_handler (Logged h b n) = false
is_for_handler (Answer h b n a) = false

-- the block that the message names
abbrev pub named_block : Message → Option Block
named_block (Hello h c inc) = None
named_block (Welcome h c inc) = None
named_block (Lock h b) = Some b
named_block (Locked h b) = Some b
named_block (Busy h b) = Some b
named_block (Open h b) = Some b
named_block (Opened h b) = Some b
named_block (Unlock h b) = Some b
named_block (Unlocked h b) = Some b
named_block (Log h b n es) = Some b
named_block (Logged h b n) = Some b
named_block (Answer h b n a) = Some b

-- incarnations and block numbers begin at 1
pub record IsNumbered (b : Block) : Type 0 where
  pub inc : 1 ≤ b.inc
  pub num : 1 ≤ b.num

-- so do the numbers of entries
pub record IsEntryOf (b : Block) (n : ℕ) : Type 0 where
  pub block : IsNumbered b
  pub number : 1 ≤ n

-- the last of a Log's entries has a number of 32 bits
pub record IsLogOf (b : Block) (n count : ℕ) : Type 0 where
  pub entry : IsEntryOf b n
  pub last : n + count ≤ 2 ^ 32

-- each incarnation, block and entry number in the message is at least 1, and the last number of a Log
-- is below 2^32
abbrev pub Fits : Message → Type 0
Fits (Hello h c inc) = 1 ≤ inc
Fits (Welcome h c inc) = 1 ≤ inc
Fits (Lock h b) = IsNumbered b
Fits (Locked h b) = IsNumbered b
Fits (Busy h b) = IsNumbered b
Fits (Open h b) = IsNumbered b
Fits (Opened h b) = IsNumbered b
Fits (Unlock h b) = IsNumbered b
Fits (Unlocked h b) = IsNumbered b
Fits (Log h b n es) = IsLogOf b n (length es)
Fits (Logged h b n) = IsEntryOf b n
Fits (Answer h b n a) = IsEntryOf b n
