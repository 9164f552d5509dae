-- The replies that need the journal's lines.
use Rattle.std.specs.Prelude.{◌≡◌, Bool, true, false, ⊤, IsFalse, Option, Some, None, Result, Ok, Err}
use Rattle.scoop_driver.specs.declared.error.DriverError.{DriverError}
use Rattle.scoop_journal.specs.declared.journal.AppendError.{AppendError}
use Rattle.scoop_journal.specs.Journal.{JournalState}
use Rattle.scoop_texts.specs.declared.reply.Reply.{Reply}
use Rattle.scoop_texts.specs.declared.reply.Reply.TheVariants.{Reserved, Logged, Answered, Ended, Noted, EndedAt, ConditionFailed, GivenUp, Refused, NotInWhen}
use Rattle.scoop_session.specs.Diary.{IsSettled, IsWritten}

-- the reply may come before the lines that led to it: nothing follows from it until the client sends something new
abbrev pub may_wait : Reply → Bool
may_wait (Reserved block) = true
may_wait (Logged h number) = true
may_wait Noted = true
may_wait (Answered answer) = false
may_wait Ended = false
may_wait (EndedAt tried) = false
may_wait (ConditionFailed tries) = false
may_wait GivenUp = false
may_wait (Refused e) = false
may_wait NotInWhen = false

-- the journal has every line so far, unless the reply may come before them
abbrev pub HasFor : {W : Type 0} → Option Reply → Option (JournalState W) → Type 0
HasFor None j = ⊤
HasFor (Some reply) j = IsFalse (may_wait reply) → IsWritten j

-- with this reply or error, the journal has every line that it needs, unless one isn't written
abbrev pub SettlesFor : {W : Type 0} → Result Reply DriverError → Option AppendError → Option (JournalState W) → Type 0
SettlesFor (Ok reply) failure j = failure ≡ None → HasFor (Some reply) j
SettlesFor (Err e) failure j = IsSettled failure j

-- the same for a line, which may have no reply
abbrev pub Settles : {W : Type 0} → Result (Option Reply) DriverError → Option AppendError → Option (JournalState W) → Type 0
Settles (Ok replied) failure j = failure ≡ None → HasFor replied j
Settles (Err e) failure j = IsSettled failure j
