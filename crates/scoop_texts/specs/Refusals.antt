-- Which replies are refusals.
use Rattle.std.specs.Prelude.{Bool, true, false}
use Rattle.scoop_message.specs.declared.request.Answer.TheVariants as answer
use Rattle.scoop_texts.specs.declared.reply.Reply.{Reply}
use Rattle.scoop_texts.specs.declared.reply.Reply.TheVariants.{Reserved, Logged, Answered, Ended, Noted, EndedAt, ConditionFailed, GivenUp, Refused, NotInWhen}

-- The client refused the line, the object refused the query, or a block's condition failed.
abbrev pub is_refusal : Reply → Bool
is_refusal (Reserved block) = false
is_refusal (Logged h n) = false
is_refusal (Answered answer.Refused) = true
is_refusal (Answered (answer.Value v)) = false
is_refusal Ended = false
is_refusal Noted = false
is_refusal (EndedAt n) = false
is_refusal (ConditionFailed n) = true
is_refusal GivenUp = false
is_refusal (Refused error) = true
is_refusal NotInWhen = true
