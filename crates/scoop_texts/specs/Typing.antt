-- Notes for a user who types the lines of a client.
use Rattle.std.specs.Prelude.{ℕ, List, [], ◌∷◌, ◌++◌, codes, Bool, if◌then◌else◌}
use Rattle.std.specs.Fmt.{decimal}
use Rattle.scoop_message.specs.declared.name.ClientId.{ClientId}
use Rattle.scoop_client.specs.declared.error.ClientError.{ClientError}
use Rattle.scoop_client.specs.declared.error.ClientError.TheVariants as of_client
use Rattle.scoop_reserve.specs.declared.error.ReserveError.{ReserveError}
use Rattle.scoop_reserve.specs.declared.error.ReserveError.TheVariants as of_reserve
use Rattle.scoop_system.specs.declared.line.fault.LineFault.{LineFault}
use Rattle.scoop_system.specs.System.{Plan}
use Rattle.scoop_system.specs.LineText.{fault_text_in}
use Rattle.scoop_texts.specs.declared.error.RuntimeError.{RuntimeError}
use Rattle.scoop_texts.specs.declared.error.RuntimeError.TheVariants.{Line}
use Rattle.scoop_texts.specs.declared.reply.Reply.{Reply}
use Rattle.scoop_texts.specs.declared.reply.Reply.TheVariants.{Reserved, Logged, Answered, Ended, Noted, EndedAt, ConditionFailed, GivenUp, Refused, NotInWhen}
use Rattle.scoop_texts.specs.Advice.{advice_text}
use Rattle.scoop_texts.specs.Errors.{error_text}

abbrev pub lines_text : List ℕ
lines_text =
    codes "hint: type reserve H.., call H OP A.., query H OP A.., end, or reserve H.. when H OP A.. least V tries T; help lists all lines, and quit ends the client" ++ 10 ∷ []

-- the meaning of each line
abbrev pub help_text : List ℕ
help_text =
    codes "reserve H..        begins a block over these handlers; reserve H.. when H OP A.. least V tries T waits for a condition" ++ (10 ∷
    codes "call H OP A..      logs a call of an operation, with its arguments" ++ (10 ∷
    codes "query H OP A..     prints the answer of an operation" ++ (10 ∷
    codes "end                ends the block, once its handlers have all of it" ++ (10 ∷
    codes "giveup             drops a block that waits for its condition, or gives back the locks of one that isn't reserved yet" ++ (10 ∷
    codes "help               prints these lines" ++ (10 ∷
    codes "quit               ends the client; a block that isn't ended is cut" ++ 10 ∷ []))))))

-- that the client is ready, and which lines there are
abbrev pub typed_text : ClientId → List ℕ
typed_text client = codes "scoop: client " ++ (decimal client.0 ++ (codes " is ready" ++ 10 ∷ lines_text))

-- a script gets no note
abbrev pub ready_text : Bool → ClientId → List ℕ
ready_text is_typed client = if is_typed then typed_text client else []

-- that the line of this number can't be read and what the system has instead, with advice
abbrev pub misread_text : Plan → ℕ → LineFault → List ℕ
misread_text s number fault =
    codes "scoop: line " ++ (decimal number ++ (codes ": " ++ (fault_text_in s fault ++ (10 ∷ codes "hint: " ++ (advice_text (Line number fault) ++ 10 ∷ [])))))

-- an error of a line or a script, with advice
abbrev pub told_text : RuntimeError → List ℕ
told_text error = codes "scoop: " ++ (error_text error ++ (10 ∷ codes "hint: " ++ (advice_text error ++ 10 ∷ [])))

-- how many tries of a waiting block failed
abbrev pub tried_text : ℕ → List ℕ
tried_text tried =
    codes "scoop: the condition failed in " ++ (decimal tried ++ (codes " tries, and the client tries again" ++ 10 ∷ []))

-- a script gets no note
abbrev pub tried_note : Bool → ℕ → List ℕ
tried_note is_typed tried = if is_typed then tried_text tried else []

abbrev pub reserve_advice : ReserveError → List ℕ
reserve_advice of_reserve.Empty = codes "a block needs at least one handler: name it after reserve"
reserve_advice of_reserve.TooMany = codes "a block has at most 8 handlers: reserve fewer"
reserve_advice (of_reserve.Repeated h) = codes "name each handler of a block once"
reserve_advice (of_reserve.Unknown h) = codes "the system has no such handler: scoop check shows its handlers"
reserve_advice of_reserve.OutOfMemory = codes "there was not enough memory: type the line again later"

-- the meaning of a refusal, and advice
abbrev pub refusal_advice : ClientError → List ℕ
refusal_advice of_client.NotGreeted = codes "a handler has not welcomed the client yet: type the line again"
refusal_advice of_client.NotIdle = codes "the client has a block: end it before you reserve the next one"
refusal_advice of_client.NoBlock = codes "the client has no block: reserve the handlers first"
refusal_advice (of_client.Waiting h) = codes "a query at this handler waits for its answer: type the line again after that"
refusal_advice (of_client.NotReserved h) = codes "this handler isn't reserved: if a block is open, end it; then name the handler in reserve too"
refusal_advice (of_client.WindowFull h) = codes "64 entries at this handler are not acknowledged yet: type the line again when some are"
refusal_advice of_client.TooLate = codes "all handlers are locked already: end the block"
refusal_advice of_client.Spent =
    codes "block or entry numbers are used up: end the block, or start the client again with --store"
refusal_advice (of_client.Reserve error) = reserve_advice error
refusal_advice of_client.OutOfMemory = codes "there was not enough memory: type the line again later"

-- the note after a reply
abbrev pub reply_note : Reply → List ℕ
reply_note (Reserved block) = []
reply_note (Logged h n) = []
reply_note (Answered answer) = []
reply_note Ended = []
reply_note Noted = []
reply_note (EndedAt n) = []
reply_note (ConditionFailed n) = []
reply_note GivenUp = []
reply_note (Refused e) = codes "hint: " ++ (refusal_advice e ++ 10 ∷ [])
reply_note NotInWhen = codes "hint: a waiting block takes only calls, queries, end and giveup" ++ 10 ∷ []

-- a script gets no note
abbrev pub note_text : Bool → Reply → List ℕ
note_text is_typed reply = if is_typed then reply_note reply else []
