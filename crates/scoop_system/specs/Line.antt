-- The command of a client's line, or its fault.
use Rattle.std.specs.Prelude.{ℕ, zero, suc, ◌^◌, nat_le, nat_lt, if◌then◌else◌, List, [], ◌∷◌, length, Option, Some, None, Ok, Err, codes}
use Rattle.std.specs.Option.{ok_or, option_and_then}
use Rattle.scoop_lines.specs.Words.{Word, words_of, is_blank}
use Rattle.scoop_lines.specs.Number.{is_decimal, decimal_below}
use Rattle.scoop_lines.specs.Reading.{Read, ◌>>=◌, unless, each_of}
use Rattle.scoop_message.specs.declared.limits.TheConstants.{MAX_ARGS}
use Rattle.scoop_message.specs.declared.name.HandlerId.{HandlerId}
use Rattle.scoop_message.specs.declared.request.Request.{Request}
use Rattle.scoop_classes.specs.Classes.{same_text}
use Rattle.scoop_system.specs.declared.line.reserve.TheConstants.{MAX_NAMED}
use Rattle.scoop_system.specs.declared.condition.TheConstants.{MAX_CONDITIONS}
use Rattle.scoop_system.specs.declared.condition.Test.{Test}
use Rattle.scoop_system.specs.declared.condition.Test.TheVariants.{Least, Most, Is}
use Rattle.scoop_system.specs.declared.condition.NamedCondition.{NamedCondition}
use Rattle.scoop_system.specs.declared.line.words.Border.TheVariants as border
use Rattle.scoop_system.specs.declared.line.fault.LineFault.{LineFault}
use Rattle.scoop_system.specs.declared.line.fault.LineFault.TheVariants.{UnknownLine, WrongNumberOfWords, NotANumber, TooFewArguments, TooManyArguments}
use Rattle.scoop_system.specs.declared.line.fault.LineFault.TheVariants.{TooManyHandlers, TooManyConditions, NoSuchOperation, NoSuchHandler}
use Rattle.scoop_system.specs.declared.place.HandlerPlace.{HandlerPlace}
use Rattle.scoop_system.specs.declared.line.ClientLine.{ClientLine}
use Rattle.scoop_system.specs.declared.line.ClientLine.TheVariants.{Blank, Reserve, Call, Query, End, ReserveWhen, GiveUp, Help, Quit}
use Rattle.scoop_system.specs.System.{Plan, handler_named, handler_of_name, operation_named}
use Rattle.scoop_system.specs.Arguments.{handler_arguments}
use Rattle.scoop_system.specs.ShownWord.{shown}
use Rattle.scoop_system.specs.Words.{without_return, before, behind, arguments_in}

-- the number that the digits write, if it is below the limit
abbrev pub number_below : ℕ → Word → Read LineFault ℕ
number_below limit word = ok_or (decimal_below limit word) (NotANumber (shown word))

abbrev pub number_of : Word → Read LineFault ℕ
number_of = number_below (2 ^ 64)

-- a handler by its number or its name
abbrev pub handler_of : Plan → Word → Read LineFault HandlerId
handler_of s word =
    if is_decimal word then (number_below (2 ^ 32) word >>= λ n. Ok (record { 0 = n }))
    else ok_or (handler_of_name s.handlers word) (NoSuchHandler (shown word))

-- ---- requests

-- the fault of an operation's name: the system doesn't have the handler, which is written as `place`, or its class not the operation
abbrev pub unnamed_fault : HandlerId → Word → Word → Option HandlerPlace → LineFault
unnamed_fault handler place word None = NoSuchHandler (shown place)
unnamed_fault handler place word (Some found) = NoSuchOperation handler (shown word)

-- an operation by its number, or by its name in the class of the handler
abbrev pub operation_of : Plan → HandlerId → Word → Word → Read LineFault ℕ
operation_of s handler place word =
    if is_decimal word then number_below (2 ^ 16) word
    else ok_or (operation_named s handler word) (unnamed_fault handler place word (handler_named s.handlers handler))

abbrev pub asked : HandlerId → ℕ → List ℕ → HandlerId × Request
asked handler op args = (handler, record { op = op; args = args })

-- fewer or more arguments than the operation reads, if that is known
abbrev pub count_fault : Option ℕ → ℕ → Option LineFault
count_fault None given = None
count_fault (Some wanted) given =
    if nat_lt given wanted then Some (TooFewArguments wanted) else (if nat_lt wanted given then Some (TooManyArguments wanted) else None)

abbrev pub counted : Plan → HandlerId → ℕ → List ℕ → Read LineFault (HandlerId × Request)
counted s handler op args = unless (count_fault (handler_arguments s handler op) (length args)) (Ok (asked handler op args))

-- a handler, an operation, and up to four arguments before a test: as many as the operation reads
abbrev pub request_of : Plan → List Word → Read LineFault (HandlerId × Request)
request_of s [] = Err WrongNumberOfWords
request_of s (h ∷ []) = Err WrongNumberOfWords
request_of s (h ∷ o ∷ words) =
    let args = before border.Test words in
    if nat_lt MAX_ARGS (length args) then Err (TooManyArguments MAX_ARGS)
    else (handler_of s h >>= λ handler. operation_of s handler h o >>= λ op. each_of number_of args >>= counted s handler op)

-- a request, and no test after it
abbrev pub alone : Option (Word × List Word) → Read LineFault (HandlerId × Request) → Read LineFault (HandlerId × Request)
alone None request = request
alone (Some found) request = Err WrongNumberOfWords

abbrev pub request_line : Plan → List Word → Read LineFault (HandlerId × Request)
request_line s words = alone (option_and_then (behind border.Test) (arguments_in words)) (request_of s words)

-- ---- conditions

-- the test and the value of the first condition, and the words after it
abbrev pub part_behind : Option (Word × List Word) → Read LineFault (Word × Word × List Word)
part_behind None = Err WrongNumberOfWords
part_behind (Some (test, [])) = Err WrongNumberOfWords
part_behind (Some (test, value ∷ words)) = Ok (test, value, words)

abbrev pub part_of : List Word → Read LineFault (Word × Word × List Word)
part_of words = part_behind (option_and_then (behind border.Test) (arguments_in words))

-- the words after `and`, if that is the first
abbrev pub more_of : List Word → Option (List Word)
more_of [] = None
more_of (name ∷ words) = if same_text name (codes "and") then Some words else None

-- the word of `tries T`
abbrev pub tries_in : List Word → Read LineFault Word
tries_in [] = Err WrongNumberOfWords
tries_in (name ∷ []) = Err WrongNumberOfWords
tries_in (name ∷ tries ∷ []) = if same_text name (codes "tries") then Ok tries else Err WrongNumberOfWords
tries_in (name ∷ tries ∷ word ∷ words) = Err WrongNumberOfWords

-- if there are more conditions, this of their words, else that
abbrev pub if_more : {A : Type 0} → Option (List Word) → (List Word → A) → A → A
if_more None next last = last
if_more (Some words) next last = next words

-- the word after `tries`, behind at most this many conditions
unfoldable pub tries_word : ℕ → List Word → Read LineFault Word
tries_word zero words = Err TooManyConditions
tries_word (suc left) words = part_of words >>= λ p. if_more (more_of p.2) (tries_word left) (tries_in p.2)

-- the test of this name
abbrev pub test_of : Word → ℕ → Test
test_of name value =
    if same_text name (codes "least") then Least value
    else (if same_text name (codes "most") then Most value
    else Is value)

abbrev pub condition_with : Word → HandlerId × Request → ℕ → NamedCondition
condition_with name a value = record { asked = a.0; request = a.1; test = test_of name value }

-- the first condition: a request, a test and a value; and the words after it
abbrev pub condition_of : Plan → List Word → Read LineFault (NamedCondition × List Word)
condition_of s words =
    part_of words >>= λ p. request_of s words >>= λ a. number_of p.1 >>= λ value. Ok (condition_with p.0 a value, p.2)

abbrev pub onto : NamedCondition → Read LineFault (List NamedCondition) → Read LineFault (List NamedCondition)
onto c more = more >>= λ cs. Ok (c ∷ cs)

-- at most this many conditions, with `and` between them
unfoldable pub conditions_of : Plan → ℕ → List Word → Read LineFault (List NamedCondition)
conditions_of s zero words = Err TooManyConditions
conditions_of s (suc left) words =
    condition_of s words >>= λ c. if_more (more_of c.1) (λ more. onto c.0 (conditions_of s left more)) (Ok (c.0 ∷ []))

-- ---- reserving

-- the number of tries, from 1 on
abbrev pub tries_of : Word → Read LineFault ℕ
tries_of word = number_below (2 ^ 32) word >>= λ n. if nat_le 1 n then Ok n else Err (NotANumber (shown word))

-- the words after `when`: up to eight conditions, and `tries T`
abbrev pub when_line : Plan → List HandlerId → List Word → Read LineFault ClientLine
when_line s handlers words =
    tries_word MAX_CONDITIONS words >>= λ t. conditions_of s MAX_CONDITIONS words >>= λ conditions. tries_of t >>= λ tries.
    Ok (ReserveWhen handlers conditions tries)

abbrev pub when_or_not : Plan → List HandlerId → Option (Word × List Word) → Read LineFault ClientLine
when_or_not s handlers None = Ok (Reserve handlers)
when_or_not s handlers (Some found) = when_line s handlers found.1

-- up to nine handlers, and conditions after `when` if that word is there
abbrev pub reserve_line : Plan → List Word → Read LineFault ClientLine
reserve_line s words =
    let handlers = before border.When words in
    if nat_lt MAX_NAMED (length handlers) then Err TooManyHandlers
    else (each_of (handler_of s) handlers >>= λ hs. when_or_not s hs (behind border.When words))

-- ---- a line

-- a line of one word
abbrev pub bare_line : ClientLine → List Word → Read LineFault ClientLine
bare_line line [] = Ok line
bare_line line (word ∷ words) = Err WrongNumberOfWords

-- the command of the words after the first one, by the first one
abbrev pub line_of : Plan → Word → List Word → Read LineFault ClientLine
line_of s name words =
    if same_text name (codes "reserve") then reserve_line s words
    else (if same_text name (codes "call") then (request_line s words >>= λ a. Ok (Call a.0 a.1))
    else (if same_text name (codes "query") then (request_line s words >>= λ a. Ok (Query a.0 a.1))
    else (if same_text name (codes "end") then bare_line End words
    else (if same_text name (codes "giveup") then bare_line GiveUp words
    else (if same_text name (codes "help") then bare_line Help words
    else (if same_text name (codes "quit") then bare_line Quit words
    else Err (UnknownLine (shown name))))))))

abbrev pub words_line : Plan → List Word → Read LineFault ClientLine
words_line s [] = Ok Blank
words_line s (name ∷ words) = line_of s name words

-- the command of a line: none, if the line is blank
abbrev pub client_line : Plan → List ℕ → Read LineFault ClientLine
client_line s line = if is_blank (without_return line) then Ok Blank else words_line s (words_of (without_return line))
