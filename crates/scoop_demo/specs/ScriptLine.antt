-- Events and parties of a script's lines, or their faults.
use Rattle.std.specs.Prelude.{ℕ, ◌==◌, ◌&&◌, ◌^◌, nat_lt, nat_le, if◌then◌else◌, List, [], ◌∷◌, length, Option, Some, None, Ok, Err}
use Rattle.std.specs.Option.{ok_or}
use Rattle.scoop_lines.specs.Words.{Word, one_of, two_of}
use Rattle.scoop_lines.specs.Number.{decimal_below}
use Rattle.scoop_lines.specs.Reading.{Read, ◌>>=◌, each_of}
use Rattle.scoop_message.specs.declared.limits.TheConstants.{MAX_ARGS, MAX_ENTRIES}
use Rattle.scoop_message.specs.declared.name.ClientId.{ClientId}
use Rattle.scoop_message.specs.declared.name.HandlerId.{HandlerId}
use Rattle.scoop_message.specs.declared.request.Request.{Request}
use Rattle.scoop_object.specs.Class.{ClassTable}
use Rattle.scoop_client.specs.declared.handlers.TheConstants.{MAX_NAMED_HANDLERS}
use Rattle.scoop_client.specs.declared.command.Command.TheVariants as command
use Rattle.scoop_model.specs.declared.event.Event.TheVariants as event
use Rattle.scoop_demo.specs.declared.fault.InputFault.{InputFault}
use Rattle.scoop_demo.specs.declared.fault.InputFault.TheVariants.{WrongNumberOfWords, NotANumber, NoSuchClass, TooManyArguments, TooManyHandlers}
use Rattle.scoop_demo.specs.declared.script.event.EventLine.{EventLine}
use Rattle.scoop_demo.specs.declared.script.event.EventLine.TheVariants.{One, Run, Trip}
use Rattle.scoop_demo.specs.declared.script.kind.EventKind.{EventKind}
use Rattle.scoop_demo.specs.declared.script.kind.EventKind.TheVariants as kind
use Rattle.scoop_classes.specs.Classes.{class_named}

-- the number that the digits write, if it is below the limit
abbrev pub number_below : ℕ → Word → Read InputFault ℕ
number_below limit word = ok_or (decimal_below limit word) NotANumber

abbrev pub number_of : Word → Read InputFault ℕ
number_of = number_below (2 ^ 64)

-- the reading of exactly this many words
abbrev pub counted : {A B : Type 0} → Option A → (A → Read InputFault B) → Read InputFault B
counted None read = Err WrongNumberOfWords
counted (Some words) read = read words

abbrev pub client_of : Word → Read InputFault ClientId
client_of word = number_below (2 ^ 32) word >>= λ n. Ok (record { 0 = n })

abbrev pub handler_of : Word → Read InputFault HandlerId
handler_of word = number_below (2 ^ 32) word >>= λ n. Ok (record { 0 = n })

-- ---- the words of events

abbrev pub client_alone : List Word → Read InputFault ClientId
client_alone words = counted (one_of words) client_of

abbrev pub handler_alone : List Word → Read InputFault HandlerId
handler_alone words = counted (one_of words) handler_of

abbrev pub place_line : List Word → Read InputFault ℕ
place_line words = counted (one_of words) number_of

abbrev pub node_line : List Word → Read InputFault ℕ
node_line words = counted (one_of words) (number_below (2 ^ 32))

abbrev pub both : ClientId → HandlerId → ClientId × HandlerId
both c h = (c, h)

abbrev pub pair_of : List Word → Read InputFault (ClientId × HandlerId)
pair_of words = counted (two_of words) (λ w. client_of w.0 >>= λ c. handler_of w.1 >>= λ h. Ok (both c h))

-- a client, and up to nine handlers
abbrev pub reserve_line : List Word → Read InputFault EventLine
reserve_line [] = Err WrongNumberOfWords
reserve_line (c ∷ hs) =
    if nat_lt MAX_NAMED_HANDLERS (length hs) then Err TooManyHandlers
    else (client_of c >>= λ client. each_of handler_of hs >>= λ handlers. Ok (One (event.Do client (command.Reserve handlers))))

-- a client, a handler, and an operation with up to four arguments
abbrev pub Asked : Type 0
Asked = ClientId × HandlerId × Request

abbrev pub asked : ClientId → HandlerId → ℕ → List ℕ → Asked
asked c h op args = (c, h, record { op = op; args = args })

abbrev pub request_line : List Word → Read InputFault Asked
request_line [] = Err WrongNumberOfWords
request_line (c ∷ []) = Err WrongNumberOfWords
request_line (c ∷ h ∷ []) = Err WrongNumberOfWords
request_line (c ∷ h ∷ o ∷ ws) =
    if nat_lt MAX_ARGS (length ws) then Err TooManyArguments
    else (client_of c >>= λ client. handler_of h >>= λ handler. number_below (2 ^ 16) o >>= λ op. each_of number_of ws >>= λ args. Ok
    (asked client handler op args))

-- the events of a line, by the words after its kind
abbrev pub event_line : EventKind → List Word → Read InputFault EventLine
event_line kind.Reserve words = reserve_line words
event_line kind.Call words = request_line words >>= λ a. Ok (One (event.Do a.0 (command.Call a.1 a.2)))
event_line kind.Query words = request_line words >>= λ a. Ok (One (event.Do a.0 (command.Query a.1 a.2)))
event_line kind.End words = client_alone words >>= λ c. Ok (One (event.Do c command.End))
event_line kind.GiveUp words = client_alone words >>= λ c. Ok (One (event.Do c command.GiveUp))
event_line kind.Tick words = pair_of words >>= λ p. Ok (One (event.Tick p.0 p.1))
event_line kind.Take words = place_line words >>= λ i. Ok (One (event.Take i))
event_line kind.Begin words = handler_alone words >>= λ h. Ok (One (event.Begin h))
event_line kind.Finish words = handler_alone words >>= λ h. Ok (One (event.Finish h))
event_line kind.Run words = handler_alone words >>= λ h. Ok (Run h)
event_line kind.Trip words = pair_of words >>= λ p. Ok (Trip p.0 p.1)
event_line kind.RestartClient words = client_alone words >>= λ c. Ok (One (event.ClientRestart c))
event_line kind.RestartNode words = node_line words >>= λ n. Ok (One (event.NodeRestart n))

-- ---- the words of parties

-- the number of entries that the client puts into one Log: one to four
abbrev pub batch_of : Word → Read InputFault ℕ
batch_of word = number_of word >>= λ n. if nat_le 1 n && nat_le n MAX_ENTRIES then Ok n else Err NotANumber

abbrev pub joining : ClientId → ℕ → ClientId × ℕ
joining c batch = (c, batch)

-- a client, and its batch: 1 by default
abbrev pub client_line : List Word → Read InputFault (ClientId × ℕ)
client_line [] = Err WrongNumberOfWords
client_line (c ∷ []) = client_of c >>= λ client. Ok (joining client 1)
client_line (c ∷ b ∷ []) = client_of c >>= λ client. batch_of b >>= λ batch. Ok (joining client batch)
client_line (c ∷ b ∷ more ∷ others) = Err WrongNumberOfWords

-- a handler's node, its number, the class of its object and the object's words
pub record Placed : Type 0 where
  pub node : ℕ
  pub handler : HandlerId
  pub class : ClassTable
  pub words : List ℕ

abbrev pub or_no_class : Option ClassTable → Read InputFault ClassTable
or_no_class None = Err NoSuchClass
or_no_class (Some class) = Ok class

abbrev pub class_of : Word → Read InputFault ClassTable
class_of word = or_no_class (class_named word)

-- the words of an object, as many as its class has
abbrev pub words_for : ClassTable → List Word → Read InputFault (List ℕ)
words_for class words = if length words == class.words then each_of number_of words else Err WrongNumberOfWords

abbrev pub handler_line : List Word → Read InputFault Placed
handler_line [] = Err WrongNumberOfWords
handler_line (n ∷ []) = Err WrongNumberOfWords
handler_line (n ∷ h ∷ []) = Err WrongNumberOfWords
handler_line (n ∷ h ∷ k ∷ ws) =
    number_below (2 ^ 32) n >>= λ node. handler_of h >>= λ handler. class_of k >>= λ class. words_for class ws >>= λ words.
    Ok (record { node = node; handler = handler; class = class; words = words })
