-- A script: the faults of its lines, and the ends of a run over it.
use Rattle.std.specs.Prelude.{◌≡◌, ◌≢◌, ℕ, ◌+◌, ◌||◌, ◌&&◌, not, max, map, Bool, true, false, if◌then◌else◌, List, [], ◌∷◌, ◌++◌, length, Option, Some}
use Rattle.std.specs.Prelude.{None, IfSome}
use Rattle.std.specs.Prelude.{⊤}
use Rattle.std.specs.List.{list_any, filter_map, AllByRecursion}
use Rattle.std.specs.Result.{result_ok, result_err}
use Rattle.scoop_message.specs.declared.name.ClientId.{ClientId}
use Rattle.scoop_object.specs.Class.{ClassTable}
use Rattle.scoop_world.specs.OpenRefusal.{MayPlace, IsUnopened, handlers_of}
use Rattle.scoop_model.specs.Opening.{IsJoining}
use Rattle.scoop_world.specs.Placing.{newcomers_of}
use Rattle.scoop_world.specs.declared.placing.Placement.{Placement}
use Rattle.scoop_world.specs.declared.error.WorldOpenError.{WorldOpenError}
use Rattle.scoop_world.specs.declared.error.WorldOpenError.TheVariants as world
use Rattle.scoop_demo.specs.declared.fault.InputFault.{InputFault}
use Rattle.scoop_demo.specs.declared.fault.InputFault.TheVariants.{UnknownLine, TooLateForParty, CannotOpen, Source, Refused}
use Rattle.scoop_demo.specs.declared.fault.RunError.{RunError}
use Rattle.scoop_demo.specs.declared.fault.RunError.TheVariants.{Input, Write, OutOfMemory}
use Rattle.scoop_demo.specs.declared.script.kind.LineKind.{LineKind}
use Rattle.scoop_demo.specs.declared.script.kind.LineKind.TheVariants.{Handler, Client, Event}
use Rattle.scoop_lines.specs.declared.error.SourceFault.{SourceFault}
use Rattle.scoop_lines.specs.declared.error.SourceFault.TheVariants.{ReadFault}
use Rattle.scoop_lines.specs.Line.{lines_of, limit_fault}
use Rattle.scoop_lines.specs.Words.{words_of, is_blank}
use Rattle.scoop_demo.specs.Run.{broken_limit, first_fault, BeginsWithLines}
use Rattle.scoop_demo.specs.ScriptKind.{kind_of}
use Rattle.scoop_demo.specs.ScriptLine.{Placed, handler_line, client_line, event_line}

-- ---- one line

-- a line of a party may not come after an event
abbrev pub party_fault : Bool → Option InputFault → Option InputFault
party_fault true found = Some TooLateForParty
party_fault false found = found

abbrev pub kind_fault : Bool → Option (LineKind × List (List ℕ)) → Option InputFault
kind_fault opened None = Some UnknownLine
kind_fault opened (Some (Handler, words)) = party_fault opened (result_err (handler_line words))
kind_fault opened (Some (Client, words)) = party_fault opened (result_err (client_line words))
kind_fault opened (Some (Event kind, words)) = result_err (event_line kind words)

-- the fault of a line's words, if any, after events or without any
abbrev pub words_fault : Bool → List ℕ → Option InputFault
words_fault opened line = if is_blank line then None else kind_fault opened (kind_of (words_of line))

-- the fault of the line of this number, if any: that of its limits comes first
abbrev pub script_fault : ℕ → Bool → List ℕ → Option InputFault
script_fault number opened line = first_fault (broken_limit number line) (words_fault opened line)

abbrev pub is_event_kind : Option (LineKind × List (List ℕ)) → Bool
is_event_kind None = false
is_event_kind (Some (Handler, words)) = false
is_event_kind (Some (Client, words)) = false
is_event_kind (Some (Event kind, words)) = true

-- the line is that of an event
abbrev pub is_event : List ℕ → Bool
is_event line = if is_blank line then false else is_event_kind (kind_of (words_of line))

-- the line opens the world
abbrev pub opens_at : Bool → List ℕ → Bool
opens_at opened line = not opened && is_event line

-- ---- the parties that lines name

-- the handlers that are placed and the clients that join, each client with its batch
pub record Parties : Type 0 where
  pub placed : List Placed
  pub clients : List (ClientId × ℕ)

abbrev pub placed_by_kind : Option (LineKind × List (List ℕ)) → Option Placed
placed_by_kind None = None
placed_by_kind (Some (Handler, words)) = result_ok (handler_line words)
placed_by_kind (Some (Client, words)) = None
placed_by_kind (Some (Event kind, words)) = None

abbrev pub joined_by_kind : Option (LineKind × List (List ℕ)) → Option (ClientId × ℕ)
joined_by_kind None = None
joined_by_kind (Some (Handler, words)) = None
joined_by_kind (Some (Client, words)) = result_ok (client_line words)
joined_by_kind (Some (Event kind, words)) = None

-- the handler that the line places, if it does
abbrev pub placed_by : List ℕ → Option Placed
placed_by line = if is_blank line then None else placed_by_kind (kind_of (words_of line))

-- the client that the line lets join, if it does
abbrev pub joined_by : List ℕ → Option (ClientId × ℕ)
joined_by line = if is_blank line then None else joined_by_kind (kind_of (words_of line))

-- the parties that the lines name, in their order
abbrev pub parties_of : List (List ℕ) → Parties
parties_of lines = record { placed = filter_map placed_by lines; clients = filter_map joined_by lines }

-- the handler as it is placed in a world. An object that goes by the rows of a class is seen as that class
abbrev pub placement_of : Placed → Placement ClassTable
placement_of p = record { node = p.node; handler = p.handler; class = p.class; object = p.class }

-- the object's own class
abbrev pub own_class : ClassTable → ClassTable
own_class class = class

-- a world opens with these parties, over these stored incarnations, if there is memory
pub record Opens (parties : Parties) (stored : ℕ → Option ℕ) : Type 0 where
  pub placed : MayPlace own_class (map placement_of parties.placed) parties.clients
  pub joining : AllByRecursion IsJoining (newcomers_of (handlers_of (map placement_of parties.placed)) stored parties.clients)

-- no world opens with them, for this reason, which isn't out of memory
abbrev pub IsClosed : Parties → (ℕ → Option ℕ) → WorldOpenError → Type 0
IsClosed parties stored error = (error ≢ world.OutOfMemory) × IsUnopened own_class (map placement_of parties.placed) parties.clients stored error

-- ---- the stop of a run at a line

-- why the line of this number stops a run:
-- - its words have this fault, and the world opens if it is the first event's line;
-- - it is the first event's line, and the world doesn't open;
-- - the output failed, or memory ran out
pub data StopsAtLine (number : ℕ) (opens : Bool) (found : Option InputFault) (parties : Parties) (stored : ℕ → Option ℕ) : RunError → Type 0 where
  in_words : {fault : InputFault} → found ≡ Some fault → (opens ≡ true → Opens parties stored)
      → StopsAtLine number opens found parties stored (Input number fault)
  in_opening : {error : WorldOpenError} → opens ≡ true → IsClosed parties stored error
      → StopsAtLine number opens found parties stored (Input number (CannotOpen error))
  in_output : StopsAtLine number opens found parties stored Write
  in_memory : StopsAtLine number opens found parties stored OutOfMemory

-- the error at the line of this number if the world doesn't open
abbrev pub unopened : ℕ → WorldOpenError → RunError
unopened number world.OutOfMemory = OutOfMemory
unopened number error = Input number (CannotOpen error)

-- why the world doesn't open at the line of this number
pub data StopsOpening (number : ℕ) (parties : Parties) (stored : ℕ → Option ℕ) : RunError → Type 0 where
  of_parties : {error : WorldOpenError} → IsClosed parties stored error → StopsOpening number parties stored (Input number (CannotOpen error))
  of_memory : StopsOpening number parties stored OutOfMemory

-- why the world, which hasn't opened before, doesn't open at the line of this number
pub record StopsClosed (opened : Bool) (number : ℕ) (parties : Parties) (stored : ℕ → Option ℕ) (e : RunError) : Type 0 where
  pub closed : opened ≡ false
  pub stops : StopsOpening number parties stored e

-- ---- several lines

-- no line has a fault. The first of them has this number, and comes after events or without any
abbrev pub Faultless : ℕ → Bool → List (List ℕ) → Type 0
Faultless number opened [] = ⊤
Faultless number opened (line ∷ lines) = (script_fault number opened line ≡ None) × Faultless (number + 1) (opened || is_event line) lines

-- no line has a fault, and the world of their parties opens, at the latest at their end
pub record PlaysLines (stored : ℕ → Option ℕ) (lines : List (List ℕ)) : Type 0 where
  pub faultless : Faultless 1 false lines
  pub opens : Opens (parties_of lines) stored

-- the same of the first lines of a script. Their world needn't have opened before an event
pub record PlaysFirst (stored : ℕ → Option ℕ) (lines : List (List ℕ)) : Type 0 where
  pub faultless : Faultless 1 false lines
  pub opens : list_any is_event lines ≡ true → Opens (parties_of lines) stored

-- these are all lines of an input, and they are played
pub record PlaysAll (input : Option (List ℕ)) (stored : ℕ → Option ℕ) : Type 0 where
  pub lines : List (List ℕ)
  pub plays : PlaysLines stored lines
  pub all : IfSome input (λ bytes. lines_of bytes ≡ lines)

-- the stop of a run over these stored incarnations, and its reason. The lines before it are played. A line's limits come
-- first, then its first words. A world that doesn't open stops the run at the first line of an event, before that line's
-- other words; without such a line, at the last line
pub data StopsPlaying (strict : Bool) (input : Option (List ℕ)) (stored : ℕ → Option ℕ) : RunError → Type 0 where
  read_fault : (lines : List (List ℕ)) → PlaysFirst stored lines → BeginsWithLines input lines
      → StopsPlaying strict input stored (Input (length lines + 1) (Source ReadFault))
  limit_broken : {fault : SourceFault} (lines : List (List ℕ)) (line : List ℕ) → PlaysFirst stored lines
      → limit_fault (length lines + 1) line ≡ Some fault → BeginsWithLines input (lines ++ line ∷ [])
      → StopsPlaying strict input stored (Input (length lines + 1) (Source fault))
  line_fault : {fault : InputFault} (lines : List (List ℕ)) (line : List ℕ) → PlaysFirst stored lines
      → limit_fault (length lines + 1) line ≡ None → words_fault (list_any is_event lines) line ≡ Some fault
      → (is_event line ≡ true → Opens (parties_of lines) stored) → BeginsWithLines input (lines ++ line ∷ [])
      → StopsPlaying strict input stored (Input (length lines + 1) fault)
  first_event : {error : WorldOpenError} (lines : List (List ℕ)) (line : List ℕ) → PlaysFirst stored lines
      → limit_fault (length lines + 1) line ≡ None → list_any is_event lines ≡ false → is_event line ≡ true
      → IsClosed (parties_of lines) stored error → BeginsWithLines input (lines ++ line ∷ [])
      → StopsPlaying strict input stored (Input (length lines + 1) (CannotOpen error))
  no_event : {error : WorldOpenError} (lines : List (List ℕ)) → PlaysFirst stored lines → list_any is_event lines ≡ false
      → IsClosed (parties_of lines) stored error → IfSome input (λ bytes. lines_of bytes ≡ lines)
      → StopsPlaying strict input stored (Input (max (length lines) 1) (CannotOpen error))
  event_refused : (lines : List (List ℕ)) → strict ≡ true → PlaysFirst stored lines → BeginsWithLines input lines
      → StopsPlaying strict input stored (Input (length lines) Refused)
  output : (lines : List (List ℕ)) → PlaysFirst stored lines → BeginsWithLines input lines → StopsPlaying strict input stored Write
  memory : (lines : List (List ℕ)) → PlaysFirst stored lines → BeginsWithLines input lines → StopsPlaying strict input stored OutOfMemory
