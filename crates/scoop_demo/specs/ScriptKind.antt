-- Kinds of lines, by their first words.
use Rattle.std.specs.Prelude.{ℕ, if◌then◌else◌, List, [], ◌∷◌, Option, Some, None, codes}
use Rattle.std.specs.Option.{option_map}
use Rattle.scoop_demo.specs.declared.script.kind.LineKind.{LineKind}
use Rattle.scoop_demo.specs.declared.script.kind.LineKind.TheVariants.{Handler, Client, Event}
use Rattle.scoop_demo.specs.declared.script.kind.EventKind.{EventKind}
use Rattle.scoop_demo.specs.declared.script.kind.EventKind.TheVariants as event
use Rattle.scoop_classes.specs.Classes.{same_text}

-- the kind of an event, by one word
abbrev pub event_kind : List ℕ → Option EventKind
event_kind word =
    if same_text word (codes "reserve") then Some event.Reserve
    else (if same_text word (codes "call") then Some event.Call
    else (if same_text word (codes "query") then Some event.Query
    else (if same_text word (codes "end") then Some event.End
    else (if same_text word (codes "giveup") then Some event.GiveUp
    else (if same_text word (codes "tick") then Some event.Tick
    else (if same_text word (codes "take") then Some event.Take
    else (if same_text word (codes "begin") then Some event.Begin
    else (if same_text word (codes "finish") then Some event.Finish
    else (if same_text word (codes "run") then Some event.Run
    else (if same_text word (codes "trip") then Some event.Trip
    else None))))))))))

-- the kind of a line, by one word
abbrev pub word_kind : List ℕ → Option LineKind
word_kind word =
    if same_text word (codes "handler") then Some Handler
    else (if same_text word (codes "client") then Some Client
    else option_map Event (event_kind word))

-- the kind of a restart, by the word after `restart`
abbrev pub restart_kind : List (List ℕ) → Option (LineKind × List (List ℕ))
restart_kind [] = None
restart_kind (word ∷ words) =
    if same_text word (codes "client") then Some (Event event.RestartClient, words)
    else (if same_text word (codes "node") then Some (Event event.RestartNode, words)
    else None)

-- the kind of a line, and the words after those that name the kind
abbrev pub kind_of : List (List ℕ) → Option (LineKind × List (List ℕ))
kind_of [] = None
kind_of (word ∷ words) =
    if same_text word (codes "restart") then restart_kind words
    else option_map (λ kind. (kind, words)) (word_kind word)
