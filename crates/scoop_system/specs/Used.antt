-- The handlers that the table of a client names.
use Rattle.std.specs.Prelude.{ℕ, ◌==◌, ◌&&◌, nat_le, if◌then◌else◌, List, [], ◌∷◌, ◌++◌, length, find, Option, Some, None, Ok, Err}
use Rattle.std.specs.Option.{option_map, ok_or}
use Rattle.toml.specs.Data.{Data, Items, get, as_str, as_array}
use Rattle.scoop_lines.specs.Reading.{Read, ◌>>=◌, unless}
use Rattle.scoop_message.specs.declared.limits.TheConstants.{MAX_HANDLERS}
use Rattle.scoop_message.specs.declared.name.HandlerId.{HandlerId}
use Rattle.scoop_system.specs.declared.error.Key.TheVariants as key
use Rattle.scoop_system.specs.declared.error.Wrong.{Wrong}
use Rattle.scoop_system.specs.declared.error.Wrong.TheVariants.{NotHandlers, NoSuchHandler, NoHandlerNamed, HandlerTwice}
use Rattle.scoop_system.specs.declared.place.HandlerPlace.{HandlerPlace}
use Rattle.scoop_system.specs.Name.{told}
use Rattle.scoop_system.specs.System.{handler_of_name}
use Rattle.scoop_system.specs.Known.{is_among}
use Rattle.scoop_system.specs.Value.{list_of, whole_of}
use Rattle.scoop_system.specs.KeyText.{key_text}

-- the handler of this number
abbrev pub numbered_handler : List HandlerPlace → ℕ → Read Wrong HandlerId
numbered_handler handlers n = ok_or (option_map (λ p. p.handler) (find (λ p. p.handler.0 == n) handlers)) (NoSuchHandler n)

-- the handler of this name
abbrev pub named_handler : List HandlerPlace → List ℕ → Read Wrong HandlerId
named_handler handlers name = ok_or (handler_of_name handlers name) (NoHandlerNamed (told name))

abbrev pub named_or_numbered : List HandlerPlace → Option (List ℕ) → Option ℕ → Read Wrong HandlerId
named_or_numbered handlers (Some name) number = named_handler handlers name
named_or_numbered handlers None (Some n) = numbered_handler handlers n
named_or_numbered handlers None None = Err NotHandlers

-- the handler that a value names, by its name or its number
abbrev pub used_handler : List HandlerPlace → Data → Read Wrong HandlerId
used_handler handlers d = named_or_numbered handlers (as_str d) (whole_of d)

abbrev pub used_before : List HandlerId → HandlerId → Option Wrong
used_before done h = if is_among done h then Some (HandlerTwice h.0) else None

-- a handler, after those before it
abbrev pub next_used : List HandlerPlace → List HandlerId → Data → Read Wrong HandlerId
next_used handlers done d = used_handler handlers d >>= λ h. unless (used_before done h) (Ok h)

abbrev pub used_from : List HandlerPlace → List HandlerId → List Data → Read Wrong (List HandlerId)
used_from handlers done [] = Ok done
used_from handlers done (d ∷ ds) = next_used handlers done d >>= λ h. used_from handlers (done ++ h ∷ []) ds

-- at least one, and not more than a system may have
abbrev pub some_used : List HandlerPlace → List Data → Read Wrong (List HandlerId)
some_used handlers ds = if nat_le 1 (length ds) && nat_le (length ds) MAX_HANDLERS then used_from handlers [] ds else Err NotHandlers

abbrev pub listed_used : List HandlerPlace → Option Items → Read Wrong (List HandlerId)
listed_used handlers None = Err NotHandlers
listed_used handlers (Some ds) = some_used handlers (list_of ds)

abbrev pub used_in : List HandlerPlace → Option Data → Read Wrong (Option (List HandlerId))
used_in handlers None = Ok None
used_in handlers (Some d) = listed_used handlers (as_array d) >>= λ hs. Ok (Some hs)

-- the handlers that a client uses, if its table names them: each is a handler of the file, and none is named twice
abbrev pub used_at : List HandlerPlace → Data → Read Wrong (Option (List HandlerId))
used_at handlers d = used_in handlers (get (key_text key.Handlers) d)
