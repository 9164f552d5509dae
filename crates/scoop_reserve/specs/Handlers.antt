-- Lists of handlers.
use Rattle.std.specs.Prelude.{Bool, not, ◌&&◌, ◌||◌, ◌==◌, nat_le, if◌then◌else◌, List, [], ◌∷◌, ◌++◌, filter, find, length, Option, Some, None}
use Rattle.std.specs.List.{list_any, list_all}
use Rattle.scoop_message.specs.declared.name.HandlerId.{HandlerId}
use Rattle.scoop_message.specs.Message.{same_handler}

-- the filler of unused cells
abbrev pub nobody : HandlerId
nobody = record { 0 = 0 }

abbrev pub has : List HandlerId → HandlerId → Bool
has hs h = list_any (λ x. same_handler x h) hs

abbrev pub without : HandlerId → List HandlerId → List HandlerId
without h hs = filter (λ x. not (same_handler x h)) hs

abbrev pub is_empty : List HandlerId → Bool
is_empty hs = length hs == 0

-- it is in the list, and no other there has a lower number
abbrev pub is_lowest : HandlerId → List HandlerId → Bool
is_lowest h hs = has hs h && list_all (λ x. nat_le h.0 x.0) hs

-- the handlers that were asked for their locks: those locked, and the next one
abbrev pub asked : List HandlerId → List HandlerId → List HandlerId
asked handlers left = filter (λ h. not (has left h) || is_lowest h left) handlers

-- the first of these that repeats an earlier one or one seen before
abbrev pub first_repeated_after : List HandlerId → List HandlerId → Option HandlerId
first_repeated_after seen [] = None
first_repeated_after seen (h ∷ hs) = if has seen h then Some h else first_repeated_after (seen ++ h ∷ []) hs

-- the handler at the first place that repeats an earlier place
abbrev pub first_repeated : List HandlerId → Option HandlerId
first_repeated hs = first_repeated_after [] hs

abbrev pub first_unknown : List HandlerId → List HandlerId → Option HandlerId
first_unknown known hs = find (λ h. not (has known h)) hs
