-- Several entries at once.
use Rattle.std.specs.Prelude.{ℕ, ◌+◌, ◌-◌, Bool, false, not, IsTrue, List, [], ◌∷◌, length, None}
use Rattle.std.specs.List.{last_or, list_all}
use Rattle.std.specs.Option.{option_map_or}
use Rattle.scoop_message.specs.declared.request.Entry.{Entry}
use Rattle.scoop_message.specs.Entry.{is_end}

-- all entries but the last
abbrev pub before_last : List Entry → List Entry
before_last [] = []
before_last (e ∷ []) = []
before_last (e ∷ f ∷ es) = e ∷ before_last (f ∷ es)

-- only the last entry may be an End
abbrev pub end_only_last : List Entry → Bool
end_only_last es = list_all (λ e. not (is_end e)) (before_last es)

abbrev pub EndOnlyLast : List Entry → Type 0
EndOnlyLast es = IsTrue (end_only_last es)

-- the last entry is an End
abbrev pub ends : List Entry → Bool
ends es = option_map_or is_end (last_or None es) false

-- the number of the last of some entries, whose first has this number
abbrev pub last_number : ℕ → List Entry → ℕ
last_number n es = n + length es - 1
