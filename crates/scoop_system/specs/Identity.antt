-- The name and the life of a system.
use Rattle.std.specs.Prelude.{ℕ, Bool, true, false, ◌&&◌, List, [], Option, Some, None}
use Rattle.std.specs.Option.{is_none as has_none}
use Rattle.scoop_system.specs.declared.identity.Identity.{Identity}

-- it has neither
abbrev pub is_none : Identity → Bool
is_none i = has_none i.name && has_none i.life

-- the name's bytes; empty if there is none
abbrev pub name_bytes : Option (List ℕ) → List ℕ
name_bytes None = []
name_bytes (Some name) = name

-- the life; 0 if there is none
abbrev pub life_number : Option ℕ → ℕ
life_number None = 0
life_number (Some life) = life
