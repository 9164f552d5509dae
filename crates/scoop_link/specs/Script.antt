-- The effect of a script on the puts of a lane.
use Rattle.std.specs.Prelude.{ℕ, ◌%◌, ◌==◌, ◌&&◌, not, if◌then◌else◌, Bool}
use Rattle.scoop_link.specs.declared.script.Script.{Script}

-- every d-th one; 0 means never
abbrev pub is_every : ℕ → ℕ → Bool
is_every d k = not (d == 0) && (k % d == 0)

-- the number of copies that the k-th put appends
abbrev pub copies : Script → ℕ → ℕ
copies s k = if is_every s.drop_every k then 0 else if is_every s.double_every k then 2 else 1
