-- The requests of a program's calls.
use Rattle.std.specs.Prelude.{ℕ, List}
use Rattle.scoop_message.specs.declared.request.Request.{Request}

-- this operation with these arguments
abbrev pub asks_for : ℕ → List ℕ → Request
asks_for op args = record { op = op; args = args }
