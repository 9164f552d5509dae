-- The texts of a keeper's refusals.
use Rattle.std.specs.Prelude.{ℕ, List, ◌++◌, codes}
use Rattle.std.specs.Fmt.{decimal}
use Rattle.scoop_keeper.specs.declared.keeper.KeeperError.{KeeperError}
use Rattle.scoop_keeper.specs.declared.keeper.KeeperError.TheVariants.{OutOfMemory, Refused, BadImage, IncarnationsSpent, WrongSchema}

-- a refusal's name, followed by the handler whose image is bad
abbrev pub error_text : KeeperError → List ℕ
error_text OutOfMemory = codes "OutOfMemory"
error_text Refused = codes "Refused"
error_text (BadImage handler) = codes "BadImage " ++ decimal handler.0
error_text IncarnationsSpent = codes "IncarnationsSpent"
error_text WrongSchema = codes "WrongSchema"
