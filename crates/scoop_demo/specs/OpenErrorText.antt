-- The name of the reason why a world doesn't open.
use Rattle.std.specs.Prelude.{ℕ, List, codes}
use Rattle.scoop_world.specs.declared.error.WorldOpenError.{WorldOpenError}
use Rattle.scoop_world.specs.declared.error.WorldOpenError.TheVariants.{NoHandlers, TooManyHandlers, Repeated, WrongClass, TooManyClients, RepeatedClient}
use Rattle.scoop_world.specs.declared.error.WorldOpenError.TheVariants.{IncarnationsSpent, OutOfMemory}

abbrev pub open_error_name : WorldOpenError → List ℕ
open_error_name NoHandlers = codes "NoHandlers"
open_error_name TooManyHandlers = codes "TooManyHandlers"
open_error_name (Repeated h) = codes "Repeated"
open_error_name (WrongClass h) = codes "WrongClass"
open_error_name TooManyClients = codes "TooManyClients"
open_error_name (RepeatedClient c) = codes "RepeatedClient"
open_error_name IncarnationsSpent = codes "IncarnationsSpent"
open_error_name OutOfMemory = codes "OutOfMemory"
