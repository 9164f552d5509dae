-- The entries of a Log, read from all of some bytes.
use Rattle.std.specs.Prelude.{◌≡◌, ◌≢◌, ℕ, List, length, Option, Some, None}
use Rattle.std.specs.List.{flat_map}
use Rattle.scoop_message.specs.declared.request.Entry.{Entry}
use Rattle.scoop_message.specs.Range.{IsEntries}
use Rattle.scoop_frame.specs.declared.version.Version.{Version}
use Rattle.scoop_frame.specs.Version.{CarriesCount}
use Rattle.scoop_frame.specs.Body.{entry_bytes, log_bytes}

-- that many entries, which the bytes are, one after the other, or nothing if they are none
abbrev pub IsEntriesOrNone : ℕ → List ℕ → Option (List Entry) → Type 0
IsEntriesOrNone count bytes (Some es) = IsEntries es × (length es ≡ count) × (bytes ≡ flat_map entry_bytes es)
IsEntriesOrNone count bytes None = (es : List Entry) → IsEntries es → length es ≡ count → bytes ≢ flat_map entry_bytes es

-- the entries whose body of this version the bytes are, or nothing where there are none
abbrev pub IsLogOrNone : Version → List ℕ → Option (List Entry) → Type 0
IsLogOrNone v bytes (Some es) = IsEntries es × CarriesCount v (length es) × (bytes ≡ log_bytes v es)
IsLogOrNone v bytes None = (es : List Entry) → IsEntries es → CarriesCount v (length es) → bytes ≢ log_bytes v es
