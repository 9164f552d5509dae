-- Entries and answers as bytes. Numbers are big endian.
use Rattle.std.specs.Prelude.{◌≡◌, ◌≢◌, ℕ, List, [], ◌∷◌, ◌++◌, length, drop, Option, Some, None}
use Rattle.std.specs.Int.{w16, w64, to_be_bytes}
use Rattle.std.specs.List.{flat_map}
use Rattle.scoop_message.specs.declared.request.Request.{Request}
use Rattle.scoop_message.specs.declared.request.Entry.{Entry}
use Rattle.scoop_message.specs.declared.request.Entry.TheVariants.{Call, Query, End}
use Rattle.scoop_message.specs.declared.request.Answer.{Answer}
use Rattle.scoop_message.specs.declared.request.Answer.TheVariants.{Refused, Value}
use Rattle.scoop_frame.specs.declared.version.Version.{Version}
use Rattle.scoop_frame.specs.declared.version.Version.TheVariants.{One, Two}

-- the operation, how many arguments there are, and each of them
abbrev pub request_bytes : Request → List ℕ
request_bytes r = to_be_bytes w16 r.op ++ length r.args ∷ flat_map (to_be_bytes w64) r.args

abbrev pub entry_bytes : Entry → List ℕ
entry_bytes (Call r) = 1 ∷ request_bytes r
entry_bytes (Query r) = 2 ∷ request_bytes r
entry_bytes End = 3 ∷ []

abbrev pub answer_bytes : Answer → List ℕ
answer_bytes Refused = 0 ∷ []
answer_bytes (Value x) = 1 ∷ to_be_bytes w64 x

-- the entries of a Log: the one entry of version 1, or how many there are and each of them
abbrev pub log_bytes : Version → List Entry → List ℕ
log_bytes One es = flat_map entry_bytes es
log_bytes Two es = length es ∷ flat_map entry_bytes es

-- A reader of the front of some bytes gave a value and how many bytes it takes, or nothing where no
-- value of that kind begins the bytes.
abbrev pub ReadsFirst : {X : Type 0} → (X → List ℕ) → (X → Type 0) → List ℕ → Option (X × ℕ) → Type 0
ReadsFirst bytes_of IsValue bytes (Some x) = IsValue x.0 × (x.1 ≡ length (bytes_of x.0)) × (bytes ≡ bytes_of x.0 ++ drop x.1 bytes)
ReadsFirst {X} bytes_of IsValue bytes None = (x : X) (rest : List ℕ) → IsValue x → bytes ≢ bytes_of x ++ rest
