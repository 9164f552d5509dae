-- The meaning of an answer's JSON.
use Rattle.std.specs.Prelude.{◌≡◌, ◌≢◌, ℕ, ◌==◌, if◌then◌else◌, Bool, false, is_some, List, [], ◌∷◌, codes, Option, Some, None, Result, Ok, Err}
use Rattle.std.specs.Option.{ok_or, option_and_then}
use Rattle.base64.specs.Engines.{standard}
use Rattle.base64.specs.GeneralPurpose.{decode_of}
use Rattle.base64.specs.declared.decode.DecodeError.{DecodeError}
use Rattle.serde_json.specs.Data.{Data, Items, no_items, item}
use Rattle.serde_json.specs.Find.{get, as_str, as_bool, as_number, as_u64, as_array, as_object}
use Rattle.serde_json.specs.Read.{read}
use Rattle.scoop_lines.specs.Number.{decimal_of}
use Rattle.scoop_lines.specs.Reading.{Read, ◌>>=◌, each_of}
use Rattle.scoop_etcd_calls.specs.Stored.{Stored, Listed, Refused, ascends}
use Rattle.scoop_etcd_calls.specs.declared.calls.Outcome.{Outcome}
use Rattle.scoop_etcd_calls.specs.declared.fault.AnswerFault.{AnswerFault}
use Rattle.scoop_etcd_calls.specs.declared.fault.AnswerFault.TheVariants.{NotJson, NotAnObject, Missing, OtherKind, NotBase64, NotANumber, NotAscending, OutOfMemory}
use Rattle.scoop_etcd_calls.specs.declared.fault.Field.{Field}
use Rattle.scoop_etcd_calls.specs.declared.fault.Field.TheVariants.{Header, Revision, Pairs, Key, Value, ModRevision, Succeeded, Code, Message}

-- the value that was read, or the fault
abbrev pub Told : Type 0 → Type 0
Told A = Read AnswerFault A

-- the fault is this one, unless memory was refused
abbrev pub Refuses : {A : Type 0} → Told A → AnswerFault → Type 0
Refuses told fault = fault ≢ OutOfMemory → told ≡ Err fault

abbrev pub field_text : Field → List ℕ
field_text Header = codes "header"
field_text Revision = codes "revision"
field_text Pairs = codes "kvs"
field_text Key = codes "key"
field_text Value = codes "value"
field_text ModRevision = codes "mod_revision"
field_text Succeeded = codes "succeeded"
field_text Code = codes "code"
field_text Message = codes "message"

-- the value of a member
abbrev pub entry : Field → Data → Option Data
entry f d = get (field_text f) d

-- ---- texts. A member that is missing stands for the empty text, no bytes, 0 or false.

abbrev pub text_in : Field → Option Data → Told (List ℕ)
text_in f None = Ok []
text_in f (Some d) = ok_or (as_str d) (OtherKind f)

abbrev pub text_at : Field → Data → Told (List ℕ)
text_at f d = text_in f (entry f d)

abbrev pub decoded : Field → Result (List ℕ) DecodeError → Told (List ℕ)
decoded f (Ok bytes) = Ok bytes
decoded f (Err e) = Err (NotBase64 f)

-- the bytes that a base64 text stands for
abbrev pub bytes_at : Field → Data → Told (List ℕ)
bytes_at f d = text_at f d >>= λ text. decoded f (decode_of standard text)

abbrev pub some_bytes : Field → List ℕ → Told (List ℕ)
some_bytes f [] = Err (Missing f)
some_bytes f (b ∷ bs) = Ok (b ∷ bs)

-- a key: one byte or more
abbrev pub key_at : Data → Told (List ℕ)
key_at d = bytes_at Key d >>= some_bytes Key

abbrev pub number_of : Field → List ℕ → Told ℕ
number_of f [] = Err (Missing f)
number_of f (b ∷ bs) = ok_or (decimal_of (b ∷ bs)) (NotANumber f)

abbrev pub above_zero : Field → ℕ → Told ℕ
above_zero f n = if n == 0 then Err (Missing f) else Ok n

-- a revision: from 1 on
abbrev pub revision_at : Field → Data → Told ℕ
revision_at f d = text_at f d >>= number_of f >>= above_zero f

abbrev pub flag_in : Field → Option Data → Told Bool
flag_in f None = Ok false
flag_in f (Some d) = ok_or (as_bool d) (OtherKind f)

abbrev pub flag_at : Field → Data → Told Bool
flag_at f d = flag_in f (entry f d)

abbrev pub code_in : Option Data → Told ℕ
code_in None = Ok 0
code_in (Some d) = ok_or (option_and_then as_u64 (as_number d)) (OtherKind Code)

abbrev pub code_at : Data → Told ℕ
code_at d = code_in (entry Code d)

-- ---- objects

abbrev pub if_object : {A : Type 0} → AnswerFault → (Data → Told A) → Data → Told A
if_object fault told d = if is_some (as_object d) then told d else Err fault

abbrev pub header_in : Option Data → Told ℕ
header_in None = Err (Missing Header)
header_in (Some d) = if_object (OtherKind Header) (revision_at Revision) d

-- the store's revision
abbrev pub header_at : Data → Told ℕ
header_at d = header_in (entry Header d)

-- ---- a range

abbrev pub stored_at : Data → Told Stored
stored_at d =
    key_at d >>= λ key. bytes_at Value d >>= λ value. revision_at ModRevision d >>= λ revision.
    Ok (record { key = key; value = value; revision = revision })

abbrev pub pair_of : Data → Told Stored
pair_of = if_object (OtherKind Pairs) stored_at

-- the values of an array
abbrev pub list_of : Items → List Data
list_of no_items = []
list_of (item d ds) = d ∷ list_of ds

abbrev pub list_in : Option Items → Told (List Data)
list_in None = Err (OtherKind Pairs)
list_in (Some ds) = Ok (list_of ds)

abbrev pub values_in : Option Data → Told (List Data)
values_in None = Ok []
values_in (Some d) = list_in (as_array d)

abbrev pub values_at : Data → Told (List Data)
values_at d = values_in (entry Pairs d)

abbrev pub ascending : List Stored → Told (List Stored)
ascending ps = if ascends ps then Ok ps else Err NotAscending

abbrev pub pairs_at : Data → Told (List Stored)
pairs_at d = values_at d >>= each_of pair_of >>= ascending

abbrev pub listed_at : Data → Told Listed
listed_at d = header_at d >>= λ revision. pairs_at d >>= λ pairs. Ok (record { revision = revision; pairs = pairs })

-- ---- whole answers

abbrev pub outcome_at : Data → Told Outcome
outcome_at d = header_at d >>= λ revision. flag_at Succeeded d >>= λ succeeded. Ok (record { succeeded = succeeded; revision = revision })

abbrev pub refusal_at : Data → Told Refused
refusal_at d = code_at d >>= λ code. text_at Message d >>= λ message. Ok (record { code = code; message = message })

-- the JSON of a body
abbrev pub json_of : List ℕ → Told Data
json_of body = ok_or (read body) NotJson

-- the answer to a range
abbrev pub found_in : List ℕ → Told Listed
found_in body = json_of body >>= if_object NotAnObject listed_at

-- the answer to a transaction
abbrev pub outcome_in : List ℕ → Told Outcome
outcome_in body = json_of body >>= if_object NotAnObject outcome_at

-- a refusal
abbrev pub refusal_in : List ℕ → Told Refused
refusal_in body = json_of body >>= if_object NotAnObject refusal_at
