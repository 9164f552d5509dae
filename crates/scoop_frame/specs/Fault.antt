-- Why bytes are no frame of a message that fits.
use Rattle.std.specs.Prelude.{◌≡◌, ◌≢◌, ℕ, ◌+◌, ◌^◌, ◌<◌, ◌≤◌, ◌⊎◌, List, [], ◌∷◌, length, take, drop, slice_index, MatchBool, ◌==◌}
use Rattle.byteorder.specs.Endian.{big_from}
use Rattle.scoop_message.specs.declared.request.Entry.{Entry}
use Rattle.scoop_message.specs.declared.request.Answer.{Answer}
use Rattle.scoop_message.specs.Range.{IsEntries, IsAnswer}
use Rattle.scoop_frame.specs.declared.kind.Kind.TheVariants as of_kind
use Rattle.scoop_frame.specs.declared.version.Version.{Version}
use Rattle.scoop_frame.specs.declared.version.Version.TheVariants.{One, Two}
use Rattle.scoop_frame.specs.declared.error.FrameError.{FrameError}
use Rattle.scoop_frame.specs.declared.error.FrameError.TheVariants.{Short, BadMagic, BadVersion, BadKind, LengthWrong, FieldNotZero, FieldZero, BadBody}
use Rattle.scoop_frame.specs.Body.{log_bytes, answer_bytes}
use Rattle.scoop_frame.specs.Kind.{code}
use Rattle.scoop_frame.specs.Version.{CarriesCount}

-- the fields, by their places
abbrev pub version_at : List ℕ → ℕ
version_at b = slice_index b 2

abbrev pub kind_at : List ℕ → ℕ
kind_at b = slice_index b 3

abbrev pub inc_at : List ℕ → ℕ
inc_at b = big_from 12 4 b

abbrev pub num_at : List ℕ → ℕ
num_at b = big_from 16 4 b

abbrev pub number_at : List ℕ → ℕ
number_at b = big_from 20 4 b

abbrev pub body_len_at : List ℕ → ℕ
body_len_at b = big_from 24 2 b

-- kinds from Lock on use a block number, and kinds from Log on an entry number
abbrev pub UsesBlock : ℕ → Type 0
UsesBlock kind = code of_kind.Lock ≤ kind

abbrev pub UsesNumber : ℕ → Type 0
UsesNumber kind = code of_kind.Log ≤ kind

-- a block or entry number that the kind doesn't use isn't 0
abbrev pub HasUnused : (kind num number : ℕ) → Type 0
HasUnused kind num number = (¬ UsesBlock kind × (num ≢ 0)) ⊎ (¬ UsesNumber kind × (number ≢ 0))

-- an incarnation, block or entry number that the kind uses is 0
abbrev pub LacksNumber : (kind inc num number : ℕ) → Type 0
LacksNumber kind inc num number = (inc ≡ 0) ⊎ ((UsesBlock kind × (num ≡ 0)) ⊎ (UsesNumber kind × (number ≡ 0)))

-- the body of a Log is entries that the version carries, an End only last, and the last one's number is
-- below 2^32
abbrev pub HasLog : Version → (number : ℕ) → List ℕ → Type 0
HasLog v number body = (es : List Entry) × IsEntries es × CarriesCount v (length es) × (number + length es ≤ 2 ^ 32) × (body ≡ log_bytes v es)

abbrev pub HasAnswer : List ℕ → Type 0
HasAnswer body = (a : Answer) × IsAnswer a × (body ≡ answer_bytes a)

-- the body of a Log is its entries, that of an Answer an answer, and the others' is empty
abbrev pub HasBody : (version kind number : ℕ) → List ℕ → Type 0
HasBody version kind number body =
    MatchBool (kind == code of_kind.Log) (MatchBool (version == 1) (HasLog One number body) (HasLog Two number body))
    (MatchBool (kind == code of_kind.Answer) (HasAnswer body) (body ≡ []))

-- the meaning of each refusal
abbrev pub IsFault : FrameError → List ℕ → Type 0
IsFault Short b = length b < 26
IsFault BadMagic b = take 2 b ≢ 0x53 ∷ 0x51 ∷ []
IsFault (BadVersion v) b = (version_at b ≡ v) × (v ≢ 1) × (v ≢ 2)
IsFault (BadKind k) b = (kind_at b ≡ k) × ((k < code of_kind.Hello) ⊎ (code of_kind.Answer < k))
IsFault LengthWrong b = length b ≢ 26 + body_len_at b
IsFault FieldNotZero b = HasUnused (kind_at b) (num_at b) (number_at b)
IsFault FieldZero b = LacksNumber (kind_at b) (inc_at b) (num_at b) (number_at b)
IsFault BadBody b = ¬ HasBody (version_at b) (kind_at b) (number_at b) (drop 26 b)

-- the order of the refusals
abbrev pub rank : FrameError → ℕ
rank Short = 1
rank BadMagic = 2
rank (BadVersion v) = 3
rank (BadKind k) = 4
rank LengthWrong = 5
rank FieldNotZero = 6
rank FieldZero = 7
rank BadBody = 8

-- no refusal of a lower rank applies
abbrev pub PassesBelow : ℕ → List ℕ → Type 0
PassesBelow n b = (e : FrameError) → rank e < n → ¬ IsFault e b

-- the first refusal that applies
pub record IsFirstFault (e : FrameError) (b : List ℕ) : Type 0 where
  pub applies : IsFault e b
  pub first : PassesBelow (rank e) b
