-- Round trips: the written parts of an answer read back as they were.
use Rattle.std.proofs.Common.{◌≡◌, ◌≢◌, ◌∙◌, ℕ, ◌^◌, ◌<◌, ◌==◌, nat_lt, not, true, false, List, [], ◌∷◌, length, map, Some, Ok, refl, ap, arith, rules}
use Rattle.std.specs.List.{AllByRecursion, list_all}
use Rattle.std.specs.Fmt.{decimal}
use Rattle.std.specs.Option.{ok_or}
use Rattle.std.specs.Str.Parse.{digits_value}
use Rattle.std.proofs.lemmas.Bool.Decides.{nat_tests}
use Rattle.std.proofs.lemmas.Fmt.{decimal_nonempty, digits_decimal, digits_value-decimal}
use Rattle.std.proofs.lemmas.Str.Parse.{IsDigitsTest, IsNumeralModel, numerals_by_value}
use Rattle.base64.specs.Engines.{standard}
use Rattle.base64.specs.GeneralPurpose.{IsBytes, decode_of, encode_of}
use Rattle.base64.proofs.EngineFacts.{decode_of-encode_of}
use Rattle.serde_json.specs.Data.{Data}
use Rattle.serde_json.specs.View.{items_of}
use Rattle.scoop_lines.specs.Number.{is_digit, decimal_of}
use Rattle.scoop_lines.specs.Reading.{Read, ◌>>=◌, each_of}
use Rattle.scoop_etcd_calls.specs.declared.calls.Outcome.{Outcome}
use Rattle.scoop_etcd_calls.specs.declared.fault.Field.{Field}
use Rattle.scoop_etcd_calls.specs.declared.fault.Field.TheVariants.{Revision, Key, Value, ModRevision}
use Rattle.scoop_etcd_calls.specs.declared.fault.AnswerFault.TheVariants.{NotAnObject, NotANumber}
use Rattle.scoop_etcd_calls.specs.Stored.{Stored, Listed}
use Rattle.scoop_etcd_calls.specs.Answer.{decoded, some_bytes, number_of, above_zero, key_at, bytes_at, revision_at, pair_of, list_of, header_at, ascending, pairs_at, listed_at, outcome_at, if_object}
use Rattle.scoop_etcd_calls.specs.Written.{IsRevision, IsStored, IsListed, pair_data, listed_data, outcome_data}

then : {E A B : Type 0} (r : Read E A) (f : A → Read E B) (x : A) → r ≡ Ok x → (r >>= f) ≡ f x
then r f x is = ap (λ q. q >>= f) is

-- ---- numbers

digits_test : IsDigitsTest (λ ds. list_all is_digit ds ≡ true)
digits_test = search rules

digits_model : IsNumeralModel (λ ds. list_all is_digit ds ≡ true) (digits_value 10)
digits_model = numerals_by_value _ digits_test

some_length : (n : ℕ) → 0 < n → not (n == 0) ≡ true
some_length n more = grind (arith, nat_tests)

below : (n limit : ℕ) → n < limit → nat_lt n limit ≡ true
below n limit less = grind (arith, nat_tests)

pub decimal_reads : (n : ℕ) → n < 2 ^ 64 → decimal_of (decimal n) ≡ Some n
decimal_reads n less =
    let some : not (length (decimal n) == 0) ≡ true = some_length _ (decimal_nonempty n less) in
    let digits : list_all is_digit (decimal n) ≡ true = digits_decimal digits_model n less in
    let value : digits_value 10 (decimal n) ≡ n = digits_value-decimal digits_model n less in
    rw (some, digits, value, below n (2 ^ 64) less) refl

number_of_some : (f : Field) (text : List ℕ) → 0 < length text → number_of f text ≡ ok_or (decimal_of text) (NotANumber f)
number_of_some f [] some = absurd (omega arith)
number_of_some f (b ∷ bs) some = refl

above : (f : Field) (n : ℕ) → 0 < n → above_zero f n ≡ Ok n
above f n more = let is : (n == 0) ≡ false = grind (arith, nat_tests) in rw is refl

number_reads : (f : Field) (n : ℕ) → IsRevision n → (number_of f (decimal n) >>= above_zero f) ≡ Ok n
number_reads f n ok =
    then _ (above_zero f) n (number_of_some f (decimal n) (decimal_nonempty n ok.1) ∙ ap (λ o. ok_or o (NotANumber f)) (decimal_reads n ok.1))
    ∙ above f n ok.0

-- ---- bytes

bytes_read : (f : Field) (b : List ℕ) → IsBytes b → decoded f (decode_of standard (encode_of standard b)) ≡ Ok b
bytes_read f b bytes = ap (decoded f) (decode_of-encode_of standard b refl bytes)

some_key : (b : List ℕ) → b ≢ [] → some_bytes Key b ≡ Ok b
some_key [] some = absurd (some refl)
some_key (x ∷ xs) some = refl

-- ---- answers

stored_reads : (s : Stored) → IsStored s → pair_of (pair_data s) ≡ Ok s
stored_reads s ok =
    let key : key_at (pair_data s) ≡ Ok s.key = then _ (some_bytes Key) s.key (bytes_read Key s.key ok.key) ∙ some_key s.key ok.some in
    let value : bytes_at Value (pair_data s) ≡ Ok s.value = bytes_read Value s.value ok.value in
    let revision : revision_at ModRevision (pair_data s) ≡ Ok s.revision = number_reads ModRevision s.revision ok.revision in
    then _ _ s.key key ∙ then _ _ s.value value ∙ then _ _ s.revision revision

list_back : (ds : List Data) → list_of (items_of ds) ≡ ds
list_back [] = refl
list_back (d ∷ ds) = ap (λ es. d ∷ es) (list_back ds)

each_reads : (ps : List Stored) → AllByRecursion IsStored ps → each_of pair_of (map pair_data ps) ≡ Ok ps
each_reads [] ok = refl
each_reads (p ∷ ps) ok = then _ _ p (stored_reads p ok.0) ∙ then _ _ ps (each_reads ps ok.1)

-- the answer to a range
pub listed_reads : (l : Listed) → IsListed l → if_object NotAnObject listed_at (listed_data l) ≡ Ok l
listed_reads l ok =
    let each : each_of pair_of (list_of (items_of (map pair_data l.pairs))) ≡ Ok l.pairs = ap (each_of pair_of) (list_back (map pair_data l.pairs)) ∙ each_reads l.pairs ok.pairs in
    let ascend : ascending l.pairs ≡ Ok l.pairs = rw ok.ascend refl in
    let pairs : pairs_at (listed_data l) ≡ Ok l.pairs = then _ ascending l.pairs each ∙ ascend in
    let header : header_at (listed_data l) ≡ Ok l.revision = number_reads Revision l.revision ok.revision in
    then _ _ l.revision header ∙ then _ _ l.pairs pairs

-- the answer to a transaction
pub outcome_reads : (o : Outcome) → IsRevision o.revision → if_object NotAnObject outcome_at (outcome_data o) ≡ Ok o
outcome_reads o ok =
    let header : header_at (outcome_data o) ≡ Ok o.revision = number_reads Revision o.revision ok in
    then _ _ o.revision header
