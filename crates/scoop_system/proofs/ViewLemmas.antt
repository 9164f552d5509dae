-- The values of a TOML text, in memory and in the definitions.
use Rattle.std.proofs.Common.{◌≡◌, ℕ, ◌+◌, ◌<◌, ◌≤◌, nat_lt, Bool, true, false, not, arith, Ok, Err, if◌then◌else◌, List, [], ◌∷◌, length, drop, get_or, map}
use Rattle.std.proofs.Common.{Option, Some, None, String, Global, string_bytes, refl, ap, option_map}
use Rattle.std.specs.Prelude.{find}
use Rattle.std.specs.Map.{keys_of}
use Rattle.std.proofs.lemmas.List.{drop_more, length-map}
use Rattle.std.proofs.lemmas.Bool.Decides.{nat_tests}
use Rattle.toml.specs.Data.{Data, get, as_array, as_table}
use Rattle.std.specs.BTreeMap.{BTreeMap, keys}
use Rattle.toml.specs.View.{view, items_view, members_view, table_view}
use Rattle.toml.specs.declared.value.Value.{Value}
use Rattle.scoop_system.specs.declared.error.Key.{Key}
use Rattle.scoop_system.specs.declared.error.Wrong.TheVariants.{TooMany, UnknownKey}
use Rattle.scoop_system.specs.KeyText.{key_text}
use Rattle.scoop_system.specs.declared.error.Key.TheVariants as key
use Rattle.scoop_system.specs.Value.{list_of, list_at, names_of, words_at, some_words, is_known, key_fault}
use Rattle.scoop_system.specs.Name.{told}
use Rattle.scoop_system.specs.declared.place.HandlerPlace.{HandlerPlace}
use Rattle.scoop_system.specs.Used.{listed_used, some_used}
use Rattle.scoop_system.specs.Addresses.{addresses_in, some_addresses}

-- the values of a list
pub list_of_view : (vs : List Value) → list_of (items_view vs) ≡ map view vs
list_of_view [] = refl
list_of_view (v ∷ vs) = ap (λ ds. view v ∷ ds) (list_of_view vs)

-- the values from a place on
pub view_drop : (vs : List Value) (i : ℕ) (d : Value) → i < length vs → map view (drop i vs) ≡ view (get_or vs i d) ∷ map view (drop (i + 1) vs)
view_drop vs i d within = ap (map view) (drop_more vs i d within)

found_or : (p : List ℕ → Bool) (key : String Global) (here : Bool) (rest : Option (String Global)) (found : Option (List ℕ))
    → option_map string_bytes rest ≡ found → option_map string_bytes (if here then Some key else rest) ≡ (if here then Some (string_bytes key) else found)
found_or p key true rest found is = refl
found_or p key false rest found is = is

-- the first key that passes a test
pub find_names : (p : List ℕ → Bool) (es : List (String Global × Value))
    → option_map string_bytes (find (λ key. p (string_bytes key)) (keys_of es)) ≡ find p (names_of (members_view es))
find_names p [] = refl
find_names p (e ∷ es) = found_or p e.0 (p (string_bytes e.0)) _ _ (find_names p es)

more_than : (limit n : ℕ) → limit < n → nat_lt limit n ≡ true
more_than limit n more = grind (arith, nat_tests)

no_more_than : (limit n : ℕ) → n ≤ limit → nat_lt limit n ≡ false
no_more_than limit n few = grind (arith, nat_tests)

-- the list at a key
pub list_too_long : (k : Key) (limit : ℕ) (d list : Data) (vs : List Value) → get (key_text k) d ≡ Some list → as_array list ≡ Some (items_view vs)
    → limit < length vs → list_at k limit d ≡ Err (TooMany k limit)
list_too_long k limit d list vs found array more = rw (found, array, list_of_view vs, length-map vs view, more_than limit (length vs) more) refl

pub list_few : (k : Key) (limit : ℕ) (d list : Data) (vs : List Value) → get (key_text k) d ≡ Some list → as_array list ≡ Some (items_view vs)
    → length vs ≤ limit → list_at k limit d ≡ Ok (map view vs)
list_few k limit d list vs found array few = rw (found, array, list_of_view vs, length-map vs view, no_more_than limit (length vs) few) refl

-- the words of a table
pub words_listed : (d list : Data) (vs : List Value) → get (key_text key.Words) d ≡ Some list → as_array list ≡ Some (items_view vs)
    → some_words (map view vs) ≡ words_at d
words_listed d list vs found array = rw (found, array, list_of_view vs) refl

-- the handlers of a client
pub used_listed : (handlers : List HandlerPlace) (list : Data) (vs : List Value) → as_array list ≡ Some (items_view vs)
    → some_used handlers (map view vs) ≡ listed_used handlers (as_array list)
used_listed handlers list vs array = rw (array, list_of_view vs) refl

-- the addresses of a node
pub addresses_listed : (d : Data) (vs : List Value) → as_array d ≡ Some (items_view vs) → some_addresses (map view vs) ≡ addresses_in d (as_array d)
addresses_listed d vs array = rw (array, list_of_view vs) refl

-- the first key that isn't known, and none
pub key_unknown : (known : List Key) (d : Data) (m : BTreeMap (String Global) Value) (name : String Global) → as_table d ≡ Some (table_view m)
    → find (λ n. not (is_known known (string_bytes n))) (keys m) ≡ Some name → Some (UnknownKey (told (string_bytes name))) ≡ key_fault known d
key_unknown known d m name seen found = rw (seen, ← find_names (λ n. not (is_known known n)) m.entries, found) refl

pub keys_known : (known : List Key) (d : Data) (m : BTreeMap (String Global) Value) → as_table d ≡ Some (table_view m)
    → find (λ n. not (is_known known (string_bytes n))) (keys m) ≡ None → None ≡ key_fault known d
keys_known known d m seen none = rw (seen, ← find_names (λ n. not (is_known known n)) m.entries, none) refl
