-- Values of a TOML text, and their faults.
use Rattle.std.specs.Prelude.{ℕ, ℤ, pos, negsuc, ◌==◌, ◌&&◌, nat_le, nat_lt, not, Bool, if◌then◌else◌, List, [], ◌∷◌, length, find, Option, Some, None, Ok, Err, codes}
use Rattle.std.specs.List.{list_any}
use Rattle.std.specs.Option.{option_and_then, ok_or}
use Rattle.std.specs.declared.net.socket_addr.SocketAddr.{SocketAddr}
use Rattle.std.specs.Net.Socket.{socket_port}
use Rattle.toml.specs.Data.{Data, Items, no_items, item, Members, no_members, member, get, as_str, as_integer, as_array, as_table}
use Rattle.scoop_lines.specs.Number.{decimal_of}
use Rattle.scoop_lines.specs.Reading.{Read, ◌>>=◌, each_of}
use Rattle.scoop_message.specs.declared.limits.TheConstants.{MAX_WORDS}
use Rattle.scoop_classes.specs.Classes.{same_text}
use Rattle.scoop_system.specs.declared.error.Key.{Key}
use Rattle.scoop_system.specs.declared.error.Key.TheVariants as key
use Rattle.scoop_system.specs.declared.error.Wrong.{Wrong}
use Rattle.scoop_system.specs.declared.error.Wrong.TheVariants.{UnknownKey, Missing, NotANumber, NotAName, NotAnAddress, NotAList, NoTable, TooMany, NotWords, LineWord}
use Rattle.scoop_system.specs.Name.{is_name, told}
use Rattle.scoop_system.specs.Address.{address_of}
use Rattle.scoop_system.specs.KeyText.{key_text}

-- the values of a list
abbrev pub list_of : Items → List Data
list_of no_items = []
list_of (item d ds) = d ∷ list_of ds

-- ---- numbers

abbrev pub natural : ℤ → Option ℕ
natural (pos n) = Some n
natural (negsuc n) = None

-- a whole number from 0 on
abbrev pub whole_of : Data → Option ℕ
whole_of d = option_and_then natural (as_integer d)

abbrev pub written_or : Option (List ℕ) → Option ℕ → Option ℕ
written_or None whole = whole
written_or (Some text) whole = decimal_of text

-- a word: a whole number from 0 on, or the text of one below 2^64
abbrev pub word_of : Data → Option ℕ
word_of d = written_or (as_str d) (whole_of d)

-- the number, if it is in its range
abbrev pub in_range : Key → ℕ → ℕ → Option ℕ → Read Wrong ℕ
in_range k low high None = Err (NotANumber k low high)
in_range k low high (Some n) = if nat_le low n && nat_le n high then Ok n else Err (NotANumber k low high)

abbrev pub number_in : Key → ℕ → ℕ → Option Data → Read Wrong ℕ
number_in k low high None = Err (Missing k)
number_in k low high (Some d) = in_range k low high (whole_of d)

-- the number at a key
abbrev pub number_at : Key → ℕ → ℕ → Data → Read Wrong ℕ
number_at k low high d = number_in k low high (get (key_text k) d)

-- ---- texts

abbrev pub text_in : Key → Option Data → Read Wrong (List ℕ)
text_in k None = Err (Missing k)
text_in k (Some d) = ok_or (as_str d) (NotAName k)

-- the text at a key
abbrev pub text_at : Key → Data → Read Wrong (List ℕ)
text_at k d = text_in k (get (key_text k) d)

abbrev pub if_name : Key → List ℕ → Read Wrong (List ℕ)
if_name k text = if is_name text then Ok (told text) else Err (NotAName k)

-- the name at a key
abbrev pub name_at : Key → Data → Read Wrong (List ℕ)
name_at k d = text_at k d >>= if_name k

abbrev pub no_line_word : List ℕ → Read Wrong (Option (List ℕ))
no_line_word name = if same_text name (codes "when") then Err (LineWord name) else Ok (Some name)

abbrev pub handler_name_in : Option Data → Read Wrong (List ℕ) → Read Wrong (Option (List ℕ))
handler_name_in None name = Ok None
handler_name_in (Some d) name = name >>= no_line_word

-- the name of a handler, if it has one; `when` ends the handlers of a line, so it names none
abbrev pub handler_name_at : Data → Read Wrong (Option (List ℕ))
handler_name_at d = handler_name_in (get (key_text key.Name) d) (name_at key.Name d)

-- ---- addresses

abbrev pub with_port : Key → Option SocketAddr → Read Wrong SocketAddr
with_port k None = Err (NotAnAddress k)
with_port k (Some a) = if socket_port a == 0 then Err (NotAnAddress k) else Ok a

-- the address that the value of a key writes
abbrev pub written_address : Key → Data → Read Wrong SocketAddr
written_address k d = with_port k (option_and_then address_of (as_str d))

abbrev pub address_in : Option Data → Read Wrong SocketAddr
address_in None = Err (Missing key.Address)
address_in (Some d) = written_address key.Address d

-- the address of a table: an IP address with a port that isn't 0
abbrev pub address_at : Data → Read Wrong SocketAddr
address_at d = address_in (get (key_text key.Address) d)

abbrev pub status_in : Option Data → Read Wrong (Option SocketAddr)
status_in None = Ok None
status_in (Some d) = written_address key.Status d >>= λ a. Ok (Some a)

-- the address of a node's status page, if it has one
abbrev pub status_at : Data → Read Wrong (Option SocketAddr)
status_at d = status_in (get (key_text key.Status) d)

-- ---- tables

abbrev pub few : {A : Type 0} → Key → ℕ → List A → Read Wrong (List A)
few k limit xs = if nat_lt limit (length xs) then Err (TooMany k limit) else Ok xs

abbrev pub listed : Key → Option Items → Read Wrong (List Data)
listed k None = Err (NotAList k)
listed k (Some ds) = Ok (list_of ds)

-- the values of the list at a key; none if the key is missing
abbrev pub list_in : Key → Option Data → Read Wrong (List Data)
list_in k None = Ok []
list_in k (Some d) = listed k (as_array d)

-- at most this many values
abbrev pub list_at : Key → ℕ → Data → Read Wrong (List Data)
list_at k limit d = list_in k (get (key_text k) d) >>= few k limit

abbrev pub names_of : Members → List (List ℕ)
names_of no_members = []
names_of (member name d ms) = name ∷ names_of ms

abbrev pub is_known : List Key → List ℕ → Bool
is_known known name = list_any (λ k. same_text (key_text k) name) known

abbrev pub unknown : Option (List ℕ) → Option Wrong
unknown None = None
unknown (Some name) = Some (UnknownKey (told name))

abbrev pub table_fault : List Key → Option Members → Option Wrong
table_fault known None = Some NoTable
table_fault known (Some ms) = unknown (find (λ name. not (is_known known name)) (names_of ms))

-- the fault of a value that isn't a table of these keys: the first unknown key, by name
abbrev pub key_fault : List Key → Data → Option Wrong
key_fault known d = table_fault known (as_table d)

-- ---- words

abbrev pub some_word : Data → Read Wrong ℕ
some_word d = ok_or (word_of d) NotWords

abbrev pub some_words : List Data → Read Wrong (List ℕ)
some_words ds = if nat_le 1 (length ds) && nat_le (length ds) MAX_WORDS then each_of some_word ds else Err NotWords

abbrev pub listed_words : Option Items → Read Wrong (List ℕ)
listed_words None = Err NotWords
listed_words (Some ds) = some_words (list_of ds)

abbrev pub words_in : Option Data → Read Wrong (List ℕ)
words_in None = Err (Missing key.Words)
words_in (Some d) = listed_words (as_array d)

-- one to sixteen words
abbrev pub words_at : Data → Read Wrong (List ℕ)
words_at d = words_in (get (key_text key.Words) d)
