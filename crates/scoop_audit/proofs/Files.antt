-- A system that was read: a world may open with its parties, if it has a handler.
use Rattle.std.proofs.Common.{◌≡◌, ◌≤◌, ◌+◌, ◌-◌, ◌^◌, ◌==◌, inl, inr, ℕ, Bool, true, false, cond, List, [], ◌∷◌, ◌++◌, length, map, Option, Some, None, Ok, Err, refl, sym, ap, ◌∙◌, subst, arith, length-append}
use Rattle.std.specs.Prelude.{◌&&◌, ◌||◌, flat_map, if◌then◌else◌, nat_le, nat_lt, not, option_to_list}
use Rattle.std.specs.List.{AllByRecursion, filter, list_any}
use Rattle.std.specs.Option.{option_map}
use Rattle.std.specs.Cmp.Lexicographic.{bytes_decides}
use Rattle.std.specs.declared.net.socket_addr.SocketAddr.{SocketAddr}
use Rattle.std.proofs.lemmas.Bool.Decides.{Decides-eqb, eqb_tells, nat_tests}
use Rattle.std.proofs.lemmas.List.{length-map, map-append}
use Rattle.std.proofs.lemmas.Simd.{map-map}
use Rattle.scoop_lines.specs.Reading.{Read, ◌>>=◌, each_of, unless}
use Rattle.scoop_message.specs.declared.limits.TheConstants.{MAX_CLIENTS, MAX_ENTRIES, MAX_HANDLERS, MAX_NODES, MAX_WORDS}
use Rattle.scoop_message.specs.declared.name.ClientId.{ClientId}
use Rattle.scoop_message.specs.declared.name.HandlerId.{HandlerId}
use Rattle.scoop_message.specs.Lists.{NoRepeats}
use Rattle.scoop_handler.specs.State.{AreWords}
use Rattle.scoop_handler.proofs.Basics.{by_test}
use Rattle.scoop_object.specs.Class.{ClassTable}
use Rattle.scoop_classes.specs.Classes.{class_of_name, same_text, table_of}
use Rattle.scoop_classes.specs.declared.classes.DemoClass.{DemoClass}
use Rattle.scoop_model.specs.Opening.{IsJoining, IsPlaced}
use Rattle.scoop_model.specs.Step.{Placement}
use Rattle.scoop_replay.specs.declared.node.Placed.{Placed}
use Rattle.scoop_system.specs.declared.error.Key.{Key}
use Rattle.scoop_system.specs.declared.error.Key.TheVariants as key
use Rattle.scoop_system.specs.declared.error.Place.{Place}
use Rattle.scoop_system.specs.declared.error.Place.TheVariants.{File}
use Rattle.scoop_system.specs.declared.error.Wrong.{Wrong}
use Rattle.scoop_system.specs.declared.error.Wrong.TheVariants.{NotANumber, NotWords, NoSuchNode, TooMany, Twice, WordCount}
use Rattle.scoop_system.specs.declared.place.NodePlace.{NodePlace}
use Rattle.scoop_system.specs.declared.place.HandlerPlace.{HandlerPlace}
use Rattle.scoop_system.specs.declared.place.HandlerClass.{HandlerClass}
use Rattle.scoop_system.specs.declared.place.HandlerClass.TheVariants.{Known, Own}
use Rattle.scoop_system.specs.declared.place.ClientPlace.{ClientPlace}
use Rattle.scoop_system.specs.declared.identity.Identity.{Identity}
use Rattle.scoop_system.specs.Known.{handlers_on, known_in, numbers_on}
use Rattle.scoop_system.specs.System.{NamedClass, Plan, class_named, class_table}
use Rattle.scoop_system.specs.Used.{used_at}
use Rattle.scoop_system.specs.Place.{Told, at, place_at}
use Rattle.scoop_system.specs.Addresses.{addresses_at}
use Rattle.scoop_system.specs.Value.{address_at, few as at_most, handler_name_at, in_range, key_fault, list_at, list_of, listed_words, number_at, some_word, status_at, text_at, whole_of}
use Rattle.scoop_system.specs.Value.{words_at, words_in}
use Rattle.scoop_system.specs.Meaning.{address_fault, addresses_fault, batch_at, batch_in, class_or_own, client_keys, client_of, clients_from, clients_of, handler_class, handler_keys}
use Rattle.scoop_system.specs.Meaning.{handler_of, handlers_from, handlers_of, name_fault, new_client, new_handler, new_node, node_keys, node_of, nodes_from, nodes_of}
use Rattle.scoop_system.specs.Meaning.{classes_of, file_keys, identity_of, number_of, own_class, parts_of, plan_of, status_fault, system_of, wrong_if}
use Rattle.scoop_audit.specs.Parties.{MayRun, has_handlers, joins_in, nodes_in, placed_as, placed_in, placed_on, placements_in_file}
use Rattle.scoop_audit.specs.Told.{placements_on}
use Rattle.scoop_audit.proofs.Paged.{clients_ids, none_lost}
use Rattle.scoop_audit.proofs.Known.{ArePlaces, StandsOn, clients_know}
use Rattle.scoop_audit.proofs.Reading.{ok_same, read_then, unless_none, unless_ok}
use Rattle.scoop_audit.proofs.Used.{UsesSome, used_some}
use Rattle.scoop_audit.proofs.Groups.{Apart, any_not, apart_filtered, apart_finer, apart_once, apart_snoc, grouped, groups, numbers_at}

-- ---- reading

wrong_none : (test : Bool) (w : Wrong) → wrong_if test w ≡ None → test ≡ false
wrong_none true w is = absurd (cc)
wrong_none false w is = refl

at_ok : {A : Type 0} (place : Place) (r : Read Wrong A) (x : A) → at place r ≡ Ok x → r ≡ Ok x
at_ok place (Ok y) x is = let same : y ≡ x = cc in ap (λ z. Ok z) same
at_ok place (Err w) x is = absurd (cc)

few_ok : {A : Type 0} (k : Key) (limit : ℕ) (xs ys : List A) → at_most k limit xs ≡ Ok ys → length ys ≤ limit
few_ok k limit xs ys is =
    let Q : Bool → Type 0 = λ b. (if b then Err (TooMany k limit) else Ok xs) ≡ Ok ys → length ys ≤ limit in
    by_test Q (nat_lt limit (length xs)) (λ more no. absurd (cc))
    (λ less got. let same : xs ≡ ys = cc (got) in let n : length xs ≤ limit = grind (arith, nat_tests) in subst (λ zs. length zs ≤ limit) same n) is

list_few : (k : Key) (limit : ℕ) (d : _) (ds : List _) → list_at k limit d ≡ Ok ds → length ds ≤ limit
list_few k limit d ds is = let t = read_then _ (at_most k limit) ds is in few_ok k limit t.value ds t.rest

-- ---- nodes

node_new : (nodes : List NodePlace) (d : _) (n : NodePlace) → node_of nodes d ≡ Ok n → list_any (λ m. m.number == n.number) nodes ≡ false
node_new nodes d n is =
    let last : ℕ → List SocketAddr → Option SocketAddr → Read Wrong NodePlace =
    λ number addresses status. unless (addresses_fault nodes addresses) (unless (status_fault nodes status) (Ok (new_node number addresses status))) in
    let fresh : ℕ → Option Wrong = λ number. wrong_if (list_any (λ (m : NodePlace). m.number == number) nodes) Twice in
    let end : ℕ → List SocketAddr → Option SocketAddr → Read Wrong NodePlace = λ number addresses status. unless (fresh number) (last number addresses status) in
    let a = unless_ok (key_fault node_keys d) (number_of d >>= λ number. addresses_at d >>= λ addresses. status_at d >>= λ status. end number addresses status) n is in
    let b = read_then (number_of d) (λ number. addresses_at d >>= λ addresses. status_at d >>= λ status. end number addresses status) n a in
    let e = read_then (addresses_at d) (λ addresses. status_at d >>= λ status. end b.value addresses status) n b.rest in
    let f = read_then (status_at d) (λ status. end b.value e.value status) n e.rest in
    let none = wrong_none (list_any (λ (m : NodePlace). m.number == b.value) nodes) Twice
    (unless_none (fresh b.value) (last b.value e.value f.value) n f.rest) in
    let g = unless_ok (fresh b.value) (last b.value e.value f.value) n f.rest in
    let h = unless_ok (addresses_fault nodes e.value) (unless (status_fault nodes f.value) (Ok (new_node b.value e.value f.value))) n g in
    let i = unless_ok (status_fault nodes f.value) (Ok (new_node b.value e.value f.value)) n h in
    let made = ok_same (Ok (new_node b.value e.value f.value)) (new_node b.value e.value f.value) n refl i in
    subst (λ (k : ℕ). list_any (λ (m : NodePlace). m.number == k) nodes ≡ false) (ap (λ (m : NodePlace). m.number) made) none

nodes_apart : (nodes : List NodePlace) (ds : List _) (ns : List NodePlace) → nodes_from nodes ds ≡ Ok ns → Apart (map (λ n. n.number) nodes)
    → Apart (map (λ n. n.number) ns)
nodes_apart nodes [] ns is apart = let same : nodes ≡ ns = cc (is) in subst (λ (xs : List NodePlace). Apart (map (λ (n : NodePlace). n.number) xs)) same apart
nodes_apart nodes (d ∷ ds) ns is apart =
    let place = place_at key.Node (length nodes + 1) d in
    let t = read_then (at place (node_of nodes d)) (λ n. nodes_from (nodes ++ n ∷ []) ds) ns is in
    let n = t.value in
    let none = any_not (λ (m : NodePlace). m.number) nodes n.number (node_new nodes d n (at_ok place (node_of nodes d) n t.first)) in
    nodes_apart (nodes ++ n ∷ []) ds ns t.rest
    (subst Apart (sym (map-append (λ (m : NodePlace). m.number) nodes (n ∷ []))) (apart_snoc (map (λ (m : NodePlace). m.number) nodes) n.number apart none))

-- ---- clients

record IsSoundClient (handlers : List HandlerPlace) (c : ClientPlace) : Type 0 where
  some : 1 ≤ c.batch
  limit : c.batch ≤ MAX_ENTRIES
  uses : UsesSome handlers c.handlers

batch_in_range : (d : Option _) (b : ℕ) → batch_in d ≡ Ok b → (1 ≤ b) × (b ≤ MAX_ENTRIES)
batch_in_range None b is = let same : 1 ≡ b = cc (is) in (omega arith, omega arith)
batch_in_range (Some d) b is = ranged (whole_of d) is
  where
    ranged : (o : Option ℕ) → in_range key.Batch 1 MAX_ENTRIES o ≡ Ok b → (1 ≤ b) × (b ≤ MAX_ENTRIES)
    ranged None got = absurd (cc)
    ranged (Some n) got =
        let Q : Bool → Type 0 = λ t. (if t then Ok n else Err (NotANumber key.Batch 1 MAX_ENTRIES)) ≡ Ok b → (1 ≤ b) × (b ≤ MAX_ENTRIES) in
        by_test Q (nat_le 1 n && nat_le n MAX_ENTRIES)
        (λ in_it has. let same : n ≡ b = cc (has) in (grind (arith, nat_tests), grind (arith, nat_tests))) (λ out no. absurd (cc)) got

batch_read : (d : _) (b : ℕ) → batch_at d ≡ Ok b → (1 ≤ b) × (b ≤ MAX_ENTRIES)
batch_read d b is = search batch_in_range

record IsNewClient (handlers : List HandlerPlace) (clients : List ClientPlace) (c : ClientPlace) : Type 0 where
  new : list_any (λ k. k.client.0 == c.client.0) clients ≡ false
  sound : IsSoundClient handlers c

client_new : (nodes : List NodePlace) (handlers : List HandlerPlace) (clients : List ClientPlace) (d : _) (c : ClientPlace)
    → client_of nodes handlers clients d ≡ Ok c → IsNewClient handlers clients c
client_new nodes handlers clients d c is =
    let last : ℕ → SocketAddr → ℕ → Option (List HandlerId) → Read Wrong ClientPlace =
    λ number address batch used. unless (address_fault nodes clients address) (Ok (new_client number address batch used)) in
    let fresh : ℕ → Option Wrong = λ number. wrong_if (list_any (λ (k : ClientPlace). k.client.0 == number) clients) Twice in
    let end : ℕ → SocketAddr → ℕ → Option (List HandlerId) → Read Wrong ClientPlace =
    λ number address batch used. unless (fresh number) (last number address batch used) in
    let a = unless_ok (key_fault client_keys d)
    (number_of d >>= λ number. address_at d >>= λ address. batch_at d >>= λ batch. used_at handlers d >>= λ used. end number address batch used) c is in
    let b = read_then (number_of d) (λ number. address_at d >>= λ address. batch_at d >>= λ batch. used_at handlers d >>= λ used.
    end number address batch used) c a in
    let e = read_then (address_at d) (λ address. batch_at d >>= λ batch. used_at handlers d >>= λ used. end b.value address batch used) c b.rest in
    let f = read_then (batch_at d) (λ batch. used_at handlers d >>= λ used. end b.value e.value batch used) c e.rest in
    let u = read_then (used_at handlers d) (λ used. end b.value e.value f.value used) c f.rest in
    let none = wrong_none (list_any (λ (k : ClientPlace). k.client.0 == b.value) clients) Twice
    (unless_none (fresh b.value) (last b.value e.value f.value u.value) c u.rest) in
    let g = unless_ok (fresh b.value) (last b.value e.value f.value u.value) c u.rest in
    let new : ClientPlace = new_client b.value e.value f.value u.value in
    let h = unless_ok (address_fault nodes clients e.value) (Ok new) c g in
    let made = ok_same (Ok new) new c refl h in
    let range = batch_read d f.value f.first in
    let sound : IsSoundClient handlers new = record { some = range.0; limit = range.1; uses = used_some handlers d u.value u.first } in
    record {
      new = subst (λ (k : ℕ). list_any (λ (x : ClientPlace). x.client.0 == k) clients ≡ false) (ap (λ (x : ClientPlace). x.client.0) made) none;
      sound = subst (IsSoundClient handlers) made sound;
    }

record AreClients (handlers : List HandlerPlace) (clients : List ClientPlace) (count : ℕ) : Type 0 where
  apart : Apart (map (λ c. c.client.0) clients)
  sound : AllByRecursion (IsSoundClient handlers) clients
  number : length clients ≡ count

all_snoc : {A : Type 0} (P : A → Type 0) (xs : List A) (x : A) → AllByRecursion P xs → P x → AllByRecursion P (xs ++ x ∷ [])
all_snoc P [] x all one = (one, tt)
all_snoc P (y ∷ xs) x all one = (all.0, all_snoc P xs x all.1 one)

clients_sound :
    (nodes : List NodePlace) (handlers : List HandlerPlace) (clients : List ClientPlace) (count : ℕ) (ds : List _) (cs : List ClientPlace)
    → clients_from nodes handlers clients ds ≡ Ok cs → AreClients handlers clients count → AreClients handlers cs (count + length ds)
clients_sound nodes handlers clients count [] cs is are =
    let same : clients ≡ cs = cc (is) in
    let whole : count ≡ count + 0 = omega arith in
    subst (AreClients handlers cs) whole (subst (λ (xs : List ClientPlace). AreClients handlers xs count) same are)
clients_sound nodes handlers clients count (d ∷ ds) cs is are =
    let place = place_at key.Client (length clients + 1) d in
    let t = read_then (at place (client_of nodes handlers clients d)) (λ c. clients_from nodes handlers (clients ++ c ∷ []) ds) cs is in
    let c = t.value in
    let new = client_new nodes handlers clients d c (at_ok place (client_of nodes handlers clients d) c t.first) in
    let none = any_not (λ (k : ClientPlace). k.client.0) clients c.client.0 new.new in
    let long = are.number in
    let more : AreClients handlers (clients ++ c ∷ []) (count + 1) =
    record {
      apart =
          subst Apart (sym (map-append (λ (k : ClientPlace). k.client.0) clients (c ∷ [])))
          (apart_snoc (map (λ (k : ClientPlace). k.client.0) clients) c.client.0 are.apart none);
      sound = all_snoc (IsSoundClient handlers) clients c are.sound new.sound;
      number = length-append clients (c ∷ []) ∙ omega arith;
    } in
    let whole : (count + 1) + length ds ≡ count + length (d ∷ ds) = omega arith in
    subst (AreClients handlers cs) whole (clients_sound nodes handlers (clients ++ c ∷ []) (count + 1) ds cs t.rest more)

clients_join : (s : Plan) (handlers : List HandlerPlace) (cs : List ClientPlace) → AllByRecursion (IsSoundClient handlers) cs
    → AllByRecursion IsJoining (map (joins_in s) cs)
clients_join s handlers [] sound = tt
clients_join s handlers (c ∷ cs) sound = (record { some = sound.0.some; limit = sound.0.limit; next = omega arith }, clients_join s handlers cs sound.1)

-- ---- the class of a handler

found_name : (classes : List NamedClass) (name : List ℕ) (c : NamedClass) → class_named classes name ≡ Some c → c.name ≡ name
found_name [] name c is = absurd (cc)
found_name (k ∷ ks) name c is =
    let Q : Bool → Type 0 = λ b. cond b (Some k) (class_named ks name) ≡ Some c → c.name ≡ name in
    by_test Q (same_text k.name name)
    (λ named here. let same : k ≡ c = cc (here) in sym (ap (λ (x : NamedClass). x.name) same) ∙ (bytes_decides k.name name).0 named)
    (λ other later. found_name ks name c later) is

record IsClassOf (classes : List NamedClass) (h : HandlerClass × ℕ) : Type 0 where
  class : ClassTable
  found : class_table classes h.0 ≡ Some class
  words : h.1 ≡ class.words

own_found : (classes : List NamedClass) (name : List ℕ) (o : Option NamedClass) (h : HandlerClass × ℕ) → class_named classes name ≡ o → own_class name o ≡ Ok h
    → IsClassOf classes h
own_found classes name None h is got = absurd (cc)
own_found classes name (Some c) h is got =
    let again : class_named classes c.name ≡ Some c = subst (λ n. class_named classes n ≡ Some c) (sym (found_name classes name c is)) is in
    let pair : HandlerClass × ℕ = (Own c.name, c.table.words) in
    let same : pair ≡ h = cc (got) in
    let own : IsClassOf classes pair =
    record { class = c.table; found = ap (option_map (λ (x : NamedClass). x.table)) again; words = refl } in
    subst (IsClassOf classes) same own

class_found : (classes : List NamedClass) (name : List ℕ) (o : Option DemoClass) (h : HandlerClass × ℕ) → class_or_own classes name o ≡ Ok h
    → IsClassOf classes h
class_found classes name None h got = own_found classes name (class_named classes name) h refl got
class_found classes name (Some k) h got =
    let pair : HandlerClass × ℕ = (Known k, (table_of k).words) in
    let same : pair ≡ h = cc (got) in
    let known : IsClassOf classes pair = record { class = table_of k; found = refl; words = refl } in
    subst (IsClassOf classes) same known

-- ---- its words

as_many : (ds : List _) (ws : List ℕ) → each_of some_word ds ≡ Ok ws → length ws ≡ length ds
as_many [] ws is = let same : [] ≡ ws = cc (is) in sym (ap length same)
as_many (d ∷ ds) ws is =
    let t = read_then (some_word d) (λ x. each_of some_word ds >>= λ xs. Ok (x ∷ xs)) ws is in
    let u = read_then (each_of some_word ds) (λ xs. Ok (t.value ∷ xs)) ws t.rest in
    let same : t.value ∷ u.value ≡ ws = cc (u.rest) in
    let count : length u.value ≡ length ds = as_many ds u.value u.first in
    sym (ap length same) ∙ omega arith

words_some : (ds : List _) (ws : List ℕ)
    → (if nat_le 1 (length ds) && nat_le (length ds) MAX_WORDS then each_of some_word ds else Err NotWords) ≡ Ok ws → AreWords ws
words_some ds ws is =
    let Q : Bool → Type 0 = λ t. (if t then each_of some_word ds else Err NotWords) ≡ Ok ws → AreWords ws in
    by_test Q (nat_le 1 (length ds) && nat_le (length ds) MAX_WORDS)
    (λ in_it got.
    let count = as_many ds ws got in
    let some : 1 ≤ length ds = grind (arith, nat_tests) in
    let few : length ds ≤ MAX_WORDS = grind (arith, nat_tests) in
    record { some = omega arith; few = omega arith }) (λ out no. absurd (cc)) is

words_listed : (o : Option _) (ws : List ℕ) → listed_words o ≡ Ok ws → AreWords ws
words_listed None ws is = absurd (cc)
words_listed (Some ds) ws is = words_some (list_of ds) ws is

words_read : (o : Option _) (ws : List ℕ) → words_in o ≡ Ok ws → AreWords ws
words_read None ws is = absurd (cc)
words_read (Some d) ws is = search words_listed

words_at_read : (d : _) (ws : List ℕ) → words_at d ≡ Ok ws → AreWords ws
words_at_read d ws is = search words_read

-- ---- handlers

record IsSound (classes : List NamedClass) (nodes : List NodePlace) (h : HandlerPlace) : Type 0 where
  class : ClassTable
  found : class_table classes h.class ≡ Some class
  words : AreWords h.words
  same : length h.words ≡ class.words
  stands : list_any (λ n. n.number == h.node) nodes ≡ true

record IsNewHandler (classes : List NamedClass) (nodes : List NodePlace) (handlers : List HandlerPlace) (h : HandlerPlace) : Type 0 where
  new : list_any (λ g. g.handler.0 == h.handler.0) handlers ≡ false
  sound : IsSound classes nodes h

not_false : (b : Bool) (w : Wrong) → wrong_if (not b) w ≡ None → b ≡ true
not_false true w is = refl
not_false false w is = absurd (cc)

abbrev fits : List ℕ → ℕ → Option Wrong
fits words count = wrong_if (not (length words == count)) (WordCount (length words) count)

abbrev there : List NodePlace → ℕ → Option Wrong
there nodes node = wrong_if (not (list_any (λ n. n.number == node) nodes)) (NoSuchNode node)

abbrev fresh : List HandlerPlace → ℕ → Option Wrong
fresh handlers number = wrong_if (list_any (λ h. h.handler.0 == number) handlers) Twice

abbrev made : ℕ → ℕ → List ℕ → Option (List ℕ) → HandlerClass × ℕ → Read Wrong HandlerPlace
made number node words name class = unless (fits words class.1) (Ok (new_handler number node class.0 words name))

abbrev classed : List NamedClass → ℕ → ℕ → List ℕ → List ℕ → Option (List ℕ) → Read Wrong HandlerPlace
classed classes number node text words name = handler_class classes text >>= λ class. made number node words name class

abbrev standing : List NamedClass → List NodePlace → ℕ → ℕ → List ℕ → List ℕ → Option (List ℕ) → Read Wrong HandlerPlace
standing classes nodes number node text words name = unless (there nodes node) (classed classes number node text words name)

abbrev named : List NamedClass → List NodePlace → List HandlerPlace → ℕ → ℕ → List ℕ → List ℕ → Option (List ℕ) → Read Wrong HandlerPlace
named classes nodes handlers number node text words name = unless (name_fault handlers name) (standing classes nodes number node text words name)

abbrev handler_end : List NamedClass → List NodePlace → List HandlerPlace → ℕ → ℕ → List ℕ → List ℕ → Option (List ℕ) → Read Wrong HandlerPlace
handler_end classes nodes handlers number node text words name = unless (fresh handlers number) (named classes nodes handlers number node text words name)

record IsSoundOf (classes : List NamedClass) (nodes : List NodePlace) (number : ℕ) (h : HandlerPlace) : Type 0 where
  number_is : number ≡ h.handler.0
  sound : IsSound classes nodes h

made_sound :
    (classes : List NamedClass) (nodes : List NodePlace) (number node : ℕ) (words : List ℕ) (name : Option (List ℕ)) (class : HandlerClass × ℕ)
    (h : HandlerPlace) → made number node words name class ≡ Ok h → AreWords words → list_any (λ n. n.number == node) nodes ≡ true
    → IsClassOf classes class → IsSoundOf classes nodes number h
made_sound classes nodes number node words name class h is some stands found =
    let result : HandlerPlace = new_handler number node class.0 words name in
    let equal = not_false (length words == class.1) (WordCount (length words) class.1) (unless_none (fits words class.1) (Ok result) h is) in
    let count : length words ≡ class.1 = (Decides-eqb (length words) class.1).0 equal in
    let same : result ≡ h = ok_same (Ok result) result h refl (unless_ok (fits words class.1) (Ok result) h is) in
    let sound : IsSoundOf classes nodes number result =
    record {
      number_is = refl;
      sound = record { class = found.class; found = found.found; words = some; same = count ∙ found.words; stands = stands };
    } in
    subst (IsSoundOf classes nodes number) same sound

standing_sound :
    (classes : List NamedClass) (nodes : List NodePlace) (number node : ℕ) (text words : List ℕ) (name : Option (List ℕ)) (h : HandlerPlace)
    → standing classes nodes number node text words name ≡ Ok h → AreWords words → IsSoundOf classes nodes number h
standing_sound classes nodes number node text words name h is some =
    let rest = classed classes number node text words name in
    let stands = not_false (list_any (λ (n : NodePlace). n.number == node) nodes) (NoSuchNode node) (unless_none (there nodes node) rest h is) in
    let class = read_then (handler_class classes text) (made number node words name) h (unless_ok (there nodes node) rest h is) in
    made_sound classes nodes number node words name class.value h class.rest some stands
    (class_found classes text (class_of_name text) class.value class.first)

end_sound :
    (classes : List NamedClass) (nodes : List NodePlace) (handlers : List HandlerPlace) (number node : ℕ) (text words : List ℕ) (name : Option (List ℕ))
    (h : HandlerPlace) → handler_end classes nodes handlers number node text words name ≡ Ok h → AreWords words → IsNewHandler classes nodes handlers h
end_sound classes nodes handlers number node text words name h is some =
    let rest = named classes nodes handlers number node text words name in
    let last = standing classes nodes number node text words name in
    let new = wrong_none (list_any (λ (g : HandlerPlace). g.handler.0 == number) handlers) Twice (unless_none (fresh handlers number) rest h is) in
    let stands = unless_ok (name_fault handlers name) last h (unless_ok (fresh handlers number) rest h is) in
    let sound = standing_sound classes nodes number node text words name h stands some in
    record {
      new = subst (λ (k : ℕ). list_any (λ (g : HandlerPlace). g.handler.0 == k) handlers ≡ false) sound.number_is new;
      sound = sound.sound;
    }

module _ (classes : List NamedClass) (nodes : List NodePlace) (handlers : List HandlerPlace) (h : HandlerPlace) where
  name_new :
      (number node : ℕ) (text words : List ℕ) (d : _) → (handler_name_at d >>= handler_end classes nodes handlers number node text words) ≡ Ok h
      → AreWords words → IsNewHandler classes nodes handlers h
  name_new number node text words d is some =
      let name = read_then (handler_name_at d) (handler_end classes nodes handlers number node text words) h is in
      end_sound classes nodes handlers number node text words name.value h name.rest some

  words_new :
      (number node : ℕ) (text : List ℕ) (d : _)
      → (words_at d >>= λ words. handler_name_at d >>= handler_end classes nodes handlers number node text words) ≡ Ok h
      → IsNewHandler classes nodes handlers h
  words_new number node text d is =
      let words = read_then (words_at d) (λ words. handler_name_at d >>= handler_end classes nodes handlers number node text words) h is in
      name_new number node text words.value d words.rest (words_at_read d words.value words.first)

  text_new :
      (number node : ℕ) (d : _)
      → (text_at key.Class d >>= λ text. words_at d >>= λ words. handler_name_at d >>= handler_end classes nodes handlers number node text words) ≡ Ok h
      → IsNewHandler classes nodes handlers h
  text_new number node d is =
      let text = read_then (text_at key.Class d)
      (λ text. words_at d >>= λ words. handler_name_at d >>= handler_end classes nodes handlers number node text words) h is in
      words_new number node text.value d text.rest

  node_at_new :
      (number : ℕ) (d : _)
      → (number_at key.Node 0 (2 ^ 32 - 1) d >>= λ node. text_at key.Class d >>= λ text. words_at d >>= λ words. handler_name_at d
      >>= handler_end classes nodes handlers number node text words) ≡ Ok h → IsNewHandler classes nodes handlers h
  node_at_new number d is =
      let node = read_then (number_at key.Node 0 (2 ^ 32 - 1) d)
      (λ node. text_at key.Class d >>= λ text. words_at d >>= λ words. handler_name_at d >>= handler_end classes nodes handlers number node text words) h is in
      text_new number node.value d node.rest

  number_new :
      (d : _)
      → (number_of d >>= λ number. number_at key.Node 0 (2 ^ 32 - 1) d >>= λ node. text_at key.Class d >>= λ text. words_at d >>= λ words. handler_name_at d
      >>= handler_end classes nodes handlers number node text words) ≡ Ok h → IsNewHandler classes nodes handlers h
  number_new d is =
      let number = read_then (number_of d)
      (λ number. number_at key.Node 0 (2 ^ 32 - 1) d >>= λ node. text_at key.Class d >>= λ text. words_at d >>= λ words. handler_name_at d
      >>= handler_end classes nodes handlers number node text words) h is in
      node_at_new number.value d number.rest

  handler_new : (d : _) → handler_of classes nodes handlers d ≡ Ok h → IsNewHandler classes nodes handlers h
  handler_new d is =
      number_new d
      (unless_ok (key_fault handler_keys d)
      (number_of d >>= λ number. number_at key.Node 0 (2 ^ 32 - 1) d >>= λ node. text_at key.Class d >>= λ text. words_at d >>= λ words. handler_name_at d
      >>= handler_end classes nodes handlers number node text words) h is)

record AreHandlers (classes : List NamedClass) (nodes : List NodePlace) (handlers : List HandlerPlace) (count : ℕ) : Type 0 where
  apart : Apart (map (λ h. h.handler.0) handlers)
  sound : AllByRecursion (IsSound classes nodes) handlers
  number : length handlers ≡ count

handlers_sound :
    (classes : List NamedClass) (nodes : List NodePlace) (handlers : List HandlerPlace) (count : ℕ) (ds : List _) (hs : List HandlerPlace)
    → handlers_from classes nodes handlers ds ≡ Ok hs → AreHandlers classes nodes handlers count → AreHandlers classes nodes hs (count + length ds)
handlers_sound classes nodes handlers count [] hs is are =
    let same : handlers ≡ hs = cc (is) in
    let whole : count ≡ count + 0 = omega arith in
    subst (AreHandlers classes nodes hs) whole (subst (λ (xs : List HandlerPlace). AreHandlers classes nodes xs count) same are)
handlers_sound classes nodes handlers count (d ∷ ds) hs is are =
    let place = place_at key.Handler (length handlers + 1) d in
    let t = read_then (at place (handler_of classes nodes handlers d)) (λ h. handlers_from classes nodes (handlers ++ h ∷ []) ds) hs is in
    let h = t.value in
    let new = handler_new classes nodes handlers h d (at_ok place (handler_of classes nodes handlers d) h t.first) in
    let none = any_not (λ (g : HandlerPlace). g.handler.0) handlers h.handler.0 new.new in
    let long = are.number in
    let more : AreHandlers classes nodes (handlers ++ h ∷ []) (count + 1) =
    record {
      apart =
          subst Apart (sym (map-append (λ (g : HandlerPlace). g.handler.0) handlers (h ∷ [])))
          (apart_snoc (map (λ (g : HandlerPlace). g.handler.0) handlers) h.handler.0 are.apart none);
      sound = all_snoc (IsSound classes nodes) handlers h are.sound new.sound;
      number = length-append handlers (h ∷ []) ∙ omega arith;
    } in
    let whole : (count + 1) + length ds ≡ count + length (d ∷ ds) = omega arith in
    subst (AreHandlers classes nodes hs) whole (handlers_sound classes nodes (handlers ++ h ∷ []) (count + 1) ds hs t.rest more)

-- ---- as they are placed

abbrev IsFit : Placed → Type 0
IsFit p = AreWords p.words × (length p.words ≡ p.class.words)

abbrev with_class : List NamedClass → List HandlerPlace → List Placed
with_class classes hs = flat_map (λ h. option_to_list (placed_in classes h)) hs

record ArePlaced (classes : List NamedClass) (hs : List HandlerPlace) : Type 0 where
  names : map (λ p. p.handler.0) (with_class classes hs) ≡ map (λ h. h.handler.0) hs
  fit : AllByRecursion IsFit (with_class classes hs)

all_placed : (classes : List NamedClass) (nodes : List NodePlace) (hs : List HandlerPlace) → AllByRecursion (IsSound classes nodes) hs → ArePlaced classes hs
all_placed classes nodes [] sound = record { names = refl; fit = tt }
all_placed classes nodes (h ∷ hs) sound =
    let rest = all_placed classes nodes hs sound.1 in
    let p : Placed = placed_as h sound.0.class in
    let first : with_class classes (h ∷ hs) ≡ p ∷ with_class classes hs =
    ap (λ o. option_to_list (option_map (placed_as h) o) ++ with_class classes hs) sound.0.found in
    let one : IsFit p = (sound.0.words, sound.0.same) in
    let fit : AllByRecursion IsFit (p ∷ with_class classes hs) = (one, rest.fit) in
    record {
      names = ap (map (λ (q : Placed). q.handler.0)) first ∙ ap (λ ks. h.handler.0 ∷ ks) rest.names;
      fit = subst (AllByRecursion IsFit) (sym first) fit;
    }

all_filtered : {A : Type 0} (P : A → Type 0) (test : A → Bool) (xs : List A) → AllByRecursion P xs → AllByRecursion P (filter test xs)
all_filtered P test [] all = tt
all_filtered P test (x ∷ xs) all = kept (test x) (all_filtered P test xs all.1)
  where
    kept : (b : Bool) → AllByRecursion P (filter test xs) → AllByRecursion P (cond b (x ∷ filter test xs) (filter test xs))
    kept true rest = (all.0, rest)
    kept false rest = rest

all_both : {A : Type 0} (P : A → Type 0) (xs ys : List A) → AllByRecursion P xs → AllByRecursion P ys → AllByRecursion P (xs ++ ys)
all_both P [] ys all more = more
all_both P (x ∷ xs) ys all more = (all.0, all_both P xs ys all.1 more)

fit_placed : (n : ℕ) (ps : List Placed) → AllByRecursion IsFit ps → AllByRecursion IsPlaced (placements_on n ps)
fit_placed n [] fit = tt
fit_placed n (p ∷ ps) fit = (record { words = fit.0.0; class = fit.0.1 }, fit_placed n ps fit.1)

names_placed : (n : ℕ) (ps : List Placed) → map (λ p. p.handler.0) (placements_on n ps) ≡ map (λ p. p.handler.0) ps
names_placed n [] = refl
names_placed n (p ∷ ps) = ap (λ ks. p.handler.0 ∷ ks) (names_placed n ps)

abbrev placements_at : Plan → List NodePlace → List Placement
placements_at s ns = flat_map (λ n. placements_on n.number (placed_on s n.number)) ns

record AreStanding (s : Plan) (ns : List NodePlace) : Type 0 where
  names : map (λ p. p.handler.0) (placements_at s ns) ≡ grouped (map (λ n. n.number) ns) s.handlers
  placed : AllByRecursion IsPlaced (placements_at s ns)

all_standing : (s : Plan) (ns : List NodePlace) → AllByRecursion (IsSound s.classes s.nodes) s.handlers → AreStanding s ns
all_standing s [] sound = record { names = refl; placed = tt }
all_standing s (n ∷ ns) sound =
    let rest = all_standing s ns sound in
    let here = all_filtered (IsSound s.classes s.nodes) (λ (h : HandlerPlace). h.node == n.number) s.handlers sound in
    let p = all_placed s.classes s.nodes (handlers_on n.number s.handlers) here in
    let name = λ (q : Placement). q.handler.0 in
    record {
      names =
          map-append name (placements_on n.number (placed_on s n.number)) (placements_at s ns)
          ∙ (ap (λ ks. ks ++ map name (placements_at s ns)) (names_placed n.number (placed_on s n.number) ∙ p.names)
          ∙ ap (λ ks. numbers_at n.number s.handlers ++ ks) rest.names);
      placed =
          all_both IsPlaced (placements_on n.number (placed_on s n.number)) (placements_at s ns) (fit_placed n.number (placed_on s n.number) p.fit) rest.placed;
    }

-- ---- one at least

some_here : (k : ℕ) (hs : List HandlerPlace) → list_any (λ h. h.node == k) hs ≡ true → 1 ≤ length (numbers_at k hs)
some_here k [] is = absurd (cc)
some_here k (h ∷ hs) is = first (h.node == k) (some_here k hs) is
  where
    first : (b : Bool) → (list_any (λ h. h.node == k) hs ≡ true → 1 ≤ length (numbers_at k hs)) → (b || list_any (λ h. h.node == k) hs) ≡ true
        → 1 ≤ length (map (λ (g : HandlerPlace). g.handler.0) (cond b (h ∷ handlers_on k hs) (handlers_on k hs)))
    first true rest is = omega arith
    first false rest is = rest is

some_grouped : (s : Plan) (k : ℕ) (ns : List NodePlace) → has_handlers s k ≡ true → list_any (λ n. n.number == k) ns ≡ true
    → 1 ≤ length (grouped (map (λ n. n.number) (filter (λ n. has_handlers s n.number) ns)) s.handlers)
some_grouped s k [] has is = absurd (cc)
some_grouped s k (n ∷ ns) has is =
    let rest = filter (λ (m : NodePlace). has_handlers s m.number) ns in
    let later = grouped (map (λ (m : NodePlace). m.number) rest) s.handlers in
    let Q : Bool → Type 0 = λ b. 1 ≤ length (grouped (map (λ (m : NodePlace). m.number) (cond b (n ∷ rest) rest)) s.handlers) in
    elim (eqb_tells n.number k) [
      | inl t ↦
          let here : has_handlers s n.number ≡ true = ap (has_handlers s) t.1 ∙ has in
          let some = some_here n.number s.handlers here in
          let first : Q true = omega (arith, length-append (numbers_at n.number s.handlers) later) in
          subst Q (sym here) first
      | inr f ↦
          let some = some_grouped s k ns has (subst (λ b. (b || list_any (λ (m : NodePlace). m.number == k) ns) ≡ true) f.0 is) in
          by_test Q (has_handlers s n.number) (λ here. omega (arith, length-append (numbers_at n.number s.handlers) later)) (λ none. some)
    ]

first_stands : (s : Plan) (hs : List HandlerPlace) → s.handlers ≡ hs → 1 ≤ length hs → AllByRecursion (IsSound s.classes s.nodes) hs
    → 1 ≤ length (grouped (map (λ n. n.number) (nodes_in s)) s.handlers)
first_stands s [] is some sound = absurd (omega arith)
first_stands s (h ∷ hs) is some sound =
    let self : (h.node == h.node) ≡ true = (Decides-eqb h.node h.node).1 refl in
    let has : has_handlers s h.node ≡ true =
    ap (list_any (λ (g : HandlerPlace). g.node == h.node)) is ∙ ap (λ b. b || list_any (λ (g : HandlerPlace). g.node == h.node) hs) self in
    some_grouped s h.node s.nodes has sound.0.stands

-- ---- all

record IsSoundPlan (s : Plan) : Type 0 where
  nodes : Apart (map (λ n. n.number) s.nodes)
  handlers : Apart (map (λ h. h.handler.0) s.handlers)
  sound : AllByRecursion (IsSound s.classes s.nodes) s.handlers
  few : length s.handlers ≤ MAX_HANDLERS
  clients : Apart (map (λ c. c.client.0) s.clients)
  joining : AllByRecursion (IsSoundClient s.handlers) s.clients
  few_clients : length s.clients ≤ MAX_CLIENTS

plan_sound : (d : _) (s : Plan) → system_of d ≡ Ok s → IsSoundPlan s
plan_sound d s is =
    let with_clients : Identity → List NamedClass → List NodePlace → List HandlerPlace → List ClientPlace → Told Plan =
    λ identity classes nodes handlers clients. Ok (plan_of identity classes nodes handlers clients) in
    let with_handlers : _ → Identity → List NamedClass → List NodePlace → List HandlerPlace → Told Plan =
    λ file identity classes nodes handlers. clients_of nodes handlers file >>= with_clients identity classes nodes handlers in
    let with_nodes : _ → Identity → List NamedClass → List NodePlace → Told Plan =
    λ file identity classes nodes. handlers_of classes nodes file >>= with_handlers file identity classes nodes in
    let with_classes : _ → Identity → List NamedClass → Told Plan = λ file identity classes. nodes_of file >>= with_nodes file identity classes in
    let file = read_then (at File (unless (key_fault file_keys d) (Ok d))) (λ file. identity_of file >>= λ identity. parts_of identity file) s is in
    let f = file.value in
    let identity = read_then (identity_of f) (λ identity. parts_of identity f) s file.rest in
    let i = identity.value in
    let classes = read_then (classes_of f) (with_classes f i) s identity.rest in
    let nodes = read_then (nodes_of f) (with_nodes f i classes.value) s classes.rest in
    let handlers = read_then (handlers_of classes.value nodes.value f) (with_handlers f i classes.value nodes.value) s nodes.rest in
    let clients = read_then (clients_of nodes.value handlers.value f) (with_clients i classes.value nodes.value handlers.value) s handlers.rest in
    let plan : Plan = plan_of i classes.value nodes.value handlers.value clients.value in
    let same = ok_same (Ok plan) plan s refl clients.rest in
    let n = read_then (at File (list_at key.Node MAX_NODES f)) (nodes_from []) nodes.value nodes.first in
    let h = read_then (at File (list_at key.Handler MAX_HANDLERS f)) (handlers_from classes.value nodes.value []) handlers.value handlers.first in
    let c = read_then (at File (list_at key.Client MAX_CLIENTS f)) (clients_from nodes.value handlers.value []) clients.value clients.first in
    let few = list_few key.Handler MAX_HANDLERS f h.value (at_ok File (list_at key.Handler MAX_HANDLERS f) h.value h.first) in
    let few_clients = list_few key.Client MAX_CLIENTS f c.value (at_ok File (list_at key.Client MAX_CLIENTS f) c.value c.first) in
    let hs = handlers_sound classes.value nodes.value [] 0 h.value handlers.value h.rest (record { apart = tt; sound = tt; number = refl }) in
    let cs = clients_sound nodes.value handlers.value [] 0 c.value clients.value c.rest (record { apart = tt; sound = tt; number = refl }) in
    let count = hs.number in
    let count_clients = cs.number in
    let sound : IsSoundPlan plan =
    record {
      nodes = nodes_apart [] n.value nodes.value n.rest tt;
      handlers = hs.apart;
      sound = hs.sound;
      few = omega arith;
      clients = cs.apart;
      joining = cs.sound;
      few_clients = omega arith;
    } in
    subst IsSoundPlan same sound

-- the handlers that are placed, in their order
abbrev numbered : ℕ → HandlerId
numbered n = record { 0 = n }

all_numbered : (s : Plan) (ks : List ℕ) → map numbered (grouped ks s.handlers) ≡ flat_map (λ k. numbers_on k s.handlers) ks
all_numbered s [] = refl
all_numbered s (k ∷ ks) =
    map-append numbered (numbers_at k s.handlers) (grouped ks s.handlers)
    ∙ (ap (λ hs. hs ++ map numbered (grouped ks s.handlers)) (map-map numbered (λ (h : HandlerPlace). h.handler.0) (handlers_on k s.handlers))
    ∙ ap (λ hs. numbers_on k s.handlers ++ hs) (all_numbered s ks))

all_known : (s : Plan) → AreStanding s (nodes_in s) → known_in s ≡ map (λ (p : Placement). p.handler) (placements_in_file s)
all_known s stand =
    sym (none_lost s s.nodes) ∙ (sym (all_numbered s (map (λ (n : NodePlace). n.number) (nodes_in s)))
    ∙ (ap (map numbered) (sym stand.names) ∙ map-map numbered (λ (p : Placement). p.handler.0) (placements_in_file s)))

all_stand : (s : Plan) (hs : List HandlerPlace) → AllByRecursion (IsSound s.classes s.nodes) hs → AllByRecursion (StandsOn s.nodes) hs
all_stand s [] sound = tt
all_stand s (h ∷ hs) sound = (sound.0.stands, all_stand s hs sound.1)

all_use : (handlers : List HandlerPlace) (cs : List ClientPlace) → AllByRecursion (IsSoundClient handlers) cs
    → AllByRecursion (λ c. UsesSome handlers c.handlers) cs
all_use handlers [] sound = tt
all_use handlers (c ∷ cs) sound = (sound.0.uses, all_use handlers cs sound.1)

pub plan_may_run : (d : _) (s : Plan) → system_of d ≡ Ok s → 1 ≤ length s.handlers → MayRun s
plan_may_run d s is some =
    let sound = plan_sound d s is in
    let ks : List ℕ = map (λ (n : NodePlace). n.number) (nodes_in s) in
    let nodes = apart_filtered (λ (n : NodePlace). n.number) (λ (n : NodePlace). has_handlers s n.number) s.nodes sound.nodes in
    let g = groups ks s.handlers nodes sound.handlers in
    let stand = all_standing s (nodes_in s) sound.sound in
    let name = λ (p : Placement). p.handler.0 in
    let count : length (placements_in_file s) ≡ length (grouped ks s.handlers) = sym (length-map (placements_in_file s) name) ∙ ap length stand.names in
    let first = first_stands s s.handlers refl some sound.sound in
    let within = g.few in
    let few = sound.few in
    let few_clients = sound.few_clients in
    let clients = length-map s.clients (joins_in s) in
    let handlers : List HandlerId = map (λ (p : Placement). p.handler) (placements_in_file s) in
    let apart : Apart handlers =
    apart_finer (λ (p : Placement). p.handler) (λ (h : HandlerId). h.0) (placements_in_file s) (subst Apart (sym stand.names) g.apart) in
    let places : ArePlaces s handlers =
    record { are = all_known s stand; some = omega (arith, length-map (placements_in_file s) (λ (p : Placement). p.handler)); apart = apart } in
    record {
      apart = apart_once ks nodes;
      opens =
          record {
            some = omega arith;
            few = omega arith;
            apart = apart_once handlers apart;
            placed = stand.placed;
            few_clients = omega arith;
            clients_apart =
                subst NoRepeats (sym (clients_ids s s.clients))
                (apart_once (map (λ (c : ClientPlace). c.client) s.clients)
                (apart_finer (λ (c : ClientPlace). c.client) (λ (i : ClientId). i.0) s.clients sound.clients));
            joining = clients_join s s.handlers s.clients sound.joining;
            knowing = clients_know s handlers places (all_stand s s.handlers sound.sound) s.clients (all_use s.handlers s.clients sound.joining);
          };
    }
