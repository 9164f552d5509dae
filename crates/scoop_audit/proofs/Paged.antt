-- The pages of all parties, from what was replayed one after another.
use Rattle.std.proofs.Common.{◌≡◌, ◌<◌, ◌≤◌, ◌+◌, inl, inr, ℕ, take, get_or, ◌==◌, Bool, true, false, cond, List, [], ◌∷◌, ◌++◌, length, map, suc, Some, refl, sym, ap, ◌∙◌, subst, arith}
use Rattle.std.specs.Prelude.{◌||◌, flat_map, slice_get, IfErr, IfOk, IfSome, Result, Ok, Err}
use Rattle.std.specs.List.{AllByRecursion, filter, list_any}
use Rattle.std.proofs.lemmas.Bool.Decides.{Decides-eqb}
use Rattle.std.proofs.lemmas.List.{length-map, take_more}
use Rattle.std.proofs.lemmas.Option.{IfSome_then}
use Rattle.scoop_message.specs.declared.name.ClientId.{ClientId}
use Rattle.scoop_message.specs.declared.name.HandlerId.{HandlerId}
use Rattle.scoop_message.specs.declared.message.Message.{Message}
use Rattle.scoop_message.specs.Lists.{NoRepeats}
use Rattle.scoop_message.proofs.Same.{client_decides}
use Rattle.scoop_message.specs.contracts.name.ClientIdPartialEq.TheImpl as on_client
use Rattle.scoop_handler.proofs.Basics.{by_test}
use Rattle.scoop_model.specs.Opening.{IsJoining, MayOpen}
use Rattle.scoop_model.specs.Step.{Placement, Newcomer}
use Rattle.scoop_weave.specs.Lives.{words_in}
use Rattle.scoop_weave.proofs.JoinedLives.{number_test}
use Rattle.scoop_weave.proofs.Lists.{none_later, rest_once}
use Rattle.scoop_weaver.specs.declared.traffic.Traffic.{Traffic}
use Rattle.scoop_weaver.specs.declared.trail.Passage.{Passage}
use Rattle.scoop_weaver.specs.Post.{Grows}
use Rattle.scoop_weaver.specs.Trails.{HasTraffic, HaveTraffic}
use Rattle.scoop_weaver.proofs.Along.{traffic_grows}
use Rattle.scoop_replay.specs.declared.node.Placed.{Placed}
use Rattle.scoop_system.specs.declared.place.NodePlace.{NodePlace}
use Rattle.scoop_system.specs.declared.place.HandlerPlace.{HandlerPlace}
use Rattle.scoop_system.specs.declared.place.ClientPlace.{ClientPlace}
use Rattle.scoop_system.specs.Known.{handlers_on, numbers_on}
use Rattle.scoop_system.specs.System.{Plan}
use Rattle.scoop_audit.specs.declared.error.AuditError.{AuditError}
use Rattle.scoop_audit.specs.declared.error.AuditError.TheVariants.{OutOfMemory, Fault, Unexplained}
use Rattle.scoop_audit.specs.declared.error.Trouble.{Trouble}
use Rattle.scoop_audit.specs.declared.error.Wrong.{Wrong}
use Rattle.scoop_audit.specs.declared.error.PartyName.{PartyName}
use Rattle.scoop_audit.specs.declared.error.PartyName.TheVariants.{Node, Client}
use Rattle.scoop_audit.specs.declared.roster.Member.{Member}
use Rattle.scoop_audit.specs.Members.{AddsTrail, TellMembers, TellsClientOf, TellsMember, TellsNodeOf, TellsPartyOf, client_member, members_in, node_member}
use Rattle.scoop_audit.specs.Members.{places_of, who}
use Rattle.scoop_audit.specs.Parties.{MayRun, client_named, has_handlers, joins_in, nodes_in, placed_on, placements_in_file}
use Rattle.scoop_audit.specs.Run.{AreOwned, AreParties, Explains, journal_at}
use Rattle.scoop_audit.specs.Told.{TellsClientLife, TellsLife, placements_on}
use Rattle.scoop_audit.specs.World.{AreTold, ClientPages, IsToldClient, IsToldNode, NodePages, Weaves, placements_in, trails_of}
use Rattle.scoop_audit.specs.Unexplained.{IsAuditError, IsOrderError, IsUnsent, LacksOrder}
use Rattle.scoop_audit.proofs.World.{told_lacking, told_world, zip_append}

-- ---- a journal tells the same after more messages

has_grown : (old new : List Message) (trail : List Passage) (ts : List Traffic) → Grows old new → HasTraffic old trail ts → HasTraffic new trail ts
has_grown old new trail ts grows has =
    let g = traffic_grows old new trail grows has.numbered in
    record { is = g.0 ∙ has.is; numbered = g.1 }

life_grown : (words : HandlerId → List ℕ) (n : ℕ) (ps : List Placed) (journal : List ℕ) (old new : List Message) (trail : List Passage) → Grows old new
    → TellsLife words n ps journal old trail → TellsLife words n ps journal new trail
life_grown words n ps journal old new trail grows t =
    record {
      tale = t.tale;
      lines = t.lines;
      journal_is = t.journal_is;
      tells = t.tells;
      replays = t.replays;
      traffic = has_grown old new trail _ grows t.traffic;
    }

client_grown : (n : Newcomer) (journal : List ℕ) (old new : List Message) (trail : List Passage) → Grows old new
    → TellsClientLife n journal old trail → TellsClientLife n journal new trail
client_grown n journal old new trail grows t =
    record {
      tale = t.tale;
      last = t.last;
      lines = t.lines;
      journal_is = t.journal_is;
      tells = t.tells;
      replays = t.replays;
      traffic = has_grown old new trail _ grows t.traffic;
    }

party_grown : (s : Plan) (journal : List ℕ) (old new : List Message) (trail : List Passage) (party : PartyName) → Grows old new
    → TellsPartyOf s journal old trail party → TellsPartyOf s journal new trail party
party_grown s journal old new trail (Node n) grows t =
    record { all = t.all; told = λ words some. life_grown words n (placed_on s n) journal old new trail grows (t.told words some) }
party_grown s journal old new trail (Client id) grows t =
    IfSome_then (client_named s.clients id) t
    (λ c told some limit.
    elim (told some limit) [ inl tells ↦ inl (client_grown (joins_in s c) journal old new trail grows tells) | inr silent ↦ inr silent ])

members_grown : (s : Plan) (journals : List (List ℕ)) (old new : List Message) (ms : List Member) (trails : List (List Passage)) → Grows old new
    → TellMembers s journals old ms trails → TellMembers s journals new ms trails
members_grown s journals old new [] [] grows t = tt
members_grown s journals old new [] (x ∷ trails) grows t = absurd t
members_grown s journals old new (m ∷ ms) [] grows t = absurd t
members_grown s journals old new (m ∷ ms) (x ∷ trails) grows t = (
  party_grown s (journal_at journals m.journal) old new x m.party grows t.0,
  members_grown s journals old new ms trails grows t.1,
)

-- one more party
pub members_more :
    (s : Plan) (journals : List (List ℕ)) (old new : List Message) (ms : List Member) (m : Member) (xs ys : List (List Passage))
    → Grows old new → TellMembers s journals old ms xs → AddsTrail s (journal_at journals m.journal) new m xs ys
    → TellMembers s journals new (ms ++ m ∷ []) ys
members_more s journals old new ms m xs ys grows told adds =
    subst (TellMembers s journals new (ms ++ m ∷ [])) (sym adds.more)
    (zip_append (TellsMember s journals new) ms (m ∷ []) xs (adds.trail ∷ []) (members_grown s journals old new ms xs grows told) (adds.tells, tt))

pub members_next :
    (s : Plan) (journals : List (List ℕ)) (old new : List Message) (ms : List Member) (i : ℕ) (d : Member) (journal : List ℕ)
    (xs ys : List (List Passage)) → i < length ms → Grows old new → TellMembers s journals old (take i ms) xs
    → journal ≡ journal_at journals (get_or ms i d).journal → AddsTrail s journal new (get_or ms i d) xs ys
    → TellMembers s journals new (take (i + 1) ms) ys
members_next s journals old new ms i d journal xs ys less grows told is adds =
    let m : Member = get_or ms i d in
    subst (λ ls. TellMembers s journals new ls ys) (sym (take_more ms i d less))
    (members_more s journals old new (take i ms) m xs ys grows told (subst (λ j. AddsTrail s j new m xs ys) is adds))

-- ---- pages

same_first : {A : Type 0} (x y : A) (xs ys : List A) → x ∷ xs ≡ y ∷ ys → x ≡ y
same_first x y xs ys e = cc

same_rest : {A : Type 0} (x y : A) (xs ys : List A) → x ∷ xs ≡ y ∷ ys → xs ≡ ys
same_rest x y xs ys e = cc

-- the journal of each client of this number tells a life of it
abbrev IsPagedClient : Plan → List Message → ClientPages → Type 0
IsPagedClient s post page = TellsPartyOf s page.journal post page.trail (Client page.joined.id)

record PagedClients
    (s : Plan) (journals : List (List ℕ)) (post : List Message) (cs : List ClientPlace) (ms : List Member) (trails : List (List Passage)) : Type 0 where
  clients : List ClientPages
  joined : map (λ c. c.joined) clients ≡ map (joins_in s) cs
  journals_are : map (λ c. c.journal) clients ≡ map (journal_at journals) (places_of ms)
  trails_are : map (λ c. c.trail) clients ≡ trails
  each : AllByRecursion (IsPagedClient s post) clients

abbrev names_of : List ClientPlace → List PartyName
names_of cs = map (λ c. who (client_member c)) cs

clients_paged : (s : Plan) (journals : List (List ℕ)) (post : List Message) (cs : List ClientPlace) (ms : List Member) (trails : List (List Passage))
    → map who ms ≡ names_of cs → TellMembers s journals post ms trails → PagedClients s journals post cs ms trails
clients_paged s journals post [] [] [] parties t = record { clients = []; joined = refl; journals_are = refl; trails_are = refl; each = tt }
clients_paged s journals post [] [] (x ∷ trails) parties t = absurd t
clients_paged s journals post [] (m ∷ ms) trails parties t = absurd (cc)
clients_paged s journals post (c ∷ cs) [] trails parties t = absurd (cc)
clients_paged s journals post (c ∷ cs) (m ∷ ms) [] parties t = absurd t
clients_paged s journals post (c ∷ cs) (m ∷ ms) (x ∷ trails) parties t =
    let rest = clients_paged s journals post cs ms trails (same_rest (who m) (who (client_member c)) _ _ parties) t.1 in
    let is : who m ≡ who (client_member c) = same_first (who m) (who (client_member c)) _ _ parties in
    let journal : List ℕ = journal_at journals m.journal in
    let page : ClientPages = record { joined = joins_in s c; journal = journal; trail = x } in
    record {
      clients = page ∷ rest.clients;
      joined = ap (λ ns. joins_in s c ∷ ns) rest.joined;
      journals_are = ap (λ js. journal ∷ js) rest.journals_are;
      trails_are = ap (λ xs. x ∷ xs) rest.trails_are;
      each = (subst (TellsPartyOf s journal post x) is t.0, rest.each);
    }

abbrev IsPagedNode : Plan → List Message → NodePages → Type 0
IsPagedNode s post n = (n.placed ≡ placed_on s n.number) × TellsNodeOf s n.number n.journal post n.trail

record Paged
    (s : Plan) (journals : List (List ℕ)) (post : List Message) (ns : List NodePlace) (cs : List ClientPlace) (ms : List Member)
    (trails : List (List Passage)) : Type 0 where
  nodes : List NodePages
  clients : List ClientPages
  numbers : map (λ n. n.number) nodes ≡ map (λ n. n.number) ns
  placed : map (λ n. n.placed) nodes ≡ map (λ n. placed_on s n.number) ns
  joined : map (λ c. c.joined) clients ≡ map (joins_in s) cs
  placements : placements_in nodes ≡ flat_map (λ n. placements_on n.number (placed_on s n.number)) ns
  journals_are : map (λ n. n.journal) nodes ++ map (λ c. c.journal) clients ≡ map (journal_at journals) (places_of ms)
  trails_are : trails_of nodes clients ≡ trails
  each_node : AllByRecursion (IsPagedNode s post) nodes
  each_client : AllByRecursion (IsPagedClient s post) clients

abbrev parties_of : List NodePlace → List ClientPlace → List PartyName
parties_of ns cs = map (λ n. who (node_member n)) ns ++ names_of cs

all_paged :
    (s : Plan) (journals : List (List ℕ)) (post : List Message) (ns : List NodePlace) (cs : List ClientPlace) (ms : List Member)
    (trails : List (List Passage)) → map who ms ≡ parties_of ns cs → TellMembers s journals post ms trails
    → Paged s journals post ns cs ms trails
all_paged s journals post [] cs ms trails parties t =
    let p = clients_paged s journals post cs ms trails parties t in
    record {
      nodes = [];
      clients = p.clients;
      numbers = refl;
      placed = refl;
      joined = p.joined;
      placements = refl;
      journals_are = p.journals_are;
      trails_are = p.trails_are;
      each_node = tt;
      each_client = p.each;
    }
all_paged s journals post (n ∷ ns) cs [] trails parties t = absurd (cc)
all_paged s journals post (n ∷ ns) cs (m ∷ ms) [] parties t = absurd t
all_paged s journals post (n ∷ ns) cs (m ∷ ms) (x ∷ trails) parties t =
    let rest = all_paged s journals post ns cs ms trails (same_rest (who m) (who (node_member n)) _ _ parties) t.1 in
    let is : who m ≡ who (node_member n) = same_first (who m) (who (node_member n)) _ _ parties in
    let journal : List ℕ = journal_at journals m.journal in
    let placed : List Placed = placed_on s n.number in
    let page : NodePages = record { number = n.number; placed = placed; journal = journal; trail = x } in
    record {
      nodes = page ∷ rest.nodes;
      clients = rest.clients;
      numbers = ap (λ ks. n.number ∷ ks) rest.numbers;
      placed = ap (λ ps. placed ∷ ps) rest.placed;
      joined = rest.joined;
      placements = ap (λ ps. placements_on n.number placed ++ ps) rest.placements;
      journals_are = ap (λ js. journal ∷ js) rest.journals_are;
      trails_are = ap (λ xs. x ∷ xs) rest.trails_are;
      each_node = ((refl, subst (TellsPartyOf s journal post x) is t.0), rest.each_node);
      each_client = rest.each_client;
    }

clients_named : (cs : List ClientPlace) → map who (map client_member cs) ≡ names_of cs
clients_named [] = refl
clients_named (c ∷ cs) = ap (λ ws. who (client_member c) ∷ ws) (clients_named cs)

all_named : (ns : List NodePlace) (cs : List ClientPlace) → map who (map node_member ns ++ map client_member cs) ≡ parties_of ns cs
all_named [] cs = clients_named cs
all_named (n ∷ ns) cs = ap (λ ws. who (node_member n) ∷ ws) (all_named ns cs)

-- ---- nodes that have handlers

some_on : (n : ℕ) (hs : List HandlerPlace) → list_any (λ h. h.node == n) hs ≡ true → 1 ≤ length (handlers_on n hs)
some_on n [] is = absurd (cc)
some_on n (h ∷ hs) is = at_first (h.node == n) (some_on n hs) is
  where
    at_first : (b : Bool) → (list_any (λ h. h.node == n) hs ≡ true → 1 ≤ length (handlers_on n hs)) → (b || list_any (λ h. h.node == n) hs) ≡ true
        → 1 ≤ length (cond b (h ∷ handlers_on n hs) (handlers_on n hs))
    at_first true rest is = omega arith
    at_first false rest is = rest is

none_on : (n : ℕ) (hs : List HandlerPlace) → list_any (λ h. h.node == n) hs ≡ false → handlers_on n hs ≡ []
none_on n [] is = refl
none_on n (h ∷ hs) is = at_first (h.node == n) (none_on n hs) is
  where
    at_first : (b : Bool) → (list_any (λ h. h.node == n) hs ≡ false → handlers_on n hs ≡ []) → (b || list_any (λ h. h.node == n) hs) ≡ false
        → cond b (h ∷ handlers_on n hs) (handlers_on n hs) ≡ []
    at_first true rest is = absurd (cc)
    at_first false rest is = rest is

all_have : (s : Plan) (ns : List NodePlace)
    → AllByRecursion (λ k. has_handlers s k ≡ true) (map (λ n. n.number) (filter (λ n. has_handlers s n.number) ns))
all_have s [] = tt
all_have s (n ∷ ns) =
    let P : Bool → Type 0 =
    λ b. AllByRecursion (λ k. has_handlers s k ≡ true) (map (λ (n : NodePlace). n.number)
    (cond b (n ∷ filter (λ n. has_handlers s n.number) ns) (filter (λ n. has_handlers s n.number) ns))) in
    by_test P (has_handlers s n.number) (λ is. (is, all_have s ns)) (λ is. all_have s ns)

pub none_lost : (s : Plan) (ns : List NodePlace)
    → flat_map (λ k. numbers_on k s.handlers) (map (λ n. n.number) (filter (λ n. has_handlers s n.number) ns))
    ≡ flat_map (λ n. numbers_on n.number s.handlers) ns
none_lost s [] = refl
none_lost s (n ∷ ns) =
    let all : List HandlerId = flat_map (λ (n : NodePlace). numbers_on n.number s.handlers) ns in
    let P : Bool → Type 0 =
    λ b. flat_map (λ k. numbers_on k s.handlers) (map (λ (n : NodePlace). n.number)
    (cond b (n ∷ filter (λ n. has_handlers s n.number) ns) (filter (λ n. has_handlers s n.number) ns)))
    ≡ numbers_on n.number s.handlers ++ all in
    by_test P (has_handlers s n.number) (λ is. ap (λ hs. numbers_on n.number s.handlers ++ hs) (none_lost s ns))
    (λ is. none_lost s ns ∙ ap (λ (hs : List HandlerPlace). map (λ (h : HandlerPlace). h.handler) hs ++ all) (sym (none_on n.number s.handlers is)))

-- ---- clients by their numbers

pub clients_ids : (s : Plan) (cs : List ClientPlace) → map (λ n. n.id) (map (joins_in s) cs) ≡ map (λ c. c.client) cs
clients_ids s [] = refl
clients_ids s (c ∷ cs) = ap (λ ids. c.client ∷ ids) (clients_ids s cs)

-- each of these clients is found among them
abbrev AreFound : List ClientPlace → List ClientPlace → Type 0
AreFound all cs = AllByRecursion (λ c. client_named all c.client ≡ Some c) cs

found_later : (c : ClientPlace) (all cs : List ClientPlace) → ((i : ℕ) → slice_get (map (λ d. d.client) cs) i ≡ Some c.client → ⊥) → AreFound all cs
    → AreFound (c ∷ all) cs
found_later c all [] none found = tt
found_later c all (d ∷ cs) none found =
    let make : ℕ → ClientId = λ n. record { 0 = n } in
    let other : (c.client.0 == d.client.0) ≡ false = number_test c.client.0 d.client.0 (λ e. none 0 (ap (λ n. Some (make n)) (sym e))) in
    (ap (λ t. cond t (Some c) (client_named all d.client)) other ∙ found.0, found_later c all cs (λ i e. none (suc i) e) found.1)

-- so they are if no two have one number
all_found : (cs : List ClientPlace) → NoRepeats (map (λ c. c.client) cs) → AreFound cs cs
all_found [] once = tt
all_found (c ∷ cs) once =
    let id = λ (d : ClientPlace). d.client in
    let itself : (c.client.0 == c.client.0) ≡ true = (Decides-eqb c.client.0 c.client.0).1 refl in (
      ap (λ t. cond t (Some c) (client_named cs c.client)) itself,
      found_later c cs cs (none_later id on_client.eq-value.it client_decides c cs once) (all_found cs (rest_once id on_client.eq-value.it client_decides c cs once)),
    )

-- ---- for the premise of a world

node_told : (s : Plan) (ps : List Placement) (post : List Message) (n : NodePages) → IsPagedNode s post n → has_handlers s n.number ≡ true
    → IsToldNode ps post n
node_told s ps post n paged has =
    let count : length (map (λ (p : Placed). p.handler) (placed_on s n.number)) ≡ length (numbers_on n.number s.handlers) = ap length paged.1.all in
    let left = length-map (placed_on s n.number) (λ (p : Placed). p.handler) in
    let right = length-map (handlers_on n.number s.handlers) (λ (h : HandlerPlace). h.handler) in
    let some = some_on n.number s.handlers has in
    subst (λ placed. TellsLife (words_in ps) n.number placed n.journal post n.trail) (sym paged.0) (paged.1.told (words_in ps) (omega arith))

nodes_told : (s : Plan) (ps : List Placement) (post : List Message) (nodes : List NodePages) → AllByRecursion (IsPagedNode s post) nodes
    → AllByRecursion (λ k. has_handlers s k ≡ true) (map (λ n. n.number) nodes) → AllByRecursion (IsToldNode ps post) nodes
nodes_told s ps post [] paged has = tt
nodes_told s ps post (n ∷ nodes) paged has = (node_told s ps post n paged.0 has.0, nodes_told s ps post nodes paged.1 has.1)

clients_told : (s : Plan) (post : List Message) (cs : List ClientPlace) (pages : List ClientPages) → map (λ p. p.joined) pages ≡ map (joins_in s) cs
    → AreFound s.clients cs → AllByRecursion (IsPagedClient s post) pages → AllByRecursion IsJoining (map (λ p. p.joined) pages)
    → AllByRecursion (IsToldClient post) pages
clients_told s post [] [] joined found paged joining = tt
clients_told s post [] (p ∷ pages) joined found paged joining = absurd (cc)
clients_told s post (c ∷ cs) [] joined found paged joining = tt
clients_told s post (c ∷ cs) (p ∷ pages) joined found paged joining =
    let is : p.joined ≡ joins_in s c = same_first p.joined (joins_in s c) _ _ joined in
    let named : TellsPartyOf s p.journal post p.trail (Client c.client) =
    subst (λ (n : Newcomer). TellsPartyOf s p.journal post p.trail (Client n.id)) is paged.0 in
    let told : TellsClientOf (joins_in s c) p.journal post p.trail =
    subst (λ o. IfSome o (λ d. TellsClientOf (joins_in s d) p.journal post p.trail)) found.0 named in (
      subst (λ n. TellsClientOf n p.journal post p.trail) (sym is) told joining.0.some joining.0.limit,
      clients_told s post cs pages (same_rest p.joined (joins_in s c) _ _ joined) found.1 paged.1 joining.1,
    )

-- ---- all

record PagedRun (s : Plan) (journals : List (List ℕ)) (post : List Message) (trails : List (List Passage)) : Type 0 where
  nodes : List NodePages
  clients : List ClientPages
  parties : AreParties s journals nodes clients
  told : MayRun s → AreTold nodes clients post
  trails_are : trails_of nodes clients ≡ trails

run_paged :
    (s : Plan) (journals : List (List ℕ)) (post : List Message) (ms : List Member) (trails : List (List Passage)) → map who ms ≡ map who (members_in s)
    → AreOwned journals (places_of ms) → TellMembers s journals post ms trails → PagedRun s journals post trails
run_paged s journals post ms trails parties owned told =
    let p = all_paged s journals post (nodes_in s) s.clients ms trails (parties ∙ all_named (nodes_in s) s.clients) told in
    let has = subst (AllByRecursion (λ k. has_handlers s k ≡ true)) (sym p.numbers) (all_have s s.nodes) in
    record {
      nodes = p.nodes;
      clients = p.clients;
      parties =
          record { places = places_of ms; numbers = p.numbers; placed = p.placed; joined = p.joined; journals_are = p.journals_are; owned = owned };
      told = λ may.
          let found = all_found s.clients (subst NoRepeats (clients_ids s s.clients) may.opens.clients_apart) in
          record {
            apart = subst NoRepeats (sym p.numbers) may.apart;
            opens =
                subst (λ (qs : List Placement). MayOpen qs (map (λ (c : ClientPages). c.joined) p.clients)) (sym p.placements)
                (subst (MayOpen (placements_in_file s)) (sym p.joined) may.opens);
            each_node = nodes_told s (placements_in p.nodes) post p.nodes p.each_node has;
            each_client = clients_told s post s.clients p.clients p.joined found p.each_client (subst (AllByRecursion IsJoining) (sym p.joined) may.opens.joining);
          };
      trails_are = p.trails_are;
    }

pub run_explained :
    (s : Plan) (journals : List (List ℕ)) (post : List Message) (ms : List Member) (trails : List (List Passage)) (turns : List ℕ)
    → map who ms ≡ map who (members_in s) → AreOwned journals (places_of ms) → TellMembers s journals post ms trails → Weaves post trails turns
    → Explains s journals turns
run_explained s journals post ms trails turns parties owned told weaves =
    let p = run_paged s journals post ms trails parties owned told in
    record {
      nodes = p.nodes;
      clients = p.clients;
      parties = p.parties;
      explained = λ may. told_world p.nodes p.clients post turns (p.told may) (subst (λ xs. Weaves post xs turns) (sym p.trails_are) weaves);
    }

lacks_order :
    (s : Plan) (journals : List (List ℕ)) (post : List Message) (ms : List Member) (trails : List (List Passage)) (w : Wrong)
    → map who ms ≡ map who (members_in s) → AreOwned journals (places_of ms) → TellMembers s journals post ms trails
    → ((parties : List (List Traffic)) → HaveTraffic post trails parties → IsUnsent parties w) → LacksOrder s journals w
lacks_order s journals post ms trails w parties owned told unsent =
    let p = run_paged s journals post ms trails parties owned told in
    record {
      nodes = p.nodes;
      clients = p.clients;
      parties = p.parties;
      lacking = λ may.
          told_lacking p.nodes p.clients post w (p.told may)
          (subst (λ xs. (qs : List (List Traffic)) → HaveTraffic post xs qs → IsUnsent qs w) (sym p.trails_are) unsent);
    }

run_unexplained :
    (s : Plan) (journals : List (List ℕ)) (post : List Message) (ms : List Member) (trails : List (List Passage)) (e : AuditError)
    → map who ms ≡ map who (members_in s) → AreOwned journals (places_of ms) → TellMembers s journals post ms trails
    → ((parties : List (List Traffic)) → HaveTraffic post trails parties → IsOrderError parties e) → IsAuditError s journals e
run_unexplained s journals post ms trails OutOfMemory parties owned told error = tt
run_unexplained s journals post ms trails (Fault place line fault) parties owned told error = tt
run_unexplained s journals post ms trails (Unexplained found w) parties owned told error =
    inr (lacks_order s journals post ms trails w parties owned told error)

-- ---- by the outcomes of a call

pub order_failed :
    {T P : Type 0} (res : Result T AuditError) (s : Plan) (journals : List (List ℕ)) (post : List Message) (ms : List Member)
    (trails : List (List Passage)) → map who ms ≡ map who (members_in s) → AreOwned journals (places_of ms) → (P → TellMembers s journals post ms trails)
    → ((parties : List (List Traffic)) → HaveTraffic post trails parties → IfErr res (IsOrderError parties)) → IfErr res (λ e. P → IsAuditError s journals e)
order_failed (Ok x) s journals post ms trails parties owned told error = tt
order_failed (Err e) s journals post ms trails parties owned told error =
    λ p. run_unexplained s journals post ms trails e parties owned (told p) error

pub node_read :
    (s : Plan) (n : ℕ) (ps : List Placed) (journal : List ℕ) (post : List Message) (res : Result (List Passage) Trouble) → ps ≡ placed_on s n
    → map (λ p. p.handler) ps ≡ map (λ h. h.handler) (handlers_on n s.handlers)
    → ((words : HandlerId → List ℕ) → IfOk res (TellsLife words n ps journal post)) → IfOk res (TellsNodeOf s n journal post)
node_read s n ps journal post (Err e) is all told = tt
node_read s n ps journal post (Ok trail) is all told =
    record {
      all = subst (λ (qs : List Placed). map (λ (p : Placed). p.handler) qs ≡ map (λ (h : HandlerPlace). h.handler) (handlers_on n s.handlers)) is all;
      told = λ words some. subst (λ qs. TellsLife words n qs journal post trail) is (told words);
    }

-- a node without handlers
pub node_idle :
    (s : Plan) (n : ℕ) (ps : List Placed) (journal : List ℕ) (post : List Message) (trail : List Passage) → ps ≡ placed_on s n
    → map (λ p. p.handler) ps ≡ map (λ h. h.handler) (handlers_on n s.handlers) → ps ≡ [] → TellsNodeOf s n journal post trail
node_idle s n ps journal post trail is all none =
    let empty : length (placed_on s n) ≡ 0 = ap length (sym is ∙ none) in
    record {
      all = subst (λ (qs : List Placed). map (λ (p : Placed). p.handler) qs ≡ map (λ (h : HandlerPlace). h.handler) (handlers_on n s.handlers)) is all;
      told = λ words some. absurd (omega arith);
    }

pub client_read :
    (n : Newcomer) (journal : List ℕ) (post : List Message) (res : Result (List Passage) Trouble)
    → IfOk res (TellsClientLife n journal post) → IfOk res (TellsClientOf n journal post)
client_read n journal post (Err e) told = tt
client_read n journal post (Ok trail) told = λ some limit. inl told
