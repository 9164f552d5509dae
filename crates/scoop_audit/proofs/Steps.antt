-- One more item of a list that is gone over.
use Rattle.std.proofs.Common.{◌≡◌, ℕ, ◌+◌, ◌<◌, ◌==◌, inl, inr, true, false, cond, List, [], ◌∷◌, ◌++◌, map, take, length, get_or, Some, sym, ap, ◌∙◌, append_assoc, append-nil}
use Rattle.std.specs.Prelude.{flat_map, option_to_list}
use Rattle.std.specs.List.{filter}
use Rattle.std.proofs.lemmas.Bool.Decides.{Decides-eqb, eqb_tells}
use Rattle.std.proofs.lemmas.Grind.{flat_map-append}
use Rattle.std.proofs.lemmas.List.{map-append, take_more}
use Rattle.std.proofs.lemmas.List.Elements.{filter-append}
use Rattle.scoop_message.specs.declared.name.HandlerId.{HandlerId}
use Rattle.scoop_replay.specs.declared.node.Placed.{Placed}
use Rattle.scoop_system.specs.declared.place.NodePlace.{NodePlace}
use Rattle.scoop_system.specs.declared.place.HandlerPlace.{HandlerPlace}
use Rattle.scoop_system.specs.Known.{handlers_on}
use Rattle.scoop_system.specs.System.{NamedClass, Plan}
use Rattle.scoop_audit.specs.declared.roster.Member.{Member}
use Rattle.scoop_audit.specs.Members.{node_member}
use Rattle.scoop_audit.specs.Parties.{has_handlers, placed_in}

pub item_more : {A : Type 0} (xs : List A) (i : ℕ) (x : A) → i < length xs → x ≡ get_or xs i x → take (i + 1) xs ≡ take i xs ++ x ∷ []
item_more xs i x less is = take_more xs i x less ∙ ap (λ y. take i xs ++ y ∷ []) (sym is)

pub mapped_more : {A B : Type 0} (f : A → B) (xs : List A) (i : ℕ) (x : A) → i < length xs → x ≡ get_or xs i x
    → map f (take (i + 1) xs) ≡ map f (take i xs) ++ f x ∷ []
mapped_more f xs i x less is = ap (map f) (item_more xs i x less is) ∙ map-append f (take i xs) (x ∷ [])

pub flat_more : {A B : Type 0} (f : A → List B) (xs : List A) (i : ℕ) (x : A) → i < length xs → x ≡ get_or xs i x
    → flat_map f (take (i + 1) xs) ≡ flat_map f (take i xs) ++ f x
flat_more f xs i x less is =
    ap (flat_map f) (item_more xs i x less is)
    ∙ (flat_map-append f (take i xs) (x ∷ []) ∙ ap (λ ys. flat_map f (take i xs) ++ ys) (append-nil (f x)))

-- ---- the nodes that have handlers

pub node_more :
    (s : Plan) (ns : List NodePlace) (i : ℕ) (n : NodePlace) → i < length ns → n ≡ get_or ns i n
    → filter (λ m. has_handlers s m.number) (take (i + 1) ns)
    ≡ filter (λ m. has_handlers s m.number) (take i ns) ++ cond (has_handlers s n.number) (n ∷ []) []
node_more s ns i n less is =
    ap (filter (λ (m : NodePlace). has_handlers s m.number)) (item_more ns i n less is)
    ∙ filter-append (λ (m : NodePlace). has_handlers s m.number) (take i ns) (n ∷ [])

abbrev pub nodes_so_far : Plan → List NodePlace → ℕ → List Member
nodes_so_far s ns i = map node_member (filter (λ n. has_handlers s n.number) (take i ns))

-- a node that has handlers is one more member
pub node_added :
    (s : Plan) (ns : List NodePlace) (i : ℕ) (n : NodePlace) (first old new : List Member) → i < length ns → n ≡ get_or ns i n
    → has_handlers s n.number ≡ true → old ≡ first ++ nodes_so_far s ns i → new ≡ old ++ node_member n ∷ [] → new ≡ first ++ nodes_so_far s ns (i + 1)
node_added s ns i n first old new less is has so more =
    let test = λ (m : NodePlace). has_handlers s m.number in
    let longer = node_more s ns i n less is ∙ ap (λ b. filter test (take i ns) ++ cond b (n ∷ []) []) has in
    let added = ap (map node_member) longer ∙ map-append node_member (filter test (take i ns)) (n ∷ []) in
    more ∙ (ap (λ ms. ms ++ node_member n ∷ []) so ∙ (append_assoc first (nodes_so_far s ns i) (node_member n ∷ []) ∙ ap (λ ms. first ++ ms) (sym added)))

-- another one is none
pub node_left : (s : Plan) (ns : List NodePlace) (i : ℕ) (n : NodePlace) (first old : List Member) → i < length ns → n ≡ get_or ns i n
    → has_handlers s n.number ≡ false → old ≡ first ++ nodes_so_far s ns i → old ≡ first ++ nodes_so_far s ns (i + 1)
node_left s ns i n first old less is has so =
    let test = λ (m : NodePlace). has_handlers s m.number in
    let same = node_more s ns i n less is ∙ (ap (λ b. filter test (take i ns) ++ cond b (n ∷ []) []) has ∙ append-nil (filter test (take i ns))) in
    so ∙ ap (λ ns. first ++ map node_member ns) (sym same)

-- ---- the handlers on a node

on_more : (n : ℕ) (hs : List HandlerPlace) (i : ℕ) (h : HandlerPlace) → i < length hs → h ≡ get_or hs i h → h.node ≡ n
    → handlers_on n (take (i + 1) hs) ≡ handlers_on n (take i hs) ++ h ∷ []
on_more n hs i h less is same =
    ap (handlers_on n) (item_more hs i h less is)
    ∙ (filter-append (λ (g : HandlerPlace). g.node == n) (take i hs) (h ∷ [])
    ∙ ap (λ b. handlers_on n (take i hs) ++ cond b (h ∷ []) []) ((Decides-eqb h.node n).1 same))

differs : (a b : ℕ) → (a ≡ b → ⊥) → (a == b) ≡ false
differs a b apart = elim (eqb_tells a b) [ inl t ↦ absurd (apart t.1) | inr f ↦ f.0 ]

pub off_more : (n : ℕ) (hs : List HandlerPlace) (i : ℕ) (h : HandlerPlace) → i < length hs → h ≡ get_or hs i h → (h.node ≡ n → ⊥)
    → handlers_on n (take (i + 1) hs) ≡ handlers_on n (take i hs)
off_more n hs i h less is apart =
    ap (handlers_on n) (item_more hs i h less is)
    ∙ (filter-append (λ (g : HandlerPlace). g.node == n) (take i hs) (h ∷ [])
    ∙ (ap (λ b. handlers_on n (take i hs) ++ cond b (h ∷ []) []) (differs h.node n apart) ∙ append-nil (handlers_on n (take i hs))))

abbrev pub numbers_so_far : ℕ → List HandlerPlace → ℕ → List HandlerId
numbers_so_far n hs i = map (λ h. h.handler) (handlers_on n (take i hs))

pub number_more : (n : ℕ) (hs : List HandlerPlace) (i : ℕ) (h : HandlerPlace) → i < length hs → h ≡ get_or hs i h → h.node ≡ n
    → numbers_so_far n hs (i + 1) ≡ numbers_so_far n hs i ++ h.handler ∷ []
number_more n hs i h less is same =
    ap (map (λ (g : HandlerPlace). g.handler)) (on_more n hs i h less is same) ∙ map-append (λ (g : HandlerPlace). g.handler) (handlers_on n (take i hs)) (h ∷ [])

-- a handler on the node is one more that is known
pub known_added :
    (n : ℕ) (hs : List HandlerPlace) (i : ℕ) (h : HandlerPlace) (first old new : List HandlerId) → i < length hs → h ≡ get_or hs i h → h.node ≡ n
    → old ≡ first ++ numbers_so_far n hs i → new ≡ old ++ h.handler ∷ [] → new ≡ first ++ numbers_so_far n hs (i + 1)
known_added n hs i h first old new less is same so more =
    more ∙ (ap (λ ks. ks ++ h.handler ∷ []) so ∙ (append_assoc first (numbers_so_far n hs i) (h.handler ∷ [])
    ∙ ap (λ ks. first ++ ks) (sym (number_more n hs i h less is same))))

abbrev pub placed_so_far : List NamedClass → ℕ → List HandlerPlace → ℕ → List Placed
placed_so_far classes n hs i = flat_map (λ h. option_to_list (placed_in classes h)) (handlers_on n (take i hs))

-- a handler on the node whose class is there is one more that is placed
pub placed_added :
    (classes : List NamedClass) (n : ℕ) (hs : List HandlerPlace) (i : ℕ) (h : HandlerPlace) (p : Placed) (old new : List Placed) → i < length hs
    → h ≡ get_or hs i h → h.node ≡ n → Some p ≡ placed_in classes h → old ≡ placed_so_far classes n hs i → new ≡ old ++ p ∷ []
    → new ≡ placed_so_far classes n hs (i + 1)
placed_added classes n hs i h p old new less is same found so more =
    let f = λ (g : HandlerPlace). option_to_list (placed_in classes g) in
    let one : f h ++ [] ≡ p ∷ [] = append-nil (f h) ∙ ap option_to_list (sym found) in
    let longer = ap (flat_map f) (on_more n hs i h less is same) ∙ (flat_map-append f (handlers_on n (take i hs)) (h ∷ [])
    ∙ ap (λ ps. placed_so_far classes n hs i ++ ps) one) in
    more ∙ (ap (λ ps. ps ++ p ∷ []) so ∙ sym longer)
