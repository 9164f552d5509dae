-- Lists: sums over items, one item in the place of the item with its key, the items of a list, and lists of handlers.
use Rattle.scoop_calm.proofs.Names.{length, ◌≡◌, ◌⊎◌, inl, inr, ℕ, zero, suc, ◌+◌, ◌≤◌, Bool, List, [], ◌∷◌, map, find, slice_get, Option, Some, None, refl}
use Rattle.scoop_calm.proofs.Names.{◌++◌, Member, ap, subst, arith, ⊤, if◌then◌else◌, Decides, AllByRecursion, NoRepeats, by_test, total, sym, ◌<◌, true≢false}
use Rattle.scoop_calm.proofs.Names.{true, ends, Entry, ◌-◌, ◌==◌, ⊎_elim, option_to_list, Message, World, sent_at, ◌||◌, not, false, nat_le, filter, and_parts}
use Rattle.scoop_calm.proofs.Names.{list_all, nat_tests, HandlerId, same_handler, handler_decides, has, without, is_empty, is_lowest, asked, first_unknown}
use Rattle.scoop_calm.proofs.Names.{first_repeated, first_repeated_after, same_handler_itself}

-- -------- Sums over lists, and the effect of putting one item in the place of the item with its key.

-- ---- lists and options

pub total_append : {A : Type 0} (f : A → ℕ) (xs ys : List A) → total f (xs ++ ys) ≡ total f xs + total f ys
total_append f [] ys = omega arith
total_append f (x ∷ xs) ys = let rest = total_append f xs ys in omega (arith, rest)

pub none_long : {A : Type 0} (xs : List A) → length xs ≤ 0 → xs ≡ []
none_long [] le = refl
none_long (x ∷ xs) le = absurd (omega (arith, le))

-- a found item is in the list
pub found_in : {A : Type 0} (f : A → Bool) (xs : List A) (x : A) → find f xs ≡ Some x → Member x xs
found_in f [] x e = absurd (cc)
found_in f (y ∷ ys) x e = let rest = found_in f ys x in grind (arith, rest)

-- each item has a property, or another thing is so
pub each_or : {A : Type 0} (P : A → Type 0) (Q : Type 0) (xs : List A) → ((x : A) → Member x xs → P x ⊎ Q) → AllByRecursion P xs ⊎ Q
each_or P Q [] decide = inl tt
each_or P Q (x ∷ xs) decide = both (decide x (inl refl)) (each_or P Q xs (λ y m. decide y (inr m)))
  where
    both : P x ⊎ Q → AllByRecursion P xs ⊎ Q → AllByRecursion P (x ∷ xs) ⊎ Q
    both (inl p) (inl ps) = inl (p, ps)
    both (inl p) (inr q) = inr q
    both (inr q) rest = inr q

pub all_member : {A : Type 0} (P : A → Type 0) (xs : List A) (x : A) → AllByRecursion P xs → Member x xs → P x
all_member P [] x all m = absurd m
all_member P (y ∷ ys) x all (inl e) = subst P e all.0
all_member P (y ∷ ys) x all (inr n) = all_member P ys x all.1 n

module _ {A K : Type 0} (key : A → K) (same : K → K → Bool) (decides : (a b : K) → Decides (same a b) (a ≡ b)) where
  abbrev pub has_key : K → A → Bool
  has_key k x = same (key x) k

  abbrev pub newer : A → A → A
  newer a x = if has_key (key a) x then a else x

  -- no two items have one key
  abbrev pub Distinct : List A → Type 0
  Distinct [] = ⊤
  Distinct (x ∷ xs) = (find (has_key (key x)) xs ≡ None) × Distinct xs

  place_of : (k : K) (xs : List A) (y : A) → find (has_key k) xs ≡ Some y → (j : ℕ) × (slice_get (map key xs) j ≡ Some k)
  place_of k [] y e = absurd (cc)
  place_of k (x ∷ xs) y e =
      by_test (λ t. (if t then Some x else find (has_key k) xs) ≡ Some y → has_key k x ≡ t → (j : ℕ) × (slice_get (map key (x ∷ xs)) j ≡ Some k)) (has_key k x)
      (λ here f is. (zero, ap Some ((decides (key x) k).0 is)))
      (λ there f is. let p = place_of k xs y f in (suc p.0, p.1)) e refl

  none_or : (o : Option A) → ((y : A) → o ≡ Some y → ⊥) → o ≡ None
  none_or None never = refl
  none_or (Some y) never = absurd (never y refl)

  pub distinct : (xs : List A) → NoRepeats (map key xs) → Distinct xs
  distinct [] once = tt
  distinct (x ∷ xs) once = (
    none_or (find (has_key (key x)) xs) (λ y e.
        let p = place_of (key x) xs y e in
        absurd (omega (arith, once zero (suc p.0) (key x) refl p.1))),
    distinct xs (λ i j y e f. let g : suc i ≡ suc j = once (suc i) (suc j) y e f in omega (arith, g)),
  )

  -- an item of the list is the one that is found by its key
  pub member_found : (xs : List A) (x : A) → Distinct xs → Member x xs → find (has_key (key x)) xs ≡ Some x
  member_found [] x d m = absurd m
  member_found (y ∷ ys) x d (inl e) = let own = (decides (key y) (key x)).1 in grind (arith, e, own)
  member_found (y ∷ ys) x d (inr n) = let rest = member_found ys x d.1 n in let own = (decides (key y) (key x)).0 in grind (arith, rest, own, d.0)

  none_newer : (a : A) (xs : List A) → find (has_key (key a)) xs ≡ None → map (newer a) xs ≡ xs
  none_newer a [] e = refl
  none_newer a (x ∷ xs) e = let rest = none_newer a xs in grind (arith, rest)

  -- one item in the place of another
  pub total_newer : (f : A → ℕ) (a old : A) (xs : List A) → Distinct xs → find (has_key (key a)) xs ≡ Some old
      → total f (map (newer a) xs) + f old ≡ total f xs + f a
  total_newer f a old [] d e = absurd (cc)
  total_newer f a old (x ∷ xs) d e = let own = (decides (key x) (key a)).0 in grind (arith, total_newer f a old xs d.1, none_newer a xs, own, d.0)

  -- a part that both items share stays in each place
  pub map_newer : {B : Type 0} (f : A → B) (a old : A) (xs : List A) → Distinct xs → find (has_key (key a)) xs ≡ Some old → f a ≡ f old
      → map f (map (newer a) xs) ≡ map f xs
  map_newer f a old [] d e same = refl
  map_newer f a old (x ∷ xs) d e same = let own = (decides (key x) (key a)).0 in grind (arith, map_newer f a old xs d.1, none_newer a xs, own, d.0, same)

-- -------- Messages that were sent.

pub member_more : {A : Type 0} (x : A) (xs ys : List A) → Member x xs → Member x (xs ++ ys)
member_more x [] ys m = absurd m
member_more x (z ∷ zs) ys (inl e) = inl e
member_more x (z ∷ zs) ys (inr n) = inr (member_more x zs ys n)

pub member_pushed : {A : Type 0} (x : A) (xs : List A) (o : Option A) → Member x (xs ++ option_to_list o) → Member x xs ⊎ (o ≡ Some x)
member_pushed x [] None m = absurd m
member_pushed x [] (Some y) (inl e) = inr (ap Some e)
member_pushed x [] (Some y) (inr n) = elim n [ ]
member_pushed x (z ∷ zs) o (inl e) = inl (inl e)
member_pushed x (z ∷ zs) o (inr n) = ⊎_elim (λ (k : Member x zs). inl (inr k)) (λ (e : o ≡ Some x). inr e) (member_pushed x zs o n)

pub member_last : {A : Type 0} (x : A) (xs : List A) → Member x (xs ++ x ∷ [])
member_last x [] = inl refl
member_last x (z ∷ zs) = inr (member_last x zs)

pub member_at : {A : Type 0} (xs : List A) (i : ℕ) (x : A) → slice_get xs i ≡ Some x → Member x xs
member_at [] i x e = absurd (cc)
member_at (y ∷ ys) zero x e = inl (let same : y ≡ x = cc in same)
member_at (y ∷ ys) (suc i) x e = inr (member_at ys i x e)

pub sent_member : (w : World) (i : ℕ) (m : Message) → sent_at i w ≡ Some m → Member m w.sent
sent_member w i m was =
    by_test (λ t. (if t then None else slice_get w.sent (i - 1)) ≡ Some m → Member m w.sent) (i == 0)
    (λ nowhere e. absurd (cc))
    (λ place e. member_at w.sent (i - 1) m e) was

pub some_if_ends : (es : List Entry) → ends es ≡ true → 0 < length es
some_if_ends [] e = absurd (true≢false (sym e))
some_if_ends (x ∷ xs) e = omega arith

-- -------- Lists of handlers: the lowest one, and a list without one handler. A client asks for its locks one after another, the
-- lowest handler left first. So a list with an item has a lowest one and is shorter without it. The handlers that were
-- asked are among the block's handlers. The handlers of a block that could be reserved are known, each named once.

pub has_head : (h : HandlerId) (hs : List HandlerId) → has (h ∷ hs) h ≡ true
has_head h hs = ap (λ t. t || has hs h) (same_handler_itself h)

-- the item of a handler that the list has
pub item_there : {A : Type 0} (key : A → HandlerId) (h : HandlerId) (xs : List A) → has (map key xs) h ≡ true
    → (x : A) × (find (λ (y : A). same_handler (key y) h) xs ≡ Some x)
item_there key h [] e = absurd (true≢false (sym e))
item_there key h (x ∷ xs) e =
    by_test
    (λ t. (t || has (map key xs) h) ≡ true → (y : _) × ((if t then Some x else find (λ z. same_handler (key z) h) xs) ≡ Some y)) (same_handler (key x) h)
    (λ _ f. (x, refl))
    (λ _ f. item_there key h xs f) e

-- a list with an item, and one without
pub some_in : (hs : List HandlerId) (h : HandlerId) → has hs h ≡ true → is_empty hs ≡ false
some_in [] h e = absurd (true≢false (sym e))
some_in (x ∷ xs) h e = grind (arith, nat_tests)

pub data Filled : List HandlerId → Type 0 where
  nothing_in : Filled []
  first_in : (h : HandlerId) (hs : List HandlerId) → Filled (h ∷ hs)

pub filled : (hs : List HandlerId) → Filled hs
filled [] = nothing_in
filled (h ∷ hs) = first_in h hs

-- ---- without one

pub shorter_without : (h : HandlerId) (hs : List HandlerId) → length (without h hs) ≤ length hs
shorter_without h [] = omega arith
shorter_without h (x ∷ xs) = let rest = shorter_without h xs in grind (arith, rest)

pub less_without : (h : HandlerId) (hs : List HandlerId) → has hs h ≡ true → length (without h hs) < length hs
less_without h [] e = absurd (true≢false (sym e))
less_without h (x ∷ xs) e = let some = shorter_without h xs in let rest = less_without h xs in grind (arith, rest)

pub gone_without : (h : HandlerId) (hs : List HandlerId) → has (without h hs) h ≡ false
gone_without h [] = refl
gone_without h (x ∷ xs) = let rest = gone_without h xs in grind (arith, nat_tests, rest)

-- ---- the lowest

pub lowest_has : (h : HandlerId) (hs : List HandlerId) → is_lowest h hs ≡ true → has hs h ≡ true
lowest_has h hs e = (and_parts (has hs h) _ e).0

all_of : (h : HandlerId) (hs : List HandlerId) (x : HandlerId) → list_all (λ y. nat_le h.0 y.0) hs ≡ true → has hs x ≡ true → h.0 ≤ x.0
all_of h [] x all e = absurd (true≢false (sym e))
all_of h (y ∷ ys) x all e = let rest = all_of h ys x in grind (arith, nat_tests, rest)

pub lowest_below : (h : HandlerId) (hs : List HandlerId) (x : HandlerId) → is_lowest h hs ≡ true → has hs x ≡ true → h.0 ≤ x.0
lowest_below h hs x e has_x = all_of h hs x (and_parts (has hs h) _ e).1 has_x

-- each list with an item has a lowest one
pub record Lowest (hs : List HandlerId) : Type 0 where
  pub handler : HandlerId
  pub is : is_lowest handler hs ≡ true

all_higher : (h g : HandlerId) (hs : List HandlerId) → h.0 ≤ g.0 → list_all (λ x. nat_le g.0 x.0) hs ≡ true → list_all (λ x. nat_le h.0 x.0) hs ≡ true
all_higher h g [] le e = refl
all_higher h g (x ∷ xs) le e = let rest = all_higher h g xs le in grind (arith, nat_tests, rest)

pub lowest_of : (h : HandlerId) (hs : List HandlerId) → Lowest (h ∷ hs)
lowest_of h [] = record { handler = h; is = grind (arith, nat_tests) }
lowest_of h (x ∷ xs) =
    let l = lowest_of x xs in
    let g = l.handler in
    let there = and_parts (has (x ∷ xs) g) _ l.is in
    by_test (λ _. Lowest (h ∷ x ∷ xs)) (nat_le h.0 g.0)
    (λ is. let all = all_higher h g (x ∷ xs) (grind (arith, nat_tests)) there.1 in record { handler = h; is = grind (arith, nat_tests, all) })
    (λ is. record { handler = g; is = grind (arith, nat_tests, there) })

-- ---- the asked, and the known

in_filter : (f : HandlerId → Bool) (hs : List HandlerId) (h : HandlerId) → has hs h ≡ true → f h ≡ true → has (filter f hs) h ≡ true
in_filter f [] h e y = absurd (true≢false (sym e))
in_filter f (x ∷ xs) h e y = let rest = in_filter f xs h in let same = (handler_decides x h).0 in grind (arith, nat_tests, rest, same)

-- a handler that was asked for its lock is among those to be given back
pub in_asked : (hs left : List HandlerId) (h : HandlerId) → has hs h ≡ true → (not (has left h) || is_lowest h left) ≡ true → has (asked hs left) h ≡ true
in_asked hs left h e a = in_filter (λ x. not (has left x) || is_lowest x left) hs h e a

pub all_known : (known hs : List HandlerId) → first_unknown known hs ≡ None → (h : HandlerId) → has hs h ≡ true → has known h ≡ true
all_known known [] e h m = absurd (true≢false (sym m))
all_known known (x ∷ xs) e h m = let rest = all_known known xs in grind (arith, nat_tests, rest, handler_decides x h)

-- ---- lists without repeats

abbrev pub NoTwice : List HandlerId → Type 0
NoTwice [] = ⊤
NoTwice (x ∷ xs) = (has xs x ≡ false) × NoTwice xs

has_before : (xs ys : List HandlerId) (h : HandlerId) → has xs h ≡ true → has (xs ++ ys) h ≡ true
has_before [] ys h e = absurd (true≢false (sym e))
has_before (x ∷ xs) ys h e = let rest = has_before xs ys h in grind (arith, nat_tests, rest)

has_pushed : (xs : List HandlerId) (h : HandlerId) → has (xs ++ h ∷ []) h ≡ true
has_pushed [] h = has_head h []
has_pushed (x ∷ xs) h = let rest = has_pushed xs h in grind (arith, nat_tests, rest)

record Apart (seen hs : List HandlerId) : Type 0 where
  once : NoTwice hs
  new : (h : HandlerId) → has hs h ≡ true → has seen h ≡ false

apart_after : (seen hs : List HandlerId) → first_repeated_after seen hs ≡ None → Apart seen hs
apart_after seen [] e = record { once = tt; new = λ h m. absurd (true≢false (sym m)) }
apart_after seen (x ∷ xs) e =
    by_test (λ t. (if t then Some x else first_repeated_after (seen ++ x ∷ []) xs) ≡ None → Apart seen (x ∷ xs)) (has seen x)
    (λ is f. absurd (cc))
    (λ is f.
    let rest = apart_after (seen ++ x ∷ []) xs f in
    record {
      once = (let here = has_pushed seen x in let new = rest.new x in grind (arith, here, new), rest.once);
      new = λ h m. let before = has_before seen (x ∷ []) h in let new = rest.new h in let same = (handler_decides x h).0 in
          grind (arith, nat_tests, before, new, same);
    }) e

pub none_repeated : (hs : List HandlerId) → first_repeated hs ≡ None → NoTwice hs
none_repeated hs e = (apart_after [] hs e).once
