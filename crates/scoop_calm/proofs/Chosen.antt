-- The events that may be next: the one that is next is among them, and there is one if any may be next.
use Rattle.scoop_calm.proofs.Names.{arith, ◌≡◌, inl, inr, Bool, true, false, List, [], ◌∷◌, find, Option, Some, None, refl, sym, ap, ◌∙◌, subst, same_Some}
use Rattle.scoop_calm.proofs.Names.{if◌then◌else◌, option_map, option_or, World, Site, Party, number_of, id_of, by_test, Next, asks_well, is_out, can_begin}
use Rattle.scoop_calm.proofs.Names.{can_end, next_finish, next_begin, ask_of, next_ask, next_end, next_of, Member}
use Rattle.scoop_calm.specs.declared.next.Next.TheVariants as next

pub data IsChoice (w : World) : Next → Type 0 where
  finishes : (s : Site) → Member s w.sites → is_out s ≡ true → IsChoice w (next.Finish (number_of s))
  begins : (s : Site) → Member s w.sites → can_begin s ≡ true → IsChoice w (next.Begin (number_of s))
  asks : (p : Party) (s : Site) → Member p w.parties → Member s w.sites → asks_well p s ≡ true → IsChoice w (next.Ask (id_of p) (number_of s))
  ends : (p : Party) → Member p w.parties → can_end p ≡ true → IsChoice w (next.End (id_of p))

-- ---- the first that passes a test

pub record Found {A : Type 0} (test : A → Bool) (xs : List A) : Type 0 where
  pub item : A
  pub in_list : Member item xs
  pub passes : test item ≡ true

-- a choice made of a found item
pub record MadeOf {A : Type 0} (test : A → Bool) (make : A → Next) (xs : List A) (x : Next) : Type 0 where
  pub found : Found test xs
  pub makes : make found.item ≡ x

made_of : {A : Type 0} (test : A → Bool) (make : A → Next) (xs : List A) (x : Next) → option_map make (find test xs) ≡ Some x → MadeOf test make xs x
made_of test make [] x e = absurd (cc)
made_of test make (y ∷ ys) x e =
    by_test (λ t. option_map make (if t then Some y else find test ys) ≡ Some x → MadeOf test make (y ∷ ys) x) (test y)
    (λ is f. record { found = record { item = y; in_list = inl refl; passes = is }; makes = same_Some (make y) x f })
    (λ is f. let m = made_of test make ys x f in record {
      found = record { item = m.found.item; in_list = inr m.found.in_list; passes = m.found.passes };
      makes = m.makes;
    }) e

pub finds : {A : Type 0} (test : A → Bool) (make : A → Next) (xs : List A) (x : A) → Member x xs → test x ≡ true → option_map make (find test xs) ≡ None → ⊥
finds test make [] x m is e = m
finds test make (y ∷ ys) x (inl same) is e = let one = ap test same in grind (arith, one)
finds test make (y ∷ ys) x (inr n) is e = let rest = finds test make ys x n is in grind (arith, rest)

pub none_found : {A : Type 0} (test : A → Bool) (make : A → Next) (xs : List A) → ((x : A) → Member x xs → test x ≡ false)
    → option_map make (find test xs) ≡ None
none_found test make [] none = refl
none_found test make (y ∷ ys) none =
    ap (λ t. option_map make (if t then Some y else find test ys)) (none y (inl refl)) ∙ none_found test make ys (λ x m. none x (inr m))

-- ---- one of several

pub neither : (o p : Option Next) → option_or o p ≡ None → (o ≡ None) × (p ≡ None)
neither None p e = (refl, e)
neither (Some x) p e = absurd (cc)

pub none_or : (o p : Option Next) → o ≡ None → p ≡ None → option_or o p ≡ None
none_or o p e f = ap (λ x. option_or x p) e ∙ f

either : (w : World) (x : Next) (o p : Option Next) → (o ≡ Some x → IsChoice w x) → (p ≡ Some x → IsChoice w x) → option_or o p ≡ Some x → IsChoice w x
either w x None p first later e = later e
either w x (Some y) p first later e = first e

module _ (w : World) where
  finish_chosen : (x : Next) → next_finish w ≡ Some x → IsChoice w x
  finish_chosen x e =
      let m = made_of is_out (λ (s : Site). next.Finish (number_of s)) w.sites x e in
      subst (IsChoice w) m.makes (finishes m.found.item m.found.in_list m.found.passes)

  begin_chosen : (x : Next) → next_begin w ≡ Some x → IsChoice w x
  begin_chosen x e =
      let m = made_of can_begin (λ (s : Site). next.Begin (number_of s)) w.sites x e in
      subst (IsChoice w) m.makes (begins m.found.item m.found.in_list m.found.passes)

  ask_chosen : (x : Next) (ps : List Party) → ((p : Party) → Member p ps → Member p w.parties) → next_ask w.sites ps ≡ Some x → IsChoice w x
  ask_chosen x [] within e = absurd (cc)
  ask_chosen x (p ∷ ps) within e =
      either w x (ask_of w.sites p) (next_ask w.sites ps)
      (λ f.
      let m = made_of (asks_well p) (λ (s : Site). next.Ask (id_of p) (number_of s)) w.sites x f in
      subst (IsChoice w) m.makes (asks p m.found.item (within p (inl refl)) m.found.in_list m.found.passes))
      (λ f. ask_chosen x ps (λ q m. within q (inr m)) f) e

  end_chosen : (x : Next) → next_end w ≡ Some x → IsChoice w x
  end_chosen x e =
      let m = made_of can_end (λ (p : Party). next.End (id_of p)) w.parties x e in
      subst (IsChoice w) m.makes (ends m.found.item m.found.in_list m.found.passes)

  -- the one that is next may be next
  pub chosen : (x : Next) → next_of w ≡ Some x → IsChoice w x
  chosen x e =
      either w x (next_finish w) (option_or (next_begin w) (option_or (next_ask w.sites w.parties) (next_end w))) (finish_chosen x)
      (either w x (next_begin w) (option_or (next_ask w.sites w.parties) (next_end w)) (begin_chosen x)
      (either w x (next_ask w.sites w.parties) (next_end w) (ask_chosen x w.parties (λ p m. m)) (end_chosen x))) e

  no_ask : (ps : List Party) (p : Party) (s : Site) → Member p ps → Member s w.sites → asks_well p s ≡ true → next_ask w.sites ps ≡ None → ⊥
  no_ask [] p s m n is e = m
  no_ask (q ∷ qs) p s (inl same) n is e = finds (asks_well p) (λ (y : Site). next.Ask (id_of p) (number_of y)) w.sites s n is
      (ap (ask_of w.sites) (sym same) ∙ (neither (ask_of w.sites q) (next_ask w.sites qs) e).0)
  no_ask (q ∷ qs) p s (inr k) n is e = no_ask qs p s k n is (neither (ask_of w.sites q) (next_ask w.sites qs) e).1

  -- where none is, nothing may be
  pub none_chosen : next_of w ≡ None → (x : Next) → IsChoice w x → ⊥
  none_chosen e x c =
      let first = neither (next_finish w) (option_or (next_begin w) (option_or (next_ask w.sites w.parties) (next_end w))) e in
      let second = neither (next_begin w) (option_or (next_ask w.sites w.parties) (next_end w)) first.1 in
      let third = neither (next_ask w.sites w.parties) (next_end w) second.1 in
      by_choice first.0 second.0 third.0 third.1 x c
    where
      by_choice : next_finish w ≡ None → next_begin w ≡ None → next_ask w.sites w.parties ≡ None → next_end w ≡ None → (x : Next) → IsChoice w x → ⊥
      by_choice f b a d _ (finishes s m is) = finds is_out (λ (y : Site). next.Finish (number_of y)) w.sites s m is f
      by_choice f b a d _ (begins s m is) = finds can_begin (λ (y : Site). next.Begin (number_of y)) w.sites s m is b
      by_choice f b a d _ (asks p s m n is) = no_ask w.parties p s m n is a
      by_choice f b a d _ (ends p m is) = finds can_end (λ (y : Party). next.End (id_of y)) w.parties p m is d
