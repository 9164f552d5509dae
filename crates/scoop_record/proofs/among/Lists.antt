-- Places in a list that grows at its end.
use Rattle.std.proofs.Common.{cond, inl, inr, arith, ◌≡◌, ◌∙◌, ◌+◌, ap, is_some, zero, length, ◌++◌, List, [], ◌∷◌, false, true, ℕ, suc, Some, None, Option}
use Rattle.std.proofs.Common.{refl, find, slice_get, Bool}
use Rattle.std.specs.List.{list_any, list_all, position_from}
use Rattle.std.proofs.lemmas.Bool.{and_parts}
use Rattle.sqlite_rules.specs.Lists.{Has}

pub slice_get_front : {A : Type 0} (xs ys : List A) (i : ℕ) (x : A) → slice_get xs i ≡ Some x → slice_get (xs ++ ys) i ≡ Some x
slice_get_front [] ys i x h = absurd (let e = h in cc)
slice_get_front (y ∷ xs) ys zero x h = h
slice_get_front (y ∷ xs) ys (suc i) x h = slice_get_front xs ys i x h

pub slice_get_last : {A : Type 0} (xs : List A) (x : A) → slice_get (xs ++ x ∷ []) (length xs) ≡ Some x
slice_get_last [] x = refl
slice_get_last (y ∷ xs) x = slice_get_last xs x

pub position_front : {A : Type 0} (p : A → Bool) (i : ℕ) (xs ys : List A) (k : ℕ) → position_from p i xs ≡ Some k → position_from p i (xs ++ ys) ≡ Some k
position_front p i [] ys k h = absurd (let e = h in cc)
position_front p i (x ∷ xs) ys k h = go (p x) (position_front p (i + 1) xs ys k) h
  where
    go : (b : Bool) → (position_from p (i + 1) xs ≡ Some k → position_from p (i + 1) (xs ++ ys) ≡ Some k)
        → cond b (Some i) (position_from p (i + 1) xs) ≡ Some k → cond b (Some i) (position_from p (i + 1) (xs ++ ys)) ≡ Some k
    go true again h = h
    go false again h = again h

pub position_last : {A : Type 0} (p : A → Bool) (i : ℕ) (xs : List A) (y : A) → position_from p i xs ≡ None → p y ≡ true
    → position_from p i (xs ++ y ∷ []) ≡ Some (i + length xs)
position_last p i [] y h is = rw is (ap Some (omega arith))
position_last p i (x ∷ xs) y h is = go (p x) (λ later. position_last p (i + 1) xs y later is) h
  where
    go : (b : Bool) → (position_from p (i + 1) xs ≡ None → position_from p (i + 1) (xs ++ y ∷ []) ≡ Some (i + 1 + length xs))
        → cond b (Some i) (position_from p (i + 1) xs) ≡ None → cond b (Some i) (position_from p (i + 1) (xs ++ y ∷ [])) ≡ Some (i + suc (length xs))
    go true again h = absurd (let e = h in cc)
    go false again h = again h ∙ ap Some (omega arith)

pub find_front : {A : Type 0} (p : A → Bool) (xs ys : List A) (x : A) → find p xs ≡ Some x → find p (xs ++ ys) ≡ Some x
find_front p [] ys x h = absurd (let e = h in cc)
find_front p (z ∷ xs) ys x h = go (p z) (find_front p xs ys x) h
  where
    go : (b : Bool) → (find p xs ≡ Some x → find p (xs ++ ys) ≡ Some x) → cond b (Some z) (find p xs) ≡ Some x → cond b (Some z) (find p (xs ++ ys)) ≡ Some x
    go true again h = h
    go false again h = again h

pub find_last : {A : Type 0} (p : A → Bool) (xs : List A) (y : A) → ((x : A) → Has xs x → p x ≡ false) → p y ≡ true → find p (xs ++ y ∷ []) ≡ Some y
find_last p [] y none is = rw is refl
find_last p (x ∷ xs) y none is = rw (none x (inl refl)) (find_last p xs y (λ z later. none z (inr later)) is)

pub any_last : {A : Type 0} (p : A → Bool) (xs : List A) (y : A) → p y ≡ false → list_any p (xs ++ y ∷ []) ≡ list_any p xs
any_last p [] y is = rw is refl
any_last p (x ∷ xs) y is = rw (any_last p xs y is) refl

pub some_of : {A : Type 0} (o : Option A) → is_some o ≡ true → (x : A) × (o ≡ Some x)
some_of None h = absurd (let e = h in cc)
some_of (Some x) h = (x, refl)

pub all_last : {A : Type 0} (p : A → Bool) (xs : List A) (y : A) → list_all p xs ≡ true → p y ≡ true → list_all p (xs ++ y ∷ []) ≡ true
all_last p [] y h is = rw is refl
all_last p (x ∷ xs) y h is = let both = and_parts (p x) (list_all p xs) h in rw (both.0, all_last p xs y both.1 is) refl

pub append_nil : {A : Type 0} (xs : List A) → xs ++ [] ≡ xs
append_nil [] = refl
append_nil (x ∷ xs) = ap (λ ys. x ∷ ys) (append_nil xs)

pub find_past : {A : Type 0} (p : A → Bool) (xs ys : List A) → find p xs ≡ None → find p (xs ++ ys) ≡ find p ys
find_past p [] ys h = refl
find_past p (x ∷ xs) ys h = go (p x) (find_past p xs ys) h
  where
    go : (b : Bool) → (find p xs ≡ None → find p (xs ++ ys) ≡ find p ys) → cond b (Some x) (find p xs) ≡ None → cond b (Some x) (find p (xs ++ ys)) ≡ find p ys
    go true again h = absurd (let e = h in cc)
    go false again h = again h

pub position_past : {A : Type 0} (p : A → Bool) (i : ℕ) (xs : List A) (y : A) → position_from p i xs ≡ None → p y ≡ false
    → position_from p i (xs ++ y ∷ []) ≡ None
position_past p i [] y h is = rw is refl
position_past p i (x ∷ xs) y h is = go (p x) (λ later. position_past p (i + 1) xs y later is) h
  where
    go : (b : Bool) → (position_from p (i + 1) xs ≡ None → position_from p (i + 1) (xs ++ y ∷ []) ≡ None)
        → cond b (Some i) (position_from p (i + 1) xs) ≡ None → cond b (Some i) (position_from p (i + 1) (xs ++ y ∷ [])) ≡ None
    go true again h = absurd (let e = h in cc)
    go false again h = again h
