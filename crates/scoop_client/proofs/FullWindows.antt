-- Full windows.
use Rattle.std.proofs.Common.{◌≡◌, ◌⊎◌, ⊎_elim, ℕ, zero, suc, ◌<◌, ◌≤◌, ◌++◌, Bool, true, false, cond, not, ◌&&◌, ◌||◌, List, [], ◌∷◌, length, get_or, take}
use Rattle.std.proofs.Common.{drop, map, find, Option, Some, None, refl, sym, ap, subst, ◌∙◌, inl, inr, arith}
use Rattle.std.specs.List.{list_all}
use Rattle.std.specs.Option.{option_map}
use Rattle.std.proofs.lemmas.Bool.{le-leb}
use Rattle.std.proofs.lemmas.Bool.Decides.{nat_tests}
use Rattle.std.proofs.Math.Nat.{le_refl}
use Rattle.std.specs.Prelude.{nat_le}
use Rattle.scoop_client.specs.Window.{WindowState, is_full, is_lowest_full, lowest_full}

here_or_later : {X : Type 0} (p : X → Bool) (x : X) (xs : List X) (i : ℕ) (d : X) (t : Bool) → p x ≡ t → cond t (Some x) (find p xs) ≡ None
    → i < length (x ∷ xs)
    → ((k : ℕ) → find p xs ≡ None → k < length xs → p (get_or xs k d) ≡ false) → p (get_or (x ∷ xs) i d) ≡ false
here_or_later p x xs i d true is e within later = cc
here_or_later p x xs zero d false is e within later = is
here_or_later p x xs (suc i) d false is e within later = later i e (omega arith)

-- if no element passes a test, each fails it
find_none : {X : Type 0} (p : X → Bool) (xs : List X) (i : ℕ) (d : X) → find p xs ≡ None → i < length xs → p (get_or xs i d) ≡ false
find_none p [] i d e within = absurd (omega arith)
find_none p (x ∷ xs) i d e within = here_or_later p x xs i d (p x) refl e within (λ k f w. find_none p xs k d f w)

-- a window that is full, and no full one is at a lower handler
record Least (ls : List WindowState) : Type 0 where
  window : WindowState
  place : ℕ
  within : place < length ls
  stands : (d : WindowState) → get_or ls place d ≡ window
  full : is_full window ≡ true
  least : list_all (λ x. not (is_full x) || nat_le window.handler.0 x.handler.0) ls ≡ true

abbrev NoneFull : List WindowState → Type 0
NoneFull ls = list_all (λ l. not (is_full l)) ls ≡ true

or_true : (t u : Bool) → t ≡ true → (t || u) ≡ true
or_true t u e = rw e refl

or_second : (t u : Bool) → u ≡ true → (t || u) ≡ true
or_second true u e = refl
or_second false u e = e

halves : (t u : Bool) → (t && u) ≡ true → (t ≡ true) × (u ≡ true)
halves true u e = (refl, e)
halves false u e = cc

whole : (t u : Bool) → t ≡ true → u ≡ true → (t && u) ≡ true
whole t u e f = rw (e, f) refl

below_none : (n : ℕ) (ls : List WindowState) → NoneFull ls → list_all (λ x. not (is_full x) || nat_le n x.handler.0) ls ≡ true
below_none n [] none = refl
below_none n (x ∷ xs) none = let p = halves _ _ none in whole _ _ (or_true _ _ p.0) (below_none n xs p.1)

one_below : (m n k : ℕ) (full : Bool) → m ≤ n → (not full || nat_le n k) ≡ true → (not full || nat_le m k) ≡ true
one_below m n k true le e = grind (arith, nat_tests)
one_below m n k false le e = refl

below_lower : (m n : ℕ) (ls : List WindowState) → m ≤ n → list_all (λ x. not (is_full x) || nat_le n x.handler.0) ls ≡ true
    → list_all (λ x. not (is_full x) || nat_le m x.handler.0) ls ≡ true
below_lower m n [] le all = refl
below_lower m n (x ∷ xs) le all = let p = halves _ _ all in whole _ _ (one_below m n x.handler.0 (is_full x) le p.0) (below_lower m n xs le p.1)

le_other : (m n : ℕ) → nat_le m n ≡ false → n ≤ m
le_other m n e = grind (arith, nat_tests)

first_least : (x : WindowState) (xs : List WindowState) → is_full x ≡ true → list_all (λ y. not (is_full y) || nat_le x.handler.0 y.handler.0) xs ≡ true
    → Least (x ∷ xs)
first_least x xs is rest = record {
  window = x;
  place = 0;
  within = omega arith;
  stands = λ d. refl;
  full = is;
  least = whole _ _ (or_second _ _ (le-leb x.handler.0 x.handler.0 (le_refl x.handler.0))) rest;
}

later_least : (x : WindowState) (xs : List WindowState) (l : Least xs) → (not (is_full x) || nat_le l.window.handler.0 x.handler.0) ≡ true → Least (x ∷ xs)
later_least x xs l first = record {
  window = l.window;
  place = suc l.place;
  within = omega (arith, l.within);
  stands = l.stands;
  full = l.full;
  least = whole _ _ first l.least;
}

least_or_none : (ls : List WindowState) → NoneFull ls ⊎ Least ls
least_or_none [] = inl refl
least_or_none (x ∷ xs) = by (is_full x) refl (least_or_none xs) where
  compare : is_full x ≡ true → (l : Least xs) → (t : Bool) → nat_le l.window.handler.0 x.handler.0 ≡ t → Least (x ∷ xs)
  compare is l true le = later_least x xs l (or_second _ _ le)
  compare is l false le = first_least x xs is (below_lower x.handler.0 l.window.handler.0 xs (le_other _ _ le) l.least)

  by : (t : Bool) → is_full x ≡ t → NoneFull xs ⊎ Least xs → NoneFull (x ∷ xs) ⊎ Least (x ∷ xs)
  by true is (inl none) = inr (first_least x xs is (below_none x.handler.0 xs none))
  by true is (inr l) = inr (compare is l (nat_le l.window.handler.0 x.handler.0) refl)
  by false is (inl none) = inl (whole _ _ (ap not is) none)
  by false is (inr l) = inr (later_least x xs l (or_true _ _ (ap not is)))

none_at : (ls : List WindowState) (i : ℕ) (d : WindowState) → NoneFull ls → i < length ls → is_full (get_or ls i d) ≡ false
none_at [] i d none within = absurd (omega arith)
none_at (x ∷ xs) zero d none within = not_true (is_full x) (halves _ _ none).0 where
  not_true : (t : Bool) → not t ≡ true → t ≡ false
  not_true true e = cc
  not_true false e = refl
none_at (x ∷ xs) (suc i) d none within = none_at xs i d (halves _ _ none).1 (omega arith)

no_window : (o : Option WindowState) → option_map (λ (l : WindowState). l.handler) o ≡ None → o ≡ None
no_window None e = refl
no_window (Some l) e = cc

no_least : (ls : List WindowState) → lowest_full ls ≡ None → Least ls → ⊥
no_least ls e l =
    let fails : is_lowest_full ls (get_or ls l.place l.window) ≡ false =
    find_none (is_lowest_full ls) ls l.place l.window (no_window (find (is_lowest_full ls) ls) e) l.within in
    let passes : is_lowest_full ls l.window ≡ true = whole _ _ l.full l.least in
    let both : is_lowest_full ls l.window ≡ false = subst (λ (x : WindowState). is_lowest_full ls x ≡ false) (l.stands l.window) fails in
    let no : true ≡ false = sym passes ∙ both in
    cc

pub none_full : (ls : List WindowState) (i : ℕ) (d : WindowState) → lowest_full ls ≡ None → i < length ls → is_full (get_or ls i d) ≡ false
none_full ls i d e within = ⊎_elim (λ none. none_at ls i d none within) (λ l. absurd (no_least ls e l)) (least_or_none ls)

left_of : {X : Type 0} (f : X → X) (xs : List X) (i : ℕ) (d : X) → i < length xs → get_or (map f (take i xs) ++ drop i xs) i d ≡ get_or xs i d
left_of f [] i d within = absurd (omega arith)
left_of f (x ∷ xs) zero d within = refl
left_of f (x ∷ xs) (suc i) d within = left_of f xs i d (omega arith)

-- an element that a loop over all hasn't reached yet
pub left_at : {X : Type 0} (f : X → X) (xs ys : List X) (i : ℕ) (d : X) → i < length xs → ys ≡ map f (take i xs) ++ drop i xs → get_or ys i d ≡ get_or xs i d
left_at f xs ys i d within so_far = rw so_far (left_of f xs i d within)
