-- Look-ups by a key in a list that is seen through a function, and lists in which no key stands twice.
use Rattle.scoop_weave.proofs.Names.{⊤, ◌≡◌, ℕ, suc, Bool, true, false, true≢false, List, [], ◌∷◌, ◌++◌, map, find, flat_map, slice_get, Some, refl, sym, ap}
use Rattle.scoop_weave.proofs.Names.{◌∙◌, subst, append-nil, if◌then◌else◌, ◌||◌, list_any, AllByRecursion, option_map, Decides, NoRepeats, by_test, key_found}
use Rattle.std.specs.List.{AllZip}
use Rattle.std.proofs.lemmas.Bool.{false_from_ne_true}
use Rattle.std.proofs.lemmas.Grind.{flat_map-append}

-- one item more
pub flat_map_snoc : {A B : Type 0} (f : A → List B) (xs : List A) (x : A) → flat_map f (xs ++ x ∷ []) ≡ flat_map f xs ++ f x
flat_map_snoc f xs x = flat_map-append f xs (x ∷ []) ∙ ap (λ ys. flat_map f xs ++ ys) (append-nil (f x))

pub nothing_more : {A B : Type 0} (f : A → List B) (xs : List A) (x : A) → f x ≡ [] → flat_map f (xs ++ x ∷ []) ≡ flat_map f xs
nothing_more f xs x none = flat_map_snoc f xs x ∙ ap (λ ys. flat_map f xs ++ ys) none ∙ append-nil (flat_map f xs)

pub all_split : {A : Type 0} (P : A → Type 0) (xs ys : List A) → AllByRecursion P (xs ++ ys) → AllByRecursion P xs × AllByRecursion P ys
all_split P [] ys all = (tt, all)
all_split P (x ∷ xs) ys all = let r = all_split P xs ys all.1 in ((all.0, r.0), r.1)

-- a test that fails one way fails the other way
module _ {K : Type 0} (same : K → K → Bool) (decides : (a b : K) → Decides (same a b) (a ≡ b)) where
  pub itself : (k : K) → same k k ≡ true
  itself k = (decides k k).1 refl

  pub apart : (a b : K) → (a ≡ b → ⊥) → same a b ≡ false
  apart a b differ = false_from_ne_true (same a b) (λ e. differ ((decides a b).0 e))

  pub from_false : (a b : K) → same a b ≡ false → a ≡ b → ⊥
  from_false a b differs e = true≢false (sym ((decides a b).1 e) ∙ differs)

-- a list that is seen through f, and then through g, where one item of it has changed
module _ {A B K : Type 0} (key : B → K) (same : K → K → Bool) where
  pub find_through : (f : A → B) (k : K) (xs : List A) → find (λ b. same (key b) k) (map f xs) ≡ option_map f (find (λ a. same (key (f a)) k) xs)
  find_through f k [] = refl
  find_through f k (x ∷ xs) =
      by_test (λ t. (if t then Some (f x) else find (λ b. same (key b) k) (map f xs)) ≡ option_map f (if t then Some x else find (λ a. same (key (f a)) k) xs))
      (same (key (f x)) k)
      (λ here. refl)
      (λ there. find_through f k xs)

  pub set_through :
      (f g : A → B) (t : B) (a : A) (xs : List A) → t ≡ g a → ((x : A) → same (key (f x)) (key t) ≡ false → f x ≡ g x)
      → map (λ b. if same (key b) (key t) then t else b) (map f xs) ≡ map g (map (λ x. if same (key (f x)) (key t) then a else x) xs)
  set_through f g t a [] is others = refl
  set_through f g t a (x ∷ xs) is others =
      ap (λ b. b ∷ map (λ b. if same (key b) (key t) then t else b) (map f xs))
      (by_test (λ u. (if u then t else f x) ≡ g (if u then a else x)) (same (key (f x)) (key t))
      (λ e. is)
      (λ e. others x e))
      ∙ ap (λ bs. g (if same (key (f x)) (key t) then a else x) ∷ bs) (set_through f g t a xs is others)

module _ {B K : Type 0} (key : B → K) (same : K → K → Bool) where
  pub has_found : (k : K) (xs : List B) → list_any (λ j. same j k) (map key xs) ≡ true → (x : B) × (find (λ b. same (key b) k) xs ≡ Some x)
  has_found k [] e = absurd (cc)
  has_found k (x ∷ xs) e =
      by_test (λ t. (t || list_any (λ j. same j k) (map key xs)) ≡ true → (y : B) × ((if t then Some x else find (λ b. same (key b) k) xs) ≡ Some y))
      (same (key x) k)
      (λ here f. (x, refl))
      (λ there f. has_found k xs f) e

  pub found_has : (k : K) (xs : List B) (x : B) → find (λ b. same (key b) k) xs ≡ Some x → list_any (λ j. same j k) (map key xs) ≡ true
  found_has k [] x e = absurd (cc)
  found_has k (y ∷ xs) x e =
      by_test (λ t. (if t then Some y else find (λ b. same (key b) k) xs) ≡ Some x → (t || list_any (λ j. same j k) (map key xs)) ≡ true) (same (key y) k)
      (λ here f. refl)
      (λ there f. found_has k xs x f) e

pub map_through : {A B : Type 0} (f g : A → B) (xs : List A) → ((x : A) → f x ≡ g x) → map f xs ≡ map g xs
map_through f g [] is = refl
map_through f g (x ∷ xs) is = ap (λ b. b ∷ map f xs) (is x) ∙ ap (λ bs. g x ∷ bs) (map_through f g xs is)

-- two lists, place by place
module _ {A : Type 0} (R : A → A → Type 0) where
  pub zip_same : {B : Type 0} (f : A → B) → ((x y : A) → R x y → f y ≡ f x) → (xs ys : List A) → AllZip R xs ys → map f ys ≡ map f xs
  zip_same f is [] [] all = refl
  zip_same f is (x ∷ xs) (y ∷ ys) all = ap (λ b. b ∷ map f ys) (is x y all.0) ∙ ap (λ bs. f x ∷ bs) (zip_same f is xs ys all.1)
  zip_same f is xs ys all = absurd all

  pub zip_all : (P Q : A → Type 0) → ((x y : A) → P x → R x y → Q y) → (xs ys : List A) → AllByRecursion P xs → AllZip R xs ys → AllByRecursion Q ys
  zip_all P Q is [] [] each all = tt
  zip_all P Q is (x ∷ xs) (y ∷ ys) each all = (is x y each.0 all.0, zip_all P Q is xs ys each.1 all.1)
  zip_all P Q is xs ys each all = absurd all

pub zip_more : {A B : Type 0} {R S : A → B → Type 0} → ((x : A) (y : B) → R x y → S x y) → (xs : List A) (ys : List B) → AllZip R xs ys → AllZip S xs ys
zip_more more [] [] all = tt
zip_more more (x ∷ xs) (y ∷ ys) all = (more x y all.0, zip_more more xs ys all.1)
zip_more more xs ys all = absurd all

pub all_of_any : {A : Type 0} (xs : List A) → AllByRecursion (λ (x : A). ⊤) xs
all_of_any [] = tt
all_of_any (x ∷ xs) = (tt, all_of_any xs)

-- an item that is put in the place of itself, where no key stands twice
module _ {A K : Type 0} (key : A → K) (same : K → K → Bool) (decides : (a b : K) → Decides (same a b) (a ≡ b)) where
  pub rest_once : (x : A) (xs : List A) → NoRepeats (map key (x ∷ xs)) → NoRepeats (map key xs)
  rest_once x xs once i j k e f =
      let same_place : suc i ≡ suc j = once (suc i) (suc j) k e f in
      cc

  pub none_later : (x : A) (xs : List A) → NoRepeats (map key (x ∷ xs)) → (j : ℕ) → slice_get (map key xs) j ≡ Some (key x) → ⊥
  none_later x xs once j e =
      let same_place : 0 ≡ suc j = once 0 (suc j) (key x) refl e in
      cc

  pub untouched : (s : A) (xs : List A) → ((j : ℕ) → slice_get (map key xs) j ≡ Some (key s) → ⊥) → map (λ x. if same (key x) (key s) then s else x) xs ≡ xs
  untouched s [] none = refl
  untouched s (x ∷ xs) none =
      ap (λ t. (if t then s else x) ∷ map (λ x. if same (key x) (key s) then s else x) xs) (apart same decides (key x) (key s) (λ e. none 0 (ap Some e)))
      ∙ ap (λ ys. x ∷ ys) (untouched s xs (λ j e. none (suc j) e))

  pub put_itself : (k : K) (xs : List A) (s : A) → NoRepeats (map key xs) → find (λ a. same (key a) k) xs ≡ Some s
      → map (λ x. if same (key x) (key s) then s else x) xs ≡ xs
  put_itself k [] s once found = refl
  put_itself k (x ∷ xs) s once found =
      by_test (λ t. (if t then Some x else find (λ a. same (key a) k) xs) ≡ Some s
      → map (λ x. if same (key x) (key s) then s else x) (x ∷ xs) ≡ x ∷ xs) (same (key x) k)
      (λ here is.
      let own : x ≡ s = cc in
      subst (λ s. map (λ x. if same (key x) (key s) then s else x) (x ∷ xs) ≡ x ∷ xs) own
      (ap (λ t. (if t then x else x) ∷ map (λ y. if same (key y) (key x) then x else y) xs) (itself same decides (key x))
      ∙ ap (λ ys. x ∷ ys) (untouched x xs (none_later x xs once))))
      (λ there is.
      let later = put_itself k xs s (rest_once x xs once) is in
      let found_key : key s ≡ k = key_found key same decides k xs s is in
      let not_here : same (key x) (key s) ≡ false = subst (λ j. same (key x) j ≡ false) (sym found_key) there in
      ap (λ t. (if t then s else x) ∷ map (λ x. if same (key x) (key s) then s else x) xs) not_here
      ∙ ap (λ ys. x ∷ ys) later) found
