-- A list of items of which those that a step concerns go on, and the others stay.
use Rattle.scoop_weave.proofs.Names.{filter, AllByRecursion, LocalMove, ◌≡◌, ℕ, suc, Bool, true, false, true≢false, List, [], ◌∷◌, map, find, slice_get, Some}
use Rattle.scoop_weave.proofs.Names.{refl, sym, ap, ◌∙◌, subst, if◌then◌else◌, Decides, NoRepeats, by_test}
use Rattle.std.specs.List.{AllZip}
use Rattle.std.proofs.lemmas.List.Elements.{same_from_all_zip}
use Rattle.scoop_weave.specs.Parties.{LeadOn}
use Rattle.scoop_weave.proofs.Lists.{zip_same, itself, apart, from_false, rest_once, none_later, untouched}

-- the item goes on where the step concerns it
pub data StepAt {A : Type 0} (R : A → A → Type 0) (x : A) : Bool → A → Type 0 where
  goes : (u : A) → R x u → StepAt R x true u
  stays : StepAt R x false x

pub gone : {A : Type 0} (R : A → A → Type 0) (x u : A) (b : Bool) → StepAt R x b u → b ≡ true → R x u
gone R x u true (goes y r) e = r
gone R x u false stays e = absurd (true≢false (sym e))

pub stayed : {A : Type 0} (R : A → A → Type 0) (x u : A) (b : Bool) → StepAt R x b u → b ≡ false → u ≡ x
stayed R x u true (goes y r) e = absurd (true≢false e)
stayed R x u false stays e = refl

module _ {A K : Type 0} (key : A → K) (same : K → K → Bool) (decides : (a b : K) → Decides (same a b) (a ≡ b)) (R : A → A → Type 0) (on : A → Bool) where
  -- and each keeps its key
  abbrev pub Step : A → A → Type 0
  Step x u = StepAt R x (on x) u × (key u ≡ key x)

  abbrev pub EachStep : List A → List A → Type 0
  EachStep xs us = AllZip Step xs us

  pub keys_stay : (xs us : List A) → EachStep xs us → map key us ≡ map key xs
  keys_stay xs us all = zip_same Step key (λ x u s. s.1) xs us all

  pub all_stay : (xs us : List A) → EachStep xs us → ((x : A) → on x ≡ false) → us ≡ xs
  all_stay xs us all none = same_from_all_zip Step xs us all (λ x u s. stayed R x u (on x) s.0 (none x))

  -- where the step is a function, and leaves what it doesn't concern
  pub all_go : (f : A → A) (xs us : List A) → EachStep xs us → ((x u : A) → R x u → u ≡ f x) → ((x : A) → on x ≡ false → f x ≡ x) → us ≡ map f xs
  all_go f [] [] all is other = refl
  all_go f (x ∷ xs) (u ∷ us) all is other =
      let here : u ≡ f x =
      by_test (λ _. u ≡ f x) (on x)
      (λ e. is x u (gone R x u (on x) all.0.0 e))
      (λ e. stayed R x u (on x) all.0.0 e ∙ sym (other x e)) in
      ap (λ y. y ∷ us) here ∙ ap (λ ys. f x ∷ ys) (all_go f xs us all.1 is other)
  all_go f xs ys all is other = absurd all

  -- the step concerns the items of one key
  module _ (k : K) (at : (x : A) → on x ≡ same k (key x)) where
    away : (x : A) → (key x ≡ k → ⊥) → on x ≡ false
    away x differ = at x ∙ apart same decides k (key x) (λ e. differ (sym e))

    others_stay : (xs us : List A) → EachStep xs us → ((j : ℕ) → slice_get (map key xs) j ≡ Some k → ⊥) → us ≡ xs
    others_stay [] [] all none = refl
    others_stay (x ∷ xs) (u ∷ us) all none =
        ap (λ y. y ∷ us) (stayed R x u (on x) all.0.0 (away x (λ e. none 0 (ap Some e))))
        ∙ ap (λ ys. x ∷ ys) (others_stay xs us all.1 (λ j e. none (suc j) e))
    others_stay xs ys all none = absurd all

    pub record GoesAt (s : A) (xs us : List A) : Type 0 where
      pub new : A
      pub moves : R s new
      pub keeps : key new ≡ key s
      pub after : us ≡ map (λ x. if same (key x) (key new) then new else x) xs

    pub one_goes : (xs us : List A) (s : A) → EachStep xs us → NoRepeats (map key xs) → find (λ a. same (key a) k) xs ≡ Some s → key s ≡ k → GoesAt s xs us
    one_goes [] us s all once found own = absurd (cc)
    one_goes (x ∷ xs) [] s all once found own = absurd all
    one_goes (x ∷ xs) (u ∷ us) s all once found own =
        by_test (λ t. (if t then Some x else find (λ a. same (key a) k) xs) ≡ Some s → GoesAt s (x ∷ xs) (u ∷ us)) (same (key x) k)
        (λ here is.
        let this : x ≡ s = cc in
        let x_key : key x ≡ k = (decides (key x) k).0 here in
        let u_key : key u ≡ k = all.0.1 ∙ x_key in
        let moves : R x u = gone R x u (on x) all.0.0 (at x ∙ ap (same k) x_key ∙ itself same decides k) in
        let none : (j : ℕ) → slice_get (map key xs) j ≡ Some k → ⊥ = λ j e. none_later key same decides x xs once j (e ∙ ap Some (sym x_key)) in
        let rest : us ≡ map (λ y. if same (key y) (key u) then u else y) xs =
        others_stay xs us all.1 none ∙ sym (untouched key same decides u xs (λ j e. none j (e ∙ ap Some u_key))) in
        let head : (if same (key x) (key u) then u else x) ≡ u = ap (λ t. if t then u else x) (ap (same (key x)) all.0.1 ∙ itself same decides (key x)) in
        record {
          new = u;
          moves = subst (λ y. R y u) this moves;
          keeps = all.0.1 ∙ ap key this;
          after = ap (λ ys. u ∷ ys) rest ∙ ap (λ y. y ∷ map (λ y. if same (key y) (key u) then u else y) xs) (sym head);
        })
        (λ there is.
        let later = one_goes xs us s all.1 (rest_once key same decides x xs once) is own in
        let new_key : key later.new ≡ k = later.keeps ∙ own in
        let other : u ≡ x = stayed R x u (on x) all.0.0 (away x (from_false same decides (key x) k there)) in
        let head : (if same (key x) (key later.new) then later.new else x) ≡ x = ap (λ t. if t then later.new else x) (ap (same (key x)) new_key ∙ there) in
        record {
          new = later.new;
          moves = later.moves;
          keeps = later.keeps;
          after =
              ap (λ y. y ∷ us) (other ∙ sym head)
              ∙ ap (λ ys. (if same (key x) (key later.new) then later.new else x) ∷ ys) later.after;
        }) found

-- ---- one party's own moves, of which the first is made

-- `Kept` holds between a party and itself after a move, whether it moved or stayed, and the same moves concern both.
module _ {A : Type 0} (Moves : LocalMove → A → A → Type 0) (on : LocalMove → A → Bool) (Good : A → Type 0) (Kept : A → A → Type 0)
    (moved : (m : LocalMove) (x y : A) → Good x → Moves m x y → Kept x y) (unmoved : (x : A) → Good x → Kept x x)
    (alike : (x y : A) → Kept x y → (m : LocalMove) → on m x ≡ on m y) (m : LocalMove) (ms : List LocalMove) where
  abbrev own : A → List LocalMove → List LocalMove
  own x xs = filter (λ m. on m x) xs

  abbrev Goes : A → A → Type 0
  Goes x y = StepAt (Moves m) x (on m x) y × Kept x y

  -- the party after the move, and what its other moves lead to
  record Onward (x t : A) : Type 0 where
    new : A
    step : Goes x new
    rest : LeadOn Moves new (own new ms) t

  onward : (x t : A) → Good x → LeadOn Moves x (own x (m ∷ ms)) t → Onward x t
  onward x t is =
      by_test (λ b. LeadOn Moves x (if b then m ∷ own x ms else own x ms) t → Onward x t) (on m x)
      (λ e r.
      let k = moved m x r.0 is r.1 in
      let same : (λ m. on m x) ≡ (λ m. on m r.0) = λ i m. alike x r.0 k m i in
      record {
        new = r.0;
        step = (subst (λ b. StepAt (Moves m) x b r.0) (sym e) (goes r.0 r.1), k);
        rest = subst (λ f. LeadOn Moves r.0 (filter f ms) t) same r.2;
      })
      (λ e r. record { new = x; step = (subst (λ b. StepAt (Moves m) x b x) (sym e) stays, unmoved x is); rest = r })

  pub record AllOnward (xs ts : List A) : Type 0 where
    pub new : List A
    pub steps : AllZip Goes xs new
    pub rest : AllZip (λ x t. LeadOn Moves x (own x ms) t) new ts

  pub all_onward : (xs ts : List A) → AllByRecursion Good xs → AllZip (λ x t. LeadOn Moves x (own x (m ∷ ms)) t) xs ts → AllOnward xs ts
  all_onward [] [] is each = record { new = []; steps = tt; rest = tt }
  all_onward (x ∷ xs) (t ∷ ts) is each =
      let one = onward x t is.0 each.0 in
      let more = all_onward xs ts is.1 each.1 in
      record { new = one.new ∷ more.new; steps = (one.step, more.steps); rest = (one.rest, more.rest) }
  all_onward xs ys is each = absurd each
