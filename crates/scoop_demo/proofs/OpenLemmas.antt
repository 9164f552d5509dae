-- Why a book of one handler doesn't open.
use Rattle.std.proofs.Common.{◌≡◌, ◌⊎◌, inl, inr, ℕ, zero, suc, ◌<◌, List, [], ◌∷◌, get_or, Some, sym, ap, ◌∙◌, subst, arith}
use Rattle.std.specs.Prelude.{Contains, slice_get, take}
use Rattle.std.specs.List.{Any}
use Rattle.scoop_message.specs.declared.name.HandlerId.{HandlerId}
use Rattle.scoop_object.specs.Class.{ClassTable}
use Rattle.scoop_keeper.specs.Keeper.{Stored}
use Rattle.scoop_keeper.specs.Keyed.{IsFirstRepeat}
use Rattle.scoop_keeper.specs.declared.keeper.KeeperError.TheVariants as keeper
use Rattle.scoop_book.specs.declared.error.OpenError.{OpenError}
use Rattle.scoop_book.specs.declared.error.OpenError.TheVariants.{NoPasses, WrongClass, Repeated, Keeper, OutOfMemory}
use Rattle.scoop_book.specs.Opening.{Handed, IsFirstWrong, IsLoadRefusal, IsUnloaded, IsUnopened}
use Rattle.scoop_demo.specs.declared.fault.RunError.{RunError}
use Rattle.scoop_demo.specs.declared.fault.RunError.TheVariants as run
use Rattle.scoop_demo.specs.Storing.{FailsToOpen, OpensOne, TellsUnopened}
use Rattle.scoop_demo.specs.Storing.FailsToOpen.{wrong_class, refused, bad_image, wrong_words, no_memory}

-- a list of one
any_one : {A : Type 0} (P : A → Type 0) (x : A) → Any P (x ∷ []) → P x
any_one {A} P x any = at any.0 any.1 any.2 any.3 any.4
  where
    at : (k : ℕ) (y : A) → k < 1 → get_or (x ∷ []) k y ≡ y → P y → P x
    at zero y lt is p = subst P (sym is) p
    at (suc k) y lt is p = absurd (omega (arith, lt))

one_at : {A : Type 0} (x y : A) (i : ℕ) → slice_get (x ∷ []) i ≡ Some y → y ≡ x
one_at x y zero e = cc
one_at x y (suc i) e = absurd (cc)

one_apart : {A : Type 0} (x y : A) → IsFirstRepeat (x ∷ []) y → ⊥
one_apart x y repeat = at repeat.place repeat.there repeat.earlier
  where
    at : (i : ℕ) → slice_get (x ∷ []) i ≡ Some y → Contains (take i (x ∷ [])) y → ⊥
    at zero e c = let lt = c.1 in omega (arith, lt)
    at (suc i) e c = cc

module _ {B : Type 0} (class : B → ClassTable) (has : ℕ → Stored → Type 0) (honest : Type 0) (number : HandlerId) (own : ClassTable) (object : B) where
  abbrev handed : List (Handed B)
  handed = (number, own, object) ∷ []

  loaded : (e : OpenError) → IsUnloaded class has honest handed e → (e ≡ OutOfMemory) ⊎ IsLoadRefusal has honest number own e
  loaded e u = elim u.refused [ inl is ↦ inl is | inr any ↦ inr (any_one (λ (p : Handed B). IsLoadRefusal has honest p.0 p.1 e) (number, own, object) any) ]

  same_class : (e : OpenError) → IsUnloaded class has honest handed e → class object ≡ own
  same_class e u = u.may.classes.0

  pub opens_one : (e : OpenError) → IsUnopened class has honest handed e → OpensOne e
  opens_one NoPasses (inl w) = w
  opens_one NoPasses (inr u) = elim (loaded NoPasses u) [ inl is ↦ cc | inr r ↦ r ]
  opens_one (WrongClass h) u = tt
  opens_one (Repeated h) (inl w) = one_apart number h w.1
  opens_one (Repeated h) (inr u) = elim (loaded (Repeated h) u) [ inl is ↦ cc | inr r ↦ r ]
  opens_one (Keeper k) u = tt
  opens_one OutOfMemory u = tt

  wrong : (h : HandlerId) → IsFirstWrong class handed h → FailsToOpen has honest number own (class object) (run.WrongClass h)
  wrong h w =
      let is : w.handed ≡ (number, own, object) = one_at (number, own, object) w.handed w.place w.there in
      let named : h ≡ number = sym w.named ∙ ap (λ (p : Handed B). p.0) is in
      subst (λ (k : HandlerId). FailsToOpen has honest number own (class object) (run.WrongClass k)) (sym named)
      (wrong_class (λ same. w.wrong (ap (λ (p : Handed B). class p.2) is ∙ same ∙ sym (ap (λ (p : Handed B). p.1) is))))

  unloaded : (e : OpenError) (told : RunError) → class object ≡ own → IsLoadRefusal has honest number own e → TellsUnopened e told
      → FailsToOpen has honest number own (class object) told
  unloaded NoPasses told same r t = absurd r
  unloaded (WrongClass h) told same r t =
      subst (FailsToOpen has honest number own (class object)) (sym (t ∙ ap run.WrongClass r.0)) (wrong_words same r.1)
  unloaded (Repeated h) told same r t = absurd r
  unloaded (Keeper keeper.OutOfMemory) told same r t = absurd r
  unloaded (Keeper keeper.Refused) told same r t = subst (FailsToOpen has honest number own (class object)) (sym t) (refused same)
  unloaded (Keeper (keeper.BadImage h)) told same r t =
      subst (FailsToOpen has honest number own (class object)) (sym (t ∙ ap (λ (k : HandlerId). run.Store (keeper.BadImage k)) r.0)) (bad_image same r.1)
  unloaded (Keeper keeper.IncarnationsSpent) told same r t = absurd r
  unloaded (Keeper keeper.WrongSchema) told same r t = absurd r
  unloaded OutOfMemory told same r t = subst (FailsToOpen has honest number own (class object)) (sym t) no_memory

  pub fails_to_open : (e : OpenError) (told : RunError) → IsUnopened class has honest handed e → TellsUnopened e told
      → FailsToOpen has honest number own (class object) told
  fails_to_open NoPasses told (inl w) t = absurd w
  fails_to_open (WrongClass h) told (inl w) t = subst (FailsToOpen has honest number own (class object)) (sym t) (wrong h w)
  fails_to_open (Repeated h) told (inl w) t = absurd t
  fails_to_open (Keeper k) told (inl w) t = absurd w
  fails_to_open OutOfMemory told (inl w) t = absurd w
  fails_to_open e told (inr u) t =
      elim (loaded e u) [
        | inl is ↦ unloaded OutOfMemory told (same_class e u) tt (subst (λ (x : OpenError). TellsUnopened x told) is t)
        | inr r ↦ unloaded e told (same_class e u) r t
      ]
