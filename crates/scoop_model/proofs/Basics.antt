-- Small lemmas that many proofs share.
use Rattle.std.proofs.Common.{◌≡◌, Bool, true, false, ◌||◌, true≢false, Option, Some, refl, ap, ◌∙◌, Ok, List, [], ◌∷◌, map}
use Rattle.std.proofs.lemmas.Option.{same_Some}
use Rattle.std.specs.List.{AllByRecursion}
use Rattle.scoop_client.specs.State.{ClientState}
use Rattle.scoop_reserve.specs.declared.stage.Stage.TheVariants.{Locking, Opening, GivingUp}
use Rattle.scoop_reserve.specs.State.{ReservationState}
use Rattle.scoop_model.specs.World.{Party}
pub use Rattle.scoop_handler.proofs.Basics.{by_test}
use Rattle.scoop_client.specs.Commands as client

pub first_false : (t u : Bool) → (t || u) ≡ false → t ≡ false
first_false true u e = absurd (true≢false e)
first_false false u e = refl

pub some_same : {A : Type 0} (o : Option A) (x y : A) → o ≡ Some x → o ≡ Some y → x ≡ y
some_same o x y e f = cc

-- the client after a command that it takes
pub ok_is : (a b : ClientState) → ◌≡◌ {A = client.Outcome} (Ok a) (Ok b) → a ≡ b
ok_is a b e = cc

-- the reservation of a party that was found
pub of_party : (q y : Party) (s : ReservationState) → Some q ≡ Some y → y.client.reservation ≡ Some s → q.client.reservation ≡ Some s
of_party q y s e has = ap (λ (z : Party). z.client.reservation) (same_Some q y e) ∙ has

-- a reservation that locks or opens isn't given up
pub locking_giving : Locking ≡ GivingUp → ⊥
locking_giving e = cc

pub opening_giving : Opening ≡ GivingUp → ⊥
opening_giving e = cc

-- ---- each of a list

pub all_made : {A B : Type 0} (f : A → B) (P : B → Type 0) → ((a : A) → P (f a)) → (xs : List A) → AllByRecursion P (map f xs)
all_made f P p [] = tt
all_made f P p (x ∷ xs) = (p x, all_made f P p xs)

pub all_mapped : {A B : Type 0} (f : A → B) (P : A → Type 0) (Q : B → Type 0) → ((a : A) → P a → Q (f a)) → (xs : List A) → AllByRecursion P xs
    → AllByRecursion Q (map f xs)
all_mapped f P Q go [] all = tt
all_mapped f P Q go (x ∷ xs) all = (go x all.0, all_mapped f P Q go xs all.1)
