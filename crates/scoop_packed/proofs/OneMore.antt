-- One value more of those that are read one after another.
use Rattle.std.proofs.Common.{◌≡◌, ℕ, zero, suc, ◌+◌, ◌<◌, List, [], ◌∷◌, ◌++◌, refl, ap, sym, add-one, length, take, set}
use Rattle.std.proofs.lemmas.List.{take_more_set}
use Rattle.scoop_packed.specs.Unpacked.{Read, reads}

more : {X : Type 0} (read : List ℕ → Read X) (n : ℕ) (ws : List ℕ)
    → reads read (suc n) ws ≡ (let xs = reads read n ws in let x = read xs.1 in (xs.0 ++ x.0 ∷ [], x.1))
more read zero ws = refl
more {X} read (suc n) ws = let x = read ws in ap (λ (p : Read (List X)). (x.0 ∷ p.0, p.1)) (more read n x.1)

module _ {X : Type 0} (read : List ℕ → Read X) (i : ℕ) (ws : List ℕ) (xs : List X) (v : X) (left : List ℕ) where
  pub values_more : i < length xs → take i xs ≡ (reads read i ws).0 → left ≡ (reads read i ws).1 → v ≡ (read left).0
      → take (i + 1) (set xs i v) ≡ (reads read (i + 1) ws).0
  values_more within done rest is =
      rw (take_more_set xs i v within, done, is, rest, add-one i) (sym (ap (λ (p : Read (List X)). p.0) (more read i ws)))

pub left_more : {X : Type 0} (read : List ℕ → Read X) (i : ℕ) (ws left : List ℕ) → left ≡ (reads read i ws).1
    → (read left).1 ≡ (reads read (i + 1) ws).1
left_more {X} read i ws left rest = rw (rest, add-one i) (sym (ap (λ (p : Read (List X)). p.1) (more read i ws)))
