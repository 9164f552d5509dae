-- The first pass.
use Rattle.std.proofs.Common.{◌≡◌, ℕ, ◌<◌, Bool, List, [], ◌∷◌, Option, Some, length, refl, arith, take, set, get_or, ◌++◌, zero, suc, sym, ap}
use Rattle.scoop_link.specs.Link.{Told}
use Rattle.scoop_book.specs.Passes.{PassValue}
use Rattle.scoop_netloop.specs.Serving.{ServesPass, ServesFirst}
use Rattle.scoop_netloop.proofs.Turns.{serves_nothing}

-- if nothing was done
pub serves_first_nothing : (c : Bool) (turns : ℕ) (passes : List PassValue) (a : Option Told) → 0 < length passes → ServesFirst c turns passes passes a a
serves_first_nothing c turns [] a some = absurd (omega arith)
serves_first_nothing c turns (p ∷ ps) a some = record { first = p; now = p; was_first = refl; is_first = refl; serves = serves_nothing c turns p a }

-- if the first pass was served, and stands before the others again
pub serves_first_served : (c : Bool) (turns : ℕ) (passes front executors rest : List PassValue) (n : ℕ) (d new : PassValue) (a b : Option Told)
    → front ≡ take 1 passes → 0 < length passes → 0 < n → ServesPass c turns (get_or front 0 d) new a b
    → ServesFirst c turns passes (take n ((set front 0 new ++ executors) ++ rest)) a b
serves_first_served c turns [] front executors rest n d new a b cut some more serves = absurd (omega arith)
serves_first_served c turns (p ∷ ps) [] executors rest n d new a b cut some more serves = cc
serves_first_served c turns (p ∷ ps) (x ∷ xs) executors rest zero d new a b cut some more serves = absurd (omega arith)
serves_first_served c turns (p ∷ ps) (x ∷ xs) executors rest (suc n) d new a b cut some more serves =
    let same : x ≡ p = cc in
    record { first = x; now = new; was_first = ap Some (sym same); is_first = refl; serves = serves }
