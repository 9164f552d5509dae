-- One write behind another.
use Rattle.std.proofs.Common.{ℕ, List, ◌++◌, Option, Some, None, Result, Ok, Err, OnOk, ◌∙◌, ap, append_assoc}
use Rattle.std.specs.Io.KnownBytes.{Appends}

pub appends_more : (a b c : Option (List ℕ)) (xs ys : List ℕ) → Appends a b xs → Appends b c ys → Appends a c (xs ++ ys)
appends_more None b c xs ys f s = tt
appends_more (Some ws) None c xs ys f s = absurd f
appends_more (Some ws) (Some bs) None xs ys f s = absurd s
appends_more (Some ws) (Some bs) (Some cs) xs ys f s = s ∙ ap (λ v. v ++ ys) f ∙ append_assoc ws xs ys

pub appends_behind : {T E : Type 0} → (r : Result T E) (a b c : Option (List ℕ)) (xs ys : List ℕ) → Appends a b xs → OnOk r (Appends b c ys)
    → OnOk r (Appends a c (xs ++ ys))
appends_behind (Ok v) a b c xs ys f s = appends_more a b c xs ys f s
appends_behind (Err e) a b c xs ys f s = tt
