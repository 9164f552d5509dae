-- The datagrams that a receive has taken so far.
use Rattle.std.proofs.Common.{◌≡◌, ℕ, zero, suc, ◌+◌, List, [], ◌∷◌, ◌++◌, length, All, Option, refl, sym, ap, ◌∙◌, length-append, arith}
use Rattle.std.proofs.lemmas.List.Elements.{All-append}
use Rattle.scoop_link.specs.Link.{Told, Exchanges}
use Rattle.scoop_link.proofs.Exchanges.{exchanges_nothing, exchanges-append}
use Rattle.scoop_seal.specs.Tag.{IsForged}
use Rattle.scoop_seal.specs.Sealed.{one_more, count_after, Refuses}

-- this number of datagrams was taken and refused
pub record SoFar (key : List ℕ) (before after : Option Told) (refused now n : ℕ) : Type 0 where
  pub forged : List (List ℕ)
  pub refuses : Refuses key before after refused now forged
  pub count : length forged ≡ n

All-nothing : (key : List ℕ) → All (IsForged key) []
All-nothing key k d below = absurd (omega arith)

All-one : (key d : List ℕ) → IsForged key d → All (IsForged key) (d ∷ [])
All-one key d forged zero e below = forged
All-one key d forged (suc k) e below = absurd (omega arith)

count_after-append : (refused : ℕ) (xs ys : List (List ℕ)) → count_after refused (xs ++ ys) ≡ count_after (count_after refused xs) ys
count_after-append refused [] ys = refl
count_after-append refused (x ∷ xs) ys = count_after-append (one_more refused) xs ys

pub so_far-nothing : (key : List ℕ) (at : Option Told) (refused : ℕ) → SoFar key at at refused refused 0
so_far-nothing key at refused = record {
  forged = [];
  refuses = record { exchanged = exchanges_nothing at; all_forged = All-nothing key; counted = refl };
  count = refl;
}

-- one datagram was taken and refused
pub refuses_one : (key : List ℕ) (before after : Option Told) (refused now : ℕ) (d : List ℕ) → Exchanges before after (d ∷ []) [] → IsForged key d
    → now ≡ one_more refused → Refuses key before after refused now (d ∷ [])
refuses_one key before after refused now d taken forged counted =
    record { exchanged = taken; all_forged = All-one key d forged; counted = counted }

-- and then one more
pub so_far-also : (key : List ℕ) (a b c : Option Told) (refused now then n : ℕ) → SoFar key a b refused now n → (d : List ℕ) × Refuses key b c now then (d ∷ [])
    → SoFar key a c refused then (n + 1)
so_far-also key a b c refused now then n first (d, one) = record {
  forged = first.forged ++ d ∷ [];
  refuses = record {
    exchanged = exchanges-append a b c first.forged (d ∷ []) [] [] first.refuses.exchanged one.exchanged;
    all_forged = All-append (IsForged key) first.forged (d ∷ []) first.refuses.all_forged one.all_forged;
    counted = one.counted ∙ (ap (λ k. one_more k) first.refuses.counted ∙ sym (count_after-append refused first.forged (d ∷ [])));
  };
  count = omega (arith, length-append first.forged (d ∷ []), first.count);
}
