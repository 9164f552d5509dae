-- Sends after a receive timeout.
use Rattle.std.proofs.Common.{◌≡◌, ℕ, ◌+◌, ◌<◌, true, not, List, [], ◌∷◌, ◌++◌, map, set, get_or, take, drop, length, refl, inl, inr}
use Rattle.std.proofs.lemmas.Bool.{cases_Bool}
use Rattle.std.proofs.lemmas.List.{get_or_default}
use Rattle.std.proofs.lemmas.List.Edits.{map_over_more}
use Rattle.std.proofs.Math.Bool.{or-true}
use Rattle.std.specs.Prelude.{bytes_eq}
use Rattle.scoop_link.specs.declared.party.Party.{Party}
use Rattle.scoop_link.specs.declared.pace.Last.{Last}
use Rattle.scoop_link.specs.Party.{same_party}
use Rattle.scoop_link.specs.Pace.{PaceValue, silenced, last_to, passes_after, passes, after_silence}

-- a loop that marks a receive timeout after each
pub silenced_in_place : (xs ys : List Last) (i : ℕ) (d : Last) → i < length xs → i < length ys → ys ≡ map silenced (take i xs) ++ drop i xs
    → set ys i (silenced (get_or ys i d)) ≡ map silenced (take (i + 1) xs) ++ drop (i + 1) xs
silenced_in_place xs ys i d in_xs in_ys so_far = map_over_more silenced xs ys i (get_or ys i d) in_xs so_far (get_or_default ys i d _ in_ys)

silenced-passes : (p : PaceValue) (lasts : List Last) (to : Party) (datagram : List ℕ) → passes_after p datagram (last_to (map silenced lasts) to) ≡ true
silenced-passes p [] to datagram = refl
silenced-passes p (l ∷ ls) to datagram =
    elim (cases_Bool (same_party l.party to)) [
      | inl here ↦ rw here (or-true (not (bytes_eq l.datagram datagram)))
      | inr other ↦ rw other (silenced-passes p ls to datagram)
    ]

-- after a receive timeout every datagram is passed on
pub silence-passes : (p : PaceValue) (to : Party) (datagram : List ℕ) → passes (after_silence p) to datagram ≡ true
silence-passes p to datagram = silenced-passes (after_silence p) p.lasts to datagram
