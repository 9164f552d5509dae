-- The place of a handler's window, searched from the front.
use Rattle.std.proofs.Common.{◌≡◌, ℕ, zero, suc, ◌<◌, ◌≤◌, true, false, List, [], ◌∷◌, length, get_or, set, Some, None, refl, ap, arith}
use Rattle.std.proofs.lemmas.List.{get_or_default}
use Rattle.scoop_message.specs.declared.name.HandlerId.{HandlerId}
use Rattle.scoop_message.specs.Message.{same_handler}
use Rattle.scoop_client.specs.Window.{WindowState, window_of, at_window, IsPlaceOf, IsNowhere}

-- the first i windows are of other handlers
pub record NoneBefore (h : HandlerId) (ls : List WindowState) (i : ℕ) : Type 0 where
  pub none : (k : ℕ) (d : WindowState) → k < i → k < length ls → same_handler (get_or ls k d).handler h ≡ false

behind : (h : HandlerId) (l : WindowState) (ls : List WindowState) (i : ℕ) → NoneBefore h (l ∷ ls) (suc i) → NoneBefore h ls i
behind h l ls i before = record { none = λ k d lt within. before.none (suc k) d (omega arith) (omega arith) }

window_there : (h : HandlerId) (ls : List WindowState) (i : ℕ) (d : WindowState) → i < length ls → NoneBefore h ls i
    → same_handler (get_or ls i d).handler h ≡ true → window_of h ls ≡ Some (get_or ls i d)
window_there h [] i d within before here = absurd (omega arith)
window_there h (l ∷ ls) zero d within before here = rw here refl
window_there h (l ∷ ls) (suc i) d within before here =
    rw (before.none 0 d (omega arith) (omega arith)) (window_there h ls i d (omega arith) (behind h l ls i before) here)

change_there : (h : HandlerId) (f : WindowState → WindowState) (ls : List WindowState) (i : ℕ) (d : WindowState) → i < length ls → NoneBefore h ls i
    → same_handler (get_or ls i d).handler h ≡ true → at_window h f ls ≡ set ls i (f (get_or ls i d))
change_there h f [] i d within before here = absurd (omega arith)
change_there h f (l ∷ ls) zero d within before here = rw here refl
change_there h f (l ∷ ls) (suc i) d within before here =
    rw (before.none 0 d (omega arith) (omega arith)) (ap (λ xs. l ∷ xs) (change_there h f ls i d (omega arith) (behind h l ls i before) here))

pub is_place : (h : HandlerId) (ls : List WindowState) (i : ℕ) (x : WindowState) → i < length ls → NoneBefore h ls i
    → same_handler (get_or ls i x).handler h ≡ true → IsPlaceOf h ls i
is_place h ls i x within before here = record {
  within = within;
  window = λ d. rw (get_or_default ls i d x within) (window_there h ls i x within before here);
  change = λ f d. rw (get_or_default ls i d x within) (change_there h f ls i x within before here);
}

no_window : (h : HandlerId) (ls : List WindowState) → NoneBefore h ls (length ls) → window_of h ls ≡ None
no_window h [] before = refl
no_window h (l ∷ ls) before =
    rw (before.none 0 l (omega arith) (omega arith)) (no_window h ls (behind h l ls (length ls) before))

no_change : (h : HandlerId) (f : WindowState → WindowState) (ls : List WindowState) → NoneBefore h ls (length ls) → at_window h f ls ≡ ls
no_change h f [] before = refl
no_change h f (l ∷ ls) before =
    rw (before.none 0 l (omega arith) (omega arith)) (ap (λ xs. l ∷ xs) (no_change h f ls (behind h l ls (length ls) before)))

pub is_nowhere : (h : HandlerId) (ls : List WindowState) (i : ℕ) → length ls ≤ i → NoneBefore h ls i → IsNowhere h ls
is_nowhere h ls i all before =
    let none : NoneBefore h ls (length ls) = record { none = λ k d lt within. before.none k d (omega arith) within } in
    record { window = no_window h ls none; change = λ f. no_change h f ls none }
