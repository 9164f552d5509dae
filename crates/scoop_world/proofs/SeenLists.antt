-- Lists whose items have a view, item by item.
use Rattle.std.proofs.Common.{◌≡◌, ℕ, ◌+◌, ◌<◌, List, ◌++◌, map, take, drop, length, get_or, set, sym, ap, ◌∙◌, subst, arith}
use Rattle.std.specs.List.{All}
use Rattle.std.proofs.Math.Seq.{map-set_same}
use Rattle.std.proofs.lemmas.List.{map-set, get_or-map, get_or-drop, drop-drop, drop-set-lt, get_or-set_same, take-set, length-map, length-set}
use Rattle.std.proofs.lemmas.List.Edits.{map_over_more}
use Rattle.std.proofs.lemmas.List.Elements.{All-more}

module _ {A B : Type 0} (view : A → B) where
  -- an item is replaced by one with the same view
  pub seen_same :
      (all now : List A) (i : ℕ) (x new : A) → view new ≡ view (get_or now i x) → map view now ≡ map view all → map view (set now i new) ≡ map view all
  seen_same all now i x new e same = map-set_same view now i new x e ∙ same

  -- an item is replaced by one with a changed view
  pub seen_changed :
      (f : B → B) (all now : List A) (i : ℕ) (x new : A) → i < length now → length now ≡ length all
      → map view now ≡ map f (take i (map view all)) ++ drop i (map view all)
      → view new ≡ f (view (get_or now i x))
      → map view (set now i new) ≡ map f (take (i + 1) (map view all)) ++ drop (i + 1) (map view all)
  seen_changed f all now i x new within same_length so_far e =
      let y : B = view (get_or now i x) in
      let at : y ≡ get_or (map view now) i y = sym (get_or-map view now i x y within) in
      let inside : i < length (map view all) = omega (arith, length-map all view, within, same_length) in
      map-set view now i new ∙ ap (set (map view now) i) e ∙ map_over_more f (map view all) (map view now) i y inside so_far at

module _ {A : Type 0} where
  -- the remaining items are as they were
  pub left_same : (all now : List A) (i : ℕ) (new : A) → drop i now ≡ drop i all → drop (i + 1) (set now i new) ≡ drop (i + 1) all
  left_same all now i new same =
      let lt : i < i + 1 = omega arith in
      drop-set-lt (i + 1) now i new lt ∙ sym (drop-drop 1 i now) ∙ ap (drop 1) same ∙ drop-drop 1 i all

  pub next_same : (all now : List A) (i : ℕ) (x : A) → drop i now ≡ drop i all → get_or now i x ≡ get_or all i x
  next_same all now i x same =
      let e : i + 0 ≡ i = omega arith in
      let P : ℕ → Type 0 = λ n. get_or now n x ≡ get_or all n x in
      subst P e (sym (get_or-drop i now 0 x) ∙ ap (λ (xs : List A). get_or xs 0 x) same ∙ get_or-drop i all 0 x)

  -- one more has the property
  pub all_so_far : (P : A → Type 0) (xs : List A) (i : ℕ) (new : A) → i < length xs → All P (take i xs) → P new → All P (take (i + 1) (set xs i new))
  all_so_far P xs i new within so_far p =
      let ys : List A = set xs i new in
      let inside : i < length ys = omega (arith, length-set xs i new, within) in
      let first : All P (take i ys) = subst (All P) (sym (take-set xs i new)) so_far in
      let own : P (get_or ys i new) = subst P (sym (get_or-set_same xs i new new within)) p in
      All-more P ys i new inside first own
