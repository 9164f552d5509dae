-- A waiting block's condition and body name only its own handlers.
use Rattle.std.proofs.Common.{◌≡◌, Bool, true, false, List, [], ◌∷◌, ◌++◌, Option, Some, None, append_assoc, find, map, not, refl, ap, sym, ◌∙◌}
use Rattle.std.proofs.lemmas.List.{map-append}
use Rattle.std.proofs.lemmas.List.Folds.{find-append}
use Rattle.std.specs.Option.{option_or}
use Rattle.std.specs.Prelude.{if◌then◌else◌}
use Rattle.scoop_message.specs.declared.name.HandlerId.{HandlerId}
use Rattle.scoop_reserve.specs.Handlers.{has}
use Rattle.scoop_driver.specs.declared.condition.BodyEntry.{BodyEntry}
use Rattle.scoop_driver.specs.declared.condition.ConditionPart.{ConditionPart}
use Rattle.scoop_driver.specs.Wishes.{first_outside, handler_of, wish_for}

both_none : (a b : Option HandlerId) → option_or a b ≡ None → (a ≡ None) × (b ≡ None)
both_none None b is = (refl, is)
both_none (Some x) b is = cc

-- nothing is found in a longer list either
found_nowhere : (p : HandlerId → Bool) (xs ys zs : List HandlerId) → find p (xs ++ zs) ≡ None → find p ys ≡ None → find p ((xs ++ ys) ++ zs) ≡ None
found_nowhere p xs ys zs all more =
    let parts = both_none (find p xs) (find p zs) (sym (find-append p xs zs) ∙ all) in
    let front : find p (xs ++ ys) ≡ None = find-append p xs ys ∙ (ap (λ o. option_or o (find p ys)) parts.0 ∙ more) in
    find-append p (xs ++ ys) zs ∙ (ap (λ o. option_or o (find p zs)) front ∙ parts.1)

one_inside : (hs : List HandlerId) (h : HandlerId) → has hs h ≡ true → find (λ k. not (has hs k)) (h ∷ []) ≡ None
one_inside hs h there = ap (λ b. find (λ k. not b) (h ∷ [])) there

part_inside : (hs : List HandlerId) (parts : List ConditionPart) (body : List BodyEntry) (p : ConditionPart) → first_outside (wish_for hs parts body) ≡ None
    → has hs p.handler ≡ true → first_outside (wish_for hs (parts ++ p ∷ []) body) ≡ None
part_inside hs parts body p inside there =
    let outside : HandlerId → Bool = λ k. not (has hs k) in
    let asked : ConditionPart → HandlerId = λ x. x.handler in
    ap (λ xs. find outside (xs ++ map handler_of body)) (map-append asked parts (p ∷ []))
    ∙ found_nowhere outside (map asked parts) (p.handler ∷ []) (map handler_of body) inside (one_inside hs p.handler there)

entry_inside : (hs : List HandlerId) (parts : List ConditionPart) (body : List BodyEntry) (e : BodyEntry) → first_outside (wish_for hs parts body) ≡ None
    → has hs (handler_of e) ≡ true → first_outside (wish_for hs parts (body ++ e ∷ [])) ≡ None
entry_inside hs parts body e inside there =
    let outside : HandlerId → Bool = λ k. not (has hs k) in
    let xs = map (λ (x : ConditionPart). x.handler) parts in
    let ys = map handler_of body in
    let last = handler_of e ∷ [] in
    ap (λ zs. find outside (xs ++ zs)) (map-append handler_of body (e ∷ []))
    ∙ (ap (find outside) (sym (append_assoc xs ys last))
    ∙ (find-append outside (xs ++ ys) last ∙ (ap (λ o. option_or o (find outside last)) inside ∙ one_inside hs (handler_of e) there)))

-- the same after a push that may have failed
pub part_inside_if : (is_pushed : Bool) (hs : List HandlerId) (parts : List ConditionPart) (body : List BodyEntry) (p : ConditionPart)
    → first_outside (wish_for hs parts body) ≡ None → has hs p.handler ≡ true
    → first_outside (wish_for hs (if is_pushed then parts ++ p ∷ [] else parts) body) ≡ None
part_inside_if true hs parts body p inside there = part_inside hs parts body p inside there
part_inside_if false hs parts body p inside there = inside

pub entry_inside_if : (is_pushed : Bool) (hs : List HandlerId) (parts : List ConditionPart) (body : List BodyEntry) (e : BodyEntry)
    → first_outside (wish_for hs parts body) ≡ None → has hs (handler_of e) ≡ true
    → first_outside (wish_for hs parts (if is_pushed then body ++ e ∷ [] else body)) ≡ None
entry_inside_if true hs parts body e inside there = entry_inside hs parts body e inside there
entry_inside_if false hs parts body e inside there = inside
