-- A message is found among keys just where it is among their messages.
use Rattle.std.proofs.Common.{◌≡◌, ◌⊎◌, inl, inr, zero, suc, ◌||◌, Bool, true, List, [], ◌∷◌, ◌++◌, map, refl, sym, ap, ◌∙◌, subst, true≢false, arith}
use Rattle.std.specs.Prelude.{◌↔◌, Contains, if◌then◌else◌}
use Rattle.std.specs.List.{list_any}
use Rattle.std.proofs.lemmas.List.{map-append}
use Rattle.std.proofs.Math.Bool.{or-true}
use Rattle.std.proofs.lemmas.List.Elements.{Contains-append_left, Contains-append_right, Contains-append_cases}
use Rattle.indexmap.specs.IndexSet.{insert_key}
use Rattle.scoop_message.specs.declared.message.Message.{Message}
use Rattle.scoop_message.proofs.Same.{message_decides}
use Rattle.scoop_model.proofs.Basics.{by_test}
use Rattle.scoop_weaver.specs.declared.key.Key.{Key}
use Rattle.scoop_weaver.specs.contracts.key.KeyPartialEq.TheImpl as on_key

abbrev pub key : Message → Key
key m = record { 0 = m }

abbrev pub messages_of : List Key → List Message
messages_of ks = map (λ k. k.0) ks

abbrev pub has_key : List Key → Message → Bool
has_key ks m = list_any (on_key.eq-value.it (key m)) ks

in_front : (m x : Message) (xs : List Message) → m ≡ x → Contains (x ∷ xs) m
in_front m x xs e = subst (λ y. Contains (y ∷ xs) m) e (0, omega arith, refl)

pub found_in : (ks : List Key) (m : Message) → has_key ks m ≡ true → Contains (messages_of ks) m
found_in [] m h = absurd (true≢false (sym h))
found_in (k ∷ ks) m h =
    by_test (λ b. on_key.eq-value.it (key m) k ≡ b → (b || has_key ks m) ≡ true → Contains (k.0 ∷ messages_of ks) m) (on_key.eq-value.it (key m) k)
    (λ _ e f. in_front m k.0 (messages_of ks) ((message_decides m k.0).0 e))
    (λ _ e f. Contains-append_right (k.0 ∷ []) (messages_of ks) m (found_in ks m f))
    refl h

pub in_found : (ks : List Key) (m : Message) → Contains (messages_of ks) m → has_key ks m ≡ true
in_found [] m c = let h = c.1 in absurd (omega arith)
in_found (k ∷ ks) m (zero, within, is) =
    ap (λ b. b || has_key ks m) ((message_decides m k.0).1 (sym is))
in_found (k ∷ ks) m (suc j, within, is) =
    ap (λ b. on_key.eq-value.it (key m) k || b) (in_found ks m (j, omega arith, is)) ∙ or-true (on_key.eq-value.it (key m) k)

in_one : (x m : Message) → Contains (x ∷ []) m → m ≡ x
in_one x m (zero, within, is) = sym is
in_one x m (suc j, within, is) = absurd (omega arith)

-- once a message is inserted, the keys have it and what they had
pub inserted : (ks : List Key) (x m : Message) → Contains (messages_of (insert_key on_key.eq-value.it ks (key x))) m ↔ (Contains (messages_of ks) m ⊎ (m ≡ x))
inserted ks x m =
    by_test (λ b. has_key ks x ≡ b → Contains (messages_of (if b then ks else ks ++ key x ∷ [])) m ↔ (Contains (messages_of ks) m ⊎ (m ≡ x))) (has_key ks x)
    (λ _ e. (inl, there e))
    (λ _ e. subst (λ xs. Contains xs m ↔ (Contains (messages_of ks) m ⊎ (m ≡ x))) (sym (map-append (λ (k : Key). k.0) ks (key x ∷ []))) (apart, joined))
    refl
  where
    there : has_key ks x ≡ true → Contains (messages_of ks) m ⊎ (m ≡ x) → Contains (messages_of ks) m
    there e (inl c) = c
    there e (inr same) = subst (Contains (messages_of ks)) (sym same) (found_in ks x e)

    apart : Contains (messages_of ks ++ x ∷ []) m → Contains (messages_of ks) m ⊎ (m ≡ x)
    apart c = either (Contains-append_cases (messages_of ks) (x ∷ []) m c)
      where
        either : Contains (messages_of ks) m ⊎ Contains (x ∷ []) m → Contains (messages_of ks) m ⊎ (m ≡ x)
        either (inl d) = inl d
        either (inr d) = inr (in_one x m d)

    joined : Contains (messages_of ks) m ⊎ (m ≡ x) → Contains (messages_of ks ++ x ∷ []) m
    joined (inl c) = Contains-append_left (messages_of ks) (x ∷ []) m c
    joined (inr same) = Contains-append_right (messages_of ks) (x ∷ []) m (in_front m x [] same)

pub found_iff : (ks : List Key) (now : List Message) (m : Message) (b : Bool) → messages_of ks ≡ now → b ≡ has_key ks m → (b ≡ true) ↔ Contains now m
found_iff ks now m b is told =
    ((λ t. subst (λ xs. Contains xs m) is (found_in ks m (sym told ∙ t))), (λ h. told ∙ in_found ks m (subst (λ xs. Contains xs m) (sym is) h)))

pub added_iff :
    (ks new : List Key) (now : List Message) (x m : Message) → messages_of ks ≡ now → new ≡ insert_key on_key.eq-value.it ks (key x)
    → Contains (messages_of new) m ↔ (Contains now m ⊎ (m ≡ x))
added_iff ks new now x m is told =
    subst (λ xs. Contains (messages_of new) m ↔ (Contains xs m ⊎ (m ≡ x))) is
    (subst (λ ys. Contains (messages_of ys) m ↔ (Contains (messages_of ks) m ⊎ (m ≡ x))) (sym told) (inserted ks x m))
