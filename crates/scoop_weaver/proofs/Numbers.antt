-- The numbers of messages: places among keys.
use Rattle.std.proofs.Common.{◌≡◌, ℕ, zero, suc, ◌+◌, ◌-◌, true, false, true≢false, Bool, List, [], ◌∷◌, ◌++◌, map, slice_get, Option, Some, None, refl, sym, ap, ◌∙◌, subst, append-nil, arith}
use Rattle.std.specs.Prelude.{if◌then◌else◌}
use Rattle.std.specs.List.{AllByRecursion, IsDistinct, list_any}
use Rattle.std.specs.Option.{option_map}
use Rattle.std.proofs.lemmas.List.{map-append}
use Rattle.std.proofs.lemmas.Option.{slice_get-map}
use Rattle.indexmap.specs.IndexSet.{insert_key}
use Rattle.scoop_message.specs.declared.message.Message.{Message}
use Rattle.scoop_message.proofs.Same.{message_decides}
use Rattle.scoop_model.proofs.Basics.{by_test}
use Rattle.scoop_weaver.specs.declared.key.Key.{Key}
use Rattle.scoop_weaver.specs.contracts.key.KeyPartialEq.TheImpl as on_key
use Rattle.scoop_weaver.specs.Post.{message_at, Grows}
use Rattle.scoop_weaver.proofs.Found.{messages_of}

pub keys_grow : (ks new : List Key) (now : List Message) (x : Key) → messages_of ks ≡ now → new ≡ insert_key on_key.eq-value.it ks x → Grows now (messages_of new)
keys_grow ks new now x is told =
    subst (λ xs. Grows xs (messages_of new)) is (subst (λ ns. Grows (messages_of ks) (messages_of ns)) (sym told)
    (by_test (λ b. Grows (messages_of ks) (messages_of (if b then ks else ks ++ x ∷ []))) (list_any (on_key.eq-value.it x) ks)
    (λ _. record { more = []; is = sym (append-nil (messages_of ks)) })
    (λ _. record { more = x.0 ∷ []; is = map-append (λ (k : Key). k.0) ks (x ∷ []) })))

-- ---- a message has one number

not_later : (k : Key) (ks : List Key) (j : ℕ) (m : Message) → AllByRecursion (λ y. on_key.eq-value.it k y ≡ false) ks → k.0 ≡ m
    → slice_get (messages_of ks) j ≡ Some m → ⊥
not_later k [] j m all same e = cc
not_later k (y ∷ ys) zero m all same e =
    let here : y.0 ≡ m = cc in
    true≢false (sym ((message_decides k.0 y.0).1 (same ∙ sym here)) ∙ all.0)
not_later k (y ∷ ys) (suc j) m all same e = not_later k ys j m all.1 same e

pub once : (ks : List Key) → IsDistinct on_key.eq-value.it ks → (i j : ℕ) (m : Message) → slice_get (messages_of ks) i ≡ Some m
    → slice_get (messages_of ks) j ≡ Some m → i ≡ j
unfolding IsDistinct
once [] d i j m e f = absurd (cc)
once (k ∷ ks) d zero zero m e f = refl
once (k ∷ ks) d zero (suc j) m e f = absurd (not_later k ks j m d.0 (let here : k.0 ≡ m = cc in here) f)
once (k ∷ ks) d (suc i) zero m e f = absurd (not_later k ks i m d.0 (let here : k.0 ≡ m = cc in here) e)
once (k ∷ ks) d (suc i) (suc j) m e f = ap suc (once ks d.1 i j m e f)

-- ---- looked up

-- the message of a number is that of the key at its place
pub message_there : (ks : List Key) (i : ℕ) (k : Key) → slice_get ks i ≡ Some k → message_at (messages_of ks) (i + 1) ≡ Some k.0
message_there ks i k e =
    let e1 : i + 1 ≡ suc i = omega arith in
    ap (message_at (messages_of ks)) e1 ∙ (slice_get-map (λ (x : Key). x.0) ks i ∙ ap (option_map (λ (x : Key). x.0)) e)

pub key_named : (ks : List Key) (i : ℕ) (m : Message) (k : Key) → slice_get ks i ≡ Some k → on_key.eq-value.it (record { 0 = m }) k ≡ true
    → message_at (messages_of ks) (i + 1) ≡ Some m
key_named ks i m k e same = message_there ks i k e ∙ ap Some (sym ((message_decides m k.0).0 same))

pub message_read : (ks : List Key) (now : List Message) (n : ℕ) (o : Option Key) → messages_of ks ≡ now → (n ≡ 0 → ⊥) → o ≡ slice_get ks (n - 1)
    → option_map (λ (k : Key). k.0) o ≡ message_at now n
message_read ks now zero o is h e = absurd (h refl)
message_read ks now (suc i) o is h e =
    let less : suc i - 1 ≡ i = omega arith in
    ap (option_map (λ (k : Key). k.0)) (e ∙ ap (slice_get ks) less) ∙ (sym (slice_get-map (λ (k : Key). k.0) ks i) ∙ ap (λ ms. slice_get ms i) is)
