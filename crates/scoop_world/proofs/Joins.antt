-- The clients that have joined so far, and their records in the keeper.
use Rattle.std.proofs.Common.{◌≡◌, ◌⊎◌, inl, inr, ⊎_elim, ◌==◌, ℕ, zero, suc, ◌+◌, ◌<◌, ◌≤◌, List, [], ◌∷◌, ◌++◌, map, length, take, get_or, slice_get, Option}
use Rattle.std.proofs.Common.{Some, None, refl, sym, ap, ◌∙◌, subst, arith}
use Rattle.std.specs.Prelude.{unwrap_or, IfErr, Result, Ok, Err}
use Rattle.std.specs.Result.{IsErrAnd}
use Rattle.std.specs.List.{AllByRecursion, Any}
use Rattle.std.proofs.lemmas.Bool.{eqb-true, eqb-false}
use Rattle.std.proofs.lemmas.List.{map-append}
use Rattle.std.proofs.lemmas.Option.{slice_get-map, slice_get-get_or}
use Rattle.scoop_message.specs.declared.name.ClientId.{ClientId}
use Rattle.scoop_message.specs.declared.name.HandlerId.{HandlerId}
use Rattle.scoop_keeper.specs.Keeper.{Sets, last_incarnation, next_of}
use Rattle.scoop_keeper.specs.Memory.{MemoryRecord, incarnation_at}
use Rattle.scoop_keeper.proofs.Lists.{all_more}
use Rattle.scoop_world.specs.declared.error.WorldOpenError.{WorldOpenError}
use Rattle.scoop_world.specs.declared.error.WorldOpenError.TheVariants.{OutOfMemory, IncarnationsSpent}
use Rattle.scoop_model.specs.World.{Party}
use Rattle.scoop_model.specs.Step.{Newcomer, new_party}
use Rattle.scoop_model.specs.Opening.{IsJoining}
use Rattle.scoop_world.specs.Placing.{newcomer_of, newcomers_of}
use Rattle.scoop_message.specs.Lists.{NoRepeats}
use Rattle.scoop_world.specs.Kept.{HasIncarnation}
use Rattle.scoop_model.proofs.Basics.{by_test}

-- a client before any place has its next incarnation, and a client from there on its old one
pub record Joined (hs : List HandlerId) (before : MemoryRecord) (cs : List (ClientId × ℕ)) (i : ℕ) (ps : List Party) (k : MemoryRecord) : Type 0 where
  pub parties : ps ≡ map new_party (newcomers_of hs (incarnation_at before) (take i cs))
  pub joining : AllByRecursion IsJoining (newcomers_of hs (incarnation_at before) (take i cs))
  pub next : (j : ℕ) (c : ClientId × ℕ) → j < i → slice_get cs j ≡ Some c → incarnation_at k c.0.0 ≡ Some (next_of (incarnation_at before c.0.0))
  pub left : (j : ℕ) (c : ClientId × ℕ) → i ≤ j → slice_get cs j ≡ Some c → incarnation_at k c.0.0 ≡ incarnation_at before c.0.0
  pub states : k.states ≡ before.states

-- a client as it joins, by its stored incarnation
abbrev joins_with : List HandlerId → ClientId × ℕ → Option ℕ → Newcomer
joins_with hs c o = record { id = c.0; batch = c.1; stored = unwrap_or o 0; handlers = hs }

same_number : (a b : ClientId) → a.0 ≡ b.0 → a ≡ b
same_number a b e = let make : ℕ → ClientId = λ n. record { 0 = n } in ap make e

-- the place of a client's number
number_at : (cs : List (ClientId × ℕ)) (j : ℕ) (c : ClientId × ℕ) → slice_get cs j ≡ Some c → slice_get (map (λ (x : ClientId × ℕ). x.0) cs) j ≡ Some c.0
number_at cs j c at = slice_get-map (λ (x : ClientId × ℕ). x.0) cs j ∙ ap (λ o. elim o as (λ _. Option ClientId) [ None ↦ None | Some y ↦ Some y.0 ]) at

-- one more client joins
pub joined_more : (hs : List HandlerId) (before : MemoryRecord) (cs : List (ClientId × ℕ)) (i : ℕ) (ps : List Party) (k l : MemoryRecord) (c : ClientId × ℕ)
    (p : Party)
    → Joined hs before cs i ps k → NoRepeats (map (λ (x : ClientId × ℕ). x.0) cs) → slice_get cs i ≡ Some c → take (i + 1) cs ≡ take i cs ++ c ∷ []
    → p ≡ new_party (newcomer_of hs (incarnation_at k) c) → IsJoining (newcomer_of hs (incarnation_at k) c)
    → Sets (incarnation_at k) (incarnation_at l) c.0.0 (next_of (incarnation_at k c.0.0)) → l.states ≡ k.states
    → Joined hs before cs (i + 1) (ps ++ p ∷ []) l
joined_more hs before cs i ps k l c p so apart at longer is may sets states =
    let s = incarnation_at before in
    let same : incarnation_at k c.0.0 ≡ s c.0.0 = so.left i c (omega arith) at in
    let newcomer : newcomer_of hs (incarnation_at k) c ≡ newcomer_of hs s c = ap (joins_with hs c) same in
    let all : newcomers_of hs s (take (i + 1) cs) ≡ newcomers_of hs s (take i cs) ++ newcomer_of hs s c ∷ [] =
    ap (newcomers_of hs s) longer ∙ map-append (newcomer_of hs s) (take i cs) (c ∷ []) in
    let off : (j : ℕ) (d : ClientId × ℕ) → slice_get cs j ≡ Some d → (j ≡ i → ⊥) → d.0.0 ≡ c.0.0 → ⊥ =
    λ j d there other e. other (apart j i c.0 (number_at cs j d there ∙ ap Some (same_number d.0 c.0 e)) (number_at cs i c at)) in
    record {
      parties = ap (λ xs. xs ++ p ∷ []) so.parties ∙ ap (λ x. map new_party (newcomers_of hs s (take i cs)) ++ x ∷ []) (is ∙ ap new_party newcomer)
          ∙ sym (map-append new_party (newcomers_of hs s (take i cs)) (newcomer_of hs s c ∷ [])) ∙ ap (map new_party) (sym all);
      joining = subst (AllByRecursion IsJoining) (sym all) (all_more IsJoining (newcomers_of hs s (take i cs)) (newcomer_of hs s c) so.joining
          (subst IsJoining newcomer may));
      next = λ j d within there.
          by_test (λ t. (j == i) ≡ t → incarnation_at l d.0.0 ≡ Some (next_of (s d.0.0))) (j == i)
          (λ _ e.
          let own : Some d ≡ Some c = sym there ∙ ap (slice_get cs) (eqb-true j i e) ∙ at in
          let it : d ≡ c = cc in
          subst (λ (x : ClientId × ℕ). incarnation_at l x.0.0 ≡ Some (next_of (s x.0.0))) (sym it) (sets.there ∙ ap (λ o. Some (next_of o)) same))
          (λ _ e.
          let other : j ≡ i → ⊥ = eqb-false j i e in
          sets.others d.0.0 (off j d there other) ∙ so.next j d (omega arith) there)
          refl;
      left = λ j d behind there. sets.others d.0.0 (off j d there (λ e. omega arith)) ∙ so.left j d (omega arith) there;
      states = states ∙ so.states;
    }

-- the keeper has the incarnation of each, once all have joined
pub all_stored : (hs : List HandlerId) (s : ℕ → Option ℕ) (k : MemoryRecord) (cs : List (ClientId × ℕ))
    → ((j : ℕ) (c : ClientId × ℕ) → slice_get cs j ≡ Some c → incarnation_at k c.0.0 ≡ Some (next_of (s c.0.0)))
    → AllByRecursion (HasIncarnation k) (map new_party (newcomers_of hs s cs))
all_stored hs s k [] each = tt
all_stored hs s k (c ∷ cs) each = (record { incarnation = each zero c refl }, all_stored hs s k cs (λ j d at. each (suc j) d at))

-- a client doesn't join: memory ran out, or its incarnations are spent
pub not_joined : (hs : List HandlerId) (before : MemoryRecord) (cs : List (ClientId × ℕ)) (i : ℕ) (ps : List Party) (k : MemoryRecord) (d : ClientId × ℕ)
    (e : WorldOpenError)
    → Joined hs before cs i ps k → i < length cs
    → (e ≡ OutOfMemory) ⊎ ((e ≡ IncarnationsSpent) × (incarnation_at k (get_or cs i d).0.0 ≡ Some last_incarnation))
    → (e ≡ OutOfMemory) ⊎ ((e ≡ IncarnationsSpent) × Any (λ (c : ClientId × ℕ). incarnation_at before c.0.0 ≡ Some last_incarnation) cs)
not_joined hs before cs i ps k d e so within refused =
    ⊎_elim inl
    (λ (r : (e ≡ IncarnationsSpent) × (incarnation_at k (get_or cs i d).0.0 ≡ Some last_incarnation)).
    inr (r.0, (i, get_or cs i d, within, again cs i d within, sym (so.left i (get_or cs i d) (omega arith) (slice_get-get_or cs i d within)) ∙ r.1))) refused
  where
    again : {A : Type 0} (xs : List A) (j : ℕ) (x : A) → j < length xs → get_or xs j (get_or xs j x) ≡ get_or xs j x
    again [] j x lt = absurd (omega arith)
    again (y ∷ ys) zero x lt = refl
    again (y ∷ ys) (suc j) x lt = again ys j x (omega arith)

-- a fact of every error that passes
pub err_passes : {T E : Type 0} (r : Result T E) (P Q : E → Type 0) → IsErrAnd r P → ((e : E) → P e → Q e) → IfErr r Q
err_passes (Ok x) P Q is each = tt
err_passes (Err e) P Q is each = each e is
