-- The members of a node, by its handlers in the file.
use Rattle.std.proofs.Common.{◌≡◌, ℕ, ◌+◌, ◌<◌, ◌==◌, inl, inr, cond, List, [], ◌∷◌, ◌++◌, get_or, length, take, sym, ap, ◌∙◌, subst, append-nil}
use Rattle.std.specs.List.{AllZip}
use Rattle.std.proofs.lemmas.Bool.Decides.{Decides-eqb, eqb_tells}
use Rattle.std.proofs.lemmas.List.{take_more}
use Rattle.std.proofs.lemmas.List.Elements.{filter-append}
use Rattle.std.proofs.lemmas.Slice.Zip.{all_zipped_more}
use Rattle.scoop_system.specs.declared.place.HandlerPlace.{HandlerPlace}
use Rattle.scoop_system.specs.Known.{handlers_on}
use Rattle.scoop_system.specs.System.{Plan}
use Rattle.scoop_runtime.specs.declared.plan.Member.{Member}
use Rattle.scoop_runtime.specs.Members.{IsMemberOf}

module _ (s : Plan) (n : ℕ) (hs : List HandlerPlace) (i : ℕ) (h : HandlerPlace) (less : i < length hs) (is : h ≡ get_or hs i h) where
  on_more : handlers_on n (take (i + 1) hs) ≡ handlers_on n (take i hs) ++ cond (h.node == n) (h ∷ []) []
  on_more =
      ap (handlers_on n) (take_more hs i h less ∙ ap (λ x. take i hs ++ x ∷ []) (sym is))
      ∙ filter-append (λ (g : HandlerPlace). g.node == n) (take i hs) (h ∷ [])

  -- a handler of the node is one more member
  pub member_more : (ms new : List Member) (m : Member) → h.node ≡ n → AllZip (IsMemberOf s) (handlers_on n (take i hs)) ms → IsMemberOf s h m
      → new ≡ ms ++ m ∷ [] → AllZip (IsMemberOf s) (handlers_on n (take (i + 1) hs)) new
  member_more ms new m here all of more =
      let longer = on_more ∙ ap (λ b. handlers_on n (take i hs) ++ cond b (h ∷ []) []) ((Decides-eqb h.node n).1 here) in
      subst (AllZip (IsMemberOf s) (handlers_on n (take (i + 1) hs))) (sym more)
      (subst (λ xs. AllZip (IsMemberOf s) xs (ms ++ m ∷ [])) (sym longer) (all_zipped_more (IsMemberOf s) (handlers_on n (take i hs)) ms h m all of))

  -- another one is none
  pub member_none : (ms : List Member) → (h.node ≡ n → ⊥) → AllZip (IsMemberOf s) (handlers_on n (take i hs)) ms
      → AllZip (IsMemberOf s) (handlers_on n (take (i + 1) hs)) ms
  member_none ms other all =
      elim (eqb_tells h.node n) [
        | inl t ↦ absurd (other t.1)
        | inr f ↦
            let same = on_more ∙ (ap (λ b. handlers_on n (take i hs) ++ cond b (h ∷ []) []) f.0 ∙ append-nil (handlers_on n (take i hs))) in
            subst (λ xs. AllZip (IsMemberOf s) xs ms) (sym same) all
      ]
