-- One more move, and all that it shows.
use Rattle.scoop_weave.proofs.Names.{◌≡◌, List, [], ◌∷◌, ◌++◌, refl, sym, ap, ◌∙◌, subst, Block, Ran, Accepted, BlockLog, joined, LocalHandler, PlacedHandler}
use Rattle.scoop_weave.proofs.Names.{LocalClient, its_number, id_in, with_local, LocalMove, Goes, sent_in, sent_by, opened_in, opened_here, ran_here, opened_by}
use Rattle.scoop_weave.proofs.Names.{ran_by, accepted_here, accepted_by, logs_more, logs_by, joint_by, site_with, site_by, party_with, party_by}
use Rattle.scoop_weave.specs.Parties.{LeadOn}
use Rattle.scoop_weave.specs.Histories.{logs_behind, joint_behind}
use Rattle.scoop_weave.proofs.Lists.{flat_map_snoc, nothing_more}

-- a handler goes on at its place to the state that its own step gives
pub went : {R : LocalHandler → LocalHandler → Type 0} {s t : PlacedHandler} {x : LocalHandler} (r : Goes R s t) → r.new ≡ x → t ≡ with_local x s
went {s = s} r is = r.after ∙ ap (λ x. with_local x s) is

-- moves that lead on from where the first ones lead
pub runs_both : {A : Type 0} (R : LocalMove → A → A → Type 0) (x y z : A) (ms ns : List LocalMove) → LeadOn R x ms y → LeadOn R y ns z
    → LeadOn R x (ms ++ ns) z
runs_both R x y z [] ns same more = subst (λ u. LeadOn R u ns z) (sym same) more
runs_both R x y z (m ∷ ms) ns r more = (r.0, r.1, runs_both R r.0 y z ms ns r.2 more)

logs_both : (logs : List BlockLog) (xs : List LocalMove) (m : LocalMove) → logs_behind logs (xs ++ m ∷ []) ≡ logs_more (logs_behind logs xs) m
logs_both logs [] m = refl
logs_both logs (x ∷ xs) m = logs_both (logs_more logs x) xs m

joint_both : (bs : List Block) (xs : List LocalMove) (m : LocalMove) → joint_behind bs (xs ++ m ∷ []) ≡ joined (joint_behind bs xs) (opened_in m)
joint_both bs [] m = refl
joint_both bs (x ∷ xs) m = joint_both (joined bs (opened_in x)) xs m

module _ (past : List LocalMove) (m : LocalMove) where
  abbrev more : List LocalMove
  more = past ++ m ∷ []

  pub sent_more : sent_by more ≡ sent_by past ++ sent_in m
  sent_more = flat_map_snoc sent_in past m

  pub logged_more : logs_by more ≡ logs_more (logs_by past) m
  logged_more = logs_both [] past m

  pub joint_more : joint_by more ≡ joined (joint_by past) (opened_in m)
  joint_more = joint_both [] past m

  -- a handler at which nothing opened or ran
  pub site_stays : (s : PlacedHandler) → opened_here (its_number s) m ≡ [] → ran_here (its_number s) m ≡ [] → site_by past s ≡ site_by more s
  site_stays s opened ran =
      let o = sym (nothing_more (opened_here (its_number s)) past m opened) in
      let r = sym (nothing_more (ran_here (its_number s)) past m ran) in
      λ i. site_with s (o i) (r i)

  -- one at which this opened and ran
  pub site_goes_on : (s : PlacedHandler) (bs : List Block) (rs : List Ran) → opened_here (its_number s) m ≡ bs → ran_here (its_number s) m ≡ rs
      → site_with s (opened_by (its_number s) past ++ bs) (ran_by (its_number s) past ++ rs) ≡ site_by more s
  site_goes_on s bs rs opened ran =
      let o = ap (λ x. opened_by (its_number s) past ++ x) (sym opened) ∙ sym (flat_map_snoc (opened_here (its_number s)) past m) in
      let r = ap (λ x. ran_by (its_number s) past ++ x) (sym ran) ∙ sym (flat_map_snoc (ran_here (its_number s)) past m) in
      λ i. site_with s (o i) (r i)

  pub party_stays : (c : LocalClient) → accepted_here (id_in c) m ≡ [] → party_by past c ≡ party_by more c
  party_stays c none =
      let a = sym (nothing_more (accepted_here (id_in c)) past m none) in
      λ i. party_with c (a i)

  pub party_goes_on : (c : LocalClient) (xs : List Accepted) → accepted_here (id_in c) m ≡ xs
      → party_with c (accepted_by (id_in c) past ++ xs) ≡ party_by more c
  party_goes_on c xs accepted =
      let a = ap (λ x. accepted_by (id_in c) past ++ x) (sym accepted) ∙ sym (flat_map_snoc (accepted_here (id_in c)) past m) in
      λ i. party_with c (a i)
