-- The parts of each handler that stay when one site goes on or a node restarts.
use Rattle.scoop_model.proofs.Names.{◌≡◌, ℕ, List, [], ◌∷◌, map, Some, refl, sym, ap, ◌∙◌, arith, Option, find, AllByRecursion, option_map_or, HandlerId}
use Rattle.scoop_model.proofs.Names.{by_site, reopened, World, Site, number_of, is_site, site_of, set_site}
use Rattle.scoop_model.proofs.Order.{SiteFits, Ordered, state_anew}

-- ---- a part of a site

module _ {A : Type 0} (part : Site → A) (none : A) where
  abbrev part_in : Option Site → A
  part_in o = option_map_or part o none

  pub set_same : (w : World) (s old : Site) → site_of (number_of s) w ≡ Some old → part s ≡ part old → (h : HandlerId)
      → part_in (find (is_site h) (set_site s w.sites)) ≡ part_in (site_of h w)
  set_same w s old here same h =
      by_site (λ o. part_in o ≡ part_in (site_of h w)) w s old h here (λ is. same ∙ ap part_in (sym here ∙ ap (λ j. site_of j w) is)) (λ apart. refl)

  pub anew_same : (kept : (n : ℕ) (s : Site) → part (reopened n s) ≡ part s) (n : ℕ) (h : HandlerId) (sites : List Site)
      → AllByRecursion (λ s. (reopened n s).core.state ≡ s.core.state) sites
      → part_in (find (is_site h) (map (reopened n) sites)) ≡ part_in (find (is_site h) sites)
  anew_same kept n h [] all = refl
  anew_same kept n h (s ∷ ss) all = grind (arith, anew_same kept n h ss)

-- a node that restarts takes the states that its handlers had
pub states_anew : (w : World) → Ordered w → (n : ℕ) → AllByRecursion (λ s. (reopened n s).core.state ≡ s.core.state) w.sites
states_anew w o n = all w.sites o.sites
  where
    all : (sites : List Site) → AllByRecursion (SiteFits w.joint) sites → AllByRecursion (λ s. (reopened n s).core.state ≡ s.core.state) sites
    all [] fits = tt
    all (s ∷ ss) fits = (state_anew w.joint n s fits.0, all ss fits.1)
