-- The configuration stays when one site goes on or a node restarts, if the same entries have run.
use Rattle.scoop_rules.proofs.Names.{◌≡◌, ℕ, List, [], map, Some, refl, sym, if◌then◌else◌, false, ◌==◌, HandlerId, by_test, core_of, has, with_site}
use Rattle.scoop_rules.proofs.Names.{begun_site, reopened, reopened_world, World, ran_at, Site, site_of, set_site, log_of, received, is_succeeded, set_of}
use Rattle.scoop_rules.proofs.Names.{Ordered, own_site, set_same, anew_same, states_anew, count_of, configuration_of, queue_at, queue_of, has_ended}
use Rattle.scoop_rules.proofs.Lists.{same_configuration, queues_same}
use Rattle.scoop_rules.proofs.Sends.{ran_in}

-- ---- where the same has run

pub ran_same :
    (w : World) (sites : List Site) → ((j : HandlerId) → ran_in j sites ≡ ran_at j w) → configuration_of w ≡ configuration_of (record w { sites = sites })
ran_same w sites same =
    same_configuration (configuration_of w) (configuration_of (record w { sites = sites }))
    (λ h.
    queues_same (queue_at w h) (queue_at (record w { sites = sites }) h) w.joint
    (λ b m i. (
    if has (set_of b w) h
    then queue_of b (record {
      logged = log_of b h w;
      count = count_of b (sym (same h) i);
      over = has_ended b (sym (same h) i);
      newer = is_succeeded b h w;
      received = received b h w;
    }) else [])))
    (λ h. sym (same h)) refl (λ c. refl)

pub begin_same : (w : World) (h : HandlerId) (s : Site) → site_of h w ≡ Some s → configuration_of w ≡ configuration_of (with_site w (begun_site s))
begin_same w h s found = ran_same w (set_site (begun_site s) w.sites) (set_same (λ (x : Site). x.ran) [] w (begun_site s) s (own_site w h s found) refl)

ran_kept : (n : ℕ) (s : Site) → (reopened n s).ran ≡ s.ran
ran_kept n s =
    by_test (λ t. (if t then record s { core = core_of s.core.class s.stored false } else s).ran ≡ s.ran) (s.node == n) (λ here. refl) (λ there. refl)

pub reopen_same : (w : World) → Ordered w → (n : ℕ) → configuration_of w ≡ configuration_of (reopened_world w n)
reopen_same w o n = ran_same w (map (reopened n) w.sites) (λ j. anew_same (λ (x : Site). x.ran) [] ran_kept n j w.sites (states_anew w o n))
