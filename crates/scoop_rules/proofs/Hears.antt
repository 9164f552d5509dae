-- A handler that hears a message follows the rules.
use Rattle.scoop_rules.proofs.Names.{◌≡◌, ℕ, [], ◌∷◌, ◌++◌, Some, refl, sym, ap, ◌∙◌, subst, if◌then◌else◌, option_to_list, option_map_or, handler_of, Message}
use Rattle.scoop_rules.proofs.Names.{Hello, HandlerId, by_test, number-row, row, Hearing, hear, Row, first_greeting, newer_greeting, is_opened, Greeted}
use Rattle.scoop_rules.proofs.Names.{number_found, by_site, heard_world, heard_site, place_of, World, ran_at, Site, number_of, site_of, set_site, sent_at}
use Rattle.scoop_rules.proofs.Names.{has_block, set_of, greeted_first, greeted_newer, opened_here, Ready, configuration_of, MovesLead, objects_of, Follows}
use Rattle.scoop_rules.proofs.Names.{message_moves, greeting_cuts, Separate, late_cuts, note_moves}
use Rattle.scoop_model.specs.declared.event.Event.TheVariants.{Take}
use Rattle.scoop_model.proofs.Names.{Open}
use Rattle.scoop_rules.proofs.Sends.{ran_in, quiet_same, quiet-row}
use Rattle.scoop_rules.proofs.Opens.{later_opening, first_opening}
use Rattle.scoop_rules.proofs.Greets.{greets_follows}
use Rattle.scoop_model.specs.declared.note.WorldNote.TheVariants as note

module _ (w : World) (ready : Ready w) (s : Site) (here : site_of (number_of s) w ≡ Some s) where
  -- the same has run
  same_ran : (m : Message) (h : Hearing) → Row s.core.state m h → (j : HandlerId) → ran_in j (set_site (heard_site s h) w.sites) ≡ ran_at j w
  same_ran m h r j =
      by_site (λ o. option_map_or (λ (x : Site). x.ran) o [] ≡ ran_at j w) w (heard_site s h) s j
      (subst (λ k. site_of k w ≡ Some s) (sym (number-row s.core.state m h r)) here)
      (λ same. ap (λ o. option_map_or (λ (x : Site). x.ran) o []) (sym here) ∙ ap (λ k. ran_at k w) (sym (number-row s.core.state m h r) ∙ same))
      (λ apart. refl)

  -- nothing but the states of handlers and quiet messages
  quiet_row : (m : Message) (h : Hearing) (r : Row s.core.state m h) → (h.1.note ≡ Greeted → ⊥)
      → configuration_of w ≡ configuration_of (record w { sites = set_site (heard_site s h) w.sites; sent = w.sent ++ option_to_list h.1.reply })
  quiet_row m h r old = quiet_same w (set_site (heard_site s h) w.sites) h.1.reply (same_ran m h r) (quiet-row w s here ready m h r old)

  row_follows : (i : ℕ) (m : Message) (h : Hearing) → Row s.core.state m h → sent_at i w ≡ Some m
      → MovesLead (objects_of w) (configuration_of w) (note_moves w (heard_world w s h) (handler_of m) h.1.note) (configuration_of (heard_world w s h))
  row_follows i m h (first_greeting x c inc at none room) was =
      let q : Hearing = greeted_first s.core.state c inc in
      subst (λ k. MovesLead (objects_of w) (configuration_of w) (greeting_cuts w (heard_world w s q) k) (configuration_of (heard_world w s q))) (sym at)
      (greets_follows w (set_site (heard_site s q) w.sites) (same_ran (Hello x c inc) q (first_greeting x c inc at none room)) (number_of s) c inc
      (objects_of w) ready (ready.hellos i x c inc was))
  row_follows i m h (newer_greeting x c inc k at found newer) was =
      let q : Hearing = greeted_newer s.core.state c inc k in
      subst (λ j. MovesLead (objects_of w) (configuration_of w) (greeting_cuts w (heard_world w s q) j) (configuration_of (heard_world w s q))) (sym at)
      (greets_follows w (set_site (heard_site s q) w.sites) (same_ran (Hello x c inc) q (newer_greeting x c inc k at found newer)) (number_of s) c inc
      (objects_of w) ready (ready.hellos i x c inc was))
  row_follows i m h (is_opened x b k at heard same held room) was =
      let q : Hearing = opened_here s.core.state b k in
      let r : Row s.core.state (Open x b) q = is_opened x b k at heard same held room in
      let quiet = quiet-row w s here ready (Open x b) q r (λ e. cc) in
      by_test (λ t. MovesLead (objects_of w) (configuration_of w) (if t then [] else Separate b (set_of b w) ∷ late_cuts w b)
      (configuration_of (heard_world w s q))) (has_block w.joint b)
      (λ old. later_opening w (set_site (heard_site s q) w.sites) q.1.reply (same_ran (Open x b) q r) quiet b old)
      (λ new. first_opening w (set_site (heard_site s q) w.sites) q.1.reply (same_ran (Open x b) q r) quiet b (objects_of w) ready new)
  row_follows i m h r was = quiet_row m h r (λ e. absurd (let f = e in cc))

pub hears_follows : (w : World) → Ready w → (i : ℕ) (m : Message) (s : Site) → sent_at i w ≡ Some m → site_of (handler_of m) w ≡ Some s
    → Follows w (Take i) (heard_world w s (hear s.core.state m)) (note.Handler (hear s.core.state m).1.note (place_of w (hear s.core.state m).1.reply))
hears_follows w ready i m s was found =
    let here : site_of (number_of s) w ≡ Some s = subst (λ j. site_of j w ≡ Some s) (sym (number_found (handler_of m) w s found)) found in
    let h = hear s.core.state m in
    subst (λ o. MovesLead (objects_of w) (configuration_of w) (message_moves w (heard_world w s h) o (note.Handler h.1.note (place_of w h.1.reply)))
    (configuration_of (heard_world w s h))) (sym was)
    (row_follows w ready s here i m h (row s.core.state m) was)
