-- Every event keeps the invariant about the sites, and a world that opens has it. Hearing and running change a site's slots as they
-- change the private queues (`Tape`), the marks as the table says (`Marks`), and the counts that were sent as the replies say
-- (`Sent`). Other sites stay, since no other handler speaks for them.
use Rattle.scoop_model.proofs.Names.{◌≡◌, ℕ, List, [], ◌∷◌, Some, refl, sym, ap, ◌∙◌, subst, arith, true, false, true≢false, AllByRecursion, handler_decides}
use Rattle.scoop_model.proofs.Names.{handler_of, is_for_handler, Message, HandlerId, IsQueue, all_found, number-row, replies-row, row, IsCore, Hearing, hear}
use Rattle.scoop_model.proofs.Names.{HasEntries, Row, Task, ran_of, job_out, IsState, HasMark, due, heard, ClientState, all_made, number_found, commanded_world}
use Rattle.scoop_model.proofs.Names.{with_sent, with_party, heard_party, restarted_party, heard_world, heard_site, with_site, begun_site, finished_site}
use Rattle.scoop_model.proofs.Names.{reopened, reopened_world, Placement, Newcomer, new_site, opening, World, Site, number_of, is_site, site_of, set_site}
use Rattle.scoop_model.proofs.Names.{sent_at, log_of}
use Rattle.scoop_model.proofs.Events.{Changes}
use Rattle.scoop_model.proofs.Stands.{Stands}
use Rattle.scoop_model.proofs.Order.{SiteFits, Ordered, all_more_of, by_restart, all_anew}
use Rattle.scoop_model.proofs.Sound.{Sound, sent_all}
use Rattle.scoop_model.proofs.Logging.{Carries, Logging, grown_same, commanded_grown}
use Rattle.scoop_model.proofs.Tape.{slots_run, StandsIfLog, SiteTape, logs_at, slots_heard, placed_tape, heard_tape, finished_tape}
use Rattle.scoop_model.proofs.Whole.Sent.{TellsAlike, alike_same, alike_from_client, alike_elsewhere}
use Rattle.scoop_model.proofs.Whole.Marks.{MarksTold, marks_told-row, marks_told-after}
use Rattle.scoop_model.proofs.Whole.Slots.{slots_run_whole}
use Rattle.scoop_model.proofs.Whole.Rows.{SlotsWhole, slots_whole-row}
use Rattle.scoop_model.proofs.Whole.Facts.{SiteTaped, Taped, site_more}
use Rattle.scoop_model.proofs.Moves.{Sends, sends_hello, sends}

-- ---- messages

-- a client's message goes to a handler
sends_to_handler : (c : ClientState) (h : HandlerId) (m : Message) → Sends c h m → is_for_handler m ≡ true
sends_to_handler c h m (sends_hello left) = refl
sends_to_handler c h m s = refl

pub due_goes : (c : ClientState) (h : HandlerId) (m : Message) → due c h ≡ Some m → is_for_handler m ≡ true
due_goes c h m e = sends_to_handler c h m (sends c h m e)

-- ---- sites

-- one site changes, and the others are of other handlers
all_set_others :
    (P Q : Site → Type 0) (s : Site) (sites : List Site) → Q s → ((x : Site) → is_site (number_of s) x ≡ false → P x → Q x) → AllByRecursion P sites
    → AllByRecursion Q (set_site s sites)
all_set_others P Q s [] own others all = tt
all_set_others P Q s (x ∷ xs) own others all = grind (arith, all_set_others P Q s xs own others)

-- where nothing is sent or logged
same_site : (v w : World) → v.sent ≡ w.sent → v.logs ≡ w.logs → (s : Site) → SiteTaped v s → SiteTaped w s
same_site v w told logged s = site_more v w s (subst (TellsAlike (number_of s) v.sent) told (alike_same (number_of s) v.sent)) (grown_same v w logged)

same_sites : (v w : World) → v.sent ≡ w.sent → v.logs ≡ w.logs → (sites : List Site) → AllByRecursion (SiteTaped v) sites → AllByRecursion (SiteTaped w) sites
same_sites v w told logged sites all = all_more_of (SiteTaped v) (SiteTaped w) (same_site v w told logged) sites all

-- ---- a handler hears

module _ (w : World) (sound : Sound w) (logged : Logging w) (i : Taped w) (k : ℕ) (m : Message) (s : Site) (was : sent_at k w ≡ Some m)
    (here : site_of (handler_of m) w ≡ Some s) where
  abbrev now : Hearing
  now = hear s.core.state m

  abbrev after : Site
  after = heard_site s now

  abbrev then_world : World
  then_world = heard_world w s now

  its_row : Row s.core.state m now
  its_row = row s.core.state m

  place : number_of s ≡ handler_of m
  place = number_found (handler_of m) w s here

  same_number : now.0.number ≡ number_of s
  same_number = number-row s.core.state m now its_row

  is_state : IsState s.core.state
  is_state = (all_found (λ x. IsCore x.core) (is_site (handler_of m)) w.sites s sound.sites here).state

  before : SiteTaped w s
  before = all_found (SiteTaped w) (is_site (handler_of m)) w.sites s i here

  stands : StandsIfLog (logs_at w s) m
  stands h b n es e =
      let carried : Stands (log_of b h w) n es = subst (Carries w) e (sent_all w k m was (Carries w) logged.messages) in
      let at : h ≡ number_of s = sym (place ∙ ap handler_of e) in
      subst (λ j. Stands (log_of b j w) n es) at carried

  heard_taped : SiteTaped then_world after
  heard_taped = record {
    told = subst (λ h. MarksTold then_world.sent h now.0.marks) (sym same_number) (marks_told-row w.sent s.core.state m now its_row before.told);
    slots = slots_heard s m before.slots;
    tape = subst (λ h. SiteTape (λ b. log_of b h w) after (slots_heard s m before.slots)) (sym same_number)
        (heard_tape (logs_at w s) s before.slots before.tape m is_state stands);
    whole = subst (λ h. SlotsWhole then_world.sent h now.0.marks (slots_heard s m before.slots)) (sym same_number)
        (slots_whole-row w.sent s.core.state m now (row s.core.state m) before.slots is_state before.told before.whole);
  }

  others_hear : (x : Site) → is_site (number_of after) x ≡ false → SiteTaped w x → SiteTaped then_world x
  others_hear x other f =
      site_more w then_world x
      (alike_elsewhere (number_of x) w.sent now.1.reply (λ reply e from.
      let to : handler_of reply ≡ handler_of m = (replies-row s.core.state m now its_row (sent_all w k m was HasEntries sound.messages) reply e).handler in
      let same : number_of x ≡ number_of after = sym from ∙ to ∙ sym place ∙ sym same_number in
      true≢false (sym ((handler_decides (number_of x) (number_of after)).1 same) ∙ other)))
      (grown_same w then_world refl) f

  hears_taped : Taped then_world
  hears_taped = all_set_others (SiteTaped w) (SiteTaped then_world) after w.sites heard_taped others_hear i

-- ---- an entry runs

module _ (w : World) (sound : Sound w) (i : Taped w) (h : HandlerId) (s : Site) (here : site_of h w ≡ Some s) where
  ready_site : SiteTaped w s
  ready_site = all_found (SiteTaped w) (is_site h) w.sites s i here

  begins_taped : Taped (with_site w (begun_site s))
  begins_taped =
      let v : World = with_site w (begun_site s) in
      let f = ready_site in
      all_set_others (SiteTaped w) (SiteTaped v) (begun_site s) w.sites
      (record { told = f.told; slots = f.slots; tape = f.tape; whole = f.whole })
      (λ x other. same_site w v refl refl x) i

  finishes_taped : (t : Task) → job_out s.core ≡ Some t → Taped (with_site w (finished_site s t))
  finishes_taped t out =
      let v : World = with_site w (finished_site s t) in
      let f = ready_site in
      let marks = s.core.state.marks in
      let is : IsState s.core.state = (all_found (λ x. IsCore x.core) (is_site h) w.sites s sound.sites here).state in
      all_set_others (SiteTaped w) (SiteTaped v) (finished_site s t) w.sites
      (record {
        told = marks_told-after w.sent (number_of s) (ran_of t) marks f.told;
        slots = slots_run f.slots;
        tape = finished_tape (logs_at w s) s f.slots f.tape t out;
        whole = slots_run_whole w.sent (number_of s) marks (ran_of t) f.slots (subst (AllByRecursion IsQueue) f.tape.queues is.queues.each)
            (subst (AllByRecursion (HasMark marks)) f.tape.queues is.marked) f.whole;
      })
      (λ x other. same_site w v refl refl x) i

-- ---- a node restarts

anew_taped : (w : World) (n : ℕ) (s : Site) → SiteFits w.joint s → SiteTaped w s → SiteTaped (reopened_world w n) (reopened n s)
anew_taped w n s fits f =
    by_restart w.joint n (SiteTaped (reopened_world w n)) s fits (record { told = f.told; slots = f.slots; tape = f.tape; whole = f.whole })
    (same_site w (reopened_world w n) refl refl s f)

-- ---- every event

pub taped_kept : (w : World) → Ordered w → Sound w → Logging w → Taped w → Changes Taped w
taped_kept w o sound logged i = record {
  commands = λ c p x d at is.
      all_more_of (SiteTaped w) (SiteTaped (commanded_world w p x d))
      (λ s. site_more w (commanded_world w p x d) s (alike_same (number_of s) w.sent) (commanded_grown w p x d)) w.sites i;
  sends = λ c p h s at here.
      let v : World = with_sent w (due p.client h) in
      all_more_of (SiteTaped w) (SiteTaped v)
      (λ x. site_more w v x (alike_from_client (number_of x) w.sent (due p.client h) (due_goes p.client h)) (grown_same w v refl)) w.sites i;
  hears = λ k m s was goes here. hears_taped w sound logged i k m s was here;
  notices = λ k m p was goes at. same_sites w (with_party w (heard_party p (heard p.client m))) refl refl w.sites i;
  begins = λ h s t here is. begins_taped w sound i h s here;
  finishes = λ h s t here is. finishes_taped w sound i h s here t is;
  restarts = λ c p at room. same_sites w (with_party w (restarted_party p)) refl refl w.sites i;
  reopens = λ n. all_anew w.joint n (SiteTaped w) (SiteTaped (reopened_world w n)) (anew_taped w n) w.sites o.sites i;
}

-- ---- a world that opens

site_opens : (w : World) → w.sent ≡ [] → (p : Placement) → SiteTaped w (new_site p)
site_opens w none p = grind (arith, placed_tape)

pub opens_taped : (ps : List Placement) (ns : List Newcomer) → Taped (opening ps ns)
opens_taped ps ns = all_made new_site (SiteTaped (opening ps ns)) (site_opens (opening ps ns) refl) ps
