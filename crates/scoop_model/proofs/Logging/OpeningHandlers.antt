-- A handler's move keeps the invariant about openings. The one case that opens a block makes its mark open and records the block as
-- opened in the same event, so an open mark's block has opened. A block that opened stays so, and an Opened is the reply only for
-- such a block. Running and restarting change no stage.
use Rattle.scoop_model.proofs.Names.{◌≡◌, ℕ, List, [], ◌∷◌, ◌++◌, map, Some, None, refl, sym, ap, ◌∙◌, subst, arith, append-nil, Option, find, true, list_any}
use Rattle.scoop_model.proofs.Names.{if◌then◌else◌, false, true≢false, inl, ⊎_elim, IsFalse, AllByRecursion, option_map_or, ⊤, handler_of, is_for_handler}
use Rattle.scoop_model.proofs.Names.{Message, Open, Log, Unlock, Opened, Block, HandlerId, all_found, All-mark_of, All-set_mark, All-add_mark, number-row}
use Rattle.scoop_model.proofs.Names.{block_of-same, replies-row, row, Hearing, hear, greeting_mark, block_of, opened_mark, with_received, set_mark, is_held}
use Rattle.scoop_model.proofs.Names.{HasEntries, Row, first_greeting, newer_greeting, lock_granted, is_opened, unlock_of_a_block_never_held, is_freed, is_taken}
use Rattle.scoop_model.proofs.Names.{repeated_open, Task, ran_of, mark_after, HandlerState, Mark, AtHeld, AtShut, AtOpen, Note, OpenedNote, all_mapped, by_site}
use Rattle.scoop_model.proofs.Names.{heard_world, heard_site, with_site, begun_site, finished_site, reopened, reopened_world, newly_opened, World, Site}
use Rattle.scoop_model.proofs.Names.{number_of, is_site, site_of, set_site, sent_at, has_block, own_site, heard_place, site_put}
use Rattle.scoop_handler.specs.declared.mark.Stage.{Stage}
use Rattle.scoop_model.proofs.Order.{in_last, in_pushed, hears_row, IsNamed, SiteFits, all_more_of, all_pushed, all_set_site, by_restart, all_anew, found_anew}
use Rattle.scoop_model.proofs.Sound.{Sound, sent_all}
use Rattle.scoop_model.proofs.Logging.Openings.{IsOpenedAt, IsMarkOpened, SiteOpened, Shows, Onto, Openings, is_open_of, logs_more, named_more, none_pushed}
use Rattle.scoop_model.proofs.Logging.Openings.{NoOpen, reservation_more, shows_more, site_more}

-- ---- the marks

module _ (bs new : List Block) (more : (b : Block) → has_block bs b ≡ true → has_block new b ≡ true) where
  -- a mark of a block that has opened, at the same block and stage
  mark_stays : (k x : Mark) → block_of x ≡ block_of k → (x.stage ≡ AtOpen → k.stage ≡ AtOpen) → IsMarkOpened bs k → IsMarkOpened new x
  mark_stays k x same stage o = record { opened = λ e. subst (λ b. has_block new b ≡ true) (sym same) (more (block_of k) (o.opened (stage e))) }

  others_stay : (x : Mark) → IsMarkOpened bs x → IsMarkOpened new x
  others_stay x = mark_stays x x refl (λ e. e)

  not_open : (k : Mark) → (k.stage ≡ AtOpen → ⊥) → IsMarkOpened new k
  not_open k shut = record { opened = λ e. absurd (shut e) }

  set_opened :
      (k : Mark) (marks : List Mark) → IsMarkOpened new k → AllByRecursion (IsMarkOpened bs) marks → AllByRecursion (IsMarkOpened new) (set_mark k marks)
  set_opened k marks own all = All-set_mark (IsMarkOpened bs) (IsMarkOpened new) k marks own (λ x apart. others_stay x) all

  was_open : (stage : Stage) → (if is_held stage then AtShut else stage) ≡ AtOpen → stage ≡ AtOpen
  was_open AtHeld e = absurd (cc)
  was_open AtOpen e = refl
  was_open AtShut e = e

  -- the blocks of open marks have opened, where that of a new one has
  pub marks-row : (s : HandlerState) (m : Message) (h : Hearing) → Row s m h → ((b : Block) → h.1.note ≡ OpenedNote b → has_block new b ≡ true)
      → AllByRecursion (IsMarkOpened bs) s.marks → AllByRecursion (IsMarkOpened new) h.0.marks
  marks-row s m h (first_greeting x c inc here none room) opens all =
      All-add_mark (IsMarkOpened bs) (IsMarkOpened new) (greeting_mark c inc) s.marks (not_open (greeting_mark c inc) (λ e. cc)) others_stay all
  marks-row s m h (newer_greeting x c inc k here found newer) opens all = grind (arith, set_opened, not_open)
  marks-row s m h (lock_granted x b k here at newer free clear) opens all = grind (arith, set_opened, not_open)
  marks-row s m h (is_opened x b k here at same was room) opens all =
      set_opened (opened_mark k) s.marks (record { opened = λ e. subst (λ y. has_block new y ≡ true) (sym (block_of-same s b k at same)) (opens b refl) }) all
  marks-row s m h (unlock_of_a_block_never_held x b k here at newer clear) opens all = grind (arith, set_opened, not_open)
  marks-row s m h (is_freed x b k here at same holds) opens all = grind (arith, set_opened, mark_stays, was_open, All-mark_of)
  marks-row s m h (is_taken x b n es k here at next goes_on room) opens all =
      let old = All-mark_of (IsMarkOpened bs) b.client s.marks k all at.heard.found in
      set_opened (with_received _ _ k) s.marks (mark_stays k (with_received _ _ k) refl (λ e. e) old) all
  marks-row s m h r opens all = all_more_of (IsMarkOpened bs) (IsMarkOpened new) others_stay s.marks all

  -- an Opened is of a block that has opened here, and no Open, Unlock or Log is a reply
  abbrev ShowsBack : HandlerState → Option Message → Type 0
  ShowsBack s None = ⊤
  ShowsBack s (Some (Open x b)) = ⊥
  ShowsBack s (Some (Opened x b)) = (x ≡ s.number) × (has_block new b ≡ true)
  ShowsBack s (Some (Unlock x b)) = ⊥
  ShowsBack s (Some (Log x b n es)) = ⊥
  ShowsBack s (Some m) = ⊤

  back-row : (s : HandlerState) (m : Message) (h : Hearing) → Row s m h → ((b : Block) → h.1.note ≡ OpenedNote b → has_block new b ≡ true)
      → AllByRecursion (IsMarkOpened bs) s.marks → ShowsBack h.0 h.1.reply
  back-row s m h (is_opened x b k here at same was room) opens all = (refl, opens b refl)
  back-row s m h (repeated_open x b k here at same was) opens all = (
    refl,
    more b (subst (λ y. has_block bs y ≡ true) (block_of-same s b k at same)
        ((All-mark_of (IsMarkOpened bs) b.client s.marks k all at.found).opened was)),
  )
  back-row s m h r opens all = tt

  back_shows :
      (v : World) (s : Site) (o : Option Message) → site_of (number_of s) v ≡ Some s → s.opened ≡ new → ShowsBack s.core.state o → (m : Message) → o ≡ Some m
      → Shows v m
  back_shows v s None here is t m e = absurd (cc)
  back_shows v s (Some n) here is t m e = grind (arith, has_block, option_map_or)

-- ---- the sites of a world, once one of them goes on

abbrev pub OpenedMore : Site → Site → Type 0
OpenedMore old s = (b : Block) → has_block old.opened b ≡ true → has_block s.opened b ≡ true

opened_set : (w : World) (s old : Site) → site_of (number_of s) w ≡ Some old → OpenedMore old s → (h : HandlerId) (b : Block) → IsOpenedAt w h b
    → has_block (option_map_or (λ (x : Site). x.opened) (find (is_site h) (set_site s w.sites)) []) b ≡ true
opened_set w s old here more h b o =
    by_site (λ q. has_block (option_map_or (λ (x : Site). x.opened) q []) b ≡ true) w s old h here
    (λ same. more b (ap (λ q. has_block (option_map_or (λ (x : Site). x.opened) q []) b) (sym here ∙ ap (λ j. site_of j w) same) ∙ o))
    (λ apart. o)

-- a reply is no Open
no_open : (b : Block) (m : Message) → IsFalse (is_for_handler m) → is_open_of b m ≡ false
no_open b (Open h y) back = absurd (true≢false back)
no_open b m back = refl

-- one handler goes on, and no Open is among the new messages
module _
    (w : World) (s old : Site) (here : site_of (number_of s) w ≡ Some old) (more : OpenedMore old s) (ms : List Message) (js : List Block)
    (still : (b : Block) → NoOpen w b → list_any (is_open_of b) ms ≡ false) where
  abbrev after : World
  after = record w { sites = set_site s w.sites; sent = ms; joint = js }

  pub site_onto : Onto w after
  site_onto = record {
    sets = λ b hs e. e;
    opened = opened_set w s old here more;
    given_up = λ b g. record { handlers = g.handlers; set = g.set; none = still b g.none; left = g.left };
  }

  site_goes_on : Openings w → SiteOpened after s → (AllByRecursion (Shows after) w.sent → AllByRecursion (Shows after) ms) → Openings after
  site_goes_on i own shows = record {
    messages = shows (all_more_of (Shows w) (Shows after) (shows_more w after site_onto) w.sent i.messages);
    logs = logs_more w after site_onto (λ b h. inl refl) i.logs;
    sites = all_set_site (SiteOpened w) (SiteOpened after) s w.sites own (site_more w after site_onto) i.sites;
    parties = λ c p at r held. reservation_more w after site_onto r (still r.block) (i.parties c p at r held);
  }

-- ---- a handler hears

in_front : (bs new : List Block) (b : Block) → has_block bs b ≡ true → has_block (bs ++ new) b ≡ true
in_front [] new b e = absurd (true≢false (sym e))
in_front (y ∷ ys) new b e = grind (arith, in_front ys new b)

module _ (w : World) (sound : Sound w) (i : Openings w) (k : ℕ) (m : Message) (s : Site) (was : sent_at k w ≡ Some m)
    (found : site_of (handler_of m) w ≡ Some s) where
  abbrev now : Hearing
  now = hear s.core.state m

  abbrev later : Site
  later = heard_site s now

  abbrev heard_after : World
  heard_after = heard_world w s now

  old_site : SiteOpened w s
  old_site = all_found (SiteOpened w) (is_site (handler_of m)) w.sites s i.sites found

  same_number : now.0.number ≡ s.core.state.number
  same_number = number-row s.core.state m now (row s.core.state m)

  still_here : site_of (number_of later) w ≡ Some s
  still_here = heard_place w m s found

  new_block : (b : Block) → now.1.note ≡ OpenedNote b → has_block later.opened b ≡ true
  new_block b e = subst (λ n. has_block (s.opened ++ newly_opened n) b ≡ true) (sym e) (in_last s.opened b)

  same_opened : (b : Block) → has_block (s.opened ++ []) b ≡ true → has_block s.opened b ≡ true
  same_opened b has = subst (λ bs. has_block bs b ≡ true) (append-nil s.opened) has

  by_note : (told : Note) → now.1.note ≡ told → (b : Block) → has_block (s.opened ++ newly_opened told) b ≡ true → IsNamed w (number_of s) b
  by_note (OpenedNote y) e b has =
      ⊎_elim
      (λ (same : y ≡ b).
      let asks = ((hears_row s.core.state m now (row s.core.state m)).opens y e).asks in
      subst (λ z. IsNamed w (number_of s) z) same (subst (Shows w) asks (sent_all w k m was (Shows w) i.messages)))
      (λ (old : has_block s.opened b ≡ true). old_site.named b old)
      (in_pushed s.opened y b has)
  by_note told e b has = old_site.named b (same_opened b has)

  pub reply_quiet : (b : Block) (reply : Message) → now.1.reply ≡ Some reply → is_open_of b reply ≡ false
  reply_quiet b reply e = no_open b reply (replies-row s.core.state m now (row s.core.state m) (sent_all w k m was HasEntries sound.messages) reply e).to_client

  more_opened : OpenedMore s later
  more_opened b e = in_front s.opened (newly_opened now.1.note) b e

  still_none : (b : Block) → NoOpen w b → list_any (is_open_of b) heard_after.sent ≡ false
  still_none b none = none_pushed b w.sent now.1.reply none (reply_quiet b)

  pub now_onto : Onto w heard_after
  now_onto = site_onto w later s still_here more_opened heard_after.sent heard_after.joint still_none

  pub hears_openings : Openings heard_after
  hears_openings =
      site_goes_on w later s still_here more_opened heard_after.sent heard_after.joint still_none i
      (record {
        named = λ b has. named_more w heard_after now_onto (number_of later) b (subst (λ j. IsNamed w j b) (sym same_number) (by_note now.1.note refl b has));
        marks = marks-row s.opened later.opened more_opened s.core.state m now (row s.core.state m) new_block old_site.marks;
      })
      (λ all. all_pushed (Shows heard_after) w.sent now.1.reply all
      (back_shows s.opened later.opened more_opened heard_after later now.1.reply (site_put w later s still_here) refl
      (back-row s.opened later.opened more_opened s.core.state m now (row s.core.state m) new_block old_site.marks)))

-- ---- an entry runs

module _ (w : World) (i : Openings w) (h : HandlerId) (s : Site) (found : site_of h w ≡ Some s) where
  site_opened : SiteOpened w s
  site_opened = all_found (SiteOpened w) (is_site h) w.sites s i.sites found

  -- the handler goes on with the blocks that opened at it
  quiet_site :
      (t : Site) → number_of t ≡ number_of s → t.opened ≡ s.opened → AllByRecursion (IsMarkOpened s.opened) t.core.state.marks → Openings (with_site w t)
  quiet_site t same opened marks =
      let there : site_of (number_of t) w ≡ Some s = subst (λ j. site_of j w ≡ Some s) (sym same) (own_site w h s found) in
      let more : OpenedMore s t = λ b e. ap (λ bs. has_block bs b) opened ∙ e in
      site_goes_on w t s there more w.sent w.joint (λ b none. none) i
      (record {
        named = λ b has.
            named_more w (with_site w t) (site_onto w t s there more w.sent w.joint (λ b none. none)) (number_of t) b
            (subst (λ j. IsNamed w j b) (sym same) (site_opened.named b (ap (λ bs. has_block bs b) (sym opened) ∙ has)));
        marks = subst (λ bs. AllByRecursion (IsMarkOpened bs) t.core.state.marks) (sym opened) marks;
      })
      (λ all. all)

  pub begins_openings : Openings (with_site w (begun_site s))
  begins_openings = quiet_site (begun_site s) refl refl site_opened.marks

  pub finishes_openings : (t : Task) → Openings (with_site w (finished_site s t))
  finishes_openings t =
      quiet_site (finished_site s t) refl refl
      (all_mapped (mark_after (ran_of t)) (IsMarkOpened s.opened) (IsMarkOpened s.opened) (λ k o. record { opened = o.opened }) s.core.state.marks site_opened.marks)

-- ---- a node restarts

pub same_list : (n : ℕ) (s : Site) → (reopened n s).opened ≡ s.opened
same_list n s = grind arith

pub opened_anew : (js : List Block) (n : ℕ) (h : HandlerId) (sites : List Site) → AllByRecursion (SiteFits js) sites
    → option_map_or (λ (s : Site). s.opened) (find (is_site h) (map (reopened n) sites)) [] ≡ option_map_or (λ (s : Site). s.opened) (find (is_site h) sites) []
opened_anew js n h sites fits =
    found_anew js n (λ o. option_map_or (λ (s : Site). s.opened) o [] ≡ option_map_or (λ (s : Site). s.opened) (find (is_site h) sites) []) h
    (λ s f same. same_list n s ∙ same) sites fits refl

module _ (w : World) (fits : AllByRecursion (SiteFits w.joint) w.sites) (i : Openings w) (n : ℕ) where
  pub anew_onto : Onto w (reopened_world w n)
  anew_onto = grind (arith, has_block, opened_anew)

  site_anew : (s : Site) → SiteFits w.joint s → SiteOpened w s → SiteOpened (reopened_world w n) (reopened n s)
  site_anew s f o = grind (arith, by_restart, site_more)

  pub reopens_openings : Openings (reopened_world w n)
  reopens_openings = record {
    messages = all_more_of (Shows w) (Shows (reopened_world w n)) (shows_more w (reopened_world w n) anew_onto) w.sent i.messages;
    logs = logs_more w (reopened_world w n) anew_onto (λ b h. inl refl) i.logs;
    sites = all_anew w.joint n (SiteOpened w) (SiteOpened (reopened_world w n)) site_anew w.sites fits i.sites;
    parties = λ c p at r held. reservation_more w (reopened_world w n) anew_onto r (λ none. none) (i.parties c p at r held);
  }
