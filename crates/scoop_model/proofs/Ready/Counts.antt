-- Whatever happens, a handler tells counts of received entries only of blocks that have opened there.
use Rattle.scoop_model.proofs.Names.{◌≡◌, List, [], Some, None, refl, sym, ap, ◌∙◌, arith, Option, true, false, list_any-append, AllByRecursion, option_map_or}
use Rattle.scoop_model.proofs.Names.{⊤, handler_decides, same_block, handler_of, Message, Logged, Block, HandlerId, all_found, All-mark_of, number-row}
use Rattle.scoop_model.proofs.Names.{block_of-same, row, Hearing, hear, Row, is_taken, IsLogAt, already_received, HandlerState, Mark, due, first_false, by_site}
use Rattle.scoop_model.proofs.Names.{heard_world, heard_site, begun_site, finished_site, Placement, Newcomer, opening, newly_opened, World, Site, number_of}
use Rattle.scoop_model.proofs.Names.{is_site, site_of, has_block, opened_at, received, own_site, heard_place}
use Rattle.scoop_model.proofs.Events.{Changes}
use Rattle.scoop_model.proofs.Order.{Ordered, same_block_is}
use Rattle.scoop_model.proofs.Logging.{same_list, IsMarkOpened, SiteOpened}
use Rattle.scoop_model.proofs.Logging.Openings.{Openings}
use Rattle.scoop_model.proofs.Whole.{told_in, greatest_stays, alike_from_client, due_goes}
use Rattle.scoop_model.proofs.Sites.{set_same, anew_same, states_anew}

-- no count was sent of blocks that haven't opened at the handler
abbrev pub Counts : World → Type 0
Counts w = (h : HandlerId) (b : Block) → has_block (opened_at h w) b ≡ false → received b h w ≡ 0

-- ---- a handler tells the count of a block that has opened

-- a count is sent only of the block of an open mark
pub record TellsOpened (s : HandlerState) (bs : List Block) (x : HandlerId) (y : Block) : Type 0 where
  pub here : x ≡ s.number
  pub opened : has_block bs y ≡ true

at_log : (s : HandlerState) (bs : List Block) (b : Block) (k : Mark) → AllByRecursion (IsMarkOpened bs) s.marks → IsLogAt s b k → TellsOpened s bs s.number b
at_log s bs b k all at = grind (arith, has_block, block_of-same, All-mark_of)

-- the claim of the reply
abbrev CountsBack : HandlerState → List Block → Option Message → Type 0
CountsBack s bs None = ⊤
CountsBack s bs (Some (Logged x y n)) = TellsOpened s bs x y
CountsBack s bs (Some m) = ⊤

back-row : (s : HandlerState) (bs : List Block) (m : Message) (h : Hearing) → Row s m h → AllByRecursion (IsMarkOpened bs) s.marks → CountsBack s bs h.1.reply
back-row s bs m h (already_received x b n es k here at upto none) all = at_log s bs b k all at
back-row s bs m h (is_taken x b n es k here at next goes_on room) all = at_log s bs b k all at
back-row s bs m h r all = tt

-- so it tells nothing of a block that hasn't opened
reply_silent :
    (w : World) (s : Site) → site_of (number_of s) w ≡ Some s → (o : Option Message) → CountsBack s.core.state s.opened o → (h : HandlerId) (b : Block)
    → has_block (opened_at h w) b ≡ false
    → told_in h b o ≡ 0
reply_silent w s here None t h b off = refl
reply_silent w s here (Some (Logged x y n)) t h b off = grind (arith, handler_decides, option_map_or, same_block_is)
reply_silent w s here (Some m) t h b off = refl

module _ (w : World) (i : Openings w) (counts : Counts w) (m : Message) (s : Site) (found : site_of (handler_of m) w ≡ Some s) where
  abbrev now : Hearing
  now = hear s.core.state m

  abbrev after : World
  after = heard_world w s now

  place : site_of (number_of s) w ≡ Some s
  place = own_site w (handler_of m) s found

  -- a block that hasn't opened now had not opened before
  still_off : (h : HandlerId) (b : Block) → has_block (opened_at h after) b ≡ false → has_block (opened_at h w) b ≡ false
  still_off h b =
      by_site (λ o. has_block (option_map_or (λ (x : Site). x.opened) o []) b ≡ false → has_block (opened_at h w) b ≡ false) w (heard_site s now) s h
      (heard_place w m s found)
      (λ same off.
      let at : site_of h w ≡ Some s = ap (λ j. site_of j w) (sym same ∙ number-row s.core.state m now (row s.core.state m)) ∙ place in
      ap (λ o. has_block (option_map_or (λ (x : Site). x.opened) o []) b) at
      ∙ first_false (has_block s.opened b) (has_block (newly_opened now.1.note) b)
      (sym (list_any-append (λ x. same_block x b) s.opened (newly_opened now.1.note)) ∙ off))
      (λ apart off. off)

  pub hears_counts : Counts after
  hears_counts h b off =
      let before = still_off h b off in
      let back = back-row s.core.state s.opened m now (row s.core.state m) (all_found (SiteOpened w) (is_site (handler_of m)) w.sites s i.sites found).marks in
      let none = reply_silent w s place now.1.reply back h b before in
      greatest_stays h b w.sent now.1.reply (let e = none in omega (arith, e)) ∙ counts h b before

-- ---- every event

pub counts_kept : (w : World) → Ordered w → Openings w → Counts w → Changes Counts w
counts_kept w o openings i = record {
  commands = λ c p x d at is. i;
  sends = λ c p h s at here j b off. (alike_from_client j w.sent (due p.client h) (due_goes p.client h)).counted b ∙ i j b off;
  hears = λ k m s was goes here. hears_counts w openings i m s here;
  notices = λ k m p was goes at. i;
  begins = λ h s t here is j b off. i j b (ap (λ bs. has_block bs b)
      (sym (set_same (λ (x : Site). x.opened) [] w (begun_site s) s (own_site w h s here) refl j)) ∙ off);
  finishes = λ h s t here is j b off. i j b (ap (λ bs. has_block bs b)
      (sym (set_same (λ (x : Site). x.opened) [] w (finished_site s t) s (own_site w h s here) refl j)) ∙ off);
  restarts = λ c p at room. i;
  reopens = λ n j b off. i j b (ap (λ bs. has_block bs b) (sym (anew_same (λ (x : Site). x.opened) [] same_list n j w.sites (states_anew w o n))) ∙ off);
}

pub opens_counts : (ps : List Placement) (ns : List Newcomer) → Counts (opening ps ns)
opens_counts ps ns = λ h b off. refl
