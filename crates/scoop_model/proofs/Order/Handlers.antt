-- A handler's move keeps the order. A block that opens was held. If it is in the common list already, all blocks that opened here
-- stand before it there. If not, it goes to that list's end, after all of them. A lock is granted only if the mark hasn't reached
-- the block. So it is never granted to a block of the common list, which each of its handlers has granted its lock before.
use Rattle.scoop_model.proofs.Names.{◌≡◌, ℕ, List, [], ◌∷◌, ◌++◌, map, Some, None, refl, sym, ap, ◌∙◌, subst, arith, append-nil, Option, find, true, slice_get}
use Rattle.scoop_model.proofs.Names.{option_to_list, ⊎_elim, same_Some, AllByRecursion, handler_of, Message, Block, HandlerId, MarksGrow-after, all_found}
use Rattle.scoop_model.proofs.Names.{all_at, MarksGrow-refl, grows-row, row, with_state, MarksGrow, Hearing, hear, Task, ran_of, HandlerState, Note, OpenedNote}
use Rattle.scoop_model.proofs.Names.{by_site, site_put, IsSubsequence, heard_world, with_site, begun_site, finished_site, reopened, reopened_world}
use Rattle.scoop_model.proofs.Names.{newly_opened, joined, World, Site, number_of, is_site, site_of, set_site, sent_at, has_block, own_site, heard_place}
use Rattle.scoop_model.proofs.Order.Lists.{with_block, joined_has, joined_more, joined_last, joined_next}
use Rattle.scoop_model.proofs.Order.Holding.{IsReachedIn, IsHeldIn, IsNewlyLocked, TellsBack, Hears, hears_row, held_ran, reached_more}
use Rattle.scoop_model.proofs.Order.Facts.{by_restart, all_anew, found_anew, IsGrantedIn, IsGranted, IsGrantedAtAll, Tells, SiteFits, PartyFits, Ordered}
use Rattle.scoop_model.proofs.Order.Facts.{Extends, all_more, tells_more, party_more, all_more_of, all_pushed, all_set_site, state_anew}

-- a message that was sent tells the truth
pub sent_tells : (w : World) (i : ℕ) (m : Message) → sent_at i w ≡ Some m → AllByRecursion (Tells w) w.sent → Tells w m
sent_tells w i m was all = grind (arith, all_at, slice_get)

-- the clients stay
parties_more : (w v : World) → Extends w v → w.logs ≡ v.logs → AllByRecursion (PartyFits w) w.parties → AllByRecursion (PartyFits v) w.parties
parties_more w v x same = all_more_of (PartyFits w) (PartyFits v) (party_more w v x same) w.parties

-- ---- the sites of a world, once one of them goes on

module _ (w : World) (s old : Site) (here : site_of (number_of s) w ≡ Some old) (grows : MarksGrow old.core.state.marks s.core.state.marks) where
  pub granted_set : (h : HandlerId) (b : Block) → IsGranted w h b → IsGrantedIn (find (is_site h) (set_site s w.sites)) b
  granted_set h b g =
      by_site (λ o. IsGrantedIn o b) w s old h here
      (λ same.
      let found : Some g.site ≡ Some old = sym g.found ∙ (ap (λ j. site_of j w) (sym same) ∙ here) in
      let one : g.site ≡ old = cc in
      record {
        site = s;
        found = refl;
        reached = reached_more old.core.state.marks s.core.state.marks b grows (subst (λ (x : Site). IsReachedIn x.core.state.marks b) one g.reached);
      })
      (λ apart. g)

  -- nothing opens
  pub site_moves : (ms : List Message) → Ordered w → SiteFits w.joint s
      → ((v : World) → site_of (number_of s) v ≡ Some s → AllByRecursion (Tells v) w.sent → AllByRecursion (Tells v) ms)
      → Ordered (record w { sites = set_site s w.sites; sent = ms })
  site_moves ms i fits tells =
      let v : World = record w { sites = set_site s w.sites; sent = ms } in
      let x : Extends w v = record { granted = granted_set; sets = λ b hs e. e } in
      record {
        messages = tells v (site_put w s old here) (all_more_of (Tells w) (Tells v) (tells_more w v x) w.sent i.messages);
        sites = all_set_site (SiteFits w.joint) (SiteFits w.joint) s w.sites fits (λ y f. f) i.sites;
        parties = parties_more w v x refl i.parties;
        joint = λ b e. all_more w v x b (i.joint b e);
      }

-- ---- a handler hears

-- a block that is newly locked was not reached before
pub reached_not_new : (s : Site) (m : Message) (now : Hearing) (b : Block) → IsReachedIn s.core.state.marks b → IsNewlyLocked s.core.state m now b → ⊥
reached_not_new s m now b r new = grind arith

newly_locked_new : (w : World) (s : Site) (m : Message) (now : Hearing) (b : Block) → Ordered w → site_of (number_of s) w ≡ Some s → Tells w m
    → IsNewlyLocked s.core.state m now b
    → has_block w.joint b ≡ true → ⊥
newly_locked_new w s m now b i here tells new e = grind (arith, reached_not_new)

-- the claim of a reply
reply_tells : (v : World) (s : Site) (o : Option Message) → site_of (number_of s) v ≡ Some s → TellsBack s.core.state o → (m : Message) → o ≡ Some m → Tells v m
reply_tells v s None here t m e = absurd (cc)
reply_tells v s (Some n) here t m e = grind arith

-- the site with another state, and what has newly opened
abbrev site_with : Site → HandlerState → List Block → Site
site_with s st new = record s { core = with_state st s.core; stored = st; opened = s.opened ++ new }

abbrev world_with : World → Site → HandlerState → Option Message → List Block → World
world_with w s st reply new = record w { sites = set_site (site_with s st new) w.sites; sent = w.sent ++ option_to_list reply; joint = joined w.joint new }

module _ (w : World) (s : Site) (m : Message) (i : Ordered w) (found : site_of (handler_of m) w ≡ Some s) (tells : Tells w m) where
  abbrev now : Hearing
  now = hear s.core.state m

  heard : Hears s.core.state m now
  heard = hears_row s.core.state m now (row s.core.state m)

  here : site_of (number_of s) w ≡ Some s
  here = own_site w (handler_of m) s found

  still_here : site_of now.0.number w ≡ Some s
  still_here = heard_place w m s found

  fits : SiteFits w.joint s
  fits = all_found (SiteFits w.joint) (is_site (handler_of m)) w.sites s i.sites found

  grows : MarksGrow s.core.state.marks now.0.marks
  grows = grows-row s.core.state m now (row s.core.state m)

  -- the messages, once the reply is among them
  replies : (new : List Block) (v : World) → site_of now.0.number v ≡ Some (site_with s now.0 new) → AllByRecursion (Tells v) w.sent
      → AllByRecursion (Tells v) (w.sent ++ option_to_list now.1.reply)
  replies new v there all = all_pushed (Tells v) w.sent now.1.reply all (reply_tells v (site_with s now.0 new) now.1.reply there heard.tells)

  quiet_fits : SiteFits w.joint (site_with s now.0 [])
  quiet_fits = record {
    stored = refl;
    holds = heard.holds fits.holds;
    next = λ b held in_joint.
        subst (λ xs. IsSubsequence (xs ++ b ∷ []) w.joint) (sym (append-nil s.opened)) (
        ⊎_elim
        (λ (was : IsHeldIn s.core.state.marks b). fits.next b was in_joint)
        (λ (new : IsNewlyLocked s.core.state m now b). absurd (newly_locked_new w s m now b i here tells new in_joint))
        (heard.locks b held));
    left = subst (λ xs. IsSubsequence xs w.joint) (sym (append-nil s.opened)) fits.left;
  }

  quiet : Ordered (world_with w s now.0 now.1.reply [])
  quiet = site_moves w (site_with s now.0 []) s still_here grows (w.sent ++ option_to_list now.1.reply) i quiet_fits (replies [])

  opens : (b : Block) → now.1.note ≡ OpenedNote b → Ordered (world_with w s now.0 now.1.reply (b ∷ []))
  opens b e =
      let o = heard.opens b e in
      let all : IsGrantedAtAll w b = subst (Tells w) o.asks tells in
      let t : Site = site_with s now.0 (b ∷ []) in
      let v : World = world_with w s now.0 now.1.reply (b ∷ []) in
      let x : Extends w v = record { granted = granted_set w t s still_here grows; sets = λ _ _ f. f } in
      record {
        messages = replies (b ∷ []) v (site_put w t s still_here) (all_more_of (Tells w) (Tells v) (tells_more w v x) w.sent i.messages);
        sites = all_set_site (SiteFits w.joint) (SiteFits (with_block w.joint b)) t w.sites
            (record {
              stored = refl;
              holds = heard.holds fits.holds;
              next = λ y held in_joint. absurd (o.none fits.holds y held);
              left = joined_last w.joint b s.opened fits.left (fits.next b o.held);
            })
            (λ y f. record {
              stored = f.stored;
              holds = f.holds;
              next = λ z held in_joint. joined_next w.joint b z y.opened f.left (f.next z held) in_joint;
              left = joined_more w.joint b y.opened f.left;
            })
            i.sites;
        parties = parties_more w v x refl i.parties;
        joint = λ y in_joint.
            ⊎_elim
            (λ (p : b ≡ y). subst (IsGrantedAtAll v) p (all_more w v x b all))
            (λ (p : has_block w.joint y ≡ true). all_more w v x y (i.joint y p))
            (joined_has w.joint b y in_joint);
      }

  by_note : (told : Note) → now.1.note ≡ told → Ordered (world_with w s now.0 now.1.reply (newly_opened told))
  by_note (OpenedNote b) e = opens b e
  by_note note e = quiet

pub hears_ordered : (w : World) → Ordered w → (i : ℕ) (m : Message) (s : Site) → sent_at i w ≡ Some m → site_of (handler_of m) w ≡ Some s
    → Ordered (heard_world w s (hear s.core.state m))
hears_ordered w o i m s was found = by_note w s m o found (sent_tells w i m was o.messages) (hear s.core.state m).1.note refl

-- ---- an entry runs

module _ (w : World) (o : Ordered w) (h : HandlerId) (s : Site) (found : site_of h w ≡ Some s) where
  place : site_of (number_of s) w ≡ Some s
  place = own_site w h s found

  site_fits : SiteFits w.joint s
  site_fits = all_found (SiteFits w.joint) (is_site h) w.sites s o.sites found

  pub begins_ordered : Ordered (with_site w (begun_site s))
  begins_ordered =
      let f = site_fits in
      site_moves w (begun_site s) s place (MarksGrow-refl s.core.state.marks) w.sent o
      (record { stored = f.stored; holds = f.holds; next = f.next; left = f.left })
      (λ v there all. all)

  pub finishes_ordered : (t : Task) → Ordered (with_site w (finished_site s t))
  finishes_ordered t =
      let f = site_fits in
      let r = ran_of t in
      site_moves w (finished_site s t) s place (MarksGrow-after r s.core.state.marks) w.sent o
      (record {
        stored = refl;
        holds = λ b held. f.holds b (held_ran r s.core.state.marks b held);
        next = λ b held in_joint. f.next b (held_ran r s.core.state.marks b held) in_joint;
        left = f.left;
      })
      (λ v there all. all)

-- ---- a node restarts

pub granted_anew :
    (js : List Block) (n : ℕ) (h : HandlerId) (b : Block) (xs : List Site) → AllByRecursion (SiteFits js) xs → IsGrantedIn (find (is_site h) xs) b
    → IsGrantedIn (find (is_site h) (map (reopened n) xs)) b
granted_anew js n h b xs all g = found_anew js n (λ o. IsGrantedIn o b) h stays xs all g
  where
    stays : (x : Site) → SiteFits js x → IsGrantedIn (Some x) b → IsGrantedIn (Some (reopened n x)) b
    stays x f q = record {
      site = reopened n x;
      found = refl;
      reached = subst (λ (st : HandlerState). IsReachedIn st.marks b)
          (ap (λ (y : Site). y.core.state) (sym (same_Some x q.site q.found)) ∙ sym (state_anew js n x f)) q.reached;
    }

fits_anew : (js : List Block) (n : ℕ) (x : Site) → SiteFits js x → SiteFits js (reopened n x)
fits_anew js n x f = by_restart js n (SiteFits js) x f (record { stored = f.stored; holds = f.holds; next = f.next; left = f.left }) f

pub reopens_ordered : (w : World) → Ordered w → (n : ℕ) → Ordered (reopened_world w n)
reopens_ordered w o n =
    let v : World = reopened_world w n in
    let x : Extends w v = record { granted = λ h b. granted_anew w.joint n h b w.sites o.sites; sets = λ b hs e. e } in
    record {
      messages = all_more_of (Tells w) (Tells v) (tells_more w v x) w.sent o.messages;
      sites = all_anew w.joint n (SiteFits w.joint) (SiteFits w.joint) (λ x f _. fits_anew w.joint n x f) w.sites o.sites o.sites;
      parties = parties_more w v x refl o.parties;
      joint = λ b e. all_more w v x b (o.joint b e);
    }
