-- A handler's move leaves each block standing where it stood, unless the block was given up. A held block stops being held in three
-- ways: it opens, its client greets anew (then it is past there), or its own Unlock comes. An Unlock is sent only of a block that
-- has opened at all of its handlers or was given up.
use Rattle.scoop_model.proofs.Names.{◌≡◌, ℕ, List, [], ◌++◌, Some, None, refl, sym, ap, ◌∙◌, subst, append-nil, find, true, true≢false, ◌||◌, ◌⊎◌, inl, inr}
use Rattle.scoop_model.proofs.Names.{⊎_elim, list_any-append, same_Some, option_map_or, same_block, handler_of, Message, Unlock, Block, HandlerId}
use Rattle.scoop_model.proofs.Names.{MarksGrow-after, all_found, MarksGrow-refl, grows-row, row, MarksGrow, Hearing, hear, Task, ran_of, Note, OpenedNote, has}
use Rattle.scoop_model.proofs.Names.{by_site, heard_world, heard_site, with_site, begun_site, finished_site, reopened, reopened_world, newly_opened, joined}
use Rattle.scoop_model.proofs.Names.{World, Site, number_of, is_site, site_of, set_site, sent_at, has_block, opened_at, map, arith, ◌&&◌, false, not, none-some}
use Rattle.scoop_model.proofs.Names.{same_client, Locked, ClientId, found-after, mark_of-set_mark_own, mark_of-client, client_from_same, mark_of-set_mark_other}
use Rattle.scoop_model.proofs.Names.{mark_of-add_mark_other, greeting_mark, block_of, fresh_mark, with_received, set_mark, mark_of, Row, first_greeting}
use Rattle.scoop_model.proofs.Names.{newer_greeting, lock_granted, is_opened, unlock_of_a_block_never_held, is_freed, is_taken, repeated_lock, mark_after}
use Rattle.scoop_model.proofs.Names.{HandlerState, is_holder, Mark, AtHeld, Ran, some_same, own_site, heard_place, site_put}
use Rattle.scoop_model.proofs.Order.{IsHeldIn, hears_row, SiteFits, Ordered, in_last, joined_has, same_block_itself, by_restart, found_anew, HeldHolds}
use Rattle.scoop_model.proofs.Order.{open_not_held}
use Rattle.scoop_model.proofs.Sound.{Sound, sent_all}
use Rattle.scoop_model.proofs.Logging.{IsGivenUp, IsOpenedAtAll, Shows, is_open_of, anew_onto, now_onto, reply_quiet, site_onto}
use Rattle.scoop_model.proofs.Logging.Openings.{Openings}
use Rattle.scoop_model.proofs.Standing.Facts.{HasOpen, IsPastIn, LockedStands, Standing, StandsAt, StandsFor, StandsIn, StandsOn, open_sent, past_more}
use Rattle.scoop_model.proofs.Standing.Facts.{reservation_more, standing_more}
use Rattle.scoop_handler.specs.Marks.{is_open}

-- ---- hearing leaves a block that holds the lock held, past or opened, unless the message is the block's Unlock

-- the fates of a block that is held
abbrev pub HeldGoes : HandlerState → Message → Hearing → Block → Type 0
HeldGoes s m h b = IsHeldIn h.0.marks b ⊎ (IsPastIn h.0.marks b ⊎ ((h.1.note ≡ OpenedNote b) ⊎ (m ≡ Unlock s.number b)))

-- a mark of another client is set
held_beside : (k : Mark) (marks : List Mark) (b : Block) → same_client b.client k.client ≡ false → IsHeldIn marks b → IsHeldIn (set_mark k marks) b
held_beside k marks b apart h = grind (arith, mark_of-set_mark_other)

held_is : (marks : List Mark) (b : Block) (h : IsHeldIn marks b) → block_of h.mark ≡ b
held_is marks b h = λ t. record { client = mark_of-client b.client marks h.mark h.found t; inc = h.inc t; num = h.num t }

module _ (s : HandlerState) (b : Block) (holds : HeldHolds s) (held : IsHeldIn s.marks b) where
  holder : s.holder ≡ Some b
  holder = holds b held

  -- a mark of one client is set: where it is this block's, it was at this block
  set_goes : (m : Message) (h : Hearing) (c : ClientId) (k old : Mark) → mark_of c s.marks ≡ Some old → k.client ≡ c → h.0.marks ≡ set_mark k s.marks
      → (b.client ≡ c → old ≡ held.mark → HeldGoes s m h b) → HeldGoes s m h b
  set_goes m h c k old found own is goes = grind (arith, client_from_same, held_beside)

  pub held_row : (m : Message) (h : Hearing) → Row s m h → HeldGoes s m h b
  held_row m h (first_greeting x c inc here none room) = grind (arith, mark_of-add_mark_other, none-some, client_from_same)
  held_row m h (newer_greeting x c inc k here found newer) =
      set_goes m h c (greeting_mark c inc) k found refl refl
      (λ same is.
      let before = ap (λ (y : Mark). y.inc) is ∙ held.inc in
      inr (inl (record {
        mark = greeting_mark c inc;
        found = ap (λ d. mark_of d (set_mark (greeting_mark c inc) s.marks)) same ∙ mark_of-set_mark_own (greeting_mark c inc) k s.marks found;
        newer = omega (arith, before, newer);
      })))
  held_row m h (lock_granted x y k here at new free clear) = absurd (none-some _ (sym free ∙ holder))
  held_row m h (is_opened x y k here at same was room) =
      let one : y ≡ b = some_same s.holder y b (holds y (record { mark = k; found = at.found; inc = at.inc; num = same; stage = was })) holder in
      inr (inr (inl (ap OpenedNote one)))
  held_row m h (unlock_of_a_block_never_held x y k here at new clear) =
      set_goes m h y.client (fresh_mark y _) k at.found refl refl
      (λ same is.
      let at_block : block_of k ≡ b = ap block_of is ∙ held_is s.marks b held in
      let busy : is_holder s.holder (block_of k) ≡ true = ap (is_holder s.holder) at_block ∙ ap (λ o. is_holder o b) holder ∙ same_block_itself b in
      absurd (true≢false (sym (ap (λ t. t || is_open k.stage && not k.ended) busy) ∙ clear)))
  held_row m h (is_freed x y k here at same holds_it) = grind (arith, some_same, holder)
  held_row m h (is_taken x y n es k here at next goes_on room) =
      set_goes m h y.client (with_received _ _ k) k at.heard.found (mark_of-client y.client s.marks k at.heard.found) refl
      (λ same is. absurd (open_not_held (sym at.stage ∙ ap (λ (z : Mark). z.stage) is ∙ held.stage)))
  held_row m h r = inl held

locked_block : {p q : HandlerId} {a b : Block} → Locked p a ≡ Locked q b → a ≡ b
locked_block e = cc

locked_handler : {p q : HandlerId} {a b : Block} → Locked p a ≡ Locked q b → p ≡ q
locked_handler e = cc

-- a Locked is of a block that holds the lock
pub locked_row : (s : HandlerState) (m : Message) (h : Hearing) → Row s m h → (x : HandlerId) (b : Block) → h.1.reply ≡ Some (Locked x b)
    → (x ≡ h.0.number) × IsHeldIn h.0.marks b
locked_row s m h (lock_granted y c k here at new free clear) = λ x b e.
    let same : Locked s.number c ≡ Locked x b = same_Some _ _ e in
    let block = locked_block same in (
      sym (locked_handler same),
      subst (IsHeldIn (set_mark (fresh_mark c AtHeld) s.marks)) block
          (record { mark = fresh_mark c AtHeld; found = mark_of-set_mark_own (fresh_mark c AtHeld) k s.marks at.found; inc = refl; num = refl; stage = refl }),
    )
locked_row s m h (repeated_lock y c k here at same_num was) = grind (arith, same_Some, locked_block, locked_handler)
locked_row s m h r = λ x b e. absurd (let f = e in cc)

-- running changes neither place nor stage
pub held_after : (r : Ran) (marks : List Mark) (b : Block) → IsHeldIn marks b → IsHeldIn (map (mark_after r) marks) b
held_after r marks b h = record { mark = mark_after r h.mark; found = found-after r b.client marks h.mark h.found; inc = h.inc; num = h.num; stage = h.stage }

-- ---- the sites of a world, once one of them goes on

module _ (w : World) (s old : Site) (here : site_of (number_of s) w ≡ Some old) (goes : (b : Block) → StandsIn old b → StandsIn s b ⊎ IsGivenUp w b) where
  stands_set : (h : HandlerId) (b : Block) → StandsAt w h b → StandsFor (find (is_site h) (set_site s w.sites)) b ⊎ IsGivenUp w b
  stands_set h b g =
      by_site (λ o. StandsFor o b ⊎ IsGivenUp w b) w s old h here
      (λ same.
      let found : Some g.site ≡ Some old = sym g.found ∙ (ap (λ j. site_of j w) (sym same) ∙ here) in
      let one : g.site ≡ old = cc in
      ⊎_elim
      (λ (on : StandsIn s b). inl (record { site = s; found = refl; stands = on }))
      (λ (given : IsGivenUp w b). inr given)
      (goes b (subst (λ (x : Site). StandsIn x b) one g.stands)))
      (λ apart. inl g)

-- ---- a handler hears

module _ (w : World) (o : Ordered w) (sound : Sound w) (openings : Openings w) (i : Standing w) (k : ℕ) (m : Message) (s : Site) (was : sent_at k w ≡ Some m)
    (found : site_of (handler_of m) w ≡ Some s) where
  abbrev now : Hearing
  now = hear s.core.state m

  abbrev later : Site
  later = heard_site s now

  abbrev after : World
  after = heard_world w s now

  here : site_of (number_of s) w ≡ Some s
  here = own_site w (handler_of m) s found

  still_here : site_of now.0.number w ≡ Some s
  still_here = heard_place w m s found

  there : site_of now.0.number after ≡ Some later
  there = site_put w later s still_here

  fits : SiteFits w.joint s
  fits = all_found (SiteFits w.joint) (is_site (handler_of m)) w.sites s o.sites found

  opened_later : (b : Block) → has_block s.opened b ≡ true → has_block later.opened b ≡ true
  opened_later b e = list_any-append (λ x. same_block x b) s.opened (newly_opened now.1.note) ∙ ap (λ t. t || has_block (newly_opened now.1.note) b) e

  -- a block that is unlocked has opened here, or was given up
  unlocked : (b : Block) → m ≡ Unlock s.core.state.number b → StandsIn later b ⊎ IsGivenUp w b
  unlocked b e =
      let told : Shows w (Unlock (number_of s) b) = subst (Shows w) e (sent_all w k m was (Shows w) openings.messages) in
      ⊎_elim
      (λ (all : IsOpenedAtAll w b).
      let sets : Some told.0.handlers ≡ Some all.handlers = sym told.0.set ∙ all.set in
      let same : told.0.handlers ≡ all.handlers = cc in
      let opened : has_block (opened_at (number_of s) w) b ≡ true = all.opened (number_of s) (subst (λ hs. has hs (number_of s) ≡ true) same told.0.member) in
      inl (inl (opened_later b (subst (λ q. has_block (option_map_or (λ (x : Site). x.opened) q []) b ≡ true) here opened))))
      (λ (given : IsGivenUp w b). inr given)
      told.1

  newly : (b : Block) → now.1.note ≡ OpenedNote b → has_block later.opened b ≡ true
  newly b e = subst (λ n. has_block (s.opened ++ newly_opened n) b ≡ true) (sym e) (in_last s.opened b)

  held_goes : (b : Block) → HeldGoes s.core.state m now b → StandsIn later b ⊎ IsGivenUp w b
  held_goes b goes = grind (arith, newly, unlocked)

  goes_on : (b : Block) → StandsIn s b → StandsIn later b ⊎ IsGivenUp w b
  goes_on b stands =
      ⊎_elim
      (λ (opened : has_block s.opened b ≡ true). inl (inl (opened_later b opened)))
      (λ (q : IsHeldIn s.core.state.marks b ⊎ IsPastIn s.core.state.marks b).
      ⊎_elim
      (λ (held : IsHeldIn s.core.state.marks b). held_goes b (held_row s.core.state b fits.holds held m now (row s.core.state m)))
      (λ (past : IsPastIn s.core.state.marks b).
      inl (inr (inr (past_more s.core.state.marks now.0.marks b (grows-row s.core.state m now (row s.core.state m)) past)))) q)
      stands

  heard_on : StandsOn w after
  heard_on = record { onto = now_onto w sound openings k m s was found; stands = stands_set w later s still_here goes_on }

  -- a block joins the common list by its Open
  joins : (told : Note) → now.1.note ≡ told → (b : Block) → has_block (joined w.joint (newly_opened told)) b ≡ true → HasOpen w b
  joins (OpenedNote y) e b in_joint =
      ⊎_elim
      (λ (same : y ≡ b).
      let asks = ((hears_row s.core.state m now (row s.core.state m)).opens y e).asks in
      subst (HasOpen w) same (open_sent w k m y was (subst (λ n. is_open_of y n ≡ true) (sym asks) (same_block_itself y))))
      (λ (old : has_block w.joint b ≡ true). i.joint b old)
      (joined_has w.joint y b in_joint)
  joins told e b in_joint = i.joint b in_joint

  reply_locked : (reply : Message) → now.1.reply ≡ Some reply → LockedStands after reply
  reply_locked reply e = record {
    stands = λ x b is.
        let t = locked_row s.core.state m now (row s.core.state m) x b (e ∙ ap Some is) in
        inl (record { site = later; found = subst (λ j. site_of j after ≡ Some later) (sym t.0) there; stands = inr (inl t.1) });
  }

  pub hears_standing : Standing after
  hears_standing =
      standing_more w after heard_on i now.1.reply refl reply_locked
      (λ b new. absurd (true≢false (sym new.opens ∙ reply_quiet w sound openings k m s was found b new.message new.is)))
      (joins now.1.note refl)
      (λ c p at r held. reservation_more w after heard_on i c p at r held)

-- ---- an entry runs

module _ (w : World) (i : Standing w) (h : HandlerId) (s : Site) (found : site_of h w ≡ Some s) where
  -- the handler goes on with what opened at it, and with the blocks that hold its lock
  quiet_site : (t : Site) → number_of t ≡ number_of s → t.opened ≡ s.opened → MarksGrow s.core.state.marks t.core.state.marks
      → ((b : Block) → IsHeldIn s.core.state.marks b → IsHeldIn t.core.state.marks b) → Standing (with_site w t)
  quiet_site t same opened grows held =
      let there : site_of (number_of t) w ≡ Some s = subst (λ j. site_of j w ≡ Some s) (sym same) (own_site w h s found) in
      let more : (b : Block) → has_block s.opened b ≡ true → has_block t.opened b ≡ true = λ b e. ap (λ bs. has_block bs b) opened ∙ e in
      let onto = site_onto w t s there more w.sent w.joint (λ b none. none) in
      let on : StandsOn w (with_site w t) = record {
        onto = onto;
        stands = stands_set w t s there (λ b stands.
            ⊎_elim
            (λ (e : has_block s.opened b ≡ true). inl (inl (more b e)))
            (λ (q : IsHeldIn s.core.state.marks b ⊎ IsPastIn s.core.state.marks b).
            ⊎_elim (λ (e : IsHeldIn s.core.state.marks b). inl (inr (inl (held b e))))
            (λ (e : IsPastIn s.core.state.marks b). inl (inr (inr (past_more s.core.state.marks t.core.state.marks b grows e)))) q)
            stands);
      } in
      standing_more w (with_site w t) on i None (sym (append-nil w.sent)) (λ m e. absurd (cc)) (λ b new. absurd (let f = new.is in cc)) i.joint
      (λ c p at r held. reservation_more w (with_site w t) on i c p at r held)

  pub begins_standing : Standing (with_site w (begun_site s))
  begins_standing = quiet_site (begun_site s) refl refl (MarksGrow-refl s.core.state.marks) (λ b e. e)

  pub finishes_standing : (t : Task) → Standing (with_site w (finished_site s t))
  finishes_standing t =
      quiet_site (finished_site s t) refl refl (MarksGrow-after (ran_of t) s.core.state.marks) (λ b e. held_after (ran_of t) s.core.state.marks b e)

-- ---- a node restarts

stands_anew : (n : ℕ) (js : List Block) (b : Block) (x : Site) → SiteFits js x → StandsFor (Some x) b → StandsFor (Some (reopened n x)) b
stands_anew n js b x f q = grind (arith, here, same_Some, by_restart)

pub reopens_standing : (w : World) → Ordered w → Openings w → Standing w → (n : ℕ) → Standing (reopened_world w n)
reopens_standing w o openings i n =
    let v : World = reopened_world w n in
    let on : StandsOn w v = record { onto = anew_onto w o.sites openings n; stands = λ h b g. inl (found_anew w.joint n (λ q. StandsFor q b) h (stands_anew n w.joint b) w.sites o.sites g) } in
    standing_more w v on i None (sym (append-nil w.sent)) (λ m e. absurd (cc)) (λ b new. absurd (let f = new.is in cc)) i.joint
    (λ c p at r held. reservation_more w v on i c p at r held)
