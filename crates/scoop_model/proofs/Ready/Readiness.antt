-- The invariants joined, for each handler of a world. The layers speak of sites, each by its place, and of messages. This file speaks
-- of a handler by its number. Its slots are those of its tape, each with the counts that were sent of it. A block of the common list
-- has opened there, is succeeded, or may come next. A handler that isn't in the world has no slots.
use Rattle.scoop_model.proofs.Names.{◌≡◌, ◌<◌, List, [], ◌∷◌, ◌++◌, map, Some, None, refl, sym, ap, ◌∙◌, subst, arith, Option, true, false, true≢false, ◌||◌}
use Rattle.scoop_model.proofs.Names.{Bool, ◌⊎◌, inl, inr, ⊎_elim, unwrap_or, length-append, IsTrue, same_Some, none-some, AllByRecursion, option_map_or, ends}
use Rattle.scoop_model.proofs.Names.{is_end, same_block, Hello, Block, HandlerId, Entry, all_found, by_test, All-mark_of, mark_of-client, mark_of, Mark, has}
use Rattle.scoop_model.proofs.Names.{number_found, IsSubsequence, untold, World, Site, number_of, is_site, site_of, has_block, opened_at, log_of, is_succeeded}
use Rattle.scoop_model.proofs.Names.{set_of, has_end}
use Rattle.scoop_model.proofs.Order.{SiteFits, Ordered, all_more_of, IsHeldIn, AreApart, same_block_itself, none_left}
use Rattle.scoop_model.proofs.Sound.{sent_all}
use Rattle.scoop_model.proofs.Logging.{Logging, IsPassed, Greets, succeeded_passed, succeeded_inc, unjoined_empty}
use Rattle.scoop_model.proofs.Logging.Greetings.{Greetings}
use Rattle.scoop_model.proofs.Logging.Openings.{Openings}
use Rattle.scoop_model.proofs.Answering.{SiteAnswers, Answering}
use Rattle.scoop_model.proofs.Tape.{Slot, queues_of, blocks_of, IsBegun}
use Rattle.scoop_model.proofs.Whole.{SlotWhole, SiteTaped, Taped}
use Rattle.scoop_model.proofs.Ready.Facts.{IsToldAs, IsOverIfGone, IsNamedAt, HandlerReady, MarksReady, Ready}
use Rattle.scoop_model.proofs.Standing.{IsPastIn, StandsAt, Standing, joint_stands}
use Rattle.scoop_model.proofs.Ready.Counts.{Counts}
use Rattle.scoop_model.proofs.Whole.Slots as slot

-- entries that end have an End
pub end_there : (es : List Entry) → IsTrue (ends es) → has_end es ≡ true
end_there [] e = absurd (true≢false (sym e))
end_there (x ∷ []) e = ap (λ t. t || false) e
end_there (x ∷ y ∷ es) e = by_test (λ t. (t || has_end (y ∷ es)) ≡ true) (is_end x) (λ here. refl) (λ there. end_there (y ∷ es) e)

abbrev opened_in : Option Site → List Block
opened_in o = option_map_or (λ (x : Site). x.opened) o []

-- the facts about every block that has a slot
by_slot : (P : Block → Type 0) (ss : List Slot) → ((b : Block) → has_block (blocks_of ss) b ≡ true → P b) → AllByRecursion (λ t. P t.block) ss
by_slot P [] f = tt
by_slot P (s ∷ ss) f = (
  f s.block (ap (λ t. t || has_block (blocks_of ss) s.block) (same_block_itself s.block)),
  by_slot P ss (λ b m. f b (or_true (same_block s.block b) m)),
)
  where
    or_true : {u : Bool} → (t : Bool) → u ≡ true → (t || u) ≡ true
    or_true true m = refl
    or_true false m = m

module _ (w : World) (once : AreApart w.joint) (o : Ordered w) (l : Logging w) (taped : Taped w) (answers : Answering w) (greetings : Greetings w)
    (openings : Openings w) (standing : Standing w) (counts : Counts w) where
  module _ (h : HandlerId) (s : Site) (at : site_of h w ≡ Some s) where
    number : number_of s ≡ h
    number = number_found h w s at

    f : SiteTaped w s
    f = all_found (SiteTaped w) (is_site h) w.sites s taped at

    fits : SiteFits w.joint s
    fits = all_found (SiteFits w.joint) (is_site h) w.sites s o.sites at

    opened_is : opened_at h w ≡ s.opened
    opened_is = ap opened_in at

    -- a mark of a newer incarnation of the block's client was welcomed
    mark_greets : (b : Block) (k : Mark) → mark_of b.client s.core.state.marks ≡ Some k → b.inc < k.inc → is_succeeded b h w ≡ true
    mark_greets b k found newer = grind (arith, All-mark_of, f, number, mark_of-client)

    its_marks : MarksReady w h s
    its_marks = record {
      greeted = λ c k b found own newer. mark_greets b k (ap (λ d. mark_of d s.core.state.marks) own ∙ found) newer;
      ahead = λ b k newer found. (
          let p : IsPassed w h b = succeeded_passed w greetings b h newer in
          let same : p.site ≡ s = same_Some p.site s (sym p.found ∙ at) in
          let one : p.mark ≡ k = same_Some p.mark k (sym p.marked ∙ ap (λ (x : Site). mark_of b.client x.core.state.marks) same ∙ found) in
          subst (λ (x : Mark). b.inc < x.inc) one p.newer);
    }

    gone_slot : (t : Slot) → SlotWhole w.sent (number_of s) s.core.state.marks t → IsOverIfGone w h t
    gone_slot t x = grind (arith, ends, end_there, mark_greets)

    named_slot : (b : Block) → has_block (blocks_of f.slots) b ≡ true → has (set_of b w) h ≡ true
    named_slot b m = grind (arith, all_found, has_block, f, unwrap_or, number)

    stands_here : (b : Block) → has_block w.joint b ≡ true → has (set_of b w) h ≡ true
        → (has_block (opened_at h w) b ≡ true) ⊎ ((is_succeeded b h w ≡ true) ⊎ IsSubsequence (opened_at h w ++ b ∷ []) w.joint)
    stands_here b m named =
        let all = joint_stands w standing b m in
        let here : StandsAt w h b = all.stands h (subst (λ hs. has hs h ≡ true) (ap (λ (q : Option (List HandlerId)). unwrap_or q []) all.set) named) in
        let same : here.site ≡ s = same_Some here.site s (sym here.found ∙ at) in
        ⊎_elim
        (λ (e : has_block here.site.opened b ≡ true). inl (ap (λ bs. has_block bs b) (opened_is ∙ ap (λ (x : Site). x.opened) (sym same)) ∙ e))
        (λ (q : IsHeldIn here.site.core.state.marks b ⊎ IsPastIn here.site.core.state.marks b). inr (⊎_elim
        (λ (held : IsHeldIn here.site.core.state.marks b).
        inr (subst (λ bs. IsSubsequence (bs ++ b ∷ []) w.joint) (sym opened_is)
        (fits.next b (subst (λ (x : Site). IsHeldIn x.core.state.marks b) same held) m)))
        (λ (p : IsPastIn here.site.core.state.marks b).
        inl (mark_greets b p.mark (ap (λ (x : Site). mark_of b.client x.core.state.marks) (sym same) ∙ p.found) p.newer)) q))
        here.stands

    handler_there : HandlerReady w h
    handler_there = record {
      slots = f.slots;
      opened = opened_is ∙ f.tape.opened;
      ran = ap (λ q. map untold (option_map_or (λ (x : Site). x.ran) q [])) at ∙ f.tape.ran;
      queues = λ x e. subst (λ (y : Site). y.core.state.queues ≡ queues_of f.slots) (same_Some s x (sym at ∙ e)) f.tape.queues;
      begun = subst (λ j. AllByRecursion (IsBegun (λ b. log_of b j w)) f.slots) number f.tape.begun;
      told = subst (λ j. AllByRecursion (IsToldAs w j) f.slots) number
          (all_more_of (SlotWhole w.sent (number_of s) s.core.state.marks) (IsToldAs w (number_of s))
          (λ t x. x.received ∙ sym (length-append t.ran t.rest)) f.slots f.whole);
      gone = all_more_of (SlotWhole w.sent (number_of s) s.core.state.marks) (IsOverIfGone w h) gone_slot f.slots f.whole;
      named = all_more_of (λ t. has (set_of t.block w) h ≡ true) (IsNamedAt w h) (λ t e. record { named = e }) f.slots
          (by_slot (λ b. has (set_of b w) h ≡ true) f.slots named_slot);
      silent = counts h;
      left = subst (λ bs. IsSubsequence bs w.joint) (sym opened_is) fits.left;
      placed = stands_here;
    }

  -- a handler that isn't in the world has opened nothing
  handler_absent : (h : HandlerId) → site_of h w ≡ None → HandlerReady w h
  handler_absent h at = grind (arith, option_map_or, none-some, none_left, joint_stands, unwrap_or)

  handler_ready : (h : HandlerId) (q : Option Site) → site_of h w ≡ q → HandlerReady w h
  handler_ready h None at = handler_absent h at
  handler_ready h (Some s) at = handler_there h s at

  pub ready : Ready w
  ready = record {
    once = once;
    handlers = λ h. handler_ready h (site_of h w) refl;
    marks = its_marks;
    words = λ h s at. (all_found SiteAnswers (is_site h) w.sites s answers.sites at).words;
    logs = l.logs;
    unlogged = λ b h none. unjoined_empty w o openings b none h;
    below = succeeded_inc w greetings;
    hellos = λ i h c inc was. sent_all w i (Hello h c inc) was (Greets w) greetings.messages;
  }
