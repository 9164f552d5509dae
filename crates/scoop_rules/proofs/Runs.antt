-- An entry that runs is a run of the first entry of the first private queue. The handler's own first queue with an entry is its first
-- slot that isn't over. The queues of the rules before it are gone, since their blocks are over there, and its block's queue begins
-- with the same entry. Then one more entry has run of that block, and all other queues stay.
use Rattle.scoop_rules.proofs.Names.{◌≡◌, ℕ, ◌+◌, List, [], ◌∷◌, ◌++◌, Some, None, refl, sym, ap, ◌∙◌, subst, arith, option_map, true, if◌then◌else◌, ◌&&◌}
use Rattle.scoop_rules.proofs.Names.{false, true≢false, ◌||◌, Bool, nat_le, append_assoc, length-append, flat_map, nat_tests, filter-append, list_any-append}
use Rattle.scoop_rules.proofs.Names.{same_Some, none-some, AllByRecursion, option_map_or, handler_decides, is_end, same_block, same_handler, Block, HandlerId}
use Rattle.scoop_rules.proofs.Names.{Entry, front, by_test, Core, Task, told_of, job_out, Ran, has, number_found, by_site, IsSubsequence, with_site}
use Rattle.scoop_rules.proofs.Names.{finished_site, World, ran_at, Site, number_of, site_of, has_block, opened_at, log_of, received, is_succeeded, set_of}
use Rattle.scoop_rules.proofs.Names.{has_end, or-false, flat_map-append, same_block_itself, same_block_is, AreApart, HandlerReady, Ready, IsOverIfGone}
use Rattle.scoop_rules.proofs.Names.{IsNamedAt, IsBegun, left_apart, Slot, blocks_of, count_of, Waiting, configuration_of, queue_at, queue_of, seen, Seen}
use Rattle.scoop_rules.proofs.Names.{state_of, Objects, MovesLead, objects_of, Configuration, no_class, has_ended, put_at_handler, RunOne, next_ran, rest_of}
use Rattle.scoop_rules.proofs.Names.{false_from_ne_true}
use Rattle.scoop_handler.proofs.After.{job-class}
use Rattle.scoop_model.proofs.Names.{job-front, job-first}
use Rattle.scoop_rules.proofs.Lists.{same_configuration, queues_same}
use Rattle.scoop_rules.proofs.Seen.{IsSeen, HasFirst, slot_seen, all_seen, seen_none, none_before, none_queue, gone_queue, first_queue, ran_queue}
use Rattle.scoop_rules.proofs.Front.{IsPlaced, Parted, parted}

-- ---- one more that ran

pub count_pushed : (b : Block) (rs : List Ran) (r : Ran) → count_of b (rs ++ r ∷ []) ≡ count_of b rs + (if same_block r.block b then 1 else 0)
count_pushed b rs r = grind (arith, filter-append, length-append)

pub ended_pushed : (b : Block) (rs : List Ran) (r : Ran) → has_ended b (rs ++ r ∷ []) ≡ (has_ended b rs || same_block r.block b && is_end r.entry)
ended_pushed b rs r = grind (arith, list_any-append, has_ended, or-false)

-- ---- the common list around a block

has_middle : (b : Block) (xs ys : List Block) → has_block (xs ++ b ∷ ys) b ≡ true
has_middle b [] ys = ap (λ t. t || has_block ys b) (same_block_itself b)
has_middle b (x ∷ xs) ys = by_test (λ t. (t || has_block (xs ++ b ∷ ys) b) ≡ true) (same_block x b) (λ _. refl) (λ _. has_middle b xs ys)

apart_from : (b y : Block) (bs : List Block) → has_block bs b ≡ false → has_block bs y ≡ true → same_block b y ≡ false
apart_from b y bs none m = grind (arith, true≢false, has_block, same_block_is)

-- in a list without repeats the blocks before and behind one are others
before_apart : (b y : Block) (xs ys : List Block) → AreApart (xs ++ b ∷ ys) → has_block xs y ≡ true → same_block b y ≡ false
before_apart b y [] ys d m = absurd (true≢false (sym m))
before_apart b y (x ∷ xs) ys d m =
    by_test (λ t. (t || has_block xs y) ≡ true → same_block b y ≡ false) (same_block x y)
    (λ is _. false_from_ne_true (same_block b y) (λ also. true≢false (sym (has_middle b xs ys) ∙ ap (has_block (xs ++ b ∷ ys)) (same_block_is b y also ∙ sym (same_block_is x y is)) ∙ d.0)))
    (λ is n. before_apart b y xs ys d.1 n) m

behind_apart : (b y : Block) (xs ys : List Block) → AreApart (xs ++ b ∷ ys) → has_block ys y ≡ true → same_block b y ≡ false
behind_apart b y [] ys d m = apart_from b y ys d.0 m
behind_apart b y (x ∷ xs) ys d m = behind_apart b y xs ys d.1 m

-- the queues of the list, by those before, of, and behind one block
queues_around : (f : Block → List Waiting) (js xs ys : List Block) (b : Block) (qs : List Waiting) → js ≡ xs ++ b ∷ ys → flat_map f xs ≡ [] → f b ≡ qs
    → flat_map f js ≡ qs ++ flat_map f ys
queues_around f js xs ys b qs e none at = ap (flat_map f) e ∙ flat_map-append f xs (b ∷ ys) ∙ (λ i. none i ++ (at i ++ flat_map f ys))

-- ---- the run of a first queue that is known

first_runs : (o : Objects) (h : HandlerId) (g k : Configuration) (q : Waiting) (x : Entry) (es : List Entry) (qs : List Waiting) → q.entries ≡ x ∷ es
    → g.queues h ≡ q ∷ qs
    → record g {
      queues = put_at_handler h (rest_of q x es ++ qs) g.queues;
      ran = put_at_handler h (g.ran h ++ next_ran (o.class h) (o.words h) (g.ran h) q.block x ∷ []) g.ran;
    } ≡ k
    → MovesLead o g (RunOne h ∷ []) k
first_runs o h g k q x es qs entries first e = grind (arith, nat_le, nat_tests)

-- ---- what a slot tells of its block's queue

-- all that is known of a slot
pub record SlotReady (w : World) (h : HandlerId) (t : Slot) : Type 0 where
  pub seen : IsSeen w h t
  pub begun : IsBegun (λ b. log_of b h w) t
  pub gone : IsOverIfGone w h t
  pub named : IsNamedAt w h t

all_four : (P Q R S T : Slot → Type 0) → ((t : Slot) → P t → Q t → R t → S t → T t) → (ss : List Slot) → AllByRecursion P ss → AllByRecursion Q ss
    → AllByRecursion R ss → AllByRecursion S ss
    → AllByRecursion T ss
all_four P Q R S T f [] p q r s = tt
all_four P Q R S T f (t ∷ ts) p q r s = (f t p.0 q.0 r.0 s.0, all_four P Q R S T f ts p.1 q.1 r.1 s.1)

module _ (w : World) (h : HandlerId) (ready : Ready w) where
  abbrev here : HandlerReady w h
  here = ready.handlers h

  pub slots_left : IsSubsequence (blocks_of here.slots) w.joint
  slots_left = subst (λ bs. IsSubsequence bs w.joint) here.opened here.left

  pub slots_apart : AreApart (blocks_of here.slots)
  slots_apart = left_apart slots_left ready.once

  pub slots_ready : AllByRecursion (SlotReady w h) here.slots
  slots_ready =
      all_four (IsSeen w h) (IsBegun (λ b. log_of b h w)) (IsOverIfGone w h) (IsNamedAt w h) (SlotReady w h)
      (λ t a b c d. record { seen = a; begun = b; gone = c; named = d }) here.slots
      (all_seen w h here.slots here.ran slots_apart here.begun here.told) here.begun here.gone here.named

  if_nothing : (t : Bool) (qs : List Waiting) → qs ≡ [] → (if t then qs else []) ≡ []
  if_nothing true qs e = e
  if_nothing false qs e = refl

  -- a slot whose private queue is gone has no queue
  pub gone_at : (t : Slot) → SlotReady w h t → t.state ≡ None → queue_at w h t.block ≡ []
  gone_at t r none = grind (arith, if_nothing, gone_queue)

  -- a block without a slot, whose client has been succeeded, has no queue
  none_at : (b : Block) → has_block (opened_at h w) b ≡ false → is_succeeded b h w ≡ true → queue_at w h b ≡ []
  none_at b none newer =
      if_nothing (has (set_of b w) h) (queue_of b (seen b h w))
      (ap (queue_of b) (seen_none w h here.slots b here.ran (ap (λ bs. has_block bs b) (sym here.opened) ∙ none) (here.silent b none))
      ∙ ap (λ t. queue_of b (record { logged = log_of b h w; count = 0; over = false; newer = t; received = 0 })) newer
      ∙ none_queue b (log_of b h w))

  pub placed_at : (b : Block) → has_block w.joint b ≡ true → IsPlaced (queue_at w h) (blocks_of here.slots) w.joint b
  placed_at b m = grind (arith, has_block, true≢false, none_at)

-- the words that a job went out with are the handler's
job_words : (c : Core) (t : Task) → job_out c ≡ Some t → t.words ≡ c.state.words
job_words c t out = grind (arith, front, none-some, option_map, job-first, same_Some)

-- ---- the world once the entry has run

module _ (w : World) (h : HandlerId) (s : Site) (t : Task) (found : site_of h w ≡ Some s) where
  abbrev ran_world : World
  ran_world = with_site w (finished_site s t)

  own_place : site_of (number_of s) w ≡ Some s
  own_place = subst (λ j. site_of j w ≡ Some s) (sym (number_found h w s found)) found

  ran_before : ran_at h w ≡ s.ran
  ran_before = ap (λ o. option_map_or (λ (x : Site). x.ran) o []) found

  pub ran_here : ran_at h ran_world ≡ ran_at h w ++ told_of t ∷ []
  ran_here =
      by_site (λ o. option_map_or (λ (x : Site). x.ran) o [] ≡ ran_at h w ++ told_of t ∷ []) w (finished_site s t) s h own_place
      (λ same. ap (λ rs. rs ++ told_of t ∷ []) (sym ran_before))
      (λ apart. absurd (apart (number_found h w s found)))

  pub ran_elsewhere : (j : HandlerId) → (j ≡ h → ⊥) → ran_at j ran_world ≡ ran_at j w
  ran_elsewhere j apart =
      by_site (λ o. option_map_or (λ (x : Site). x.ran) o [] ≡ ran_at j w) w (finished_site s t) s j own_place
      (λ same. absurd (apart (sym same ∙ number_found h w s found)))
      (λ other. refl)

  other_block : (b : Block) → same_block t.block b ≡ false → queue_at ran_world h b ≡ queue_at w h b
  other_block b other = grind (arith, ran_here, count_pushed, ran_at, has_ended, ended_pushed, or-false, received)

  other_place : (j : HandlerId) (b : Block) → (j ≡ h → ⊥) → queue_at ran_world j b ≡ queue_at w j b
  other_place j b apart = grind (arith, ran_elsewhere, has_ended, received)

  own_block : (f : HasFirst (seen t.block h w) t.entry) → has (set_of t.block w) h ≡ true
      → queue_at ran_world h t.block ≡ rest_of record { block = t.block; entries = t.entry ∷ f.later; state = state_of (seen t.block h w) } t.entry f.later
  own_block f named =
      let b = t.block in
      let own = same_block_itself b in
      let count = ap (count_of b) ran_here ∙ count_pushed b (ran_at h w) (told_of t) ∙ ap (λ y. count_of b (ran_at h w) + (if y then 1 else 0)) own in
      let over = ap (has_ended b) ran_here ∙ ended_pushed b (ran_at h w) (told_of t) ∙ ap (λ y. has_ended b (ran_at h w) || y && is_end t.entry) own in
      (λ i.
      if named i then queue_of b (record { logged = log_of b h w; count = count i; over = over i; newer = is_succeeded b h w; received = received b h w })
      else [])
      ∙ ran_queue b (seen b h w) t.entry f

  module _ (ready : Ready w) (out : job_out s.core ≡ Some t) where
    abbrev u : Block × ℕ × Entry
    u = (t.block, t.number, t.entry)

    around : Parted (queue_at w h) (SlotReady w h) u w.joint
    around =
        parted (queue_at w h) (SlotReady w h) u (gone_at w h ready) (ready.handlers h).slots w.joint (slots_left w h ready) ready.once (placed_at w h ready)
        (slots_ready w h ready)
        (sym (ap front ((ready.handlers h).queues s found)) ∙ job-front s.core t out)

    own_slot : around.slot.block ≡ t.block
    own_slot = around.first.block

    looks : seen t.block h w ≡ slot_seen around.slot.ran (t.entry ∷ around.first.later) around.has.seen.more (is_succeeded around.slot.block h w)
    looks = grind (arith, own_slot, around)

    no_end : has_end around.slot.ran ≡ false
    no_end = grind (arith, around, append_assoc, none_before)

    first : HasFirst (seen t.block h w) t.entry
    first = subst (λ x. HasFirst x t.entry) (sym looks) (first_queue around.slot.ran t.entry around.first.later around.has.seen.more
        (is_succeeded around.slot.block h w) no_end)

    named : has (set_of t.block w) h ≡ true
    named = subst (λ b. has (set_of b w) h ≡ true) own_slot around.has.named.named

    abbrev q : Waiting
    q = record { block = t.block; entries = t.entry ∷ first.later; state = state_of (seen t.block h w) }

    own_now : queue_at w h t.block ≡ q ∷ []
    own_now = grind (arith, named, first)

    stands : w.joint ≡ around.before ++ t.block ∷ around.behind
    stands = around.here ∙ ap (λ b. around.before ++ b ∷ around.behind) own_slot

    no_repeats : AreApart (around.before ++ t.block ∷ around.behind)
    no_repeats = subst AreApart stands ready.once

    number : count_of t.block (ran_at h w) + 1 ≡ t.number
    number = ap (λ (x : Seen). x.count + 1) looks ∙ around.first.number

    same_ran : next_ran ((objects_of w).class h) ((objects_of w).words h) (ran_at h w) t.block t.entry ≡ told_of t
    same_ran = grind (arith, option_map_or, no_class, job_words, ran_at, ran_before, job-class, number)

    abbrev later : List Waiting
    later = flat_map (queue_at w h) around.behind

    queues_here : rest_of q t.entry first.later ++ later ≡ flat_map (queue_at ran_world h) w.joint
    queues_here =
        sym (
        queues_around (queue_at ran_world h) w.joint around.before around.behind t.block (rest_of q t.entry first.later) stands
        (queues_same (queue_at ran_world h) (queue_at w h) around.before
        (λ b m. other_block b (before_apart t.block b around.before around.behind no_repeats m)) ∙ around.empty)
        (own_block first named)
        ∙ ap (λ qs. rest_of q t.entry first.later ++ qs) (queues_same (queue_at ran_world h) (queue_at w h) around.behind
        (λ b m. other_block b (behind_apart t.block b around.before around.behind no_repeats m))))

    is_here : (j : HandlerId) → same_handler j h ≡ true → j ≡ h
    is_here j e = (handler_decides j h).0 e

    is_not_here : (j : HandlerId) → same_handler j h ≡ false → j ≡ h → ⊥
    is_not_here j e same = true≢false (sym ((handler_decides j h).1 same) ∙ e)

    queues_after :
        (j : HandlerId) → put_at_handler h (rest_of q t.entry first.later ++ later) (configuration_of w).queues j ≡ flat_map (queue_at ran_world j) w.joint
    queues_after j =
        by_test (λ y. (if y then rest_of q t.entry first.later ++ later else flat_map (queue_at w j) w.joint)
        ≡ flat_map (queue_at ran_world j) w.joint) (same_handler j h)
        (λ is. queues_here ∙ ap (λ k. flat_map (queue_at ran_world k) w.joint) (sym (is_here j is)))
        (λ is. sym (queues_same (queue_at ran_world j) (queue_at w j) w.joint (λ b m. other_place j b (is_not_here j is))))

    ran_after : (j : HandlerId)
        → put_at_handler h (ran_at h w ++ next_ran ((objects_of w).class h) ((objects_of w).words h) (ran_at h w) t.block t.entry ∷ [])
        (configuration_of w).ran j ≡ ran_at j ran_world
    ran_after j = grind (arith, ran_at, same_ran, ran_here, is_here, ran_elsewhere, is_not_here)

    pub run_follows : MovesLead (objects_of w) (configuration_of w) (RunOne h ∷ []) (configuration_of ran_world)
    run_follows =
        first_runs (objects_of w) h (configuration_of w) (configuration_of ran_world) q t.entry first.later later refl
        (queues_around (queue_at w h) w.joint around.before around.behind t.block (q ∷ []) stands around.empty own_now)
        (same_configuration _ (configuration_of ran_world) queues_after ran_after refl (λ c. refl))
