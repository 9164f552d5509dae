-- At its first opening anywhere a block is reserved in one step, and cut wherever it can't open any more. Nothing is logged for it
-- yet, so each new queue is empty and open. If a newer incarnation of its client has greeted, the queue is cut at once and gone. A
-- later opening is no move: the block is in the common list already.
use Rattle.scoop_rules.proofs.Names.{◌≡◌, ℕ, ◌<◌, List, [], ◌∷◌, ◌++◌, map, refl, sym, ap, ◌∙◌, subst, arith, append-nil, Option, true, if◌then◌else◌, ◌&&◌}
use Rattle.scoop_rules.proofs.Names.{take, false, true≢false, Bool, ◌⊎◌, inl, inr, filter, flat_map, handler_decides, same_block, same_handler, Message, Block}
use Rattle.scoop_rules.proofs.Names.{HandlerId, by_test, has, joined, World, ran_at, Site, has_block, opened_at, is_succeeded, inc_of, set_of, take-nil}
use Rattle.scoop_rules.proofs.Names.{flat_map-append, same_block_itself, same_block_is, HandlerReady, Ready, same_handler_itself, count_of, Waiting}
use Rattle.scoop_rules.proofs.Names.{configuration_of, queue_at, queue_of, seen, Seen, Objects, MovesLead, Configuration, CutTo, put_at_handler, cut_to}
use Rattle.scoop_rules.proofs.Names.{cut_queue, cut_waiting, Separate, late_cuts, separate, new_queue, false_from_ne_true}
use Rattle.scoop_rules.proofs.Lists.{and_never, same_configuration, queues_same, queues_last, cut_over, cut_other, own_queue_at}
use Rattle.scoop_rules.proofs.Seen.{seen_none}
use Rattle.scoop_rules.proofs.Front.{left_has}
use Rattle.scoop_rules.proofs.Sends.{IsQuietIfSome, ran_in, with_news, same_queue, quiet_same}

-- ---- tests of handlers

handlers_turned : (x h : HandlerId) → same_handler x h ≡ false → same_handler h x ≡ false
handlers_turned x h e = grind (arith, true≢false, handler_decides)

-- ---- cuts of a queue that is new

-- the queues as they stand, and one block's after them
abbrev with_last : World → List Block → (HandlerId → List Waiting) → Configuration
with_last w js last = record { queues = λ x. flat_map (queue_at w x) w.joint ++ last x; ran = λ x. ran_at x w; separated = js; inc = inc_of w }

other_than : (b y : Block) (js : List Block) → has_block js b ≡ false → has_block js y ≡ true → same_block y b ≡ false
other_than b y js none m = grind (arith, true≢false, has_block, same_block_is)

cut_new : (b : Block) (k : ℕ) → flat_map (cut_waiting b k) (new_queue b ∷ []) ≡ []
cut_new b k = ap (λ t. (if t then cut_queue b (take k []) else new_queue b ∷ []) ++ []) (same_block_itself b) ∙ ap (λ es. cut_queue b es ++ []) (take-nil k)

-- a cut of a block that isn't in the list
cut_behind : (w : World) (h : HandlerId) (b : Block) (k : ℕ) (qs : List Waiting) → has_block w.joint b ≡ false
    → flat_map (cut_waiting b k) (flat_map (queue_at w h) w.joint ++ qs) ≡ flat_map (queue_at w h) w.joint ++ flat_map (cut_waiting b k) qs
cut_behind w h b k qs new = grind (arith, flat_map-append, cut_over, queues_same, cut_other, other_than, own_queue_at)

module _ (o : Objects) (w : World) (js : List Block) (b : Block) (new : has_block w.joint b ≡ false)
    (below : (h : HandlerId) → is_succeeded b h w ≡ true → b.inc < inc_of w b.client) (none : (h : HandlerId) → count_of b (ran_at h w) ≡ 0) where
  abbrev IsNewOrNone : (HandlerId → List Waiting) → Type 0
  IsNewOrNone last = (x : HandlerId) → (last x ≡ []) ⊎ (last x ≡ new_queue b ∷ [])

  -- the block has no queue at one handler more
  abbrev without_at : HandlerId → (HandlerId → List Waiting) → HandlerId → List Waiting
  without_at h last = put_at_handler h [] last

  cut_step : (h : HandlerId) (last : HandlerId → List Waiting) → IsNewOrNone last → cut_to b h 0 (with_last w js last) ≡ with_last w js (without_at h last)
  cut_step h last is = grind (arith, same_configuration, ran_at, cut_behind, cut_new, handler_decides)

  still_new : (h : HandlerId) (last : HandlerId → List Waiting) → IsNewOrNone last → IsNewOrNone (without_at h last)
  still_new h last is x = grind arith

  abbrev cut_where : List HandlerId → (HandlerId → List Waiting) → HandlerId → List Waiting
  cut_where hs last x = if has hs x && is_succeeded b x w then [] else last x

  cut_where_first : (h : HandlerId) (hs : List HandlerId) (last : HandlerId → List Waiting) → is_succeeded b h w ≡ true → (x : HandlerId)
      → cut_where (h ∷ hs) last x ≡ cut_where hs (without_at h last) x
  cut_where_first h hs last newer x = grind (arith, handler_decides, same_handler_itself, handlers_turned)

  cut_where_not : (h : HandlerId) (hs : List HandlerId) (last : HandlerId → List Waiting) → is_succeeded b h w ≡ false → (x : HandlerId)
      → cut_where (h ∷ hs) last x ≡ cut_where hs last x
  cut_where_not h hs last older x = grind (arith, handler_decides, and_never)

  late : (hs : List HandlerId) (last : HandlerId → List Waiting) → IsNewOrNone last → (end : Configuration) → with_last w js (cut_where hs last) ≡ end
      → MovesLead o (with_last w js last) (map (λ h. CutTo b h 0) (filter (λ h. is_succeeded b h w) hs)) end
  late [] last is end e = e
  late (h ∷ hs) last is end e =
      by_test (λ t. MovesLead o (with_last w js last)
      (map (λ j. CutTo b j 0) (if t then h ∷ filter (λ j. is_succeeded b j w) hs else filter (λ j. is_succeeded b j w) hs)) end) (is_succeeded b h w)
      (λ newer. (
        (below h newer, let n = none h in omega (arith, n)),
        subst (λ g. MovesLead o g (map (λ j. CutTo b j 0) (filter (λ j. is_succeeded b j w) hs)) end) (sym (cut_step h last is))
            (late hs (without_at h last) (still_new h last is) end
            (same_configuration (with_last w js (cut_where hs (without_at h last))) (with_last w js (cut_where (h ∷ hs) last))
            (λ x. ap (λ qs. flat_map (queue_at w x) w.joint ++ qs) (sym (cut_where_first h hs last newer x))) (λ x. refl) refl (λ c. refl) ∙ e)),
      ))
      (λ older.
      late hs last is end
      (same_configuration (with_last w js (cut_where hs last)) (with_last w js (cut_where (h ∷ hs) last))
      (λ x. ap (λ qs. flat_map (queue_at w x) w.joint ++ qs) (sym (cut_where_not h hs last older x))) (λ x. refl) refl (λ c. refl) ∙ e))

-- ---- an opening

module _ (w : World) (sites : List Site) (m : Option Message) (same_ran : (j : HandlerId) → ran_in j sites ≡ ran_at j w) (quiet : IsQuietIfSome w.sent m)
    (b : Block) where
  abbrev opened_world : World
  opened_world = with_news w sites m same_ran quiet (joined w.joint (b ∷ []))

  -- elsewhere it has opened before
  pub later_opening : has_block w.joint b ≡ true → configuration_of w ≡ configuration_of opened_world
  later_opening old =
      quiet_same w sites m same_ran quiet
      ∙ ap (λ js. configuration_of (with_news w sites m same_ran quiet js)) (sym (ap (λ t. if t then w.joint else w.joint ++ b ∷ []) old))

  module _ (o : Objects) (ready : Ready w) (new : has_block w.joint b ≡ false) where
    abbrev js : List Block
    js = w.joint ++ b ∷ []

    longer : joined w.joint (b ∷ []) ≡ js
    longer = ap (λ t. if t then w.joint else w.joint ++ b ∷ []) new

    not_opened : (x : HandlerId) → has_block (opened_at x w) b ≡ false
    not_opened x =
        false_from_ne_true (has_block (opened_at x w) b) (λ is. true≢false (sym (left_has (ready.handlers x).left b is) ∙ new))

    looks : (x : HandlerId) → seen b x w ≡ record { logged = []; count = 0; over = false; newer = is_succeeded b x w; received = 0 }
    looks x =
        let r : HandlerReady w x = ready.handlers x in
        seen_none w x r.slots b r.ran (ap (λ bs. has_block bs b) (sym r.opened) ∙ not_opened x) (r.silent b (not_opened x))
        ∙ ap (λ es. record { logged = es; count = 0; over = false; newer = is_succeeded b x w; received = 0 }) (ready.unlogged b x new)

    abbrev at_each : HandlerId → List Waiting
    at_each x = if has (set_of b w) x then new_queue b ∷ [] else []

    fresh : (g : Bool) → queue_of b (record { logged = []; count = 0; over = false; newer = g; received = 0 }) ≡ (if g then [] else new_queue b ∷ [])
    fresh true = refl
    fresh false = refl

    both_tests : (a g : Bool) → (if a && g then [] else (if a then new_queue b ∷ [] else [])) ≡ (if a then (if g then [] else new_queue b ∷ []) else [])
    both_tests true g = refl
    both_tests false g = refl

    own_after : (x : HandlerId)
        → cut_where o w js b new (λ h. ready.below b h) (λ h. ap (λ (s : Seen). s.count) (looks h)) (set_of b w) at_each x ≡ queue_at opened_world x b
    own_after x =
        both_tests (has (set_of b w) x) (is_succeeded b x w)
        ∙ ap (λ qs. if has (set_of b w) x then qs else []) (sym (ap (queue_of b) (looks x) ∙ fresh (is_succeeded b x w)))
        ∙ sym (same_queue w sites m same_ran quiet (joined w.joint (b ∷ [])) x b)

    begins : with_last w js at_each ≡ separate b (set_of b w) (configuration_of w)
    begins = grind (arith, same_configuration, append-nil)

    ends : with_last w js (λ x. queue_at opened_world x b) ≡ configuration_of opened_world
    ends =
        same_configuration (with_last w js (λ x. queue_at opened_world x b)) (configuration_of opened_world)
        (λ x.
        ap (λ qs. qs ++ queue_at opened_world x b) (sym (queues_same (queue_at opened_world x) (queue_at w x) w.joint
        (λ y _. same_queue w sites m same_ran quiet (joined w.joint (b ∷ [])) x y)))
        ∙ sym (queues_last (queue_at opened_world x) w.joint b)
        ∙ ap (flat_map (queue_at opened_world x)) (sym longer))
        (λ x. sym (same_ran x)) (sym longer) (λ c. refl)

    pub first_opening : MovesLead o (configuration_of w) (Separate b (set_of b w) ∷ late_cuts w b) (configuration_of opened_world)
    first_opening = (
      new,
      subst (λ g. MovesLead o g (late_cuts w b) (configuration_of opened_world)) begins
          (late o w js b new (λ h. ready.below b h) (λ h. ap (λ (s : Seen). s.count) (looks h)) (set_of b w) at_each
          (λ x.
          by_test (λ t. ((if t then new_queue b ∷ [] else []) ≡ []) ⊎ ((if t then new_queue b ∷ [] else []) ≡ new_queue b ∷ [])) (has (set_of b w) x)
          (λ _. inr refl)
          (λ _. inl refl))
          (configuration_of opened_world)
          (same_configuration (with_last w js _) (with_last w js (λ x. queue_at opened_world x b))
          (λ x. ap (λ qs. flat_map (queue_at w x) w.joint ++ qs) (own_after x)) (λ x. refl) refl (λ c. refl) ∙ ends)),
    )
