-- A greeting by a newer incarnation cuts the queues of blocks whose End was not received. It cuts at this handler alone, and only
-- blocks of an older incarnation of that client that are in the common list and name the handler. Each keeps the entries that were
-- reported as received, as its slot does. All other queues are the same before and after the greeting.
use Rattle.scoop_rules.proofs.Names.{◌≡◌, ℕ, ◌<◌, List, [], ◌∷◌, ◌++◌, map, refl, sym, ap, ◌∙◌, subst, arith, append-nil, ◌≤◌, true, if◌then◌else◌, ◌&&◌, zero}
use Rattle.scoop_rules.proofs.Names.{suc, take, false, true≢false, ◌||◌, length, Bool, ◌==◌, ◌-◌, nat_le, not, filter, drop, length-append, length-drop}
use Rattle.scoop_rules.proofs.Names.{flat_map, and_parts, nat_tests, handler_decides, same_block, same_handler, Welcome, Block, ClientId, HandlerId, Entry, Cut}
use Rattle.scoop_rules.proofs.Names.{by_test, has, World, ran_at, Site, has_block, log_of, received, greatest_count, is_succeeded, is_newer_welcome, inc_of}
use Rattle.scoop_rules.proofs.Names.{set_of, has_end, or-false, take-nil, same_block_itself, same_block_is, AreApart, HandlerReady, Ready, blocks_of}
use Rattle.scoop_rules.proofs.Names.{greatest_pushed, count_of, Waiting, configuration_of, is_cut_off, queue_at, queue_of, seen, Seen, Objects, MovesLead}
use Rattle.scoop_rules.proofs.Names.{Configuration, has_ended, CutTo, put_at_handler, cut_to, cut_queue, cut_waiting, is_cut_by, greeting_cuts}
use Rattle.scoop_model.proofs.Names.{same_block-sym}
use Rattle.scoop_rules.proofs.Lists.{and_never, same_configuration, queues_same, cut_over, cut_other, AreOwn, own_queue_at, own_cut}
use Rattle.scoop_rules.proofs.Seen.{seen_none, slot_at}
use Rattle.scoop_rules.proofs.Messages.{newer_more, newer_welcome_says}
use Rattle.scoop_rules.proofs.Runs.{SlotReady, slots_ready}
use Rattle.scoop_rules.proofs.Sends.{ran_in}

-- ---- one block's queue as its client's newer incarnation greets

take_of_drop : (r c : ℕ) (es : List Entry) → take (r - c) (drop c es) ≡ drop c (take r es)
take_of_drop r zero es = let e : r - 0 ≡ r = omega arith in ap (λ n. take n es) e
take_of_drop zero (suc c) es = let e : 0 - suc c ≡ 0 = omega arith in ap (λ n. take n (drop (suc c) es)) e
take_of_drop (suc r) (suc c) [] = take-nil (suc r - suc c)
take_of_drop (suc r) (suc c) (x ∷ es) = let e : suc r - suc c ≡ r - c = omega arith in ap (λ n. take n (drop c es)) e ∙ take_of_drop r c es

none_dropped : (c : ℕ) (es : List Entry) → (length (drop c es) == 0) ≡ nat_le (length es) c
none_dropped c es = let l = length-drop c es in grind (arith, nat_tests)

cut_by_length : (b : Block) (es : List Entry) → cut_queue b es ≡ (if length es == 0 then [] else record { block = b; entries = es; state = Cut } ∷ [])
cut_by_length b [] = refl
cut_by_length b (e ∷ es) = grind (arith, nat_tests)

-- a block as it is seen, before and after the greeting
abbrev as_seen : List Entry → ℕ → Bool → Bool → ℕ → Seen
as_seen log count over newer n = record { logged = log; count = count; over = over; newer = newer; received = n }

-- no End was received
newly_cut : (b : Block) (log : List Entry) (c r : ℕ) (over : Bool) → has_end (take r log) ≡ false
    → flat_map (cut_waiting b (r - c)) (queue_of b (as_seen log c over false r)) ≡ queue_of b (as_seen log c over true r)
newly_cut b log c r true e = refl
newly_cut b log c r false e = grind (arith, take, same_block_itself, append-nil, take_of_drop, cut_by_length, none_dropped, nat_le)

-- its End was received
not_cut : (b : Block) (log : List Entry) (c r : ℕ) (over : Bool) → has_end (take r log) ≡ true
    → queue_of b (as_seen log c over true r) ≡ queue_of b (as_seen log c over false r)
not_cut b log c r over e = grind (arith, nat_le, take)

abbrev queue_if : Bool → Block → Seen → List Waiting
queue_if named b s = if named then queue_of b s else []

greet_one : (b : Block) (log : List Entry) (c r : ℕ) (over named old newer : Bool) → (old ≡ true → newer ≡ true)
    → queue_if named b (as_seen log c over newer r)
    ≡ (if named && ((newer && not (has_end (take r log))) && not (old && not (has_end (take r log))))
    then flat_map (cut_waiting b (r - c)) (queue_if named b (as_seen log c over old r)) else queue_if named b (as_seen log c over old r))
greet_one b log c r over true true false more = absurd (true≢false (sym (more refl)))
greet_one b log c r over true true true more = grind (arith, take)
greet_one b log c r over true false true more = grind (arith, take, not_cut, newly_cut)
greet_one b log c r over t u y more = refl

-- ---- the cuts one after another

module _ (o : Objects) (v w : World) (h : HandlerId)
    (may : (b : Block) → is_cut_by v w h b ≡ true → (b.inc < inc_of v b.client) × (count_of b (ran_at h v) ≤ received b h v)) where
  -- the world's configuration with these queues at the handler
  abbrev with_queues : (Block → List Waiting) → Configuration
  with_queues f =
      record { queues = put_at_handler h (flat_map f v.joint) (configuration_of v).queues; ran = λ x. ran_at x v; separated = v.joint; inc = inc_of v }

  abbrev left_of : Block → ℕ
  left_of b = received b h v - count_of b (ran_at h v)

  abbrev cut_one : Block → List Waiting → List Waiting
  cut_one b qs = flat_map (cut_waiting b (left_of b)) qs

  -- the queues once the block's are cut
  abbrev cut_once : Block → (Block → List Waiting) → Block → List Waiting
  cut_once b f y = if same_block b y then cut_one b (f y) else f y

  same_queues : (f g : Block → List Waiting) → ((y : Block) → has_block v.joint y ≡ true → f y ≡ g y) → with_queues f ≡ with_queues g
  same_queues f g e = grind (arith, same_configuration, queues_same)

  own_once : (b : Block) (f : Block → List Waiting) → ((y : Block) → AreOwn y (f y)) → (y : Block) → AreOwn y (cut_once b f y)
  own_once b f own y = by_test (λ t. AreOwn y (if t then cut_one b (f y) else f y)) (same_block b y) (λ _. own_cut b y (left_of b) (f y) (own y)) (λ _. own y)

  once_is : (b : Block) (f : Block → List Waiting) → ((y : Block) → AreOwn y (f y)) → (y : Block) → cut_one b (f y) ≡ cut_once b f y
  once_is b f own y = grind (arith, cut_other, same_block-sym)

  itself : same_handler h h ≡ true
  itself = (handler_decides h h).1 refl

  at_itself : (f : Block → List Waiting) → (with_queues f).queues h ≡ flat_map f v.joint
  at_itself f = ap (λ t. if t then flat_map f v.joint else flat_map (queue_at v h) v.joint) itself

  cut_step : (b : Block) (f : Block → List Waiting) → ((y : Block) → AreOwn y (f y)) → cut_to b h (received b h v) (with_queues f) ≡ with_queues (cut_once b f)
  cut_step b f own =
      same_configuration (cut_to b h (received b h v) (with_queues f)) (with_queues (cut_once b f))
      (λ x.
      by_test (λ t. (if t then cut_one b ((with_queues f).queues h) else (if t then flat_map f v.joint else flat_map (queue_at v x) v.joint))
      ≡ (if t then flat_map (cut_once b f) v.joint else flat_map (queue_at v x) v.joint))
      (same_handler x h)
      (λ _.
      ap (cut_one b) (at_itself f) ∙ cut_over b (left_of b) f v.joint ∙ queues_same (λ y. cut_one b (f y)) (cut_once b f) v.joint (λ y _. once_is b f own y))
      (λ _. refl))
      (λ x. refl) refl (λ c. refl)

  -- the queues after the cuts of these blocks
  abbrev cut_all : List Block → (Block → List Waiting) → Block → List Waiting
  cut_all bs f y = if has_block bs y && is_cut_by v w h y then cut_one y (f y) else f y

  cut_all_first : (b : Block) (bs : List Block) (f : Block → List Waiting) → is_cut_by v w h b ≡ true → has_block bs b ≡ false → (y : Block)
      → cut_all (b ∷ bs) f y ≡ cut_all bs (cut_once b f) y
  cut_all_first b bs f cuts new y =
      by_test (λ t. (if (t || has_block bs y) && is_cut_by v w h y then cut_one y (f y) else f y)
      ≡ (if has_block bs y && is_cut_by v w h y then cut_one y (if t then cut_one b (f y) else f y) else (if t then cut_one b (f y) else f y)))
      (same_block b y)
      (λ same. subst
      (λ z.
      (if is_cut_by v w h z then cut_one z (f z) else f z) ≡ (if has_block bs z && is_cut_by v w h z then cut_one z (cut_one b (f z)) else cut_one b (f z)))
      (same_block_is b y same)
      (ap (λ t. if t then cut_one b (f b) else f b) cuts ∙ sym (ap (λ t. if t && is_cut_by v w h b then cut_one b (cut_one b (f b)) else cut_one b (f b)) new)))
      (λ other. refl)

  cut_all_not : (b : Block) (bs : List Block) (f : Block → List Waiting) → is_cut_by v w h b ≡ false → (y : Block) → cut_all (b ∷ bs) f y ≡ cut_all bs f y
  cut_all_not b bs f stays y =
      by_test (λ t. (if (t || has_block bs y) && is_cut_by v w h y then cut_one y (f y) else f y) ≡ cut_all bs f y) (same_block b y)
      (λ same.
      let not_so : is_cut_by v w h y ≡ false = subst (λ z. is_cut_by v w h z ≡ false) (same_block_is b y same) stays in
      ap (λ t. if t then cut_one y (f y) else f y) not_so
      ∙ sym (ap (λ t. if has_block bs y && t then cut_one y (f y) else f y) not_so ∙ and_never (has_block bs y) (cut_one y (f y)) (f y)))
      (λ other. refl)

  pub cuts :
      (bs : List Block) → AreApart bs → (f : Block → List Waiting) → ((y : Block) → AreOwn y (f y)) → (end : Configuration) → with_queues (cut_all bs f) ≡ end
      → MovesLead o (with_queues f) (map (λ b. CutTo b h (received b h v)) (filter (is_cut_by v w h) bs)) end
  cuts [] d f own end e = e
  cuts (b ∷ bs) d f own end e =
      by_test (λ t. MovesLead o (with_queues f)
      (map (λ x. CutTo x h (received x h v)) (if t then b ∷ filter (is_cut_by v w h) bs else filter (is_cut_by v w h) bs)) end) (is_cut_by v w h b)
      (λ is. (
        may b is,
        subst (λ g. MovesLead o g (map (λ x. CutTo x h (received x h v)) (filter (is_cut_by v w h) bs)) end) (sym (cut_step b f own))
            (cuts bs d.1 (cut_once b f) (own_once b f own) end
            (same_queues (cut_all bs (cut_once b f)) (cut_all (b ∷ bs) f) (λ y _. sym (cut_all_first b bs f is d.0 y)) ∙ e)),
      ))
      (λ not_so. cuts bs d.1 f own end (same_queues (cut_all bs f) (cut_all (b ∷ bs) f) (λ y _. sym (cut_all_not b bs f not_so y)) ∙ e))

-- ---- a greeting

module _ (v : World) (sites : List Site) (same_ran : (j : HandlerId) → ran_in j sites ≡ ran_at j v) (h : HandlerId) (c : ClientId) (inc : ℕ) where
  abbrev pub greeted_world : World
  greeted_world = record v { sites = sites; sent = v.sent ++ Welcome h c inc ∷ [] }

  -- it tells nothing of received entries
  same_received : (b : Block) (x : HandlerId) → received b x greeted_world ≡ received b x v
  same_received b x = greatest_pushed x b v.sent (Welcome h c inc) ∙ (let n = greatest_count x b v.sent in omega arith)

  or_true : (t u : Bool) → t ≡ true → (t || u) ≡ true
  or_true t u e = ap (λ x. x || u) e

  still_succeeded : (b : Block) (x : HandlerId) → is_succeeded b x v ≡ true → is_succeeded b x greeted_world ≡ true
  still_succeeded b x e = newer_more x b v.sent (Welcome h c inc) ∙ or_true (is_succeeded b x v) (is_newer_welcome x b (Welcome h c inc)) e

  -- a block that is succeeded now, and was not before
  newly : (b : Block) (x : HandlerId) → is_succeeded b x greeted_world ≡ true → is_succeeded b x v ≡ false → is_newer_welcome x b (Welcome h c inc) ≡ true
  newly b x e old = sym (ap (λ t. t || is_newer_welcome x b (Welcome h c inc)) old) ∙ sym (newer_more x b v.sent (Welcome h c inc)) ∙ e

  same_elsewhere : (b : Block) (x : HandlerId) → (x ≡ h → ⊥) → is_succeeded b x greeted_world ≡ is_succeeded b x v
  same_elsewhere b x apart =
      newer_more x b v.sent (Welcome h c inc)
      ∙ by_test (λ t. (is_succeeded b x v || t) ≡ is_succeeded b x v) (is_newer_welcome x b (Welcome h c inc))
      (λ e. absurd (apart (sym (newer_welcome_says x h b c inc e).0)))
      (λ e. or-false (is_succeeded b x v))

  other_place : (b : Block) (x : HandlerId) → (x ≡ h → ⊥) → queue_at greeted_world x b ≡ queue_at v x b
  other_place b x apart =
      let newer = same_elsewhere b x apart in
      let told = same_received b x in
      λ i. if has (set_of b v) x then queue_of b (record {
        logged = log_of b x v;
        count = count_of b (same_ran x i);
        over = has_ended b (same_ran x i);
        newer = newer i;
        received = told i;
      }) else []

  module _ (o : Objects) (ready : Ready v) (below : inc ≤ inc_of v c) where
    abbrev here : HandlerReady v h
    here = ready.handlers h

    -- no more has run than was received
    count_least : (b : Block) → count_of b (ran_at h v) ≤ received b h v
    count_least b =
        by_test (λ _. count_of b (ran_at h v) ≤ received b h v) (has_block (blocks_of here.slots) b)
        (λ is.
        let t = slot_at (SlotReady v h) here.slots b is (slots_ready v h ready) in
        let looks = ap (λ x. seen x h v) (sym t.block) ∙ t.has.seen.is in
        let count = ap (λ (s : Seen). s.count) looks in
        let told = ap (λ (s : Seen). s.received) looks in
        omega (arith, count, told, length-append t.slot.ran t.slot.rest))
        (λ is.
        let looks = seen_none v h here.slots b here.ran is (here.silent b (ap (λ bs. has_block bs b) here.opened ∙ is)) in
        let count = ap (λ (s : Seen). s.count) looks in
        omega (arith, count))

    may : (b : Block) → is_cut_by v greeted_world h b ≡ true → (b.inc < inc_of v b.client) × (count_of b (ran_at h v) ≤ received b h v)
    may b e = (
      by_test (λ _. b.inc < inc_of v b.client) (is_succeeded b h v)
          (λ is. ready.below b h is)
          (λ old.
          let p = and_parts (has (set_of b v) h) (is_cut_off (seen b h greeted_world) && not (is_cut_off (seen b h v))) e in
          let q = and_parts (is_cut_off (seen b h greeted_world)) (not (is_cut_off (seen b h v))) p.1 in
          let n = and_parts (is_succeeded b h greeted_world) (not (has_end (take (received b h greeted_world) (log_of b h v)))) q.0 in
          let says = newer_welcome_says h h b c inc (newly b h n.0 old) in
          subst (λ d. b.inc < inc_of v d) (sym says.1) (let l = says.2 in omega (arith, l, below))),
      count_least b,
    )

    cut_is : (b : Block) → has_block v.joint b ≡ true → cut_all o v greeted_world h may v.joint (queue_at v h) b ≡ queue_at greeted_world h b
    cut_is b m =
        sym (
        (λ i.
        if has (set_of b v) h then queue_of b (record {
          logged = log_of b h v;
          count = count_of b (same_ran h i);
          over = has_ended b (same_ran h i);
          newer = is_succeeded b h greeted_world;
          received = same_received b h i;
        }) else [])
        ∙ greet_one b (log_of b h v) (count_of b (ran_at h v)) (received b h v) (has_ended b (ran_at h v)) (has (set_of b v) h) (is_succeeded b h v)
        (is_succeeded b h greeted_world) (still_succeeded b h)
        ∙ (λ i.
        if sym m i && (has (set_of b v) h && ((is_succeeded b h greeted_world && not (has_end (take (sym (same_received b h) i) (log_of b h v)))) && not
        (is_cut_off (seen b h v))))
        then flat_map (cut_waiting b (received b h v - count_of b (ran_at h v))) (queue_at v h b) else queue_at v h b))

    begins : with_queues o v greeted_world h may (queue_at v h) ≡ configuration_of v
    begins = grind (arith, same_configuration, may, handler_decides)

    ends : with_queues o v greeted_world h may (cut_all o v greeted_world h may v.joint (queue_at v h)) ≡ configuration_of greeted_world
    ends =
        same_configuration (with_queues o v greeted_world h may (cut_all o v greeted_world h may v.joint (queue_at v h))) (configuration_of greeted_world)
        (λ x.
        by_test (λ t. (if t then flat_map (cut_all o v greeted_world h may v.joint (queue_at v h)) v.joint
        else flat_map (queue_at v x) v.joint) ≡ flat_map (queue_at greeted_world x) v.joint) (same_handler x h)
        (λ is.
        queues_same (cut_all o v greeted_world h may v.joint (queue_at v h)) (queue_at greeted_world h) v.joint cut_is
        ∙ ap (λ j. flat_map (queue_at greeted_world j) v.joint) (sym ((handler_decides x h).0 is)))
        (λ other.
        sym (queues_same (queue_at greeted_world x) (queue_at v x) v.joint
        (λ b m. other_place b x (λ same. true≢false (sym ((handler_decides x h).1 same) ∙ other))))))
        (λ x. sym (same_ran x)) refl (λ d. refl)

    pub greets_follows : MovesLead o (configuration_of v) (greeting_cuts v greeted_world h) (configuration_of greeted_world)
    greets_follows =
        subst (λ g. MovesLead o g (greeting_cuts v greeted_world h) (configuration_of greeted_world)) begins
        (cuts o v greeted_world h may v.joint ready.once (queue_at v h) (own_queue_at v h) (configuration_of greeted_world) ends)
