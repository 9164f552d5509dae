-- The entries that have run at a handler and those that wait there, as a list of slots: one for each block that opened there, in the
-- order of their opening. The file has the effect of each change of the private queues on the slots.
use Rattle.scoop_model.proofs.Names.{◌≡◌, ℕ, ◌+◌, List, [], ◌∷◌, ◌++◌, map, Some, None, refl, sym, ap, ◌∙◌, subst, arith, append-nil, Option, true}
use Rattle.scoop_model.proofs.Names.{if◌then◌else◌, false, length, append_assoc, length-append, flat_map, map-append, same_Some, none-some, AllByRecursion, ⊤}
use Rattle.scoop_model.proofs.Names.{ends, same_block, Block, Entry, same_block-true, at_block-absent, PrivateQueue, opened, put_all, cut, front, advance}
use Rattle.scoop_model.proofs.Names.{at_block, has_queue, with_entries, left_by_cut, first_of, goes_with, AreApart, QueueState, TakesMore as Open, Ended, Cut}
use Rattle.scoop_model.proofs.Names.{by_test, numbered}
use Rattle.std.proofs.lemmas.Grind.{flat_map-append}
use Rattle.scoop_queue.specs.Queue.{is_open}

-- a block that opened: what has run of it, what waits in its private queue, and how that queue is, unless it is gone
pub record Slot : Type 0 where
  pub block : Block
  pub ran : List Entry
  pub rest : List Entry
  pub state : Option QueueState

abbrev pub slot_of : Block → List Entry → List Entry → Option QueueState → Slot
slot_of b ran rest state = record { block = b; ran = ran; rest = rest; state = state }

-- a fact of each slot whose private queue is gone, and of each that has one, is a fact of every slot
pub slot_cases : (P : Slot → Type 0) → ((c : Block) (ran rest : List Entry) → P (slot_of c ran rest None))
    → ((c : Block) (ran rest : List Entry) (t : QueueState) → P (slot_of c ran rest (Some t))) → (s : Slot) → P s
slot_cases P gone there s = at s.block s.ran s.rest s.state
  where
    at : (c : Block) (ran rest : List Entry) (o : Option QueueState) → P (slot_of c ran rest o)
    at c ran rest None = gone c ran rest
    at c ran rest (Some t) = there c ran rest t

-- ---- what slots tell: the private queues, what has run, and which blocks opened

abbrev pub slot_queue : Slot → QueueState → PrivateQueue
slot_queue s t = record { block = s.block; first = length s.ran + 1; entries = s.rest; state = t }

abbrev pub queue_at : Slot → Option QueueState → List PrivateQueue
queue_at s None = []
queue_at s (Some t) = slot_queue s t ∷ []

abbrev pub queue_in : Slot → List PrivateQueue
queue_in s = queue_at s s.state

abbrev pub queues_of : List Slot → List PrivateQueue
queues_of ss = flat_map queue_in ss

abbrev pub ran_in : Slot → List (Block × ℕ × Entry)
ran_in s = numbered s.block 1 s.ran

abbrev pub ran_of : List Slot → List (Block × ℕ × Entry)
ran_of ss = flat_map ran_in ss

abbrev pub block_in : Slot → Block
block_in s = s.block

abbrev pub blocks_of : List Slot → List Block
blocks_of ss = map block_in ss

-- ---- turns

abbrev pub NoneRan : List Slot → Type 0
NoneRan ss = AllByRecursion (λ (s : Slot). s.ran ≡ []) ss

-- while a block has a private queue, no later block runs
abbrev pub Waits : Option QueueState → List Slot → Type 0
Waits None ss = ⊤
Waits (Some t) ss = NoneRan ss

abbrev pub InTurn : List Slot → Type 0
InTurn [] = ⊤
InTurn (s ∷ ss) = Waits s.state ss × InTurn ss

waits_for_none : (o : Option QueueState) (ss : List Slot) → NoneRan ss → Waits o ss
waits_for_none None ss n = tt
waits_for_none (Some t) ss n = n

pub nothing_ran : (ss : List Slot) → NoneRan ss → ran_of ss ≡ []
nothing_ran [] n = refl
nothing_ran (s ∷ ss) n = ap (λ es. numbered s.block 1 es ++ ran_of ss) n.0 ∙ nothing_ran ss n.1

-- ---- a block opens

abbrev pub new_slot : Block → Slot
new_slot b = slot_of b [] [] (Some Open)

abbrev pub slots_new : Block → List Slot → List Slot
slots_new b ss = ss ++ new_slot b ∷ []

pub queues-new : (b : Block) (ss : List Slot) → queues_of (slots_new b ss) ≡ opened b (queues_of ss)
queues-new b ss = flat_map-append queue_in ss (new_slot b ∷ [])

pub ran-new : (b : Block) (ss : List Slot) → ran_of (slots_new b ss) ≡ ran_of ss
ran-new b ss = flat_map-append ran_in ss (new_slot b ∷ []) ∙ append-nil (ran_of ss)

pub blocks-new : (b : Block) (ss : List Slot) → blocks_of (slots_new b ss) ≡ blocks_of ss ++ b ∷ []
blocks-new b ss = map-append block_in ss (new_slot b ∷ [])

none_ran-new : (b : Block) (ss : List Slot) → NoneRan ss → NoneRan (slots_new b ss)
none_ran-new b [] n = (refl, tt)
none_ran-new b (s ∷ ss) n = (n.0, none_ran-new b ss n.1)

waits-new : (b : Block) (o : Option QueueState) (ss : List Slot) → Waits o ss → Waits o (slots_new b ss)
waits-new b None ss w = tt
waits-new b (Some t) ss w = none_ran-new b ss w

pub turn-new : (b : Block) (ss : List Slot) → InTurn ss → InTurn (slots_new b ss)
turn-new b [] i = (tt, tt)
turn-new b (s ∷ ss) i = (waits-new b s.state ss i.0, turn-new b ss i.1)

-- ---- each slot changes, and nothing runs

pub record KeepsRan (s t : Slot) : Type 0 where
  pub block : t.block ≡ s.block
  pub ran : t.ran ≡ s.ran
  pub gone : s.state ≡ None → t.state ≡ None

module _ (f : Slot → Slot) (keeps : (s : Slot) → KeepsRan s (f s)) where
  ran-kept : (ss : List Slot) → ran_of (map f ss) ≡ ran_of ss
  ran-kept [] = refl
  ran-kept (s ∷ ss) = let k = keeps s in λ i. numbered (k.block i) 1 (k.ran i) ++ ran-kept ss i

  blocks-kept : (ss : List Slot) → blocks_of (map f ss) ≡ blocks_of ss
  blocks-kept [] = refl
  blocks-kept (s ∷ ss) = let k = keeps s in λ i. k.block i ∷ blocks-kept ss i

  none_ran-kept : (ss : List Slot) → NoneRan ss → NoneRan (map f ss)
  none_ran-kept [] n = tt
  none_ran-kept (s ∷ ss) n = ((keeps s).ran ∙ n.0, none_ran-kept ss n.1)

  waits-kept : (o p : Option QueueState) (ss : List Slot) → (o ≡ None → p ≡ None) → Waits o ss → Waits p (map f ss)
  waits-kept None p ss gone w = subst (λ q. Waits q (map f ss)) (sym (gone refl)) tt
  waits-kept (Some t) p ss gone w = waits_for_none p (map f ss) (none_ran-kept ss w)

  turn-kept : (ss : List Slot) → InTurn ss → InTurn (map f ss)
  turn-kept [] i = tt
  turn-kept (s ∷ ss) i = (waits-kept s.state (f s).state ss (keeps s).gone i.0, turn-kept ss i.1)

-- ---- entries are put

abbrev pub put_slot : List Entry → Slot → QueueState → Slot
put_slot es s t = slot_of s.block s.ran (s.rest ++ es) (Some (if ends es then Ended else t))

abbrev pub put_at : Block → List Entry → Slot → Option QueueState → Slot
put_at b es s None = s
put_at b es s (Some t) = if same_block b s.block then put_slot es s t else s

abbrev pub put_in : Block → List Entry → Slot → Slot
put_in b es s = put_at b es s s.state

abbrev pub slots_put : Block → List Entry → List Slot → List Slot
slots_put b es ss = map (put_in b es) ss

pub put_keeps : (b : Block) (es : List Entry) (s : Slot) → KeepsRan s (put_in b es s)
put_keeps b es = grind (arith, slot_cases)

pub ran-put : (b : Block) (es : List Entry) (ss : List Slot) → ran_of (slots_put b es ss) ≡ ran_of ss
ran-put b es = ran-kept (put_in b es) (put_keeps b es)

pub blocks-put : (b : Block) (es : List Entry) (ss : List Slot) → blocks_of (slots_put b es ss) ≡ blocks_of ss
blocks-put b es = blocks-kept (put_in b es) (put_keeps b es)

pub turn-put : (b : Block) (es : List Entry) (ss : List Slot) → InTurn ss → InTurn (slots_put b es ss)
turn-put b es = turn-kept (put_in b es) (put_keeps b es)

-- no later queue is of the block, so a change at the block leaves them
same_behind : (b : Block) (change : PrivateQueue → List PrivateQueue) (c : Block) (qs rs : List PrivateQueue)
    → same_block b c ≡ true → has_queue c qs ≡ false → rs ≡ at_block b change qs → rs ≡ qs
same_behind b change c qs rs same none e = e ∙ at_block-absent b change qs (subst (λ (d : Block). has_queue d qs ≡ false) (sym (same_block-true b c same)) none)

pub queues-put : (b : Block) (es : List Entry) (ss : List Slot) → AreApart (queues_of ss) → queues_of (slots_put b es ss) ≡ put_all b es (queues_of ss)
queues-put b es [] apart = refl
queues-put b es (s ∷ ss) apart =
    slot_cases (λ s. AreApart (queues_of (s ∷ ss)) → queues_of (slots_put b es (s ∷ ss)) ≡ put_all b es (queues_of (s ∷ ss)))
    (λ c ran rest a. queues-put b es ss a)
    (λ c ran rest t a. by_test
    (λ y. queue_in (if y then put_slot es (slot_of c ran rest (Some t)) t else slot_of c ran rest (Some t)) ++ queues_of (slots_put b es ss)
    ≡ (if y then (with_entries es (slot_queue (slot_of c ran rest (Some t)) t) ∷ []) ++ queues_of ss
    else slot_queue (slot_of c ran rest (Some t)) t ∷ put_all b es (queues_of ss)))
    (same_block b c)
    (λ same.
    ap (λ qs. with_entries es (slot_queue (slot_of c ran rest (Some t)) t) ∷ qs)
    (same_behind b (λ q. with_entries es q ∷ []) c (queues_of ss) (queues_of (slots_put b es ss)) same a.0 (queues-put b es ss a.1)))
    (λ other. ap (λ qs. slot_queue (slot_of c ran rest (Some t)) t ∷ qs) (queues-put b es ss a.1))) s apart

-- ---- a block's queue is cut

-- an open queue is cut, and goes at once where it is empty
abbrev pub state_cut : List Entry → Option QueueState
state_cut [] = None
state_cut (e ∷ es) = Some Cut

abbrev pub cut_slot : Slot → QueueState → Slot
cut_slot s t = slot_of s.block s.ran s.rest (if is_open t then state_cut s.rest else Some t)

abbrev pub cut_at : Block → Slot → Option QueueState → Slot
cut_at b s None = s
cut_at b s (Some t) = if same_block b s.block then cut_slot s t else s

abbrev pub cut_in : Block → Slot → Slot
cut_in b s = cut_at b s s.state

abbrev pub slots_cut : Block → List Slot → List Slot
slots_cut b ss = map (cut_in b) ss

pub cut_keeps : (b : Block) (s : Slot) → KeepsRan s (cut_in b s)
cut_keeps b = grind (arith, slot_cases)

-- a cut leaves the entries
pub cut_rest : (b : Block) (s : Slot) → (cut_in b s).rest ≡ s.rest
cut_rest b = grind (arith, slot_cases)

pub ran-cut : (b : Block) (ss : List Slot) → ran_of (slots_cut b ss) ≡ ran_of ss
ran-cut b = ran-kept (cut_in b) (cut_keeps b)

pub blocks-cut : (b : Block) (ss : List Slot) → blocks_of (slots_cut b ss) ≡ blocks_of ss
blocks-cut b = blocks-kept (cut_in b) (cut_keeps b)

pub turn-cut : (b : Block) (ss : List Slot) → InTurn ss → InTurn (slots_cut b ss)
turn-cut b = turn-kept (cut_in b) (cut_keeps b)

-- the queue of a slot that is cut
queue-cut : (c : Block) (ran rest : List Entry) (t : QueueState)
    → queue_in (cut_slot (slot_of c ran rest (Some t)) t) ≡ left_by_cut (slot_queue (slot_of c ran rest (Some t)) t)
queue-cut c ran [] Open = refl
queue-cut c ran (e ∷ es) Open = refl
queue-cut c ran rest t = refl

pub queues-cut : (b : Block) (ss : List Slot) → AreApart (queues_of ss) → queues_of (slots_cut b ss) ≡ cut b (queues_of ss)
queues-cut b [] apart = refl
queues-cut b (s ∷ ss) apart =
    slot_cases (λ s. AreApart (queues_of (s ∷ ss)) → queues_of (slots_cut b (s ∷ ss)) ≡ cut b (queues_of (s ∷ ss)))
    (λ c ran rest a. queues-cut b ss a)
    (λ c ran rest t a. by_test
    (λ y. queue_in (if y then cut_slot (slot_of c ran rest (Some t)) t else slot_of c ran rest (Some t)) ++ queues_of (slots_cut b ss)
    ≡ (if y then left_by_cut (slot_queue (slot_of c ran rest (Some t)) t) ++ queues_of ss
    else slot_queue (slot_of c ran rest (Some t)) t ∷ cut b (queues_of ss)))
    (same_block b c)
    (λ same i. queue-cut c ran rest t i ++ same_behind b left_by_cut c (queues_of ss) (queues_of (slots_cut b ss)) same a.0 (queues-cut b ss a.1) i)
    (λ other. ap (λ qs. slot_queue (slot_of c ran rest (Some t)) t ∷ qs) (queues-cut b ss a.1))) s apart

-- ---- the first entry runs

-- the slot once its first pending entry has run
abbrev pub run_rest : Slot → QueueState → List Entry → Slot
run_rest s t [] = s
run_rest s t (e ∷ es) = slot_of s.block (s.ran ++ e ∷ []) es (if goes_with t e es then None else Some t)

-- the first entry of the first slot whose queue isn't gone
abbrev pub run_at : Slot → Option QueueState → List Slot → List Slot → List Slot
run_at s None ss later = s ∷ later
run_at s (Some t) ss later = run_rest s t s.rest ∷ ss

abbrev pub slots_run : List Slot → List Slot
slots_run [] = []
slots_run (s ∷ ss) = run_at s s.state ss (slots_run ss)

-- a property of each slot, after an entry has run
pub each_run : (P Q : Slot → Type 0) → ((s : Slot) → P s → Q s) → ((s : Slot) (t : QueueState) → s.state ≡ Some t → P s → Q (run_rest s t s.rest))
    → (ss : List Slot) → AllByRecursion P ss → AllByRecursion Q (slots_run ss)
each_run P Q stays runs [] all = tt
each_run P Q stays runs (s ∷ ss) all = at s.state refl (each_run P Q stays runs ss all.1)
  where
    others : (xs : List Slot) → AllByRecursion P xs → AllByRecursion Q xs
    others [] more = tt
    others (x ∷ xs) more = (stays x more.0, others xs more.1)

    at : (o : Option QueueState) → s.state ≡ o → AllByRecursion Q (slots_run ss) → AllByRecursion Q (run_at s o ss (slots_run ss))
    at None is later = (stays s all.0, later)
    at (Some t) is later = (runs s t is all.0, others ss all.1)

-- the slots after a run of the first pending entry
pub record Runs (ss ts : List Slot) (f : Block × ℕ × Entry) : Type 0 where
  pub queues : queues_of ts ≡ advance (queues_of ss)
  pub ran : ran_of ts ≡ ran_of ss ++ f ∷ []
  pub blocks : blocks_of ts ≡ blocks_of ss
  pub turn : InTurn ts

numbered-push : (b : Block) (n : ℕ) (es : List Entry) (e : Entry) → numbered b n (es ++ e ∷ []) ≡ numbered b n es ++ (b, n + length es, e) ∷ []
numbered-push b n [] e = ap (λ m. (b, m, e) ∷ []) (omega arith)
numbered-push b n (x ∷ xs) e = ap (λ ts. (b, n, x) ∷ ts) (numbered-push b (n + 1) xs e ∙ ap (λ m. numbered b (n + 1) xs ++ (b, m, e) ∷ []) (omega arith))

ran-next : (b : Block) (ran : List Entry) (x : Entry) (ss : List Slot) (f : Block × ℕ × Entry) → NoneRan ss → (b, length ran + 1, x) ≡ f
    → numbered b 1 (ran ++ x ∷ []) ++ ran_of ss ≡ (numbered b 1 ran ++ ran_of ss) ++ f ∷ []
ran-next b ran x ss f none is = grind (arith, append-nil, nothing_ran, numbered-push)

first-runs : (b : Block) (ran rest : List Entry) (t : QueueState) (ss : List Slot) (f : Block × ℕ × Entry) → NoneRan ss → InTurn ss
    → first_of (slot_queue (slot_of b ran rest (Some t)) t) rest ≡ Some f
    → Runs (slot_of b ran rest (Some t) ∷ ss) (run_rest (slot_of b ran rest (Some t)) t rest ∷ ss) f
first-runs b ran [] t ss f none turn e = absurd (none-some _ e)
first-runs b ran (x ∷ es) t ss f none turn e = grind (arith, length-append, ran-next, same_Some, waits_for_none)

gone-runs : (b : Block) (ran rest : List Entry) (ss ts : List Slot) (f : Block × ℕ × Entry) → Runs ss ts f
    → Runs (slot_of b ran rest None ∷ ss) (slot_of b ran rest None ∷ ts) f
gone-runs b ran rest ss ts f r = grind (arith, numbered, append_assoc)

pub slots-run : (ss : List Slot) (f : Block × ℕ × Entry) → InTurn ss → front (queues_of ss) ≡ Some f → Runs ss (slots_run ss) f
slots-run [] f turn e = absurd (none-some _ e)
slots-run (s ∷ ss) f turn e = at s.block s.ran s.rest s.state turn.0 e (slots-run ss f turn.1)
  where
    at : (b : Block) (ran rest : List Entry) (o : Option QueueState) → Waits o ss → front (queues_of (slot_of b ran rest o ∷ ss)) ≡ Some f
        → (front (queues_of ss) ≡ Some f → Runs ss (slots_run ss) f) → Runs (slot_of b ran rest o ∷ ss) (slots_run (slot_of b ran rest o ∷ ss)) f
    at b ran rest None waits e later = gone-runs b ran rest ss (slots_run ss) f (later e)
    at b ran rest (Some t) waits e later = first-runs b ran rest t ss f waits turn.1 e
