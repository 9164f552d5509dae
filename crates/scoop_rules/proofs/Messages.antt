-- Messages that leave the configuration that a world stands for.
use Rattle.scoop_rules.proofs.Names.{◌≡◌, ℕ, ◌<◌, List, [], ◌∷◌, ◌++◌, refl, sym, ap, ◌∙◌, arith, ◌≤◌, true, false, true≢false, ◌||◌, Bool, nat_lt, max}
use Rattle.scoop_rules.proofs.Names.{and_parts, list_any-append, list_any, handler_decides, client_decides, block_decides, is_for_handler, Message, Lock, Log}
use Rattle.scoop_rules.proofs.Names.{Hello, Welcome, Unlock, Logged, Block, ClientId, HandlerId, Entry, by_test, count_in, greatest_count, is_newer_welcome}
use Rattle.scoop_rules.proofs.Names.{or-false, ltb-true, greatest_pushed, queue_of, Seen}
use Rattle.scoop_model.proofs.Names.{Open}

-- ---- what one message more tells

pub newer_more : (h : HandlerId) (b : Block) (ms : List Message) (m : Message)
    → list_any (is_newer_welcome h b) (ms ++ m ∷ []) ≡ (list_any (is_newer_welcome h b) ms || is_newer_welcome h b m)
newer_more h b ms m = list_any-append (is_newer_welcome h b) ms (m ∷ []) ∙ ap (λ t. list_any (is_newer_welcome h b) ms || t) (or-false (is_newer_welcome h b m))

-- ---- quiet messages

-- a message that succeeds no block, and tells no more of a block that was succeeded
pub record IsQuiet (ms : List Message) (m : Message) : Type 0 where
  pub greets : (h : HandlerId) (b : Block) → is_newer_welcome h b m ≡ true → list_any (is_newer_welcome h b) ms ≡ true
  pub tells : (h : HandlerId) (b : Block) → list_any (is_newer_welcome h b) ms ≡ true → count_in h b m ≤ greatest_count h b ms

pub quiet_newer : (h : HandlerId) (b : Block) (ms : List Message) (m : Message) → IsQuiet ms m
    → list_any (is_newer_welcome h b) (ms ++ m ∷ []) ≡ list_any (is_newer_welcome h b) ms
quiet_newer h b ms m q =
    newer_more h b ms m
    ∙ by_test (λ t. (list_any (is_newer_welcome h b) ms || t) ≡ list_any (is_newer_welcome h b) ms) (is_newer_welcome h b m)
    (λ e. let g = q.greets h b e in ap (λ t. t || true) g ∙ sym g)
    (λ e. or-false (list_any (is_newer_welcome h b) ms))

-- a block that some messages show
abbrev pub told_seen : HandlerId → Block → List Entry → ℕ → Bool → List Message → Seen
told_seen h b log count over ms =
    record { logged = log; count = count; over = over; newer = list_any (is_newer_welcome h b) ms; received = greatest_count h b ms }

-- the received count matters only for a block that was succeeded
not_succeeded : (b : Block) (log : List Entry) (count : ℕ) (over newer : Bool) (n k : ℕ) → newer ≡ false
    → queue_of b (record { logged = log; count = count; over = over; newer = newer; received = n })
    ≡ queue_of b (record { logged = log; count = count; over = over; newer = newer; received = k })
not_succeeded b log count over true n k e = absurd (true≢false e)
not_succeeded b log count over false n k e = refl

pub quiet_queue : (h : HandlerId) (b : Block) (log : List Entry) (count : ℕ) (over : Bool) (ms : List Message) (m : Message) → IsQuiet ms m
    → queue_of b (told_seen h b log count over (ms ++ m ∷ [])) ≡ queue_of b (told_seen h b log count over ms)
quiet_queue h b log count over ms m q =
    ap (λ t. queue_of b (record { logged = log; count = count; over = over; newer = t; received = greatest_count h b (ms ++ m ∷ []) })) (quiet_newer h b ms m q)
    ∙ by_test (λ _. queue_of b (record { logged = log; count = count; over = over; newer = list_any (is_newer_welcome h b) ms; received = greatest_count h b (ms ++ m ∷ []) })
    ≡ queue_of b (told_seen h b log count over ms))
    (list_any (is_newer_welcome h b) ms)
    (λ e.
    let least = q.tells h b e in
    let same : greatest_count h b (ms ++ m ∷ []) ≡ greatest_count h b ms = greatest_pushed h b ms m ∙ most (greatest_count h b ms) (count_in h b m) least in
    ap (λ n. queue_of b (record { logged = log; count = count; over = over; newer = list_any (is_newer_welcome h b) ms; received = n })) same)
    (λ e. not_succeeded b log count over (list_any (is_newer_welcome h b) ms) (greatest_count h b (ms ++ m ∷ [])) (greatest_count h b ms) e)
  where
    most : (j k : ℕ) → k ≤ j → max j k ≡ j
    most j k le = omega (arith, le)

-- a message that is neither a Welcome nor a count is quiet
abbrev pub IsPlain : Message → Type 0
IsPlain m = (h : HandlerId) (b : Block) → (is_newer_welcome h b m ≡ false) × (count_in h b m ≡ 0)

pub plain_quiet : (ms : List Message) (m : Message) → IsPlain m → IsQuiet ms m
plain_quiet ms m p = grind (arith, true≢false)

-- a message to a handler is plain
pub request_plain : (m : Message) → is_for_handler m ≡ true → IsPlain m
request_plain (Hello x c inc) goes = λ h b. (refl, refl)
request_plain (Lock x y) goes = λ h b. (refl, refl)
request_plain (Open x y) goes = λ h b. (refl, refl)
request_plain (Unlock x y) goes = λ h b. (refl, refl)
request_plain (Log x y n es) goes = λ h b. (refl, refl)
request_plain m goes = absurd (true≢false (sym goes))

-- the claim of a newer Welcome
pub newer_welcome_says :
    (h x : HandlerId) (b : Block) (c : ClientId) (inc : ℕ) → is_newer_welcome h b (Welcome x c inc) ≡ true → (x ≡ h) × (b.client ≡ c) × (b.inc < inc)
newer_welcome_says h x b c inc e = grind (arith, and_parts, nat_lt, handler_decides, client_decides, ltb-true)

-- a welcome of an incarnation that was welcomed before
pub welcome_quiet :
    (ms : List Message) (x : HandlerId) (c : ClientId) (inc : ℕ) → ((b : Block) → b.client ≡ c → b.inc < inc → list_any (is_newer_welcome x b) ms ≡ true)
    → IsQuiet ms (Welcome x c inc)
welcome_quiet ms x c inc was = grind (arith, newer_welcome_says, list_any)

-- a count of a block that was not succeeded
pub count_quiet : (ms : List Message) (x : HandlerId) (y : Block) (n : ℕ) → (list_any (is_newer_welcome x y) ms ≡ true → ⊥) → IsQuiet ms (Logged x y n)
count_quiet ms x y n not_so = grind (arith, true≢false, and_parts, list_any, block_decides, handler_decides)
