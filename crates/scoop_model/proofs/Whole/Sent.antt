-- The claims of all messages sent so far about one handler, as one more is sent.
use Rattle.scoop_model.proofs.Names.{◌≡◌, ℕ, ◌<◌, List, [], ◌∷◌, ◌++◌, Some, None, refl, sym, ap, ◌∙◌, arith, append-nil, ◌≤◌, Option, true, if◌then◌else◌}
use Rattle.scoop_model.proofs.Names.{◌&&◌, false, true≢false, ◌||◌, option_to_list, nat_lt, max, nat_tests, list_any-append, list_any, handler_decides}
use Rattle.scoop_model.proofs.Names.{client_decides, block_decides, same_block, handler_of, is_for_handler, same_handler, Message, Welcome, Logged, Block}
use Rattle.scoop_model.proofs.Names.{ClientId, HandlerId, count_in, greatest_count, is_newer_welcome}

-- ---- one message

pub same_handler_itself : (h : HandlerId) → same_handler h h ≡ true
same_handler_itself h = (handler_decides h h).1 refl

-- a count is of its own handler and block
pub count_itself : (h : HandlerId) (b : Block) (n : ℕ) → count_in h b (Logged h b n) ≡ n
count_itself h b n = ap (λ t. if t then n else 0) (ap (λ t. t && same_block b b) (same_handler_itself h) ∙ (block_decides b b).1 refl)

-- and of no other
pub count_other : (x h : HandlerId) (y b : Block) (n : ℕ) → (x ≡ h → y ≡ b → ⊥) → count_in h b (Logged x y n) ≡ 0
count_other x h y b n apart = grind (arith, block_decides, handler_decides)

-- nor is one told by a message of another handler
count_elsewhere : (h : HandlerId) (b : Block) (m : Message) → (handler_of m ≡ h → ⊥) → count_in h b m ≡ 0
count_elsewhere h b (Logged x y n) apart = count_other x h y b n (λ e f. apart e)
count_elsewhere h b m apart = refl

-- or by one that goes to a handler
count_of_client : (h : HandlerId) (b : Block) (m : Message) → is_for_handler m ≡ true → count_in h b m ≡ 0
count_of_client h b (Logged x y n) goes = absurd (true≢false (sym goes))
count_of_client h b m goes = refl

-- a welcome to a newer incarnation
newer_welcome : (h : HandlerId) (b : Block) (c : ClientId) (inc : ℕ) → b.client ≡ c → b.inc < inc → is_newer_welcome h b (Welcome h c inc) ≡ true
newer_welcome h b c inc own newer = grind (arith, nat_lt, same_handler_itself, client_decides, nat_tests)

-- ---- one message more

pub greatest_pushed :
    (h : HandlerId) (b : Block) (ms : List Message) (m : Message) → greatest_count h b (ms ++ m ∷ []) ≡ max (greatest_count h b ms) (count_in h b m)
greatest_pushed h b [] m = omega arith
greatest_pushed h b (x ∷ xs) m = let later = greatest_pushed h b xs m in omega (arith, later)

-- how many entries of the block the message tells, where there is one
abbrev pub told_in : HandlerId → Block → Option Message → ℕ
told_in h b None = 0
told_in h b (Some m) = count_in h b m

-- a count that isn't above the greatest one leaves it
pub greatest_stays : (h : HandlerId) (b : Block) (ms : List Message) (o : Option Message) → told_in h b o ≤ greatest_count h b ms
    → greatest_count h b (ms ++ option_to_list o) ≡ greatest_count h b ms
greatest_stays h b ms None le = ap (greatest_count h b) (append-nil ms)
greatest_stays h b ms (Some m) le = let more = greatest_pushed h b ms m in omega (arith, more, le)

-- and one that isn't below it is the greatest
pub greatest_new : (h : HandlerId) (b : Block) (ms : List Message) (n : ℕ) → greatest_count h b ms ≤ n → greatest_count h b (ms ++ Logged h b n ∷ []) ≡ n
greatest_new h b ms n le = let more = greatest_pushed h b ms (Logged h b n) in let own = count_itself h b n in omega (arith, more, own, le)

-- the handler has welcomed a newer incarnation of the block's client
abbrev pub IsGreeted : HandlerId → Block → List Message → Type 0
IsGreeted h b ms = list_any (is_newer_welcome h b) ms ≡ true

pub greeted_more : (h : HandlerId) (b : Block) (ms : List Message) (o : Option Message) → IsGreeted h b ms → IsGreeted h b (ms ++ option_to_list o)
greeted_more h b ms o e = list_any-append (is_newer_welcome h b) ms (option_to_list o) ∙ ap (λ t. t || list_any (is_newer_welcome h b) (option_to_list o)) e

pub greeted_last :
    (h : HandlerId) (b : Block) (ms : List Message) (c : ClientId) (inc : ℕ) → b.client ≡ c → b.inc < inc → IsGreeted h b (ms ++ Welcome h c inc ∷ [])
greeted_last h b [] c inc own newer = ap (λ t. t || false) (newer_welcome h b c inc own newer)
greeted_last h b (m ∷ ms) c inc own newer = grind (arith, list_any, greeted_last h b ms c inc own newer)

-- ---- messages that tell a handler's counts as before

pub record TellsAlike (h : HandlerId) (ms ns : List Message) : Type 0 where
  pub greeted : (b : Block) → IsGreeted h b ms → IsGreeted h b ns
  pub counted : (b : Block) → greatest_count h b ns ≡ greatest_count h b ms

pub alike_same : (h : HandlerId) (ms : List Message) → TellsAlike h ms ms
alike_same h ms = record { greeted = λ b e. e; counted = λ b. refl }

pub alike_more : (h : HandlerId) (ms : List Message) (o : Option Message) → ((b : Block) → told_in h b o ≤ greatest_count h b ms)
    → TellsAlike h ms (ms ++ option_to_list o)
alike_more h ms o le = record { greeted = λ b e. greeted_more h b ms o e; counted = λ b. greatest_stays h b ms o (le b) }

none_told : (h : HandlerId) (ms : List Message) (o : Option Message) → ((b : Block) → told_in h b o ≡ 0) → TellsAlike h ms (ms ++ option_to_list o)
none_told h ms o none = alike_more h ms o (λ b. let e = none b in omega (arith, e))

-- a message that a client sends
pub alike_from_client : (h : HandlerId) (ms : List Message) (o : Option Message) → ((m : Message) → o ≡ Some m → is_for_handler m ≡ true)
    → TellsAlike h ms (ms ++ option_to_list o)
alike_from_client h ms None goes = none_told h ms None (λ b. refl)
alike_from_client h ms (Some m) goes = none_told h ms (Some m) (λ b. count_of_client h b m (goes m refl))

-- a reply of another handler
pub alike_elsewhere :
    (h : HandlerId) (ms : List Message) (o : Option Message) → ((m : Message) → o ≡ Some m → handler_of m ≡ h → ⊥) → TellsAlike h ms (ms ++ option_to_list o)
alike_elsewhere h ms None apart = none_told h ms None (λ b. refl)
alike_elsewhere h ms (Some m) apart = none_told h ms (Some m) (λ b. count_elsewhere h b m (apart m refl))
