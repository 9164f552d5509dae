-- One entry that is logged at several handlers of a block, each in a move of its own, and the place of a block's queue among the
-- others.
use Rattle.scoop_rules.proofs.Names.{◌≡◌, ℕ, List, [], ◌∷◌, ◌++◌, map, refl, sym, ap, ◌∙◌, subst, arith, ◌≤◌, true, if◌then◌else◌, ◌&&◌, zero, suc, false}
use Rattle.scoop_rules.proofs.Names.{true≢false, ◌||◌, length, drop, flat_map, list_any-append, list_any, handler_decides, is_query, is_end, same_block}
use Rattle.scoop_rules.proofs.Names.{same_handler, Block, HandlerId, Entry, Open, Ended, by_test, has, has_block, has_end, or-false, or-true, is_open}
use Rattle.scoop_rules.proofs.Names.{same_block_itself, same_block_is, Waiting, is_of, queue_of, Seen, waits, Objects, MovesLead, LogOne, logged_to, has_open}
use Rattle.scoop_rules.proofs.Names.{Configuration, log_one}
use Rattle.scoop_rules.proofs.Lists.{same_configuration}
use Rattle.scoop_rules.proofs.Follows.Facts.{AreDistinct}

-- ---- the entry at each of the handlers

abbrev pub logged_at_all : Block → Entry → List HandlerId → Configuration → Configuration
logged_at_all b e hs g = record g { queues = λ x. if has hs x then map (logged_to b e) (g.queues x) else g.queues x }

same_turned : (h x : HandlerId) → same_handler h x ≡ same_handler x h
same_turned h x = grind (arith, handler_decides, true≢false)

abbrev with_one_more : Entry → Waiting → Waiting
with_one_more e q = record { block = q.block; entries = q.entries ++ e ∷ []; state = if is_end e then Ended else q.state }

-- a query waits after the entry only where one did before, unless the entry is one
waits_logged : (b : Block) (e : Entry) → is_query e ≡ false → (qs : List Waiting) → waits b (map (logged_to b e) qs) ≡ waits b qs
waits_logged b e no_query [] = refl
waits_logged b e no_query (q ∷ qs) = λ i. one i || waits_logged b e no_query qs i
  where
    more : list_any is_query (q.entries ++ e ∷ []) ≡ list_any is_query q.entries
    more = list_any-append is_query q.entries (e ∷ []) ∙ (λ i. list_any is_query q.entries || (no_query i || false)) ∙ or-false (list_any is_query q.entries)

    one : (is_of b (logged_to b e q) && list_any is_query (logged_to b e q).entries) ≡ (is_of b q && list_any is_query q.entries)
    one =
        by_test (λ t. (is_of b (if t then with_one_more e q else q) && list_any is_query (if t then with_one_more e q else q).entries)
        ≡ (is_of b q && list_any is_query q.entries)) (is_of b q)
        (λ own. ap (λ t. is_of b q && t) more)
        (λ other. refl)

module _ (o : Objects) (b : Block) (e : Entry) (no_query : is_query e ≡ false) where
  pub logs_lead : (hs : List HandlerId) → AreDistinct hs → (g : Configuration) → g.inc b.client ≡ b.inc
      → ((h : HandlerId) → has hs h ≡ true → has_open b (g.queues h) ≡ true)
      → ((x : HandlerId) → waits b (g.queues x) ≡ false) → MovesLead o g (map (λ h. LogOne b h e) hs) (logged_at_all b e hs g)
  logs_lead [] apart g inc there none = refl
  logs_lead (h ∷ hs) apart g inc there none = (
    (inc, there h (ap (λ t. t || has hs h) ((handler_decides h h).1 refl)), none),
    subst (λ k. MovesLead o (log_one b h e g) (map (λ x. LogOne b x e) hs) k) ends
        (logs_lead hs apart.1 (log_one b h e g) inc still_there
        (λ x.
        by_test (λ t. waits b (if t then map (logged_to b e) (g.queues h) else g.queues x) ≡ false) (same_handler x h)
        (λ here. waits_logged b e no_query (g.queues h) ∙ none h) (λ off. none x))),
  )
    where
      still_there : (x : HandlerId) → has hs x ≡ true → has_open b ((log_one b h e g).queues x) ≡ true
      still_there x m =
          by_test (λ t. has_open b (if t then map (logged_to b e) (g.queues h) else g.queues x) ≡ true) (same_handler x h)
          (λ is. absurd (true≢false (sym m ∙ ap (has hs) ((handler_decides x h).0 is) ∙ apart.0)))
          (λ is. there x (by_test (λ t. (t || has hs x) ≡ true) (same_handler h x) (λ here. refl) (λ off. m)))

      at_each : (x : HandlerId) → (logged_at_all b e hs (log_one b h e g)).queues x ≡ (logged_at_all b e (h ∷ hs) g).queues x
      at_each x =
          by_test (λ t. (if has hs x then map (logged_to b e) (if t then map (logged_to b e) (g.queues h) else g.queues x)
          else (if t then map (logged_to b e) (g.queues h) else g.queues x))
          ≡ (if t || has hs x then map (logged_to b e) (g.queues x) else g.queues x))
          (same_handler x h)
          (λ is.
          let same : x ≡ h = (handler_decides x h).0 is in
          ap (λ t. if t then map (logged_to b e) (map (logged_to b e) (g.queues h)) else map (logged_to b e) (g.queues h)) (ap (has hs) same ∙ apart.0)
          ∙ ap (λ y. map (logged_to b e) (g.queues y)) (sym same))
          (λ is. refl)
          ∙ ap (λ t. if t || has hs x then map (logged_to b e) (g.queues x) else g.queues x) (sym (same_turned h x))

      ends : logged_at_all b e hs (log_one b h e g) ≡ logged_at_all b e (h ∷ hs) g
      ends = same_configuration (logged_at_all b e hs (log_one b h e g)) (logged_at_all b e (h ∷ hs) g) at_each (λ x. refl) refl (λ c. refl)

-- the same at one handler
pub one_at_all : (b : Block) (e : Entry) (h : HandlerId) (g : Configuration) → log_one b h e g ≡ logged_at_all b e (h ∷ []) g
one_at_all b e h g = grind (arith, same_configuration, handler_decides, same_turned)

-- ---- a block's queue among the others

pub open_among : (b : Block) (f : Block → List Waiting) (js : List Block) → has_block js b ≡ true → has_open b (f b) ≡ true → has_open b (flat_map f js) ≡ true
open_among b f [] m there = absurd (true≢false (sym m))
open_among b f (j ∷ js) m there =
    list_any-append (λ q. is_of b q && is_open q.state) (f j) (flat_map f js)
    ∙ by_test (λ t. (t || has_block js b) ≡ true → (has_open b (f j) || has_open b (flat_map f js)) ≡ true) (same_block j b)
    (λ is _. ap (λ t. t || has_open b (flat_map f js)) (ap (λ y. has_open b (f y)) (same_block_is j b is) ∙ there))
    (λ is n. ap (λ t. has_open b (f j) || t) (open_among b f js n there) ∙ or-true (has_open b (f j))) m

-- ---- the queue of a block that is open

-- nothing of the block is cut off, and its End isn't logged
pub record IsOpen (s : Seen) : Type 0 where
  pub newer : s.newer ≡ false
  pub over : s.over ≡ false
  pub no_end : has_end s.logged ≡ false
  pub within : s.count ≤ length s.logged

pub open_queue : (b : Block) (s : Seen) → IsOpen s → queue_of b s ≡ record { block = b; entries = drop s.count s.logged; state = Open } ∷ []
open_queue b s is = grind arith

drop_pushed : (n : ℕ) (xs : List Entry) (e : Entry) → n ≤ length xs → drop n (xs ++ e ∷ []) ≡ drop n xs ++ e ∷ []
drop_pushed zero xs e le = refl
drop_pushed (suc n) [] e le = absurd (omega (arith, le))
drop_pushed (suc n) (x ∷ xs) e le = drop_pushed n xs e (omega (arith, le))

end_pushed : (xs : List Entry) (e : Entry) → has_end xs ≡ false → has_end (xs ++ e ∷ []) ≡ is_end e
end_pushed xs e none = list_any-append is_end xs (e ∷ []) ∙ (λ i. none i || (is_end e || false)) ∙ or-false (is_end e)

-- one entry more is logged
pub logged_queue : (b : Block) (s : Seen) (e : Entry) → IsOpen s → queue_of b (record s { logged = s.logged ++ e ∷ [] }) ≡ map (logged_to b e) (queue_of b s)
logged_queue b s e is = grind (arith, drop_pushed, end_pushed, open_queue, same_block_itself)
