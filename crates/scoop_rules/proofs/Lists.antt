-- The private queues of the rules as lists over blocks, and the effect of one move on the queue of one block.
use Rattle.scoop_rules.proofs.Names.{◌≡◌, ℕ, ◌+◌, List, [], ◌∷◌, ◌++◌, map, refl, sym, ap, ◌∙◌, arith, append-nil, true, if◌then◌else◌, ◌&&◌, zero, suc, take}
use Rattle.scoop_rules.proofs.Names.{false, true≢false, ◌||◌, length, Bool, drop, flat_map, AllByRecursion, same_block, Block, ClientId, HandlerId, Entry}
use Rattle.scoop_rules.proofs.Names.{by_test, World, has_block, flat_map-append, same_block_itself, Waiting, is_of, kept, queue_at, queue_of, Seen, logged_to}
use Rattle.scoop_rules.proofs.Names.{Configuration, cut_queue, cut_waiting}
use Rattle.scoop_model.proofs.Names.{map-append}

-- a choice by two tests, of which one fails
pub and_never : (t : Bool) (ps qs : List Waiting) → (if t && false then ps else qs) ≡ qs
and_never true ps qs = refl
and_never false ps qs = refl

-- ---- configurations are the same where they are so at every handler and client

pub same_configuration : (g k : Configuration) → ((h : HandlerId) → g.queues h ≡ k.queues h) → ((h : HandlerId) → g.ran h ≡ k.ran h) → g.separated ≡ k.separated
    → ((c : ClientId) → g.inc c ≡ k.inc c)
    → g ≡ k
same_configuration g k queues ran separated inc = λ i. record { queues = λ h. queues h i; ran = λ h. ran h i; separated = separated i; inc = λ c. inc c i }

-- ---- queues over a list of blocks

pub queues_same : (f g : Block → List Waiting) (js : List Block) → ((b : Block) → has_block js b ≡ true → f b ≡ g b) → flat_map f js ≡ flat_map g js
queues_same f g [] e = refl
queues_same f g (j ∷ js) e =
    let first : f j ≡ g j = e j (ap (λ t. t || has_block js j) (same_block_itself j)) in
    let later = queues_same f g js (λ b m. e b (by_test (λ t. (t || has_block js b) ≡ true) (same_block j b) (λ same. refl) (λ other. m))) in
    λ i. first i ++ later i

pub queues_last : (f : Block → List Waiting) (js : List Block) (b : Block) → flat_map f (js ++ b ∷ []) ≡ flat_map f js ++ f b
queues_last f js b = flat_map-append f js (b ∷ []) ∙ ap (λ qs. flat_map f js ++ qs) (append-nil (f b))

pub logged_over :
    (b : Block) (e : Entry) (f : Block → List Waiting) (js : List Block) → map (logged_to b e) (flat_map f js) ≡ flat_map (λ x. map (logged_to b e) (f x)) js
logged_over b e f [] = refl
logged_over b e f (j ∷ js) = map-append (logged_to b e) (f j) (flat_map f js) ∙ ap (λ qs. map (logged_to b e) (f j) ++ qs) (logged_over b e f js)

pub cut_over : (b : Block) (k : ℕ) (f : Block → List Waiting) (js : List Block)
    → flat_map (cut_waiting b k) (flat_map f js) ≡ flat_map (λ x. flat_map (cut_waiting b k) (f x)) js
cut_over b k f [] = refl
cut_over b k f (j ∷ js) = flat_map-append (cut_waiting b k) (f j) (flat_map f js) ∙ ap (λ qs. flat_map (cut_waiting b k) (f j) ++ qs) (cut_over b k f js)

-- ---- queues of one block

abbrev pub IsOwn : Block → Waiting → Type 0
IsOwn b q = q.block ≡ b

abbrev pub AreOwn : Block → List Waiting → Type 0
AreOwn b qs = AllByRecursion (IsOwn b) qs

pub own_queue : (b : Block) (s : Seen) → AreOwn b (queue_of b s)
own_queue b s = grind (arith, kept)

pub own_queue_at : (w : World) (h : HandlerId) (b : Block) → AreOwn b (queue_at w h b)
own_queue_at w h b = grind (arith, own_queue)

pub logged_other : (b x : Block) (e : Entry) (qs : List Waiting) → same_block x b ≡ false → AreOwn x qs → map (logged_to b e) qs ≡ qs
logged_other b x e [] other own = refl
logged_other b x e (q ∷ qs) other own =
    let apart : is_of b q ≡ false = ap (λ y. same_block y b) own.0 ∙ other in
    let first : logged_to b e q ≡ q =
    by_test (λ _. logged_to b e q ≡ q) (is_of b q) (λ is. absurd (true≢false (sym is ∙ apart))) (λ is. stays is) in
    λ i. first i ∷ logged_other b x e qs other own.1 i
  where
    stays : is_of b q ≡ false → logged_to b e q ≡ q
    stays is = rw is refl

pub cut_other : (b x : Block) (k : ℕ) (qs : List Waiting) → same_block x b ≡ false → AreOwn x qs → flat_map (cut_waiting b k) qs ≡ qs
cut_other b x k [] other own = refl
cut_other b x k (q ∷ qs) other own =
    let apart : is_of b q ≡ false = ap (λ y. same_block y b) own.0 ∙ other in
    let first : cut_waiting b k q ≡ q ∷ [] = ap (λ t. if t then cut_queue q.block (take k q.entries) else q ∷ []) apart in
    λ i. first i ++ cut_other b x k qs other own.1 i

own_cut_one : (x : Block) (es : List Entry) → AreOwn x (cut_queue x es)
own_cut_one x [] = tt
own_cut_one x (e ∷ es) = (refl, tt)

own_append : (x : Block) (ps qs : List Waiting) → AreOwn x ps → AreOwn x qs → AreOwn x (ps ++ qs)
own_append x [] qs p q = q
own_append x (y ∷ ys) qs p q = (p.0, own_append x ys qs p.1 q)

-- the queues that a cut leaves of a block are the block's
pub own_cut : (b x : Block) (k : ℕ) (qs : List Waiting) → AreOwn x qs → AreOwn x (flat_map (cut_waiting b k) qs)
own_cut b x k [] own = tt
own_cut b x k (q ∷ qs) own = grind (arith, own_append, take, own_cut_one, (own_cut b x k qs own.1))

-- ---- entries that were taken, and those that are left

drop_next : (n : ℕ) (xs ys : List Entry) (x : Entry) → drop n xs ≡ x ∷ ys → (drop (suc n) xs ≡ ys) × (length xs ≡ n + 1 + length ys)
drop_next zero [] ys x e = absurd (cc)
drop_next zero (y ∷ xs) ys x e = let t : xs ≡ ys = cc in (t, let l = ap length t in omega (arith, l))
drop_next (suc n) [] ys x e = absurd (cc)
drop_next (suc n) (y ∷ xs) ys x e = let r = drop_next n xs ys x e in let l = r.1 in (r.0, omega (arith, l))

-- one entry more is dropped
pub drop_more : (n : ℕ) (xs ys : List Entry) (x : Entry) → drop n xs ≡ x ∷ ys → (drop (n + 1) xs ≡ ys) × (length xs ≡ n + 1 + length ys)
drop_more n xs ys x e = let r = drop_next n xs ys x e in let m : n + 1 ≡ suc n = omega arith in (ap (λ k. drop k xs) m ∙ r.0, r.1)
