-- Numbers that are read from bytes have these bytes.
use Rattle.std.proofs.Common.{◌≡◌, ℕ, zero, suc, ◌+◌, ◌*◌, ◌^◌, ◌<◌, ◌≤◌, List, [], ◌∷◌, ◌++◌, length, take, drop, get_or, set, replicate, refl, sym, ap, ◌∙◌}
use Rattle.std.proofs.Common.{arith, add-one}
use Rattle.std.specs.Int.{w16, w32, w64, to_be_bytes}
use Rattle.std.proofs.lemmas.Nat.{be_bytes_2, be_bytes_4, be_bytes_8}
use Rattle.std.specs.List.{flat_map, AllByRecursion}
use Rattle.std.proofs.lemmas.List.{drop_more, take_more_set}
use Rattle.std.proofs.lemmas.List.Concat.{flat_map-append}
use Rattle.byteorder.specs.Endian.{big_from}
use Rattle.scoop_frame.specs.declared.version.Version.{Version}
use Rattle.scoop_frame.specs.Version.{version_byte}
use Rattle.scoop_frame.specs.Frame.{header}

abbrev pub IsBytes : List ℕ → Type 0
IsBytes bytes = (i : ℕ) → get_or bytes i 0 < 256

IsBytes-nil : IsBytes []
IsBytes-nil i = omega arith

IsBytes-cons : (x : ℕ) (xs : List ℕ) → x < 256 → IsBytes xs → IsBytes (x ∷ xs)
IsBytes-cons x xs lt h zero = lt
IsBytes-cons x xs lt h (suc i) = h i

-- the bytes from a place on, one by one
abbrev pub front : ℕ → ℕ → List ℕ → List ℕ
front i zero b = []
front i (suc n) b = get_or b i 0 ∷ front (suc i) n b

pub IsBytes-front : (i n : ℕ) (b : List ℕ) → IsBytes b → IsBytes (front i n b)
IsBytes-front i zero b h = IsBytes-nil
IsBytes-front i (suc n) b h = IsBytes-cons (get_or b i 0) (front (suc i) n b) (h i) (IsBytes-front (suc i) n b h)

pub front-drop : (i n : ℕ) (b : List ℕ) → i + n ≤ length b → front i n b ++ drop (i + n) b ≡ drop i b
front-drop i zero b le = ap (λ (k : ℕ). drop k b) (let e : i + 0 ≡ i = omega arith in e)
front-drop i (suc n) b le =
    let more : drop i b ≡ get_or b i 0 ∷ drop (suc i) b = drop_more b i 0 (omega arith) ∙ ap (λ (k : ℕ). get_or b i 0 ∷ drop k b) (add-one i) in
    let k-is : i + suc n ≡ suc i + n = omega arith in
    ap (λ (k : ℕ). get_or b i 0 ∷ (front (suc i) n b ++ drop k b)) k-is ∙ ap (λ (xs : List ℕ). get_or b i 0 ∷ xs) (front-drop (suc i) n b (omega arith))
    ∙ sym more

pub front_2 : (at n : ℕ) (b : List ℕ) → IsBytes b → n ≡ big_from at 2 b → front at 2 b ≡ to_be_bytes w16 n
front_2 at n b h e = sym (be_bytes_2 (front at 2 b) n refl (IsBytes-front at 2 b h) (omega arith))

pub front_4 : (at n : ℕ) (b : List ℕ) → IsBytes b → n ≡ big_from at 4 b → front at 4 b ≡ to_be_bytes w32 n
front_4 at n b h e = sym (be_bytes_4 (front at 4 b) n refl (IsBytes-front at 4 b h) (omega arith))

pub front_8 : (at n : ℕ) (b : List ℕ) → IsBytes b → n ≡ big_from at 8 b → front at 8 b ≡ to_be_bytes w64 n
front_8 at n b h e = sym (be_bytes_8 (front at 8 b) n refl (IsBytes-front at 8 b h) (omega arith))

-- the header that bytes begin with
pub header_is : (b : List ℕ) (v : Version) (k h c i n e l : ℕ) → IsBytes b → 26 ≤ length b
    → get_or b 0 0 ≡ 0x53 → get_or b 1 0 ≡ 0x51 → get_or b 2 0 ≡ version_byte v → get_or b 3 0 ≡ k
    → h ≡ big_from 4 4 b → c ≡ big_from 8 4 b → i ≡ big_from 12 4 b → n ≡ big_from 16 4 b → e ≡ big_from 20 4 b → l ≡ big_from 24 2 b
    → b ≡ header v k (record { 0 = h }) (record { client = record { 0 = c }; inc = i; num = n }) e l ++ drop 26 b
unfolding header
header_is b v k h c i n e l bytes long m0 m1 version kind h-is c-is i-is n-is e-is l-is =
    let h4 = front_4 4 h b bytes h-is in
    let c4 = front_4 8 c b bytes c-is in
    let i4 = front_4 12 i b bytes i-is in
    let n4 = front_4 16 n b bytes n-is in
    let e4 = front_4 20 e b bytes e-is in
    let l2 = front_2 24 l b bytes l-is in
    sym (front-drop 0 26 b long) ∙ (λ j. (m0 j ∷ m1 j ∷ version j ∷ kind j ∷ h4 j ++ c4 j ++ i4 j ++ n4 j ++ e4 j ++ l2 j) ++ drop 26 b)

-- a value after its tag
pub value_is : (b : List ℕ) (x : ℕ) → IsBytes b → 9 ≤ length b → get_or b 0 0 ≡ 1 → x ≡ big_from 1 8 b → b ≡ 1 ∷ to_be_bytes w64 x ++ drop 9 b
value_is b x bytes long tag x-is =
    let x8 = front_8 1 x b bytes x-is in
    sym (front-drop 0 9 b long) ∙ (λ j. (tag j ∷ x8 j) ++ drop 9 b)

pub front-append : (i m n : ℕ) (b : List ℕ) → front i (m + n) b ≡ front i m b ++ front (i + m) n b
front-append i zero n b = let e : zero + n ≡ n = omega arith in let f : i ≡ i + 0 = omega arith in ap (λ (k : ℕ). front i k b) e ∙ ap (λ (k : ℕ). front k n b) f
front-append i (suc m) n b =
    let e : suc m + n ≡ suc (m + n) = omega arith in
    let f : suc i + m ≡ i + suc m = omega arith in
    ap (λ (k : ℕ). front i k b) e ∙ ap (λ (xs : List ℕ). get_or b i 0 ∷ xs) (front-append (suc i) m n b ∙ ap (λ (k : ℕ). front (suc i) m b ++ front k n b) f)

-- one word more
pub words_more : (b items : List ℕ) (i word : ℕ) → IsBytes b → i < length items → word ≡ big_from (3 + 8 * i) 8 b
    → flat_map (to_be_bytes w64) (take i items) ≡ front 3 (8 * i) b
    → flat_map (to_be_bytes w64) (take (i + 1) (set items i word)) ≡ front 3 (8 * (i + 1)) b
words_more b items i word bytes lt word-is so_far =
    let len : 8 * i + 8 ≡ 8 * (i + 1) = omega arith in
    ap (flat_map (to_be_bytes w64)) (take_more_set items i word lt) ∙ flat_map-append (to_be_bytes w64) (take i items) (word ∷ [])
    ∙ (λ j. so_far j ++ sym (front_8 (3 + 8 * i) word b bytes word-is) j) ∙ sym (front-append 3 (8 * i) 8 b) ∙ ap (λ (n : ℕ). front 3 n b) len

-- the request that begins bytes
pub request_is : (b : List ℕ) (op n : ℕ) (words : List ℕ) → IsBytes b → 3 + 8 * n ≤ length b → op ≡ big_from 0 2 b → get_or b 2 0 ≡ length words
    → flat_map (to_be_bytes w64) words ≡ front 3 (8 * n) b
    → b ≡ (to_be_bytes w16 op ++ length words ∷ flat_map (to_be_bytes w64) words) ++ drop (3 + 8 * n) b
request_is b op n words bytes long op-is count words-is =
    let op2 = front_2 0 op b bytes op-is in
    let all : front 0 (3 + 8 * n) b ++ drop (3 + 8 * n) b ≡ b =
    ap (λ (k : ℕ). front 0 (3 + 8 * n) b ++ drop k b) (let e : 3 + 8 * n ≡ 0 + (3 + 8 * n) = omega arith in e) ∙ front-drop 0 (3 + 8 * n) b (omega arith) in
    sym all ∙ ap (λ (xs : List ℕ). xs ++ drop (3 + 8 * n) b) (front-append 0 3 (8 * n) b) ∙ (λ j. (op2 j ++ count j ∷ sym words-is j) ++ drop (3 + 8 * n) b)

-- the contents of an array of words
pub words_fit : (n : ℕ) (xs : List ℕ) → ((i : ℕ) → get_or xs i 0 < 2 ^ 64) → AllByRecursion (λ x. x < 2 ^ 64) (take n xs)
words_fit zero xs h = tt
words_fit (suc n) [] h = tt
words_fit (suc n) (x ∷ xs) h = (h 0, words_fit n xs (λ i. h (suc i)))

pub words_fit-set : (xs : List ℕ) (i x : ℕ) → ((k : ℕ) → get_or xs k 0 < 2 ^ 64) → x < 2 ^ 64 → (k : ℕ) → get_or (set xs i x) k 0 < 2 ^ 64
words_fit-set [] i x h lt k = h k
words_fit-set (y ∷ ys) zero x h lt zero = lt
words_fit-set (y ∷ ys) zero x h lt (suc k) = h (suc k)
words_fit-set (y ∷ ys) (suc i) x h lt zero = h 0
words_fit-set (y ∷ ys) (suc i) x h lt (suc k) = words_fit-set ys i x (λ j. h (suc j)) lt k

pub words_fit-zeros : (n k : ℕ) → get_or (replicate n 0) k 0 < 2 ^ 64
words_fit-zeros zero k = omega arith
words_fit-zeros (suc n) zero = omega arith
words_fit-zeros (suc n) (suc k) = words_fit-zeros n k
