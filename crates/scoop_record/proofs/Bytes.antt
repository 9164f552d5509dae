-- Parts that are read from bytes have these bytes.
use Rattle.std.proofs.Common.{◌≡◌, ℕ, ◌+◌, ◌*◌, ◌<◌, ◌≤◌, List, [], ◌∷◌, ◌++◌, Option, None, Some, length, take, drop, get_or, set, sym, ap}
use Rattle.std.proofs.Common.{◌∙◌, arith}
use Rattle.std.specs.Int.{w64, to_be_bytes}
use Rattle.std.specs.List.{flat_map}
use Rattle.std.proofs.lemmas.List.{drop-drop, take_more_set}
use Rattle.std.proofs.lemmas.List.Concat.{flat_map-append}
use Rattle.byteorder.specs.Endian.{big_from}
use Rattle.scoop_message.specs.declared.name.Block.{Block}
use Rattle.scoop_frame.proofs.Bytes.{IsBytes, front, front-append, front-drop, front_4, front_8}
use Rattle.scoop_queue.specs.declared.state.Head.{Head}
use Rattle.scoop_handler.specs.declared.mark.Mark.{Mark}
use Rattle.scoop_handler.specs.Marks.{block_of}
use Rattle.scoop_record.specs.Image.{block_bytes, flag_byte, head_bytes, holder_bytes, kept_bytes, mark_bytes, stage_byte, state_byte, words_bytes}

pub block_is : (at : ℕ) (b : List ℕ) (c i n : ℕ) → IsBytes b → at + 12 ≤ length b → c ≡ big_from at 4 b → i ≡ big_from (at + 4) 4 b → n ≡ big_from (at + 8) 4 b
    → drop at b ≡ block_bytes (record { client = record { 0 = c }; inc = i; num = n }) ++ drop (at + 12) b
unfolding block_bytes
block_is at b c i n bytes long c-is i-is n-is =
    let c4 = front_4 at c b bytes c-is in
    let i4 = front_4 (at + 4) i b bytes i-is in
    let n4 = front_4 (at + 8) n b bytes n-is in
    let twice : (at + 4) + 4 ≡ at + 8 = omega arith in
    let split : front at 12 b ≡ front at 4 b ++ (front (at + 4) 4 b ++ front (at + 8) 4 b) =
    front-append at 4 8 b ∙ ap (λ (s : List ℕ). front at 4 b ++ s) (front-append (at + 4) 4 4 b ∙ ap (λ (k : ℕ). front (at + 4) 4 b ++ front k 4 b) twice) in
    sym (front-drop at 12 b long) ∙ ap (λ (s : List ℕ). s ++ drop (at + 12) b) split ∙ (λ j. (c4 j ++ (i4 j ++ n4 j)) ++ drop (at + 12) b)

-- ---- a holder

pub holder_short : (b : List ℕ) (x : Option Block) (rest : List ℕ) → get_or b 0 0 ≡ 1 → length b < 13 → b ≡ holder_bytes x ++ rest → ⊥
unfolding block_bytes
holder_short b None rest tag lt e = omega (arith, tag, ap (λ (s : List ℕ). get_or s 0 0) e)
holder_short b (Some x) rest tag lt e = omega (arith, lt, ap length e)

-- ---- a mark

module _ (b : List ℕ) (k : Mark) (rest : List ℕ) (e : b ≡ mark_bytes k ++ rest) where
  pub mark_long : 18 ≤ length b
  unfolding mark_bytes block_bytes
  mark_long = omega (arith, ap length e)

  pub mark_stage : stage_byte k.stage ≡ get_or b 12 0
  unfolding mark_bytes block_bytes
  mark_stage = sym (ap (λ (s : List ℕ). get_or s 12 0) e)

  pub mark_ended : flag_byte k.ended ≡ get_or b 17 0
  unfolding mark_bytes block_bytes
  mark_ended = sym (ap (λ (s : List ℕ). get_or s 17 0) e)

  pub mark_kept : drop 18 b ≡ kept_bytes k.kept ++ rest
  unfolding mark_bytes block_bytes
  mark_kept = ap (drop 18) e

pub mark_len : (k : Mark) → length (mark_bytes k) ≡ 18 + length (kept_bytes k.kept)
unfolding mark_bytes block_bytes
mark_len k = omega arith

pub mark_is : (b : List ℕ) (k : Mark) (n : ℕ) → IsBytes b → 18 ≤ length b → drop 0 b ≡ block_bytes (block_of k) ++ drop (0 + 12) b
    → stage_byte k.stage ≡ get_or b 12 0 → k.received ≡ big_from 13 4 b → flag_byte k.ended ≡ get_or b 17 0
    → drop 18 b ≡ kept_bytes k.kept ++ drop n (drop 18 b)
    → b ≡ mark_bytes k ++ drop (18 + n) b
unfolding mark_bytes block_bytes
mark_is b k n bytes long block stage received ended kept =
    let r4 = front_4 13 k.received b bytes received in
    let end : drop n (drop 18 b) ≡ drop (18 + n) b = drop-drop n 18 b in
    block ∙ ap (λ (s : List ℕ). block_bytes (block_of k) ++ s)
    (sym (front-drop 12 6 b (omega (arith, long))) ∙ (λ j. sym stage j ∷
    (r4 j ++ (sym ended j ∷ (kept ∙ ap (λ (s : List ℕ). kept_bytes k.kept ++ s) end) j))))

-- ---- a head

module _ (b : List ℕ) (h : Head) (pending : ℕ) (rest : List ℕ) (e : b ≡ head_bytes h pending ++ rest) where
  pub head_long : 18 ≤ length b
  unfolding head_bytes block_bytes
  head_long = omega (arith, ap length e)

  pub head_state : state_byte h.state ≡ get_or b 12 0
  unfolding head_bytes block_bytes
  head_state = sym (ap (λ (s : List ℕ). get_or s 12 0) e)

pub head_is : (b : List ℕ) (h : Head) (pending : ℕ) → IsBytes b → 18 ≤ length b → drop 0 b ≡ block_bytes h.block ++ drop (0 + 12) b
    → state_byte h.state ≡ get_or b 12 0 → h.first ≡ big_from 13 4 b → pending ≡ get_or b 17 0
    → b ≡ head_bytes h pending ++ drop 18 b
unfolding head_bytes block_bytes
head_is b h pending bytes long block state first count =
    let f4 = front_4 13 h.first b bytes first in
    block ∙ ap (λ (s : List ℕ). block_bytes h.block ++ s) (sym (front-drop 12 6 b (omega (arith, long)))
    ∙ (λ j. sym state j ∷ (f4 j ++ (sym count j ∷ drop 18 b))))

-- ---- words

-- one word more
pub words_more : (b items : List ℕ) (i word : ℕ) → IsBytes b → i < length items → word ≡ big_from (1 + 8 * i) 8 b
    → flat_map (to_be_bytes w64) (take i items) ≡ front 1 (8 * i) b
    → flat_map (to_be_bytes w64) (take (i + 1) (set items i word)) ≡ front 1 (8 * (i + 1)) b
words_more b items i word bytes lt word-is so_far =
    let len : 8 * i + 8 ≡ 8 * (i + 1) = omega arith in
    ap (flat_map (to_be_bytes w64)) (take_more_set items i word lt) ∙ flat_map-append (to_be_bytes w64) (take i items) (word ∷ [])
    ∙ (λ j. so_far j ++ sym (front_8 (1 + 8 * i) word b bytes word-is) j) ∙ sym (front-append 1 (8 * i) 8 b) ∙ ap (λ (n : ℕ). front 1 n b) len

pub words_is : (b : List ℕ) (n : ℕ) (words : List ℕ) → 1 + 8 * n ≤ length b → get_or b 0 0 ≡ length words → flat_map (to_be_bytes w64) words ≡ front 1 (8 * n) b
    → b ≡ words_bytes words ++ drop (1 + 8 * n) b
words_is b n words long count words-are =
    let all : front 0 (1 + 8 * n) b ++ drop (1 + 8 * n) b ≡ b =
    ap (λ (k : ℕ). front 0 (1 + 8 * n) b ++ drop k b) (let e : 1 + 8 * n ≡ 0 + (1 + 8 * n) = omega arith in e) ∙ front-drop 0 (1 + 8 * n) b (omega arith) in
    sym all ∙ ap (λ (xs : List ℕ). xs ++ drop (1 + 8 * n) b) (front-append 0 1 (8 * n) b) ∙ (λ j. (count j ∷ sym words-are j) ++ drop (1 + 8 * n) b)
