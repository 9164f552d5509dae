-- No entry and no answer begins another, so a sequence of them reads in one way alone.
use Rattle.std.proofs.Common.{◌≡◌, ℕ, ◌+◌, ◌*◌, ◌^◌, ◌<◌, ◌≤◌, List, [], ◌∷◌, ◌++◌, length, take, drop, get_or, refl, sym, ap, ◌∙◌, append_assoc, arith}
use Rattle.std.specs.Int.{w16, w64, to_be_bytes, from_be_bytes}
use Rattle.std.specs.List.{flat_map, AllByRecursion}
use Rattle.std.proofs.lemmas.List.{length-append, append-nil, flat_map_more}
use Rattle.std.proofs.lemmas.Nat.{from_be_bytes-to_be_bytes_2, from_be_bytes-to_be_bytes_8}
use Rattle.scoop_message.specs.declared.request.Request.{Request}
use Rattle.scoop_message.specs.declared.request.Entry.{Entry}
use Rattle.scoop_message.specs.declared.request.Entry.TheVariants.{Call, Query, End}
use Rattle.scoop_message.specs.declared.request.Answer.{Answer}
use Rattle.scoop_message.specs.declared.request.Answer.TheVariants.{Refused, Value}
use Rattle.scoop_message.specs.Range.{IsRequest, IsEntry, IsAnswer}
use Rattle.scoop_frame.specs.Body.{request_bytes, entry_bytes, answer_bytes}

pub length-words : (xs : List ℕ) → length (flat_map (to_be_bytes w64) xs) ≡ 8 * length xs
length-words [] = refl
length-words (x ∷ xs) = omega (arith, length-words xs)

pub length-request : (r : Request) → length (request_bytes r) ≡ 3 + 8 * length r.args
length-request r = omega (arith, length-words r.args)

pub length-entry : (e : Entry) → IsEntry e → length (entry_bytes e) ≤ 36
length-entry (Call r) p = omega (arith, length-request r, p.count)
length-entry (Query r) p = omega (arith, length-request r, p.count)
length-entry End p = omega arith

pub length-entries : (es : List Entry) → AllByRecursion IsEntry es → length (flat_map entry_bytes es) ≤ 36 * length es
length-entries [] p = omega arith
length-entries (e ∷ es) p = omega (arith, length-append (entry_bytes e) (flat_map entry_bytes es), length-entry e p.0, length-entries es p.1)

words_first : (xs ys a b : List ℕ) → length xs ≡ length ys → AllByRecursion (λ x. x < 2 ^ 64) xs → AllByRecursion (λ x. x < 2 ^ 64) ys
    → flat_map (to_be_bytes w64) xs ++ a ≡ flat_map (to_be_bytes w64) ys ++ b → (xs ≡ ys) × (a ≡ b)
words_first [] [] a b l p q e = (refl, e)
words_first [] (y ∷ ys) a b l p q e = absurd (omega (arith, l))
words_first (x ∷ xs) [] a b l p q e = absurd (omega (arith, l))
words_first (x ∷ xs) (y ∷ ys) a b l p q e =
    let head : x ≡ y = sym (from_be_bytes-to_be_bytes_8 x p.0) ∙ ap (λ (s : List ℕ). from_be_bytes w64 (take 8 s)) e ∙ from_be_bytes-to_be_bytes_8 y q.0 in
    let tail = words_first xs ys a b (omega (arith, l)) p.1 q.1 (ap (drop 8) e) in
    (λ i. head i ∷ tail.0 i, tail.1)

request_first : (r s : Request) (a b : List ℕ) → IsRequest r → IsRequest s → request_bytes r ++ a ≡ request_bytes s ++ b → (r ≡ s) × (a ≡ b)
request_first r s a b p q e =
    let op : r.op ≡ s.op = sym (from_be_bytes-to_be_bytes_2 r.op p.op) ∙ ap (λ (x : List ℕ). from_be_bytes w16 (take 2 x)) e
    ∙ from_be_bytes-to_be_bytes_2 s.op q.op in
    let count : length r.args ≡ length s.args = ap (λ (x : List ℕ). get_or x 2 0) e in
    let args = words_first r.args s.args a b count p.args q.args (ap (drop 3) e) in
    (λ i. record { op = op i; args = args.0 i }, args.1)

pub entry_first : (d e : Entry) (a b : List ℕ) → IsEntry d → IsEntry e → entry_bytes d ++ a ≡ entry_bytes e ++ b → (d ≡ e) × (a ≡ b)
entry_first (Call r) (Call s) a b p q h = let f = request_first r s a b p q (ap (drop 1) h) in (ap Call f.0, f.1)
entry_first (Query r) (Query s) a b p q h = let f = request_first r s a b p q (ap (drop 1) h) in (ap Query f.0, f.1)
entry_first End End a b p q h = (refl, ap (drop 1) h)
entry_first (Call r) (Query s) a b p q h = absurd cc
entry_first (Call r) End a b p q h = absurd cc
entry_first (Query r) (Call s) a b p q h = absurd cc
entry_first (Query r) End a b p q h = absurd cc
entry_first End (Call s) a b p q h = absurd cc
entry_first End (Query s) a b p q h = absurd cc

pub answer_first : (x y : Answer) (a b : List ℕ) → IsAnswer x → IsAnswer y → answer_bytes x ++ a ≡ answer_bytes y ++ b → (x ≡ y) × (a ≡ b)
answer_first Refused Refused a b p q h = (refl, ap (drop 1) h)
answer_first (Value x) (Value y) a b p q h =
    let value : x ≡ y = sym (from_be_bytes-to_be_bytes_8 x p) ∙ ap (λ (s : List ℕ). from_be_bytes w64 (take 8 (drop 1 s))) h
    ∙ from_be_bytes-to_be_bytes_8 y q in
    (ap Value value, ap (drop 9) h)
answer_first Refused (Value y) a b p q h = absurd cc
answer_first (Value x) Refused a b p q h = absurd cc

pub entries_first : (ds es : List Entry) (a b : List ℕ) → length ds ≡ length es → AllByRecursion IsEntry ds → AllByRecursion IsEntry es
    → flat_map entry_bytes ds ++ a ≡ flat_map entry_bytes es ++ b → (ds ≡ es) × (a ≡ b)
entries_first [] [] a b l p q h = (refl, h)
entries_first [] (e ∷ es) a b l p q h = absurd (omega (arith, l))
entries_first (d ∷ ds) [] a b l p q h = absurd (omega (arith, l))
entries_first (d ∷ ds) (e ∷ es) a b l p q h =
    let apart = λ (x : Entry) (xs : List Entry) (s : List ℕ). append_assoc (entry_bytes x) (flat_map entry_bytes xs) s in
    let f = entry_first d e (flat_map entry_bytes ds ++ a) (flat_map entry_bytes es ++ b) p.0 q.0 (sym (apart d ds a) ∙ h ∙ apart e es b) in
    let g = entries_first ds es a b (omega (arith, l)) p.1 q.1 f.1 in
    (λ i. f.0 i ∷ g.0 i, g.1)

-- ---- entries that are read one by one

pub all_more : (xs : List Entry) (e : Entry) → AllByRecursion IsEntry xs → IsEntry e → AllByRecursion IsEntry (xs ++ e ∷ [])
all_more [] e p q = (q, tt)
all_more (x ∷ xs) e p q = (p.0, all_more xs e p.1 q)

pub entries_more : (xs : List Entry) (e : Entry) → flat_map entry_bytes (xs ++ e ∷ []) ≡ flat_map entry_bytes xs ++ entry_bytes e
entries_more xs e = sym (flat_map_more entry_bytes [] xs e)

-- all of the bytes are entries
pub entries_end : (ds es : List Entry) (rest : List ℕ) → length ds ≡ length es → AllByRecursion IsEntry ds → AllByRecursion IsEntry es
    → flat_map entry_bytes ds ++ rest ≡ flat_map entry_bytes es → (ds ≡ es) × (rest ≡ [])
entries_end ds es rest l p q h = entries_first ds es rest [] l p q (h ∙ sym (append-nil (flat_map entry_bytes es)))

-- where the bytes are more entries than were read, the next one begins what is left
pub record IsNext (rest : List ℕ) : Type 0 where
  pub entry : Entry
  pub behind : List ℕ
  pub range : IsEntry entry
  pub bytes : rest ≡ entry_bytes entry ++ behind

pub next_entry : (ds es : List Entry) (rest : List ℕ) → length ds < length es → AllByRecursion IsEntry ds → AllByRecursion IsEntry es
    → flat_map entry_bytes ds ++ rest ≡ flat_map entry_bytes es → IsNext rest
next_entry ds [] rest l p q h = absurd (omega (arith, l))
next_entry [] (e ∷ es) rest l p q h = record { entry = e; behind = flat_map entry_bytes es; range = q.0; bytes = h }
next_entry (d ∷ ds) (e ∷ es) rest l p q h =
    let f = entry_first d e (flat_map entry_bytes ds ++ rest) (flat_map entry_bytes es) p.0 q.0
    (sym (append_assoc (entry_bytes d) (flat_map entry_bytes ds) rest) ∙ h) in
    next_entry ds es rest (omega (arith, l)) p.1 q.1 f.1
