-- Private queues that are read one after the other, their heads in an image and their entries in the row beside it. A head
-- has its count of entries, and an entry shows where it ends. So, by induction, both are those of one list of queues alone
-- (`queues_apart`). For the loop that reads them: if a queue can't be read or appended, none begins the bytes. One that was
-- read carries the loop's invariant on (`grown-`). After the last one the bytes are all read.
use Rattle.std.proofs.Common.{◌≡◌, ℕ, ◌+◌, ◌<◌, ◌≤◌, List, [], ◌∷◌, ◌++◌, length, take, drop}
use Rattle.std.proofs.Common.{None, Some, refl, sym, ap, subst, ◌∙◌, append_assoc, arith}
use Rattle.std.proofs.Math.Path.{subst₂}
use Rattle.std.specs.List.{flat_map, AllByRecursion}
use Rattle.std.proofs.lemmas.List.{append-nil, drop-drop, length-append}
use Rattle.std.proofs.lemmas.List.Concat.{flat_map-append}
use Rattle.scoop_message.specs.declared.limits.TheConstants.{MAX_PENDING}
use Rattle.scoop_message.specs.declared.request.Entry.{Entry}
use Rattle.scoop_message.specs.Range.{IsEntry}
use Rattle.scoop_frame.specs.Body.{entry_bytes}
use Rattle.scoop_frame.proofs.Entries.{entry_first}
use Rattle.scoop_queue.specs.declared.error.AppendError.{AppendError}
use Rattle.scoop_queue.specs.declared.state.Head.{Head}
use Rattle.scoop_queue.specs.Queue.{PrivateQueue, head_of, queue_with}
use Rattle.scoop_queue.specs.Refusal.{AppendRefused, MayAppend}
use Rattle.scoop_queue.proofs.Keeping.{each-inside, may-append, memory-alone}
use Rattle.scoop_record.specs.declared.images.error.ReadError.TheVariants.{BadImage}
use Rattle.scoop_record.specs.Faults.{fault_of_append}
use Rattle.scoop_record.specs.Image.{bare_bytes, block_bytes, entries_bytes, head_bytes}
use Rattle.scoop_record.specs.Range.{BareInRange, EntriesInRange}
use Rattle.scoop_record.specs.Reading.{AreQueues, HasNoQueue, IfHasQueue, ReadsEntries, ReadsHead}
use Rattle.scoop_record.proofs.Firsts.{head_apart, lists_apart}
use Rattle.scoop_keeper.proofs.Lists.{all_more}

-- ---- where a private queue can't be read or appended, none begins the bytes

module _ (old : List PrivateQueue) (heads row : List ℕ) where
  pub none-head : ReadsHead heads None → HasNoQueue old heads row
  none-head read = λ q more a b sound bare entries h r. read (head_of q) (length q.entries) a bare h

  module _ (h : Head) (count : ℕ) (read : ReadsHead heads (Some (h, count))) where
    pub none-many : MAX_PENDING < count → HasNoQueue old heads row
    none-many many = λ q more a b sound bare entries at r.
        let same = head_apart h (head_of q) count (length q.entries) (drop 18 heads) a read.0 bare (sym read.1 ∙ at) in
        omega (arith, same.1, many, (each-inside q old more sound.each).limit)

    pub none-entries : (cells : List Entry) → ReadsEntries count row cells None → HasNoQueue old heads row
    none-entries cells none = λ q more a b sound bare entries at r.
        let same = head_apart h (head_of q) count (length q.entries) (drop 18 heads) a read.0 bare (sym read.1 ∙ at) in
        none q.entries b entries (sym same.1) r

    pub none-append : (cells : List Entry) (len : ℕ) → ReadsEntries count row cells (Some len) → (e : AppendError)
        → AppendRefused h (take count cells) old e → fault_of_append e ≡ BadImage → HasNoQueue old heads row
    none-append cells len got e refused bad = λ q more a b sound bare entries at r.
        let same = head_apart h (head_of q) count (length q.entries) (drop 18 heads) a read.0 bare (sym read.1 ∙ at) in
        let here = lists_apart entry_bytes IsEntry entry_first (take count cells) q.entries (drop len row) b (got.1 ∙ same.1) got.0 entries (sym got.3 ∙ r) in
        let may : MayAppend h (take count cells) old = subst₂ (λ g es. MayAppend g es old) (sym same.0) (sym here.0) (may-append q old more sound) in
        let memory = memory-alone h (take count cells) old e may refused in
        let clash = sym bad ∙ ap fault_of_append memory in
        cc

-- ---- all of them

parted : (f : PrivateQueue → List ℕ) (x : PrivateQueue) (xs : List PrivateQueue) (s : List ℕ) → flat_map f (x ∷ xs) ++ s ≡ f x ++ (flat_map f xs ++ s)
parted f x xs s = append_assoc (f x) (flat_map f xs) s

-- one private queue is determined by its head and its entries
pub queue_apart : (x y : PrivateQueue) (a b c d : List ℕ) → BareInRange x → BareInRange y → EntriesInRange x → EntriesInRange y
    → bare_bytes x ++ a ≡ bare_bytes y ++ b → entries_bytes x ++ c ≡ entries_bytes y ++ d → (x ≡ y) × (a ≡ b) × (c ≡ d)
queue_apart x y a b c d p q r s e f =
    let head = head_apart (head_of x) (head_of y) (length x.entries) (length y.entries) a b p q e in
    let entries = lists_apart entry_bytes IsEntry entry_first x.entries y.entries c d head.1 r s f in
    ((λ i. queue_with (head.0 i) (entries.0 i)), head.2, entries.1)

pub queues_apart : (xs ys : List PrivateQueue) (a b c d : List ℕ) → length xs ≡ length ys → AllByRecursion BareInRange xs → AllByRecursion BareInRange ys
    → AllByRecursion EntriesInRange xs → AllByRecursion EntriesInRange ys
    → flat_map bare_bytes xs ++ a ≡ flat_map bare_bytes ys ++ b → flat_map entries_bytes xs ++ c ≡ flat_map entries_bytes ys ++ d → (xs ≡ ys) × (a ≡ b)
    × (c ≡ d)
queues_apart [] [] a b c d l p q r s e f = (refl, e, f)
queues_apart [] (y ∷ ys) a b c d l p q r s e f = absurd (omega (arith, l))
queues_apart (x ∷ xs) [] a b c d l p q r s e f = absurd (omega (arith, l))
queues_apart (x ∷ xs) (y ∷ ys) a b c d l p q r s e f =
    let here = queue_apart x y (flat_map bare_bytes xs ++ a) (flat_map bare_bytes ys ++ b) (flat_map entries_bytes xs ++ c)
    (flat_map entries_bytes ys ++ d) p.0 q.0 r.0 s.0
    (sym (parted bare_bytes x xs a) ∙ e ∙ parted bare_bytes y ys b) (sym (parted entries_bytes x xs c) ∙ f ∙ parted entries_bytes y ys d) in
    let rest = queues_apart xs ys a b c d (omega (arith, l)) p.1 q.1 r.1 s.1 here.1 here.2 in
    ((λ i. here.0 i ∷ rest.0 i), rest.1, rest.2)

-- where more private queues stand there than were read, the next one begins what is left
pub record IsNextQueue (xs ys : List PrivateQueue) (heads row : List ℕ) : Type 0 where
  pub queue : PrivateQueue
  pub more : List PrivateQueue
  pub all : ys ≡ xs ++ queue ∷ more
  pub bare : BareInRange queue
  pub entries : EntriesInRange queue
  pub head_rest : List ℕ
  pub row_rest : List ℕ
  pub head : heads ≡ bare_bytes queue ++ head_rest
  pub begins : row ≡ entries_bytes queue ++ row_rest

pub next_queue : (xs ys : List PrivateQueue) (heads row : List ℕ) → length xs < length ys → AllByRecursion BareInRange xs → AllByRecursion BareInRange ys
    → AllByRecursion EntriesInRange xs → AllByRecursion EntriesInRange ys
    → flat_map bare_bytes xs ++ heads ≡ flat_map bare_bytes ys → flat_map entries_bytes xs ++ row ≡ flat_map entries_bytes ys → IsNextQueue xs ys heads row
next_queue xs [] heads row l p q r s e f = absurd (omega (arith, l))
next_queue [] (y ∷ ys) heads row l p q r s e f = record {
  queue = y;
  more = ys;
  all = refl;
  bare = q.0;
  entries = s.0;
  head_rest = flat_map bare_bytes ys;
  row_rest = flat_map entries_bytes ys;
  head = e;
  begins = f;
}
next_queue (x ∷ xs) (y ∷ ys) heads row l p q r s e f =
    let here = queue_apart x y (flat_map bare_bytes xs ++ heads) (flat_map bare_bytes ys) (flat_map entries_bytes xs ++ row)
    (flat_map entries_bytes ys) p.0 q.0 r.0 s.0
    (sym (parted bare_bytes x xs heads) ∙ e) (sym (parted entries_bytes x xs row) ∙ f) in
    let next = next_queue xs ys heads row (omega (arith, l)) p.1 q.1 r.1 s.1 here.1 here.2 in
    record {
      queue = next.queue;
      more = next.more;
      all = λ i. sym here.0 i ∷ next.all i;
      bare = next.bare;
      entries = next.entries;
      head_rest = next.head_rest;
      row_rest = next.row_rest;
      head = next.head;
      begins = next.begins;
    }

-- ---- one private queue more was read

pub bare_len : (q : PrivateQueue) → length (bare_bytes q) ≡ 18
unfolding head_bytes block_bytes
bare_len q = omega arith

module _ (old new : List PrivateQueue) (q : PrivateQueue) (appended : new ≡ old ++ q ∷ []) where
  all_grown : (P : PrivateQueue → Type 0) → AllByRecursion P old → P q → AllByRecursion P new
  all_grown P all p = subst (AllByRecursion P) (sym appended) (all_more P old q all p)

  module _ (f : PrivateQueue → List ℕ) where
    map_grown : flat_map f new ≡ flat_map f old ++ f q
    map_grown = ap (flat_map f) appended ∙ flat_map-append f old (q ∷ []) ∙ ap (λ (s : List ℕ). flat_map f old ++ s) (append-nil (f q))

    pub bytes_grown : (b : List ℕ) (at n : ℕ) → drop at b ≡ f q ++ drop n (drop at b) → b ≡ flat_map f old ++ drop at b → b ≡ flat_map f new ++ drop (at + n) b
    bytes_grown b at n begins e =
        let next : drop at b ≡ f q ++ drop (at + n) b = begins ∙ ap (λ (s : List ℕ). f q ++ s) (drop-drop n at b) in
        e ∙ ap (λ (s : List ℕ). flat_map f old ++ s) next ∙ sym (append_assoc (flat_map f old) (f q) (drop (at + n) b))
        ∙ ap (λ (s : List ℕ). s ++ drop (at + n) b) (sym map_grown)

    pub place_grown : (at n : ℕ) → n ≡ length (f q) → at ≡ length (flat_map f old) → at + n ≡ length (flat_map f new)
    place_grown at n len e = omega (arith, e, len, ap length map_grown, length-append (flat_map f old) (f q))

module _ (old new : List PrivateQueue) (heads row : List ℕ) (at place len : ℕ) (got : IfHasQueue old new (drop at heads) (drop place row) len) where
  pub grown-count : length new ≡ length old + 1
  grown-count = omega (arith, ap length got.appended, length-append old (got.queue ∷ []))

  pub grown-bare : AllByRecursion BareInRange old → AllByRecursion BareInRange new
  grown-bare all = all_grown old new got.queue got.appended BareInRange all got.bare

  pub grown-entries : AllByRecursion EntriesInRange old → AllByRecursion EntriesInRange new
  grown-entries all = all_grown old new got.queue got.appended EntriesInRange all got.entries

  pub grown-heads : heads ≡ flat_map bare_bytes old ++ drop at heads → heads ≡ flat_map bare_bytes new ++ drop (at + 18) heads
  grown-heads e = bytes_grown old new got.queue got.appended bare_bytes heads at 18 got.head e

  pub grown-row : row ≡ flat_map entries_bytes old ++ drop place row → row ≡ flat_map entries_bytes new ++ drop (place + len) row
  grown-row e = bytes_grown old new got.queue got.appended entries_bytes row place len got.begins e

  pub grown-at : at ≡ length (flat_map bare_bytes old) → at + 18 ≡ length (flat_map bare_bytes new)
  grown-at e = place_grown old new got.queue got.appended bare_bytes at 18 (sym (bare_len got.queue)) e

  pub grown-place : place ≡ length (flat_map entries_bytes old) → place + len ≡ length (flat_map entries_bytes new)
  grown-place e = place_grown old new got.queue got.appended entries_bytes place len got.len_is e

-- a beginning that was read stands within the bytes
pub within : (front b : List ℕ) (at : ℕ) → b ≡ front ++ drop at b → at ≡ length front → at ≤ length b
within front b at e is = omega (arith, ap length e, length-append front (drop at b), is)

-- the queues that were read can't be others where something is left
pub nothing_left : (xs ys : List PrivateQueue) (count : ℕ) (heads row : List ℕ) (at place : ℕ) → length xs ≡ count → AreQueues count heads row ys
    → AllByRecursion BareInRange xs → AllByRecursion EntriesInRange xs → heads ≡ flat_map bare_bytes xs ++ drop at heads
    → row ≡ flat_map entries_bytes xs ++ drop place row
    → (xs ≡ ys) × (drop at heads ≡ []) × (drop place row ≡ [])
nothing_left xs ys count heads row at place l are p q e f =
    queues_apart xs ys (drop at heads) [] (drop place row) [] (omega (arith, l, are.count_is)) p are.bare q are.entries
    (sym e ∙ are.heads_are ∙ sym (append-nil (flat_map bare_bytes ys))) (sym f ∙ are.row_is ∙ sym (append-nil (flat_map entries_bytes ys)))
