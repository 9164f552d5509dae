-- Packed words are read back as they were.
use Rattle.std.proofs.Common.{◌≡◌, ℕ, ◌≤◌, ◌^◌, List, [], ◌∷◌, ◌++◌, true, refl, ap, arith}
use Rattle.std.specs.Prelude.{length, nat_lt, nat_le, Option, Some, None}
use Rattle.std.specs.List.{flat_map, AllByRecursion}
use Rattle.std.proofs.Math.Nat.{mod-add-div'}
use Rattle.std.proofs.lemmas.Bool.Decides.{nat_tests}
use Rattle.std.proofs.lemmas.List.{append_assoc}
use Rattle.scoop_message.specs.declared.limits.TheConstants.{MAX_ARGS, MAX_ENTRIES}
use Rattle.scoop_message.specs.declared.name.Block.{Block}
use Rattle.scoop_message.specs.declared.request.Request.{Request}
use Rattle.scoop_message.specs.declared.request.Entry.{Entry as LogEntry}
use Rattle.scoop_message.specs.declared.request.Entry.TheVariants.{Call, Query, End}
use Rattle.scoop_message.specs.declared.request.Answer.{Answer}
use Rattle.scoop_message.specs.declared.request.Answer.TheVariants.{Refused, Value}
use Rattle.scoop_message.specs.declared.message.Message.{Message}
use Rattle.scoop_message.specs.declared.message.Message.TheVariants as m
use Rattle.scoop_handler.specs.declared.note.Note.{Note}
use Rattle.scoop_handler.specs.declared.note.Note.TheVariants as n
use Rattle.scoop_handler.specs.declared.note.Reason.TheVariants as why
use Rattle.scoop_handler.specs.declared.ran.Ran.{Ran}
use Rattle.scoop_packed.specs.Packed.{AreSized, IsSized, IsSizedMessage, answer_words, block_words, given_words, logged_words, long_words, message_words, note_words}
use Rattle.scoop_packed.specs.Packed.{ran_words, request_words}
use Rattle.scoop_packed.specs.Unpacked.{Read, answer_at, block_at, bounded, entries_at, given_at, logged_at, long_at, message_at, note_at}
use Rattle.scoop_packed.specs.Unpacked.{ran_at, reads, request_at, whole, word_at}

bounded_back : (limit n : ℕ) → n ≤ limit → bounded limit n ≡ n
bounded_back limit n fits = grind (arith, nat_tests)

-- values that are each read back are read back together
pub reads_back : {X : Type 0} (read : List ℕ → Read X) (words : X → List ℕ) (xs : List X) (ws : List ℕ)
    → AllByRecursion (λ x. (left : List ℕ) → read (words x ++ left) ≡ (x, left)) xs → reads read (length xs) (flat_map words xs ++ ws) ≡ (xs, ws)
reads_back read words [] ws each = refl
reads_back read words (x ∷ xs) ws each =
    rw (append_assoc (words x) (flat_map words xs) ws, each.0 (flat_map words xs ++ ws), reads_back read words xs ws each.1) refl

long_back : (x : ℕ) (ws : List ℕ) → long_at (long_words x ++ ws) ≡ (x, ws)
long_back x ws = ap (λ (n : ℕ). (n, ws)) (mod-add-div' x (2 ^ 32))

longs_each : (xs : List ℕ) → AllByRecursion (λ x. (ws : List ℕ) → long_at (long_words x ++ ws) ≡ (x, ws)) xs
longs_each [] = tt
longs_each (x ∷ xs) = (long_back x, longs_each xs)

pub block_back : (b : Block) (ws : List ℕ) → block_at (block_words b ++ ws) ≡ (b, ws)
block_back b ws = refl

request_back : (r : Request) (ws : List ℕ) → r.op ≤ 65535 → length r.args ≤ MAX_ARGS → request_at (request_words r ++ ws) ≡ (r, ws)
request_back r ws op args = rw (bounded_back 65535 r.op op, bounded_back MAX_ARGS (length r.args) args, reads_back long_at long_words r.args ws (longs_each r.args)) refl

logged_back : (e : LogEntry) (ws : List ℕ) → IsSized e → logged_at (logged_words e ++ ws) ≡ (e, ws)
logged_back End ws s = refl
logged_back (Call r) ws s = ap (λ (p : Read Request). (Call p.0, p.1)) (request_back r ws s.0 s.1)
logged_back (Query r) ws s = ap (λ (p : Read Request). (Query p.0, p.1)) (request_back r ws s.0 s.1)

logged_each : (es : List LogEntry) → AllByRecursion IsSized es → AllByRecursion (λ e. (ws : List ℕ) → logged_at (logged_words e ++ ws) ≡ (e, ws)) es
logged_each [] s = tt
logged_each (e ∷ es) s = ((λ ws. logged_back e ws s.0), logged_each es s.1)

whole_back : (es : List LogEntry) → AreSized es → whole es ≡ es
whole_back es s =
    let some : nat_lt 0 (length es) ≡ true = grind (arith, nat_tests) in
    let limit : nat_le (length es) MAX_ENTRIES ≡ true = grind (arith, nat_tests) in
    rw (some, limit, s.end) refl

entries_back : (es : List LogEntry) (ws : List ℕ) → AreSized es → entries_at ((length es ∷ flat_map logged_words es) ++ ws) ≡ (es, ws)
entries_back es ws s = rw (bounded_back MAX_ENTRIES (length es) s.limit, reads_back logged_at logged_words es ws (logged_each es s.each), whole_back es s) refl

answer_back : (a : Answer) (ws : List ℕ) → (let k = word_at (answer_words a ++ ws) in answer_at k.0 k.1) ≡ (a, ws)
answer_back Refused ws = refl
answer_back (Value x) ws = rw (mod-add-div' x (2 ^ 32)) refl

-- the word in front of a message is its kind
pub message_back : (m : Message) (ws : List ℕ) → IsSizedMessage m → (let k = word_at (message_words m ++ ws) in message_at k.0 k.1) ≡ (m, ws)
message_back (m.Hello h c inc) ws s = refl
message_back (m.Welcome h c inc) ws s = refl
message_back (m.Lock h b) ws s = refl
message_back (m.Locked h b) ws s = refl
message_back (m.Busy h b) ws s = refl
message_back (m.Open h b) ws s = refl
message_back (m.Opened h b) ws s = refl
message_back (m.Unlock h b) ws s = refl
message_back (m.Unlocked h b) ws s = refl
message_back (m.Log h b i es) ws s = ap (λ (p : Read (List LogEntry)). (m.Log h b i p.0, p.1)) (entries_back es ws s)
message_back (m.Logged h b i) ws s = refl
message_back (m.Answer h b i a) ws s = ap (λ (p : Read Answer). (m.Answer h b i p.0, p.1)) (answer_back a ws)

-- it is below 12
pub message_kind : (m : Message) (ws : List ℕ) → nat_lt (word_at (message_words m ++ ws)).0 12 ≡ true
message_kind (m.Hello h c inc) ws = refl
message_kind (m.Welcome h c inc) ws = refl
message_kind (m.Lock h b) ws = refl
message_kind (m.Locked h b) ws = refl
message_kind (m.Busy h b) ws = refl
message_kind (m.Open h b) ws = refl
message_kind (m.Opened h b) ws = refl
message_kind (m.Unlock h b) ws = refl
message_kind (m.Unlocked h b) ws = refl
message_kind (m.Log h b i es) ws = refl
message_kind (m.Logged h b i) ws = refl
message_kind (m.Answer h b i a) ws = refl

pub note_back : (k : Note) (ws : List ℕ) → note_at (note_words k ++ ws) ≡ (k, ws)
note_back n.Greeted ws = refl
note_back n.Granted ws = refl
note_back n.Held ws = refl
note_back (n.Opened b) ws = refl
note_back n.Freed ws = refl
note_back (n.Took i) ws = refl
note_back n.Known ws = refl
note_back (n.Dropped why.NotForHandlers) ws = refl
note_back (n.Dropped why.WrongHandler) ws = refl
note_back (n.Dropped why.TooManyClients) ws = refl
note_back (n.Dropped why.Stale) ws = refl
note_back (n.Dropped why.Ungreeted) ws = refl
note_back (n.Dropped why.NotHolder) ws = refl
note_back (n.Dropped why.QueueFull) ws = refl
note_back (n.Dropped why.NotOpen) ws = refl
note_back (n.Dropped why.Gap) ws = refl
note_back (n.Dropped why.PendingFull) ws = refl

given_back : (a : Option Answer) (ws : List ℕ) → given_at (given_words a ++ ws) ≡ (a, ws)
given_back None ws = refl
given_back (Some Refused) ws = refl
given_back (Some (Value x)) ws = rw (mod-add-div' x (2 ^ 32)) refl

pub ran_back : (r : Ran) (ws : List ℕ) → IsSized r.entry → ran_at (ran_words r ++ ws) ≡ (r, ws)
ran_back r ws s =
    rw (append_assoc (logged_words r.entry) (given_words r.answer) ws, logged_back r.entry (given_words r.answer ++ ws) s, given_back r.answer ws) refl
