-- Every frame of a message that fits is read, as that message. It has a sound header and its kind's body, so no refusal
-- applies to it. Its bytes determine its version, kind, fields and body, so two frames are the same only if version and
-- message are. Bytes have one refusal at most, since each has a rank of its own.
use Rattle.std.proofs.Common.{◌≡◌, ◌↔◌, ℕ, ◌^◌, ◌<◌, ◌≤◌, List, [], length, take, drop, get_or, Result, Ok, Err, refl, sym, ap, subst, ◌∙◌, arith, inl, inr}
use Rattle.std.proofs.Common.{lit<, lit≤}
use Rattle.std.specs.Prelude.{MatchResult}
use Rattle.std.specs.Int.{w32, from_be_bytes}
use Rattle.std.specs.List.{flat_map}
use Rattle.std.proofs.lemmas.Bool.{cases_lt}
use Rattle.std.proofs.lemmas.List.{append-nil}
use Rattle.std.proofs.lemmas.Nat.{from_be_bytes-to_be_bytes_4}
use Rattle.scoop_message.specs.declared.name.HandlerId.{HandlerId}
use Rattle.scoop_message.specs.declared.name.ClientId.{ClientId}
use Rattle.scoop_message.specs.declared.name.Block.{Block}
use Rattle.scoop_message.specs.declared.request.Entry.{Entry}
use Rattle.scoop_message.specs.declared.request.Answer.{Answer}
use Rattle.scoop_message.specs.declared.request.Answer.TheVariants.{Refused, Value}
use Rattle.scoop_message.specs.declared.message.Message.{Message}
use Rattle.scoop_message.specs.declared.message.Message.TheVariants as m
use Rattle.scoop_message.specs.Message.{Fits, IsNumbered, IsEntryOf, IsLogOf}
use Rattle.scoop_message.specs.Range.{IsClient, IsBlock, IsNumberOf, IsEntries, IsAnswer, IsMessage}
use Rattle.scoop_frame.specs.declared.version.Version.{Version}
use Rattle.scoop_frame.specs.declared.version.Version.TheVariants.{One, Two}
use Rattle.scoop_frame.specs.declared.error.FrameError.{FrameError}
use Rattle.scoop_frame.specs.declared.error.FrameError.TheVariants.{Short, BadMagic, BadVersion, BadKind, LengthWrong, FieldNotZero, FieldZero, BadBody}
use Rattle.scoop_frame.specs.declared.header.Header.{Header}
use Rattle.scoop_frame.specs.declared.kind.Kind.{Kind}
use Rattle.scoop_frame.specs.declared.kind.Kind.TheVariants as k
use Rattle.scoop_frame.specs.Version.{version_byte, Carries, CarriesCount}
use Rattle.scoop_frame.specs.Body.{entry_bytes, answer_bytes, log_bytes}
use Rattle.scoop_frame.specs.Fault.{kind_at, version_at, HasBody, IsFault, IsFirstFault, rank}
use Rattle.scoop_frame.specs.Frame.{header, layout, no_block, frame, IsFrame, both}
use Rattle.scoop_frame.specs.Header.{framed, IsHeader, IsSound, HasItsBody}
use Rattle.scoop_frame.specs.Kind.{code}
use Rattle.scoop_frame.proofs.Entries.{length-entries, entries_end, answer_first}
use Rattle.scoop_frame.proofs.Refusals.{passes_all}

-- ---- no refusal applies to the frame of a message that fits

-- the bytes have a sound header and its kind's body
record IsGood (b : List ℕ) : Type 0 where
  head : Header
  is : IsHeader b head
  sound : IsSound head
  body : HasItsBody head (drop 26 b)

good : (h : Header) (body : List ℕ) → IsSound h → length body < 2 ^ 16 → HasItsBody h body → IsGood (framed h body)
unfolding header
good h body sound short has = record {
  head = h;
  is = record { long = omega arith; bytes = refl; body = short; numbers = sound.numbers };
  sound = sound;
  body = has;
}

greeting_numbers : (h : HandlerId) (c : ClientId) (i : ℕ) → IsClient h c i → IsNumberOf h (no_block c i) 0
greeting_numbers h c i p = record { block = record { client = p; num = omega arith }; number = omega arith }

block_numbers : (h : HandlerId) (b : Block) → IsBlock h b → IsNumberOf h b 0
block_numbers h b p = record { block = p; number = omega arith }

abbrev head_of : Version → Kind → HandlerId → Block → ℕ → Header
head_of v x h b n = record { version = v; kind = x; handler = h; block = b; number = n }

greeting_good : (v : Version) (x : Kind) (h : HandlerId) (c : ClientId) (i : ℕ) → code x < 3 → 1 ≤ i → IsClient h c i
    → HasItsBody (head_of v x h (no_block c i) 0) [] → IsGood (layout v (code x) h (no_block c i) 0 [])
greeting_good v x h c i lt some p body =
    let sound : IsSound (head_of v x h (no_block c i) 0) = record {
      numbers = greeting_numbers h c i p;
      unused = λ u. elim u [ inl v ↦ v.1 refl | inr v ↦ v.1 refl ];
      lacking = λ l. elim l [ inl e ↦ omega (arith, e, some) | inr v ↦ elim v [ inl w ↦ omega (arith, w.0, lt) | inr w ↦ omega (arith, w.0, lt) ] ];
    } in
    good (head_of v x h (no_block c i) 0) [] sound (omega arith) body

block_good : (v : Version) (x : Kind) (h : HandlerId) (b : Block) → code x < 10 → 3 ≤ code x → IsNumbered b → IsBlock h b → HasItsBody (head_of v x h b 0) []
    → IsGood (layout v (code x) h b 0 [])
block_good v x h b lt le some p body =
    let sound : IsSound (head_of v x h b 0) = record {
      numbers = block_numbers h b p;
      unused = λ u. elim u [ inl v ↦ v.0 le | inr v ↦ v.1 refl ];
      lacking = λ l. elim l [ inl e ↦ omega (arith, e, some.inc) | inr v ↦ elim v [ inl w ↦ omega (arith, w.1, some.num) | inr w ↦ omega (arith, w.0, lt) ] ];
    } in
    good (head_of v x h b 0) [] sound (omega arith) body

entry_good : (v : Version) (x : Kind) (h : HandlerId) (b : Block) (n : ℕ) (body : List ℕ) → 10 ≤ code x → IsEntryOf b n → IsNumberOf h b n
    → length body < 2 ^ 16 → HasItsBody (head_of v x h b n) body → IsGood (layout v (code x) h b n body)
entry_good v x h b n bytes le some p short body =
    let sound : IsSound (head_of v x h b n) = record {
      numbers = p;
      unused = λ u. elim u [ inl v ↦ v.0 (omega (arith, le)) | inr v ↦ v.0 le ];
      lacking = λ l. elim l [
        | inl e ↦ omega (arith, e, some.block.inc)
        | inr v ↦
            elim v [ inl w ↦ omega (arith, w.1, some.block.num) | inr w ↦ omega (arith, w.1, some.number) ]
      ];
    } in
    good (head_of v x h b n) bytes sound short body

log_short : (v : Version) (es : List Entry) → IsEntries es → length (log_bytes v es) < 2 ^ 16
log_short One es p = omega (arith, length-entries es p.entries, p.limit)
log_short Two es p = omega (arith, length-entries es p.entries, p.limit)

answer_short : (a : Answer) → length (answer_bytes a) < 2 ^ 16
answer_short Refused = omega arith
answer_short (Value x) = omega arith

log_body : (v : Version) (b : Block) (n : ℕ) (es : List Entry) → IsEntries es → CarriesCount v (length es) → IsLogOf b n (length es)
    → HasBody (version_byte v) 10 n (log_bytes v es)
log_body One b n es p c f = (es, p, c, f.last, refl)
log_body Two b n es p c f = (es, p, c, f.last, refl)

frame_good : (v : Version) (x : Message) → Carries v x → Fits x → IsMessage x → IsGood (frame v x)
frame_good v (m.Hello h c i) t f p = greeting_good v k.Hello h c i (lit< tt) f p refl
frame_good v (m.Welcome h c i) t f p = greeting_good v k.Welcome h c i (lit< tt) f p refl
frame_good v (m.Lock h b) t f p = block_good v k.Lock h b (lit< tt) (lit≤ tt) f p refl
frame_good v (m.Locked h b) t f p = block_good v k.Locked h b (lit< tt) (lit≤ tt) f p refl
frame_good v (m.Busy h b) t f p = block_good v k.Busy h b (lit< tt) (lit≤ tt) f p refl
frame_good v (m.Open h b) t f p = block_good v k.Open h b (lit< tt) (lit≤ tt) f p refl
frame_good v (m.Opened h b) t f p = block_good v k.Opened h b (lit< tt) (lit≤ tt) f p refl
frame_good v (m.Unlock h b) t f p = block_good v k.Unlock h b (lit< tt) (lit≤ tt) f p refl
frame_good v (m.Unlocked h b) t f p = block_good v k.Unlocked h b (lit< tt) (lit≤ tt) f p refl
frame_good v (m.Log h b n es) t f p = entry_good v k.Log h b n (log_bytes v es) (lit≤ tt) f.entry p.0 (log_short v es p.1) (log_body v b n es p.1 t f)
frame_good v (m.Logged h b n) t f p = entry_good v k.Logged h b n [] (lit≤ tt) f p (omega arith) refl
frame_good v (m.Answer h b n a) t f p = entry_good v k.Answer h b n (answer_bytes a) (lit≤ tt) f p.0 (answer_short a) (a, p.1, refl)

no_fault : (v : Version) (x : Message) (b : List ℕ) → IsFrame v x b → (e : FrameError) → IsFault e b → ⊥
no_fault v x b p e fault =
    let g = frame_good v x p.carries p.fits p.range in
    passes_all (frame v x) g.head g.is g.sound g.body e (subst (IsFault e) p.bytes_are fault)

-- ---- one version and one message for each frame

-- the fields of a layout
record SameParts (h j : HandlerId) (b d : Block) (n o : ℕ) (body other : List ℕ) : Type 0 where
  handler : h ≡ j
  block : b ≡ d
  number : n ≡ o
  rest : body ≡ other

same_parts : (v : Version) (c x : ℕ) (h j : HandlerId) (b d : Block) (n o : ℕ) (body other : List ℕ) → IsNumberOf h b n → IsNumberOf j d o
    → layout v c h b n body ≡ layout v x j d o other → SameParts h j b d n o body other
unfolding header
same_parts v c x h j b d n o body other p q e =
    let field = λ (i : ℕ) (s : List ℕ). from_be_bytes w32 (take 4 (drop i s)) in
    let one = λ (y : ℕ) (lt : y < 2 ^ 32). from_be_bytes-to_be_bytes_4 y lt in
    let handler : h.0 ≡ j.0 = sym (one h.0 p.block.client.handler) ∙ ap (field 4) e ∙ one j.0 q.block.client.handler in
    let client : b.client.0 ≡ d.client.0 = sym (one b.client.0 p.block.client.client) ∙ ap (field 8) e ∙ one d.client.0 q.block.client.client in
    let inc : b.inc ≡ d.inc = sym (one b.inc p.block.client.incarnation) ∙ ap (field 12) e ∙ one d.inc q.block.client.incarnation in
    let num : b.num ≡ d.num = sym (one b.num p.block.num) ∙ ap (field 16) e ∙ one d.num q.block.num in
    let number : n ≡ o = sym (one n p.number) ∙ ap (field 20) e ∙ one o q.number in
    record {
      handler = λ i. record { 0 = handler i };
      block = λ i. record { client = record { 0 = client i }; inc = inc i; num = num i };
      number = number;
      rest = ap (drop 26) e;
    }

kind_code : Message → ℕ
kind_code (m.Hello h c i) = code k.Hello
kind_code (m.Welcome h c i) = code k.Welcome
kind_code (m.Lock h b) = code k.Lock
kind_code (m.Locked h b) = code k.Locked
kind_code (m.Busy h b) = code k.Busy
kind_code (m.Open h b) = code k.Open
kind_code (m.Opened h b) = code k.Opened
kind_code (m.Unlock h b) = code k.Unlock
kind_code (m.Unlocked h b) = code k.Unlocked
kind_code (m.Log h b n es) = code k.Log
kind_code (m.Logged h b n) = code k.Logged
kind_code (m.Answer h b n a) = code k.Answer

kind_is : (v : Version) (x : Message) → kind_at (frame v x) ≡ kind_code x
unfolding header kind_code
kind_is v (m.Hello h c i) = refl
kind_is v (m.Welcome h c i) = refl
kind_is v (m.Lock h b) = refl
kind_is v (m.Locked h b) = refl
kind_is v (m.Busy h b) = refl
kind_is v (m.Open h b) = refl
kind_is v (m.Opened h b) = refl
kind_is v (m.Unlock h b) = refl
kind_is v (m.Unlocked h b) = refl
kind_is v (m.Log h b n es) = refl
kind_is v (m.Logged h b n) = refl
kind_is v (m.Answer h b n a) = refl

version_is : (v : Version) (x : Message) → version_at (frame v x) ≡ version_byte v
unfolding header
version_is v (m.Hello h c i) = refl
version_is v (m.Welcome h c i) = refl
version_is v (m.Lock h b) = refl
version_is v (m.Locked h b) = refl
version_is v (m.Busy h b) = refl
version_is v (m.Open h b) = refl
version_is v (m.Opened h b) = refl
version_is v (m.Unlock h b) = refl
version_is v (m.Unlocked h b) = refl
version_is v (m.Log h b n es) = refl
version_is v (m.Logged h b n) = refl
version_is v (m.Answer h b n a) = refl

log_same : (v : Version) (es fs : List Entry) → CarriesCount v (length es) → CarriesCount v (length fs) → IsEntries es → IsEntries fs
    → log_bytes v es ≡ log_bytes v fs → es ≡ fs
log_same One es fs s t p q e = (entries_end es fs [] (s ∙ sym t) p.entries q.entries (append-nil (flat_map entry_bytes es) ∙ e)).0
log_same Two es fs s t p q e = (entries_end es fs [] (ap (λ (xs : List ℕ). get_or xs 0 0) e) p.entries q.entries
    (append-nil (flat_map entry_bytes es) ∙ ap (drop 1) e)).0

answer_same : (a b : Answer) → IsAnswer a → IsAnswer b → answer_bytes a ≡ answer_bytes b → a ≡ b
answer_same a b p q e = (answer_first a b [] [] p q (append-nil (answer_bytes a) ∙ e ∙ sym (append-nil (answer_bytes b)))).0

same_message : (v : Version) (x y : Message) → Carries v x → Carries v y → IsMessage x → IsMessage y → kind_code x ≡ kind_code y → frame v x ≡ frame v y → x ≡ y
unfolding kind_code
same_message v (m.Hello h c i) (m.Hello j d o) s t p q k e =
    let u = same_parts v 1 1 h j (no_block c i) (no_block d o) 0 0 [] [] (greeting_numbers h c i p) (greeting_numbers j d o q) e in
    λ t. m.Hello (u.handler t) ((u.block t).client) ((u.block t).inc)
same_message v (m.Welcome h c i) (m.Welcome j d o) s t p q k e =
    let u = same_parts v 2 2 h j (no_block c i) (no_block d o) 0 0 [] [] (greeting_numbers h c i p) (greeting_numbers j d o q) e in
    λ t. m.Welcome (u.handler t) ((u.block t).client) ((u.block t).inc)
same_message v (m.Lock h b) (m.Lock j d) s t p q k e =
    let u = same_parts v 3 3 h j b d 0 0 [] [] (block_numbers h b p) (block_numbers j d q) e in
    λ t. m.Lock (u.handler t) (u.block t)
same_message v (m.Locked h b) (m.Locked j d) s t p q k e =
    let u = same_parts v 4 4 h j b d 0 0 [] [] (block_numbers h b p) (block_numbers j d q) e in
    λ t. m.Locked (u.handler t) (u.block t)
same_message v (m.Busy h b) (m.Busy j d) s t p q k e =
    let u = same_parts v 5 5 h j b d 0 0 [] [] (block_numbers h b p) (block_numbers j d q) e in
    λ t. m.Busy (u.handler t) (u.block t)
same_message v (m.Open h b) (m.Open j d) s t p q k e =
    let u = same_parts v 6 6 h j b d 0 0 [] [] (block_numbers h b p) (block_numbers j d q) e in
    λ t. m.Open (u.handler t) (u.block t)
same_message v (m.Opened h b) (m.Opened j d) s t p q k e =
    let u = same_parts v 7 7 h j b d 0 0 [] [] (block_numbers h b p) (block_numbers j d q) e in
    λ t. m.Opened (u.handler t) (u.block t)
same_message v (m.Unlock h b) (m.Unlock j d) s t p q k e =
    let u = same_parts v 8 8 h j b d 0 0 [] [] (block_numbers h b p) (block_numbers j d q) e in
    λ t. m.Unlock (u.handler t) (u.block t)
same_message v (m.Unlocked h b) (m.Unlocked j d) s t p q k e =
    let u = same_parts v 9 9 h j b d 0 0 [] [] (block_numbers h b p) (block_numbers j d q) e in
    λ t. m.Unlocked (u.handler t) (u.block t)
same_message v (m.Log h b n es) (m.Log j d o fs) s t p q k e =
    let u = same_parts v 10 10 h j b d n o (log_bytes v es) (log_bytes v fs) p.0 q.0 e in
    let entries = log_same v es fs s t p.1 q.1 u.rest in
    λ t. m.Log (u.handler t) (u.block t) (u.number t) (entries t)
same_message v (m.Logged h b n) (m.Logged j d o) s t p q k e =
    let u = same_parts v 11 11 h j b d n o [] [] p q e in
    λ t. m.Logged (u.handler t) (u.block t) (u.number t)
same_message v (m.Answer h b n x) (m.Answer j d o y) s t p q k e =
    let u = same_parts v 12 12 h j b d n o (answer_bytes x) (answer_bytes y) p.0 q.0 e in
    let answer = answer_same x y p.1 q.1 u.rest in
    λ t. m.Answer (u.handler t) (u.block t) (u.number t) (answer t)
same_message v x y s t p q k e = absurd (omega (arith, k))

byte_same : (v w : Version) → version_byte v ≡ version_byte w → v ≡ w
byte_same One One e = refl
byte_same Two Two e = refl
byte_same One Two e = absurd (omega (arith, e))
byte_same Two One e = absurd (omega (arith, e))

-- two frames are the same only where version and message are
pub frame_same : (v w : Version) (x y : Message) → Carries v x → Carries w y → IsMessage x → IsMessage y → frame v x ≡ frame w y → both v x ≡ both w y
frame_same v w x y s t p q e =
    let version : v ≡ w = byte_same v w (sym (version_is v x) ∙ ap version_at e ∙ version_is w y) in
    let under : frame v x ≡ frame v y = e ∙ ap (λ (u : Version). frame u y) (sym version) in
    let carried : Carries v y = subst (λ (u : Version). Carries u y) (sym version) t in
    let message : x ≡ y = same_message v x y s carried p q (sym (kind_is v x) ∙ ap kind_at under ∙ kind_is v y) under in
    λ i. (version i, message i)

-- ---- one refusal

same_rank : (d e : FrameError) (b : List ℕ) → rank d ≡ rank e → IsFault d b → IsFault e b → d ≡ e
same_rank Short Short b r f g = refl
same_rank BadMagic BadMagic b r f g = refl
same_rank (BadVersion v) (BadVersion w) b r f g = ap BadVersion (sym f.0 ∙ g.0)
same_rank (BadKind v) (BadKind w) b r f g = ap BadKind (sym f.0 ∙ g.0)
same_rank LengthWrong LengthWrong b r f g = refl
same_rank FieldNotZero FieldNotZero b r f g = refl
same_rank FieldZero FieldZero b r f g = refl
same_rank BadBody BadBody b r f g = refl
same_rank d e b r f g = absurd (omega (arith, r))

first_same : (d e : FrameError) (b : List ℕ) → IsFirstFault d b → IsFirstFault e b → d ≡ e
first_same d e b f g =
    elim (cases_lt (rank d) (rank e)) [
      | inl lt ↦ absurd (g.first d lt f.applies)
      | inr le ↦ elim (cases_lt (rank e) (rank d)) [
        | inl lt ↦ absurd (f.first e lt g.applies)
        | inr ge ↦ same_rank d e b (omega (arith, le, ge)) f.applies g.applies
      ]
    ]

-- ---- both directions

abbrev pub Reads : List ℕ → Result (Version × Message) FrameError → Type 0
Reads b r = MatchResult r (λ x. IsFrame x.0 x.1 b) (λ e. IsFirstFault e b)

pub reads_exactly : (b : List ℕ) (r : Result (Version × Message) FrameError) → Reads b r → (v : Version) (x : Message) → (r ≡ Ok (both v x)) ↔ IsFrame v x b
reads_exactly b (Ok y) p v x = (
  λ h. let e : y ≡ both v x = cc in subst (λ (z : Version × Message). IsFrame z.0 z.1 b) e p,
  λ q. ap Ok (frame_same y.0 v y.1 x p.carries q.carries p.range q.range (sym p.bytes_are ∙ q.bytes_are)),
)
reads_exactly b (Err d) p v x = (λ h. absurd cc, λ q. absurd (no_fault v x b q d p.applies))

pub refuses_exactly : (b : List ℕ) (r : Result (Version × Message) FrameError) → Reads b r → (e : FrameError) → (r ≡ Err e) ↔ IsFirstFault e b
refuses_exactly b (Ok y) p e = (λ h. absurd cc, λ f. absurd (no_fault y.0 y.1 b p e f.applies))
refuses_exactly b (Err d) p e = (λ h. let i : d ≡ e = cc in subst (λ (x : FrameError). IsFirstFault x b) i p, λ f. ap Err (first_same d e b p f))
