-- The datagrams that a turn sends and receives. The loop that sends goes over the client's handlers. Its invariant says
-- that the messages due to those so far went out, in their order, and that no send failed (`Sending`). A handler with
-- nothing due is passed over, a send carries the invariant on, and one that fails ends the turn at that handler. A due
-- message fits the version of frames that the client sends in, since a client of batch 1 owes no Log of more than one
-- entry.
use Rattle.std.proofs.Common.{◌≡◌, ℕ, ◌+◌, ◌<◌, ◌≤◌, ◌==◌, Bool, true, false, List, [], ◌∷◌, ◌++◌, length, take, get_or, Option, Some, None, Err, refl, ap, sym}
use Rattle.std.proofs.Common.{◌∙◌, subst, arith}
use Rattle.std.specs.Prelude.{if◌then◌else◌, ⊤}
use Rattle.std.proofs.lemmas.Bool.Decides.{Decides-eqb, nat_tests}
use Rattle.std.proofs.lemmas.List.{append-nil, take_more, take_all, take_at}
use Rattle.std.proofs.lemmas.Option.{slice_get-get_or}
use Rattle.scoop_message.specs.declared.limits.TheConstants.{MAX_FRAME, BUFFER_LEN}
use Rattle.scoop_message.specs.declared.name.HandlerId.{HandlerId}
use Rattle.scoop_message.specs.declared.message.Message.{Message}
use Rattle.scoop_message.specs.declared.message.Message.TheVariants.{Lock, Open, Unlock, Log}
use Rattle.scoop_frame.specs.declared.version.Version.{Version}
use Rattle.scoop_frame.specs.declared.version.Version.TheVariants.{One, Two}
use Rattle.scoop_frame.specs.Version.{Carries}
use Rattle.scoop_frame.specs.Frame.{frame}
use Rattle.scoop_link.specs.declared.party.Party.TheVariants.{Handler}
use Rattle.scoop_link.specs.Datagram.{kept}
use Rattle.scoop_link.specs.Link.{Datagrams, Told, Exchanges}
use Rattle.scoop_link.proofs.Exchanges.{exchanges_nothing, exchanges-append}
use Rattle.scoop_reserve.specs.declared.stage.Stage.{Stage}
use Rattle.scoop_reserve.specs.declared.stage.Stage.TheVariants.{Locking, Opening, Unlocking, GivingUp}
use Rattle.scoop_reserve.specs.Handlers.{has, is_lowest}
use Rattle.scoop_reserve.specs.State.{ReservationState}
use Rattle.scoop_reserve.specs.Due as owed
use Rattle.scoop_client.specs.State.{ClientState}
use Rattle.scoop_client.specs.Due.{due}
use Rattle.scoop_client.specs.Rows.{DueRow, owes_nothing, greets, reserves, logs}
use Rattle.scoop_client.proofs.Batches.{is_batch}
use Rattle.scoop_client.proofs.DueRows.{due_row}
use Rattle.scoop_driver.specs.Steps.{version_for, with_due, dues, all_due, IsNoFrame}
use Rattle.scoop_driver.specs.declared.step.Received.TheVariants.{NoFrame}
use Rattle.scoop_driver.specs.Turning.{SentDue, Receives}

-- ---- the version that carries a due message

abbrev CarriesAny : Version → Option Message → Type 0
CarriesAny v None = ⊤
CarriesAny v (Some m) = Carries v m

two_carries : (m : Message) → Carries Two m
two_carries (Log h b n es) = tt
two_carries m = tt

any_carried : (o : Option Message) → CarriesAny Two o
any_carried None = tt
any_carried (Some m) = two_carries m

by_version : (b : Bool) (o : Option Message) → (b ≡ true → CarriesAny One o) → CarriesAny (if b then One else Two) o
by_version true o one = one refl
by_version false o one = any_carried o

unless : (b : Bool) (m : Message) → Carries One m → CarriesAny One (if b then Some m else None)
unless true m h = h
unless false m h = tt

reserved_carries : (r : ReservationState) (h : HandlerId) (s : Stage) → CarriesAny One (owed.due_in r h s)
reserved_carries r h Locking = unless (is_lowest h r.left) (Lock h r.block) tt
reserved_carries r h Opening = unless (has r.left h) (Open h r.block) tt
reserved_carries r h Unlocking = unless (has r.left h) (Unlock h r.block) tt
reserved_carries r h GivingUp = unless (has r.left h) (Unlock h r.block) tt

-- a client of batch 1 owes no Log of more than one entry
one_carries : (c : ClientState) (h : HandlerId) (o : Option Message) → c.batch ≡ 1 → DueRow c h o → CarriesAny One o
one_carries c h o one owes_nothing = tt
one_carries c h o one (greets greeted) = tt
one_carries c h o one (reserves r m greeted held owes) = subst (CarriesAny One) owes (reserved_carries r h r.stage)
one_carries c h o one (logs r l greeted held free opened window some) =
    let full : 0 < length l.unacked = grind (arith, nat_tests, some) in
    let batch = is_batch c.batch l.unacked (omega arith) full in
    omega (arith, batch.some, batch.limit)

-- the version in which the client sends carries every due message
pub due_carried : (c : ClientState) (h : HandlerId) (m : Message) → due c h ≡ Some m → Carries (version_for c.batch) m
due_carried c h m owes =
    let row = due_row c h in
    subst (CarriesAny (version_for c.batch)) owes (by_version (c.batch == 1) (due c h) (λ b. one_carries c h (due c h) ((Decides-eqb c.batch 1).0 b) row))

-- ---- due messages, handler after handler

due_then : (batch : ℕ) (h : HandlerId) (o : Option Message) (xs ys : Datagrams) → with_due batch h o (xs ++ ys) ≡ with_due batch h o xs ++ ys
due_then batch h None xs ys = refl
due_then batch h (Some m) xs ys = refl

dues-append : (c : ClientState) (hs ks : List HandlerId) → dues c (hs ++ ks) ≡ dues c hs ++ dues c ks
dues-append c [] ks = refl
dues-append c (h ∷ hs) ks = ap (with_due c.batch h (due c h)) (dues-append c hs ks) ∙ due_then c.batch h (due c h) (dues c hs) (dues c ks)

dues_more : (c : ClientState) (i : ℕ) (d : HandlerId) → i < length c.handlers
    → dues c (take (i + 1) c.handlers) ≡ dues c (take i c.handlers) ++ with_due c.batch (get_or c.handlers i d) (due c (get_or c.handlers i d)) []
dues_more c i d within = ap (dues c) (take_more c.handlers i d within) ∙ dues-append c (take i c.handlers) (get_or c.handlers i d ∷ [])

-- ---- the loop that sends

-- the messages due to the first handlers were sent, and no send failed
pub record Sending (c : ClientState) (i : ℕ) (before after : Option Told) (was now : ℕ) : Type 0 where
  pub sent : Exchanges before after [] (dues c (take i c.handlers))
  pub faults : now ≡ was

pub sending_begins : (c : ClientState) (a : Option Told) (n : ℕ) → Sending c 0 a a n n
sending_begins c a n = record { sent = exchanges_nothing a; faults = refl }

sending_passes : (c : ClientState) (i : ℕ) (d : HandlerId) (a b : Option Told) (n k : ℕ)
    → i < length c.handlers → due c (get_or c.handlers i d) ≡ None → Sending c i a b n k → Sending c (i + 1) a b n k
sending_passes c i d a b n k within none so_far =
    let same : dues c (take (i + 1) c.handlers) ≡ dues c (take i c.handlers) =
    dues_more c i d within ∙ (ap (λ o. dues c (take i c.handlers) ++ with_due c.batch (get_or c.handlers i d) o []) none
    ∙ append-nil (dues c (take i c.handlers))) in
    record { sent = rw same so_far.sent; faults = so_far.faults }

sending_sends : (c : ClientState) (i : ℕ) (d : HandlerId) (m : Message) (a b e : Option Told) (n k l : ℕ)
    → i < length c.handlers → due c (get_or c.handlers i d) ≡ Some m
    → Exchanges b e [] ((Handler (get_or c.handlers i d), frame (version_for c.batch) m) ∷ []) → l ≡ k
    → Sending c i a b n k → Sending c (i + 1) a e n l
sending_sends c i d m a b e n k l within some sent same so_far =
    let more : dues c (take (i + 1) c.handlers) ≡ dues c (take i c.handlers) ++ (Handler (get_or c.handlers i d), frame (version_for c.batch) m) ∷ [] =
    dues_more c i d within ∙ ap (λ o. dues c (take i c.handlers) ++ with_due c.batch (get_or c.handlers i d) o []) some in
    record { sent = rw more (exchanges-append a b e [] [] _ _ so_far.sent sent); faults = same ∙ so_far.faults }

pub sending_ends : (c : ClientState) (i : ℕ) (a b : Option Told) (n k : ℕ) → length c.handlers ≤ i → Sending c i a b n k → Exchanges a b [] (all_due c)
sending_ends c i a b n k over so_far = subst (λ hs. Exchanges a b [] (dues c hs)) (take_all i c.handlers over) so_far.sent

sending_breaks : (c : ClientState) (i : ℕ) (d : HandlerId) (m : Message) (a b e : Option Told) (n k : ℕ)
    → i < length c.handlers → due c (get_or c.handlers i d) ≡ Some m → Exchanges b e [] []
    → Sending c i a b n k → SentDue (Err i) c a e
sending_breaks c i d m a b e n k within some sent so_far = (
  record { handler = get_or c.handlers i d; here = slice_get-get_or c.handlers i d within; message = m; owed = some },
  subst (Exchanges a e []) (append-nil (dues c (take i c.handlers))) (exchanges-append a b e [] [] (dues c (take i c.handlers)) [] so_far.sent sent),
)

-- a handler of a list that is the client's
module _ (c : ClientState) (hs : List HandlerId) (is : hs ≡ c.handlers) (i : ℕ) (d : HandlerId) (within : i < length hs) where
  own : (P : List HandlerId → Type 0) → P hs → P c.handlers
  own P h = subst P is h

  pub list_passes : (a b : Option Told) (n k : ℕ) → due c (get_or hs i d) ≡ None → Sending c i a b n k → Sending c (i + 1) a b n k
  list_passes a b n k none so_far =
      sending_passes c i d a b n k (own (λ xs. i < length xs) within) (own (λ xs. due c (get_or xs i d) ≡ None) none) so_far

  pub list_sends : (m : Message) (bytes : List ℕ) (a b e : Option Told) (n k l : ℕ) → due c (get_or hs i d) ≡ Some m
      → kept bytes ≡ frame (version_for c.batch) m
      → Exchanges b e [] ((Handler (get_or hs i d), kept bytes) ∷ []) → l ≡ k → Sending c i a b n k → Sending c (i + 1) a e n l
  list_sends m bytes a b e n k l some framed sent same so_far =
      let one : Exchanges b e [] ((Handler (get_or hs i d), frame (version_for c.batch) m) ∷ []) =
      subst (λ ds. Exchanges b e [] ((Handler (get_or hs i d), ds) ∷ [])) framed sent in
      sending_sends c i d m a b e n k l (own (λ xs. i < length xs) within) (own (λ xs. due c (get_or xs i d) ≡ Some m) some)
      (own (λ xs. Exchanges b e [] ((Handler (get_or xs i d), frame (version_for c.batch) m) ∷ [])) one) same so_far

  pub list_breaks : (m : Message) (a b e : Option Told) (n k : ℕ) → due c (get_or hs i d) ≡ Some m → Exchanges b e [] [] → Sending c i a b n k
      → SentDue (Err i) c a e
  list_breaks m a b e n k some sent so_far =
      sending_breaks c i d m a b e n k (own (λ xs. i < length xs) within) (own (λ xs. due c (get_or xs i d) ≡ Some m) some) sent so_far

-- the front of the buffer is the frame, and a link keeps it whole
pub frame_kept : (v w : Version) (m : Message) (buffer rest : List ℕ) (n : ℕ) → w ≡ v → buffer ≡ frame w m ++ rest → n ≡ length (frame w m) → n ≤ MAX_FRAME
    → kept (take n buffer) ≡ frame v m
frame_kept v w m buffer rest n same is len short =
    ap (λ b. kept (take n b)) is
    ∙ (ap kept (take_at (frame w m) rest n (sym len)) ∙ (take_all BUFFER_LEN (frame w m) (omega (arith, len, short)) ∙ ap (λ u. frame u m) same))

-- the datagram is no frame, and was kept whole
pub no_frame : (d bytes : List ℕ) (a b : Option Told) → length bytes ≤ BUFFER_LEN → d ≡ kept bytes → IsNoFrame bytes → Exchanges a b (bytes ∷ []) []
    → Receives (NoFrame d) a b
no_frame d bytes a b short is none took =
    let same : d ≡ bytes = is ∙ take_all BUFFER_LEN bytes short in
    rw same (record { can = none; took = took })
