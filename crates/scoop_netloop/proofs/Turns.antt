-- One turn.
use Rattle.std.proofs.Common.{◌≡◌, ◌≤◌, ℕ, Bool, true, false, List, [], ◌∷◌, ◌++◌, length, take, drop, Option, Some, None, Result, refl, ap, sym, ◌∙◌, subst, arith}
use Rattle.std.proofs.lemmas.List.{append-nil, take_at}
use Rattle.scoop_message.specs.declared.message.Message.{Message}
use Rattle.scoop_message.specs.Message.{client_of}
use Rattle.scoop_frame.specs.declared.version.Version.{Version}
use Rattle.scoop_frame.specs.Buffer.{written}
use Rattle.scoop_frame.specs.Frame.{frame, IsFrame}
use Rattle.scoop_handler.specs.declared.note.Heard.{Heard as HeardMessage}
use Rattle.scoop_link.specs.Datagram.{kept}
use Rattle.scoop_link.specs.declared.link.LinkFault.{LinkFault}
use Rattle.scoop_link.specs.declared.party.Party.{Party}
use Rattle.scoop_link.specs.declared.party.Party.TheVariants.{Client}
use Rattle.scoop_link.specs.Link.{Datagrams, Told, Exchanges, sent_by}
use Rattle.scoop_link.proofs.Exchanges.{exchanges_nothing, exchanges-append}
use Rattle.scoop_book.specs.declared.event.Event.TheVariants.{Hear}
use Rattle.scoop_book.specs.declared.event.Reply.TheVariants.{Heard}
use Rattle.scoop_book.specs.Passes.{PassValue, pass_value, with_event}
use Rattle.scoop_netloop.specs.Serving.{Serves, nothing, passes_over, hears, Sends, ServesPass, reply_datagrams}

sends_nothing : (c : Bool) → Sends c [] []
sends_nothing c = record { missing = []; rest = refl; last = omega arith; none = λ e. refl }

unchanged : (c : Bool) (n : ℕ) (p : PassValue) (taken : List (List ℕ)) (a b : Option Told) → Serves taken [] [] → Exchanges a b taken [] → length taken ≤ n
    → ServesPass c n p p a b
unchanged c n p taken a b serves exchanges most = record {
  taken = taken;
  gained = [];
  all = [];
  gone = [];
  serves = serves;
  sends = sends_nothing c;
  events = ap (pass_value p.number p.opening) (sym (append-nil p.events));
  exchanges = exchanges;
  most = most;
}

-- no turn
pub serves_nothing : (c : Bool) (n : ℕ) (p : PassValue) (a : Option Told) → ServesPass c n p p a a
serves_nothing c n p a = unchanged c n p [] a a nothing (exchanges_nothing a) (omega arith)

-- a turn without a datagram
pub serves_idle : (c : Bool) (p : PassValue) (a b : Option Told) → Exchanges a b [] [] → ServesPass c 1 p p a b
serves_idle c p a b exchanges = unchanged c 1 p [] a b nothing exchanges (omega arith)

-- a turn without a datagram, which settled what came before
pub serves_settled : (c : Bool) (p : PassValue) (a b d : Option Told) → Exchanges a b [] [] → Exchanges b d [] [] → ServesPass c 1 p p a d
serves_settled c p a b d idle settled = serves_idle c p a d (exchanges-append a b d [] [] [] [] idle settled)

-- a turn whose datagram was passed over
pub serves_passed : (c : Bool) (p : PassValue) (d : List ℕ) (a b : Option Told) → Exchanges a b (d ∷ []) [] → ServesPass c 1 p p a b
serves_passed c p d a b exchanges = unchanged c 1 p (d ∷ []) a b (passes_over d [] [] [] nothing) exchanges (omega arith)

-- a turn that heard a message
serves_one : (c : Bool) (p q : PassValue) (v : Version) (m : Message) (told : HeardMessage) (d : List ℕ) (gone : Datagrams) (a b : Option Told)
    → IsFrame v m d → q ≡ with_event (Hear m) (Heard told) p → Exchanges a b (d ∷ []) gone → Sends c (reply_datagrams v told.reply ++ []) gone
    → ServesPass c 1 p q a b
serves_one c p q v m told d gone a b is gains exchanges sends = record {
  taken = d ∷ [];
  gained = (Hear m, Heard told) ∷ [];
  all = reply_datagrams v told.reply ++ [];
  gone = gone;
  serves = hears v m told d [] [] [] is nothing;
  sends = sends;
  events = gains;
  exchanges = exchanges;
  most = omega arith;
}

sends_silent : (v : Version) (o : Option Message) → o ≡ None → Sends true (reply_datagrams v o ++ []) []
sends_silent v None is = sends_nothing true
sends_silent v (Some reply) is = absurd (let f = is in cc)

-- a message with no reply
pub serves_silent : (p q : PassValue) (v : Version) (m : Message) (told : HeardMessage) (d : List ℕ) (a b : Option Told)
    → IsFrame v m d → q ≡ with_event (Hear m) (Heard told) p → Exchanges a b (d ∷ []) [] → told.reply ≡ None → ServesPass true 1 p q a b
serves_silent p q v m told d a b is gains exchanges silent = serves_one true p q v m told d [] a b is gains exchanges (sends_silent v told.reply silent)

sends_missing : (v : Version) (o : Option Message) → Sends false (reply_datagrams v o ++ []) []
sends_missing v None = sends_nothing false
sends_missing v (Some reply) = record { missing = reply_datagrams v (Some reply) ++ []; rest = refl; last = omega arith; none = λ e. absurd (let f = e in cc) }

-- a message whose reply wasn't sent
pub serves_unanswered : (p q : PassValue) (v : Version) (m : Message) (told : HeardMessage) (d : List ℕ) (a b : Option Told)
    → IsFrame v m d → q ≡ with_event (Hear m) (Heard told) p → Exchanges a b (d ∷ []) [] → ServesPass false 1 p q a b
serves_unanswered p q v m told d a b is gains exchanges = serves_one false p q v m told d [] a b is gains exchanges (sends_missing v told.reply)

sends_answered : (v : Version) (o : Option Message) (reply : Message) → o ≡ Some reply
    → Sends true (reply_datagrams v o ++ []) ((Client (client_of reply), kept (frame v reply)) ∷ [])
sends_answered v None reply is = absurd (let f = is in cc)
sends_answered v (Some other) reply is =
    let same : other ≡ reply = cc in
    let P : Message → Type 0 = λ r. Sends true (reply_datagrams v (Some r) ++ []) ((Client (client_of reply), kept (frame v reply)) ∷ []) in
    subst P (sym same) (record { missing = []; rest = refl; last = omega arith; none = λ e. refl })

-- a message whose reply was sent
pub serves_answered : (p q : PassValue) (v : Version) (m reply : Message) (told : HeardMessage) (d : List ℕ) (a b e : Option Told)
    → IsFrame v m d → q ≡ with_event (Hear m) (Heard told) p → Exchanges a b (d ∷ []) [] → told.reply ≡ Some reply
    → Exchanges b e [] ((Client (client_of reply), kept (frame v reply)) ∷ []) → ServesPass true 1 p q a e
serves_answered p q v m reply told d a b e is gains taken replied sent =
    serves_one true p q v m told d ((Client (client_of reply), kept (frame v reply)) ∷ []) a e is gains
    (exchanges-append a b e (d ∷ []) [] [] ((Client (client_of reply), kept (frame v reply)) ∷ []) taken sent)
    (sends_answered v told.reply reply replied)

-- a turn in which the send of the reply failed
pub serves_unsent : (p q : PassValue) (v : Version) (m : Message) (told : HeardMessage) (d : List ℕ) (a b e : Option Told)
    → IsFrame v m d → q ≡ with_event (Hear m) (Heard told) p → Exchanges a b (d ∷ []) [] → Exchanges b e [] [] → ServesPass false 1 p q a e
serves_unsent p q v m told d a b e is gains taken kept = serves_unanswered p q v m told d a e is gains (exchanges-append a b e (d ∷ []) [] [] [] taken kept)

-- the bytes written to the front of a buffer are those sent from it
pub sent_front : {T : Type 0} (result : Result T LinkFault) (to : Party) (a b : Option Told) (bytes buffer all : List ℕ) (n : ℕ)
    → all ≡ written bytes buffer → n ≡ length bytes → Exchanges a b [] (sent_by result to (take n all)) → Exchanges a b [] (sent_by result to bytes)
sent_front result to a b bytes buffer all n is len exchanges =
    let front : take n all ≡ bytes = ap (take n) is ∙ take_at bytes (drop (length bytes) buffer) n (sym len) in
    subst (λ (bs : List ℕ). Exchanges a b [] (sent_by result to bs)) front exchanges
