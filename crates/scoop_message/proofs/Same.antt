-- `==` on this crate's data: it decides whether two values are the same.
use Rattle.std.proofs.Common.{◌≡◌, ◌&&◌, Bool, ℕ, List, ap, ◌∙◌, refl}
use Rattle.std.proofs.lemmas.Bool.Decides.{Decides-like, Decides-eqb, Decides-and}
use Rattle.std.proofs.lemmas.Slice.Eq.{slice_eq-Decides}
use Rattle.std.specs.Bool.{Decides}
use Rattle.scoop_message.specs.declared.name.HandlerId.{HandlerId}
use Rattle.scoop_message.specs.declared.name.ClientId.{ClientId}
use Rattle.scoop_message.specs.declared.name.Block.{Block}
use Rattle.scoop_message.specs.declared.request.Request.{Request}
use Rattle.scoop_message.specs.declared.request.Entry.{Entry}
use Rattle.scoop_message.specs.declared.request.Entry.TheVariants.{Call, Query, End}
use Rattle.scoop_message.specs.declared.request.Answer.{Answer as ObjectAnswer}
use Rattle.scoop_message.specs.declared.request.Answer.TheVariants.{Refused, Value}
use Rattle.scoop_message.specs.declared.message.Message.{Message}
use Rattle.scoop_message.specs.declared.message.Message.TheVariants.{Hello, Welcome, Lock, Locked, Busy, Open, Opened, Unlock, Unlocked, Log, Logged, Answer}
use Rattle.scoop_message.specs.contracts.name.HandlerIdPartialEq.TheImpl as on_handler
use Rattle.scoop_message.specs.contracts.name.ClientIdPartialEq.TheImpl as on_client
use Rattle.scoop_message.specs.contracts.name.BlockPartialEq.TheImpl as on_block
use Rattle.scoop_message.specs.contracts.request.AnswerPartialEq.TheImpl as on_answer
use Rattle.scoop_message.specs.contracts.message.MessagePartialEq.TheImpl as on_message
use Rattle.scoop_message.specs.contracts.args.ArgsPartialEq.TheImpl as on_args
use Rattle.scoop_message.specs.contracts.entries.EntriesPartialEq.TheImpl as on_entries
use Rattle.scoop_message.specs.contracts.request.RequestPartialEq.TheImpl as on_request
use Rattle.scoop_message.specs.contracts.request.EntryPartialEq.TheImpl as on_entry

abbrev pub pair : {A B : Type 0} → A → B → A × B
pair a b = (a, b)

pair_same : {A B : Type 0} (a c : A) (b d : B) → a ≡ c → b ≡ d → pair a b ≡ pair c d
pair_same a c b d e f = ap (λ x. pair x b) e ∙ ap (pair c) f

pub pair_decides : {A B : Type 0} {s t : Bool} (a c : A) (b d : B) → Decides s (a ≡ c) → Decides t (b ≡ d) → Decides (s && t) (pair a b ≡ pair c d)
pair_decides {A} {B} a c b d h k =
    Decides-like _ (λ e. pair_same a c b d e.0 e.1) (λ e. (ap (λ (p : A × B). p.0) e, ap (λ (p : A × B). p.1) e)) (Decides-and _ _ h k)

pub handler_decides : (a b : HandlerId) → Decides (on_handler.eq-value.it a b) (a ≡ b)
handler_decides a b = Decides-like _ (λ e. let make : ℕ → HandlerId = λ n. record { 0 = n } in ap make e) (ap (λ (h : HandlerId). h.0)) (Decides-eqb a.0 b.0)

pub client_decides : (a b : ClientId) → Decides (on_client.eq-value.it a b) (a ≡ b)
client_decides a b = Decides-like _ (λ e. let make : ℕ → ClientId = λ n. record { 0 = n } in ap make e) (ap (λ (c : ClientId). c.0)) (Decides-eqb a.0 b.0)

abbrev fields : Block → ClientId × (ℕ × ℕ)
fields b = pair b.client (pair b.inc b.num)

abbrev of_fields : ClientId × (ℕ × ℕ) → Block
of_fields t = record { client = t.0; inc = t.1.0; num = t.1.1 }

pub block_decides : (a b : Block) → Decides (on_block.eq-value.it a b) (a ≡ b)
block_decides a b =
    Decides-like _ (ap of_fields) (ap fields)
    (pair_decides a.client b.client (pair a.inc a.num) (pair b.inc b.num) (client_decides a.client b.client)
    (pair_decides a.inc b.inc a.num b.num (Decides-eqb a.inc b.inc) (Decides-eqb a.num b.num)))

pub answer_decides : (a b : ObjectAnswer) → Decides (on_answer.eq-value.it a b) (a ≡ b)
answer_decides Refused Refused = ((λ e. refl), (λ e. refl))
answer_decides Refused (Value y) = ((λ e. cc), (λ e. cc))
answer_decides (Value x) Refused = ((λ e. cc), (λ e. cc))
answer_decides (Value x) (Value y) = Decides-like _ (ap Value) (λ e. cc) (Decides-eqb x y)

pub args_decides : (a b : List ℕ) → Decides (on_args.eq-value.it a b) (a ≡ b)
args_decides a b = slice_eq-Decides Decides-eqb a b _ refl

request_same : (a b : Request) → a.op ≡ b.op → a.args ≡ b.args → a ≡ b
request_same a b e f =
    let make : ℕ → List ℕ → Request = λ n xs. record { op = n; args = xs } in
    ap (λ n. make n a.args) e ∙ ap (make b.op) f

pub request_decides : (a b : Request) → Decides (on_request.eq-value.it a b) (a ≡ b)
request_decides a b =
    Decides-like _ (λ h. request_same a b h.0 h.1) (λ e. (ap (λ (r : Request). r.op) e, ap (λ (r : Request). r.args) e))
    (Decides-and _ _ (Decides-eqb a.op b.op) (args_decides a.args b.args))

pub entry_decides : (a b : Entry) → Decides (on_entry.eq-value.it a b) (a ≡ b)
entry_decides (Call r) (Call s) = Decides-like _ (ap Call) (λ e. cc) (request_decides r s)
entry_decides (Call r) (Query s) = ((λ e. cc), (λ e. cc))
entry_decides (Call r) End = ((λ e. cc), (λ e. cc))
entry_decides (Query r) (Call s) = ((λ e. cc), (λ e. cc))
entry_decides (Query r) (Query s) = Decides-like _ (ap Query) (λ e. cc) (request_decides r s)
entry_decides (Query r) End = ((λ e. cc), (λ e. cc))
entry_decides End (Call s) = ((λ e. cc), (λ e. cc))
entry_decides End (Query s) = ((λ e. cc), (λ e. cc))
entry_decides End End = ((λ e. refl), (λ e. refl))

pub entries_decides : (xs ys : List Entry) → Decides (on_entries.eq-value.it xs ys) (xs ≡ ys)
entries_decides xs ys = slice_eq-Decides entry_decides xs ys _ refl

pub message_decides : (a b : Message) → Decides (on_message.eq-value.it a b) (a ≡ b)
message_decides (Hello h c i) (Hello k d j) =
    Decides-like _ (λ e. ap (λ (t : HandlerId × (ClientId × ℕ)). Hello t.0 t.1.0 t.1.1) e) (λ e. cc)
    (pair_decides h k (pair c i) (pair d j) (handler_decides h k) (pair_decides c d i j (client_decides c d) (Decides-eqb i j)))
message_decides (Hello h c i) m = ((λ e. cc), (λ e. cc))
message_decides (Welcome h c i) (Welcome k d j) =
    Decides-like _ (λ e. ap (λ (t : HandlerId × (ClientId × ℕ)). Welcome t.0 t.1.0 t.1.1) e) (λ e. cc)
    (pair_decides h k (pair c i) (pair d j) (handler_decides h k) (pair_decides c d i j (client_decides c d) (Decides-eqb i j)))
message_decides (Welcome h c i) m = ((λ e. cc), (λ e. cc))
message_decides (Lock h b) (Lock k d) =
    Decides-like _ (λ e. ap (λ (t : HandlerId × Block). Lock t.0 t.1) e) (λ e. cc) (pair_decides h k b d (handler_decides h k) (block_decides b d))
message_decides (Lock h b) m = ((λ e. cc), (λ e. cc))
message_decides (Locked h b) (Locked k d) =
    Decides-like _ (λ e. ap (λ (t : HandlerId × Block). Locked t.0 t.1) e) (λ e. cc) (pair_decides h k b d (handler_decides h k) (block_decides b d))
message_decides (Locked h b) m = ((λ e. cc), (λ e. cc))
message_decides (Busy h b) (Busy k d) =
    Decides-like _ (λ e. ap (λ (t : HandlerId × Block). Busy t.0 t.1) e) (λ e. cc) (pair_decides h k b d (handler_decides h k) (block_decides b d))
message_decides (Busy h b) m = ((λ e. cc), (λ e. cc))
message_decides (Open h b) (Open k d) =
    Decides-like _ (λ e. ap (λ (t : HandlerId × Block). Open t.0 t.1) e) (λ e. cc) (pair_decides h k b d (handler_decides h k) (block_decides b d))
message_decides (Open h b) m = ((λ e. cc), (λ e. cc))
message_decides (Opened h b) (Opened k d) =
    Decides-like _ (λ e. ap (λ (t : HandlerId × Block). Opened t.0 t.1) e) (λ e. cc) (pair_decides h k b d (handler_decides h k) (block_decides b d))
message_decides (Opened h b) m = ((λ e. cc), (λ e. cc))
message_decides (Unlock h b) (Unlock k d) =
    Decides-like _ (λ e. ap (λ (t : HandlerId × Block). Unlock t.0 t.1) e) (λ e. cc) (pair_decides h k b d (handler_decides h k) (block_decides b d))
message_decides (Unlock h b) m = ((λ e. cc), (λ e. cc))
message_decides (Unlocked h b) (Unlocked k d) =
    Decides-like _ (λ e. ap (λ (t : HandlerId × Block). Unlocked t.0 t.1) e) (λ e. cc) (pair_decides h k b d (handler_decides h k) (block_decides b d))
message_decides (Unlocked h b) m = ((λ e. cc), (λ e. cc))
message_decides (Log h b n es) (Log k d o fs) =
    Decides-like _ (λ e. ap (λ (t : HandlerId × (Block × (ℕ × List Entry))). Log t.0 t.1.0 t.1.1.0 t.1.1.1) e) (λ e. cc)
    (pair_decides h k (pair b (pair n es)) (pair d (pair o fs)) (handler_decides h k)
    (pair_decides b d (pair n es) (pair o fs) (block_decides b d) (pair_decides n o es fs (Decides-eqb n o) (entries_decides es fs))))
message_decides (Log h b n es) m = ((λ e. cc), (λ e. cc))
message_decides (Logged h b n) (Logged k d o) =
    Decides-like _ (λ e. ap (λ (t : HandlerId × (Block × ℕ)). Logged t.0 t.1.0 t.1.1) e) (λ e. cc)
    (pair_decides h k (pair b n) (pair d o) (handler_decides h k) (pair_decides b d n o (block_decides b d) (Decides-eqb n o)))
message_decides (Logged h b n) m = ((λ e. cc), (λ e. cc))
message_decides (Answer h b n x) (Answer k d o y) =
    Decides-like _ (λ e. ap (λ (t : HandlerId × (Block × (ℕ × ObjectAnswer))). Answer t.0 t.1.0 t.1.1.0 t.1.1.1) e) (λ e. cc)
    (pair_decides h k (pair b (pair n x)) (pair d (pair o y)) (handler_decides h k)
    (pair_decides b d (pair n x) (pair o y) (block_decides b d) (pair_decides n o x y (Decides-eqb n o) (answer_decides x y))))
message_decides (Answer h b n x) m = ((λ e. cc), (λ e. cc))
