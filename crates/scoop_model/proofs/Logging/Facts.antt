-- The invariant about the entries that clients logged. A Log carries entries of its block's log. A client's window at a handler
-- holds the end of that log, the part that isn't acknowledged.
use Rattle.scoop_model.proofs.Names.{◌≡◌, ℕ, ◌<◌, List, [], ◌∷◌, ◌++◌, map, Some, sym, ap, ◌∙◌, append-nil, false, length, append_assoc, AllByRecursion, ⊤}
use Rattle.scoop_model.proofs.Names.{EndOnlyLast, ends, Message, Log, Block, HandlerId, Entry, QueryEntry, Request, is_open, ReservationState, ClientState}
use Rattle.scoop_model.proofs.Names.{WindowState, logged, window_of, IsNumberable, newest_block, World, Party, log_of}
use Rattle.scoop_model.proofs.Stands.{Stands}

-- ---- messages

-- a Log carries entries that stand in the block's log for its handler
abbrev pub Carries : World → Message → Type 0
Carries w (Log h b n es) = Stands (log_of b h w) n es
Carries w m = ⊤

-- ---- clients

-- a window holds the part of the log after the acknowledged entries
pub record WindowFits (log : List Entry) (l : WindowState) : Type 0 where
  pub acknowledged : List Entry
  pub all : acknowledged ++ l.unacked ≡ log
  pub count : l.acked ≡ length acknowledged
  pub ended : l.ended ≡ ends log
  pub numbers : IsNumberable l.acked l.ended l.unacked

-- the query of this number is the log's last entry, and isn't acknowledged
pub record IsLastQuery (log : List Entry) (l : WindowState) (n : ℕ) : Type 0 where
  pub before : List Entry
  pub request : Request
  pub last : before ++ QueryEntry request ∷ [] ≡ log
  pub number : n ≡ logged l
  pub waiting : l.acked < n

-- the client has a window for the handler, whose last entry is the query of this number
pub record WaitsAt (w : World) (c : ClientState) (b : Block) (h : HandlerId) (n : ℕ) : Type 0 where
  pub window : WindowState
  pub found : window_of h c.windows ≡ Some window
  pub query : IsLastQuery (log_of b h w) window n

-- the windows of the client's block: one for each of its handlers, and nothing is logged before all are opened
pub record WindowsFit (w : World) (c : ClientState) (r : ReservationState) : Type 0 where
  pub block : r.block ≡ newest_block c
  pub handlers : map (λ l. l.handler) c.windows ≡ r.handlers
  pub windows : (h : HandlerId) (l : WindowState) → window_of h c.windows ≡ Some l → WindowFits (log_of r.block h w) l
  pub waits : (h : HandlerId) (n : ℕ) → c.waits ≡ Some (h, n) → WaitsAt w c r.block h n
  pub unlogged : is_open r ≡ false → (h : HandlerId) → log_of r.block h w ≡ []

pub record PartyLogs (w : World) (p : Party) : Type 0 where
  pub block : (r : ReservationState) → p.client.reservation ≡ Some r → WindowsFit w p.client r

-- ---- all of it

-- no log has an entry after an End
pub record Logging (w : World) : Type 0 where
  pub messages : AllByRecursion (Carries w) w.sent
  pub logs : (b : Block) (h : HandlerId) → EndOnlyLast (log_of b h w)
  pub parties : AllByRecursion (PartyLogs w) w.parties

-- ---- logs only grow, at their end

abbrev pub Grown : World → World → Type 0
Grown v w = (b : Block) (h : HandlerId) → (more : List Entry) × (log_of b h v ++ more ≡ log_of b h w)

pub grown_same : (v w : World) → v.logs ≡ w.logs → Grown v w
grown_same v w same b h = ([], append-nil (log_of b h v) ∙ ap (λ ls. log_of b h (record v { logs = ls })) same)

pub stands_more : (log more : List Entry) (n : ℕ) (es : List Entry) → Stands log n es → Stands (log ++ more) n es
stands_more log more n es s = record {
  before = s.before;
  behind = s.behind ++ more;
  all = sym (append_assoc (s.before ++ es) s.behind more) ∙ ap (λ xs. xs ++ more) s.all;
  number = s.number;
}
