-- The entries that a command adds to the logs: they come after those of its client's block, and other blocks get none. Logs are
-- looked up by block and by handler. A command changes the shares of one block by a function of each share. So a look-up finds
-- either the changed share or the one that it found before.
use Rattle.scoop_model.proofs.Names.{◌≡◌, List, [], ◌∷◌, ◌++◌, map, Some, None, refl, sym, ap, ◌∙◌, arith, append-nil, Option, find, option_map, if◌then◌else◌}
use Rattle.scoop_model.proofs.Names.{true≢false, ◌⊎◌, unwrap_or, option_map_or, handler_decides, block_decides, EndOnlyLast, same_handler, Block, HandlerId}
use Rattle.scoop_model.proofs.Names.{Entry, CallEntry, QueryEntry, EndEntry, by_test, key_found, Command, Reserve, End, GiveUp, Call, Query, logs_after}
use Rattle.scoop_model.proofs.Names.{fresh_log, with_entry_at, changed_log, BlockLog, HandlerLog, shares_of, is_log_of, is_share_of, handlers_in}
use Rattle.scoop_model.specs.Step.{with_entry}
use Rattle.scoop_model.proofs.Order.{LeavesHandler, leaves_at}

-- the entries that the block's client logged for the handler, in these logs
abbrev pub log_in : Block → HandlerId → List BlockLog → List Entry
log_in b h logs = unwrap_or (option_map (λ l. l.entries) (find (is_share_of h) (shares_of b logs))) []

-- the entries that a command logs at a handler of its client's block
abbrev pub added : Command → HandlerId → List Entry
added (Reserve hs) h = []
added (Call k r) h = if same_handler h k then CallEntry r ∷ [] else []
added (Query k r) h = if same_handler h k then QueryEntry r ∷ [] else []
added End h = EndEntry ∷ []
added GiveUp h = []

-- ---- a change of one block's shares

-- the change puts these entries behind those of the handler
abbrev Adds : (HandlerLog → HandlerLog) → HandlerId → List Entry → Type 0
Adds f h es = (l : HandlerLog) → l.handler ≡ h → (f l).entries ≡ l.entries ++ es

adds_at : (k : HandlerId) (e : Entry) (h : HandlerId) → Adds (with_entry_at k e) h (if same_handler h k then e ∷ [] else [])
adds_at k e h l own = grind (arith, append-nil)

share_changed : (h : HandlerId) (f : HandlerLog → HandlerLog) → LeavesHandler f → (ls : List HandlerLog)
    → find (is_share_of h) (map f ls) ≡ option_map f (find (is_share_of h) ls)
share_changed h f keeps [] = refl
share_changed h f keeps (l ∷ ls) = grind (arith, share_changed h f keeps ls)

abbrev shares_in : Option BlockLog → List HandlerLog
shares_in o = option_map_or (λ l. l.shares) o []

shares_here : (b : Block) (f : HandlerLog → HandlerLog) (logs : List BlockLog) → shares_of b (map (changed_log b f) logs) ≡ map f (shares_of b logs)
shares_here b f [] = refl
shares_here b f (l ∷ ls) = grind (arith, shares_here b f ls)

shares_other : (c b : Block) (f : HandlerLog → HandlerLog) (logs : List BlockLog) → (c ≡ b → ⊥) → shares_of b (map (changed_log c f) logs) ≡ shares_of b logs
shares_other c b f [] apart = refl
shares_other c b f (l ∷ ls) apart = grind (arith, block_decides, shares_other c b f ls apart)

-- ---- what a change makes of a log

abbrev entries_in : Option HandlerLog → List Entry
entries_in o = unwrap_or (option_map (λ l. l.entries) o) []

-- the block has a share for the handler
pub record HasLine (b : Block) (h : HandlerId) (logs : List BlockLog) : Type 0 where
  pub share : HandlerLog
  pub found : find (is_share_of h) (shares_of b logs) ≡ Some share

-- the entries come behind those that were there
abbrev pub GrowsBy : Block → HandlerId → List BlockLog → List BlockLog → List Entry → Type 0
GrowsBy b h old new es = log_in b h new ≡ log_in b h old ++ es

changed_here :
    (b : Block) (h : HandlerId) (f : HandlerLog → HandlerLog) (es : List Entry) (logs : List BlockLog) → LeavesHandler f → Adds f h es → HasLine b h logs
    → GrowsBy b h logs (map (changed_log b f) logs) es
changed_here b h f es logs keeps adds has =
    let l = has.share in
    let own = key_found (λ (x : HandlerLog). x.handler) same_handler handler_decides h (shares_of b logs) l has.found in
    ap (λ ls. entries_in (find (is_share_of h) ls)) (shares_here b f logs)
    ∙ ap entries_in (share_changed h f keeps (shares_of b logs) ∙ ap (option_map f) has.found)
    ∙ adds l own
    ∙ ap (λ o. entries_in o ++ es) (sym has.found)

changed_nowhere :
    (b : Block) (h : HandlerId) (f : HandlerLog → HandlerLog) (logs : List BlockLog) → LeavesHandler f → find (is_share_of h) (shares_of b logs) ≡ None
    → log_in b h (map (changed_log b f) logs) ≡ log_in b h logs
changed_nowhere b h f logs keeps none = grind (arith, option_map, share_changed, shares_here)

changed_other : (c b : Block) (h : HandlerId) (f : HandlerLog → HandlerLog) (logs : List BlockLog) → (c ≡ b → ⊥)
    → log_in b h (map (changed_log c f) logs) ≡ log_in b h logs
changed_other c b h f logs apart = ap (λ ls. entries_in (find (is_share_of h) ls)) (shares_other c b f logs apart)

-- ---- a reserve

fresh_empty : (h : HandlerId) (hs : List HandlerId) → entries_in (find (is_share_of h) (map fresh_log hs)) ≡ []
fresh_empty h [] = refl
fresh_empty h (k ∷ ks) = grind (arith, fresh_empty h ks)

-- a new block has logged nothing
pub reserved_same : (hs : List HandlerId) (c b : Block) (h : HandlerId) (logs : List BlockLog) → log_in b h (logs_after (Reserve hs) c logs) ≡ log_in b h logs
reserved_same hs c b h [] = grind (arith, fresh_empty)
reserved_same hs c b h (l ∷ ls) = grind (arith, reserved_same hs c b h ls)

-- a block that was never reserved has no log
pub unreserved_empty : (b : Block) (h : HandlerId) (logs : List BlockLog) → option_map handlers_in (find (is_log_of b) logs) ≡ None → log_in b h logs ≡ []
unreserved_empty b h logs none = grind (arith, option_map)

-- a block's shares are of the handlers that its reserve named
pub named_shares : (b : Block) (logs : List BlockLog) (hs : List HandlerId) → option_map handlers_in (find (is_log_of b) logs) ≡ Some hs
    → map (λ (x : HandlerLog). x.handler) (shares_of b logs) ≡ hs
named_shares b logs hs named = grind (arith, option_map)

-- ---- a command

-- the log of another block stays
pub log_other : (x : Command) (c b : Block) (h : HandlerId) (logs : List BlockLog) → (c ≡ b → ⊥) → log_in b h (logs_after x c logs) ≡ log_in b h logs
log_other (Reserve hs) c b h logs apart = reserved_same hs c b h logs
log_other (Call k r) c b h logs apart = changed_other c b h (with_entry_at k (CallEntry r)) logs apart
log_other (Query k r) c b h logs apart = changed_other c b h (with_entry_at k (QueryEntry r)) logs apart
log_other End c b h logs apart = changed_other c b h (with_entry EndEntry) logs apart
log_other GiveUp c b h logs apart = refl

-- the block's log has the command's entries after its own
pub log_here : (x : Command) (b : Block) (h : HandlerId) (logs : List BlockLog) → HasLine b h logs → GrowsBy b h logs (logs_after x b logs) (added x h)
log_here (Reserve hs) b h logs has = reserved_same hs b b h logs ∙ sym (append-nil (log_in b h logs))
log_here (Call k r) b h logs has = grind (arith, changed_here, leaves_at, adds_at)
log_here (Query k r) b h logs has = grind (arith, changed_here, leaves_at, adds_at)
log_here End b h logs has = changed_here b h (with_entry EndEntry) (EndEntry ∷ []) logs (λ l. refl) (λ l own. refl) has
log_here GiveUp b h logs has = sym (append-nil (log_in b h logs))

-- a handler without a share has no log
log_nowhere : (x : Command) (b : Block) (h : HandlerId) (logs : List BlockLog) → find (is_share_of h) (shares_of b logs) ≡ None
    → log_in b h (logs_after x b logs) ≡ log_in b h logs
log_nowhere (Reserve hs) b h logs none = reserved_same hs b b h logs
log_nowhere (Call k r) b h logs none = changed_nowhere b h (with_entry_at k (CallEntry r)) logs (leaves_at k (CallEntry r)) none
log_nowhere (Query k r) b h logs none = changed_nowhere b h (with_entry_at k (QueryEntry r)) logs (leaves_at k (QueryEntry r)) none
log_nowhere End b h logs none = changed_nowhere b h (with_entry EndEntry) logs (λ l. refl) none
log_nowhere GiveUp b h logs none = refl

-- the block's share at the handler has the command's entries after its own
pub record IsAdded (x : Command) (c b : Block) (h : HandlerId) (logs : List BlockLog) : Type 0 where
  pub block : c ≡ b
  pub share : HasLine b h logs
  pub grows : GrowsBy b h logs (logs_after x c logs) (added x h)

-- none of a command's entries but the last is an End
pub added_last : (x : Command) (h : HandlerId) → EndOnlyLast (added x h)
added_last (Call k r) h = by_test (λ t. EndOnlyLast (if t then CallEntry r ∷ [] else [])) (same_handler h k) (λ here. refl) (λ there. refl)
added_last (Query k r) h = by_test (λ t. EndOnlyLast (if t then QueryEntry r ∷ [] else [])) (same_handler h k) (λ here. refl) (λ there. refl)
added_last x h = refl

-- any log stays, or has the command's entries after its own
pub log_after : (x : Command) (c b : Block) (h : HandlerId) (logs : List BlockLog) → (log_in b h (logs_after x c logs) ≡ log_in b h logs) ⊎ IsAdded x c b h logs
log_after x c b h logs = grind (arith, block_decides, log_other, true≢false, log_nowhere, log_here)
