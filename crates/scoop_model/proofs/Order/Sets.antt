-- The handlers of a block are set once, by its reserve.
use Rattle.scoop_model.proofs.Names.{◌≡◌, List, [], ◌∷◌, ◌++◌, map, Some, None, refl, sym, ap, ◌∙◌, arith, Option, find, option_map, if◌then◌else◌, ◌⊎◌, inl}
use Rattle.scoop_model.proofs.Names.{block_decides, Block, HandlerId, Entry, CallEntry, QueryEntry, EndEntry, by_test, Command, Reserve, End, GiveUp, Call}
use Rattle.scoop_model.proofs.Names.{Query, steps, newest_block, logs_after, fresh_log, with_entry_at, changed_log, World, BlockLog, handlers_of, HandlerLog}
use Rattle.scoop_model.proofs.Names.{is_log_of, is_share_of, handlers_in, Event}
use Rattle.scoop_model.specs.Step.{with_entry}
use Rattle.scoop_model.proofs.Events.{steps_kept}

-- the handlers of a block among these logs
abbrev found : Block → List BlockLog → Option (List HandlerId)
found b logs = option_map handlers_in (find (is_log_of b) logs)

-- a change of a share that leaves its handler
abbrev pub LeavesHandler : (HandlerLog → HandlerLog) → Type 0
LeavesHandler f = (l : HandlerLog) → (f l).handler ≡ l.handler

pub leaves_at : (h : HandlerId) (e : Entry) → LeavesHandler (with_entry_at h e)
leaves_at h e l = by_test (λ t. (if t then with_entry e l else l).handler ≡ l.handler) (is_share_of h l) (λ here. refl) (λ there. refl)

leaves_all : (f : HandlerLog → HandlerLog) → LeavesHandler f → (ls : List HandlerLog) → map (λ x. x.handler) (map f ls) ≡ map (λ x. x.handler) ls
leaves_all f keeps [] = refl
leaves_all f keeps (l ∷ ls) = λ i. keeps l i ∷ leaves_all f keeps ls i

changed_same : (c : Block) (f : HandlerLog → HandlerLog) → LeavesHandler f → (l : BlockLog)
    → (handlers_in (changed_log c f l) ≡ handlers_in l) × ((changed_log c f l).block ≡ l.block)
changed_same c f keeps l = grind (arith, leaves_all)

pub found_changed : (b c : Block) (f : HandlerLog → HandlerLog) → LeavesHandler f → (logs : List BlockLog) → found b (map (changed_log c f) logs) ≡ found b logs
found_changed b c f keeps [] = refl
found_changed b c f keeps (l ∷ ls) = grind (arith, changed_same, option_map, found_changed b c f keeps ls)

found_behind : (b : Block) (logs : List BlockLog) (new : BlockLog) (hs : List HandlerId) → found b logs ≡ Some hs → found b (logs ++ new ∷ []) ≡ Some hs
found_behind b [] new hs e = absurd (cc)
found_behind b (l ∷ ls) new hs e = grind (arith, option_map, found_behind b ls new hs)

found_after : (x : Command) (c b : Block) (logs : List BlockLog) (hs : List HandlerId) → found b logs ≡ Some hs → found b (logs_after x c logs) ≡ Some hs
found_after (Reserve ks) c b logs hs e = found_behind b logs _ hs e
found_after (Call h r) c b logs hs e = found_changed b c (with_entry_at h (CallEntry r)) (leaves_at h (CallEntry r)) logs ∙ e
found_after (Query h r) c b logs hs e = found_changed b c (with_entry_at h (QueryEntry r)) (leaves_at h (QueryEntry r)) logs ∙ e
found_after End c b logs hs e = found_changed b c (with_entry EndEntry) (λ l. refl) logs ∙ e
found_after GiveUp c b logs hs e = e

-- a command leaves the handlers of a block
pub handlers_after : (x : Command) (c b : Block) (logs : List BlockLog) (hs : List HandlerId) → option_map handlers_in (find (is_log_of b) logs) ≡ Some hs
    → option_map handlers_in (find (is_log_of b) (logs_after x c logs)) ≡ Some hs
handlers_after = found_after

-- a block that has handlers after a reserve had them before, or the reserve is its own
found_before : (b : Block) (logs : List BlockLog) (new : BlockLog) (hs : List HandlerId) → found b (logs ++ new ∷ []) ≡ Some hs
    → (found b logs ≡ Some hs) ⊎ (new.block ≡ b)
found_before b [] new hs e = grind (arith, block_decides, option_map)
found_before b (l ∷ ls) new hs e = grind (arith, option_map, found_before b ls new hs)

-- the handlers before a command
pub handlers_before :
    (x : Command) (c b : Block) (logs : List BlockLog) (hs : List HandlerId) → option_map handlers_in (find (is_log_of b) (logs_after x c logs)) ≡ Some hs
    → (option_map handlers_in (find (is_log_of b) logs) ≡ Some hs) ⊎ (c ≡ b)
handlers_before (Reserve ks) c b logs hs e = found_before b logs _ hs e
handlers_before (Call h r) c b logs hs e = inl (sym (found_changed b c (with_entry_at h (CallEntry r)) (leaves_at h (CallEntry r)) logs) ∙ e)
handlers_before (Query h r) c b logs hs e = inl (sym (found_changed b c (with_entry_at h (QueryEntry r)) (leaves_at h (QueryEntry r)) logs) ∙ e)
handlers_before End c b logs hs e = inl (sym (found_changed b c (with_entry EndEntry) (λ l. refl) logs) ∙ e)
handlers_before GiveUp c b logs hs e = inl e

same_names : (hs : List HandlerId) → map (λ (x : HandlerLog). x.handler) (map fresh_log hs) ≡ hs
same_names [] = refl
same_names (h ∷ hs) = ap (λ ks. h ∷ ks) (same_names hs)

-- a new block has the handlers that its reserve names
pub handlers_fresh : (c : Block) (hs : List HandlerId) (logs : List BlockLog) → option_map handlers_in (find (is_log_of c) logs) ≡ None
    → option_map handlers_in (find (is_log_of c) (logs_after (Reserve hs) c logs)) ≡ Some hs
handlers_fresh c hs [] none = grind (arith, block_decides, same_names)
handlers_fresh c hs (l ∷ ls) none = grind (arith, handlers_fresh c hs ls)

pub handlers_stay : (w : World) (es : List Event) (b : Block) (hs : List HandlerId) → handlers_of b w ≡ Some hs → handlers_of b (steps w es) ≡ Some hs
handlers_stay w es b hs e =
    steps_kept (λ v. handlers_of b v ≡ Some hs)
    (λ v now. record {
      commands = λ c p x d at is. found_after x (newest_block d) b v.logs hs now;
      sends = λ c p h s at here. now;
      hears = λ i m s was goes here. now;
      notices = λ i m p was goes at. now;
      begins = λ h s t here is. now;
      finishes = λ h s t here is. now;
      restarts = λ c p at room. now;
      reopens = λ n. now;
    })
    w es e
