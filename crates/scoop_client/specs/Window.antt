-- The entries that a client has logged at one handler.
use Rattle.std.specs.Prelude.{◌≡◌, ℕ, ◌+◌, ◌-◌, ◌^◌, ◌<◌, min, Bool, true, false, not, ◌&&◌, ◌||◌, ◌==◌, nat_le, if◌then◌else◌, List, [], ◌∷◌, ◌++◌, length}
use Rattle.std.specs.Prelude.{take, drop, find, slice_index_or, slice_set, Option, Some, None}
use Rattle.std.specs.List.{list_any, list_all}
use Rattle.std.specs.Option.{option_map}
use Rattle.scoop_message.specs.declared.limits.TheConstants.{MAX_UNACKNOWLEDGED}
use Rattle.scoop_message.specs.declared.name.HandlerId.{HandlerId}
use Rattle.scoop_message.specs.declared.request.Entry.{Entry}
use Rattle.scoop_message.specs.declared.request.Entry.TheVariants.{End}
use Rattle.scoop_message.specs.Entry.{is_end}
use Rattle.scoop_message.specs.Message.{same_handler}

-- the number of acknowledged entries, whether the End is logged, and the other entries, oldest first
pub record WindowState : Type 0 where
  pub handler : HandlerId
  pub acked : ℕ
  pub ended : Bool
  pub unacked : List Entry

-- nothing is logged
abbrev pub fresh_window : HandlerId → WindowState
fresh_window h = record { handler = h; acked = 0; ended = false; unacked = [] }

-- the number of logged entries, which is that of the last one
abbrev pub logged : WindowState → ℕ
logged l = l.acked + length l.unacked

abbrev pub is_full : WindowState → Bool
is_full l = nat_le MAX_UNACKNOWLEDGED (length l.unacked)

abbrev pub with_entry : Entry → WindowState → WindowState
with_entry e l = record l { unacked = l.unacked ++ e ∷ [] }

abbrev pub with_end : WindowState → WindowState
with_end l = record l { ended = true; unacked = l.unacked ++ End ∷ [] }

-- the number of entries that a count newly acknowledges
abbrev pub newly : ℕ → WindowState → ℕ
newly n l = min (n - l.acked) (length l.unacked)

-- the entries up to number n are acknowledged
abbrev pub acknowledged : ℕ → WindowState → WindowState
acknowledged n l = record l { acked = l.acked + newly n l; unacked = drop (newly n l) l.unacked }

-- the End is logged and acknowledged, and so are all entries before it
abbrev pub is_over : WindowState → Bool
is_over l = l.ended && length l.unacked == 0

-- the entries up to the first End
abbrev pub up_to_end : List Entry → List Entry
up_to_end [] = []
up_to_end (e ∷ es) = if is_end e then e ∷ [] else e ∷ up_to_end es

-- the entries of one Log: the first ones, at most `batch`
abbrev pub first_entries : ℕ → List Entry → List Entry
first_entries batch es = up_to_end (take batch es)

-- an entry's number has 32 bits, and the End's has too
pub record IsNumberable (acked : ℕ) (ended : Bool) (unacked : List Entry) : Type 0 where
  pub last : acked + length unacked < 2 ^ 32
  pub end : ended ≡ false → acked + length unacked + 1 < 2 ^ 32

-- one more call or query has room in the window, and its number leaves one for the End
pub record HasRoom (l : WindowState) : Type 0 where
  pub room : is_full l ≡ false
  pub number : logged l + 2 < 2 ^ 32

-- ---- the windows of all handlers of a block

abbrev pub window_of : HandlerId → List WindowState → Option WindowState
window_of h ls = find (λ l. same_handler l.handler h) ls

-- the window of one handler changes
abbrev pub at_window : HandlerId → (WindowState → WindowState) → List WindowState → List WindowState
at_window h f [] = []
at_window h f (l ∷ ls) = if same_handler l.handler h then f l ∷ ls else l ∷ at_window h f ls

abbrev pub is_ended : List WindowState → Bool
is_ended ls = list_any (λ l. l.ended) ls

abbrev pub all_over : List WindowState → Bool
all_over ls = list_all is_over ls

-- no full window is at a lower handler
abbrev pub is_lowest_full : List WindowState → WindowState → Bool
is_lowest_full ls l = is_full l && list_all (λ x. not (is_full x) || nat_le l.handler.0 x.handler.0) ls

-- the lowest handler whose window is full
abbrev pub lowest_full : List WindowState → Option HandlerId
lowest_full ls = option_map (λ l. l.handler) (find (is_lowest_full ls) ls)

-- the place of a handler's first window: lookups find it there, and it is the one that changes
pub record IsPlaceOf (h : HandlerId) (ls : List WindowState) (i : ℕ) : Type 0 where
  pub within : i < length ls
  pub window : (d : WindowState) → window_of h ls ≡ Some (slice_index_or ls i d)
  pub change : (f : WindowState → WindowState) (d : WindowState) → at_window h f ls ≡ slice_set ls i (f (slice_index_or ls i d))

-- a handler without a window
pub record IsNowhere (h : HandlerId) (ls : List WindowState) : Type 0 where
  pub window : window_of h ls ≡ None
  pub change : (f : WindowState → WindowState) → at_window h f ls ≡ ls
