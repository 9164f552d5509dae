-- How a client's windows change beside the log: an entry more, an End more, and a count that is acknowledged. A window fits its
-- log where the acknowledged entries and the window's own, one after the other, are the log. Each change of a window is looked
-- at alone, and then among the windows of a block, of which one changes.
use Rattle.scoop_model.proofs.Names.{◌≡◌, ℕ, ◌+◌, ◌<◌, List, [], ◌∷◌, ◌++◌, map, Some, refl, sym, ap, ◌∙◌, subst, arith, ◌≤◌, find, option_map, true}
use Rattle.scoop_model.proofs.Names.{if◌then◌else◌, take, false, true≢false, length, ◌-◌, ◌^◌, nat_le, append_assoc, drop, length-append, length-drop}
use Rattle.scoop_model.proofs.Names.{take-append-drop, length-take-le, nat_tests, handler_decides, is_end, same_handler, HandlerId, Entry, CallEntry as Call}
use Rattle.scoop_model.proofs.Names.{QueryEntry as Query, EndEntry as End, ends-append, by_test, key_found, has, up_to, WindowState, logged, acknowledged}
use Rattle.scoop_model.proofs.Names.{window_of, at_window, with_entry, with_end, first_entries, fresh_window, is_ended, newly, up_to_end}
use Rattle.scoop_model.proofs.Logging.Facts.{WindowFits, IsLastQuery}

-- ---- which window is found

abbrev pub handlers_at : List WindowState → List HandlerId
handlers_at ls = map (λ (l : WindowState). l.handler) ls

-- a change of a window that leaves its handler
abbrev pub StaysAt : (WindowState → WindowState) → Type 0
StaysAt f = (l : WindowState) → (f l).handler ≡ l.handler

pub window_handler : (h : HandlerId) (ls : List WindowState) (l : WindowState) → window_of h ls ≡ Some l → l.handler ≡ h
window_handler h ls l found = key_found (λ (x : WindowState). x.handler) same_handler handler_decides h ls l found

pub window_in_all : (h : HandlerId) (f : WindowState → WindowState) → StaysAt f → (ls : List WindowState)
    → window_of h (map f ls) ≡ option_map f (window_of h ls)
window_in_all h f stays [] = refl
window_in_all h f stays (l ∷ ls) = grind (arith, window_in_all h f stays ls)

pub window_own : (k : HandlerId) (f : WindowState → WindowState) → StaysAt f → (ls : List WindowState)
    → window_of k (at_window k f ls) ≡ option_map f (window_of k ls)
window_own k f stays [] = refl
window_own k f stays (l ∷ ls) = grind (arith, window_own k f stays ls)

pub window_other : (k h : HandlerId) (f : WindowState → WindowState) → StaysAt f → (ls : List WindowState) → (k ≡ h → ⊥)
    → window_of h (at_window k f ls) ≡ window_of h ls
window_other k h f stays [] apart = refl
window_other k h f stays (l ∷ ls) apart = grind (arith, handler_decides, window_other k h f stays ls apart)

-- the cases of a window after one of them has changed: that one, and the others
pub by_window : (Q : HandlerId → WindowState → Type 0) (k : HandlerId) (f : WindowState → WindowState) → StaysAt f → (ls : List WindowState)
    → ((l : WindowState) → window_of k ls ≡ Some l → Q k (f l)) → ((h : HandlerId) (l : WindowState) → (k ≡ h → ⊥) → window_of h ls ≡ Some l → Q h l)
    → (h : HandlerId) (l : WindowState) → window_of h (at_window k f ls) ≡ Some l → Q h l
by_window Q k f stays ls own other h l found = grind (arith, handler_decides, window_own, true≢false, window_other, option_map)

-- the same, where all of them change
pub by_all : (Q : HandlerId → WindowState → Type 0) (f : WindowState → WindowState) → StaysAt f → (ls : List WindowState)
    → ((h : HandlerId) (l : WindowState) → window_of h ls ≡ Some l → Q h (f l)) → (h : HandlerId) (l : WindowState) → window_of h (map f ls) ≡ Some l → Q h l
by_all Q f stays ls each h l found = grind (arith, window_in_all, option_map)

pub handlers_at_window : (k : HandlerId) (f : WindowState → WindowState) → StaysAt f → (ls : List WindowState) → handlers_at (at_window k f ls) ≡ handlers_at ls
handlers_at_window k f stays [] = refl
handlers_at_window k f stays (l ∷ ls) = grind (arith, handlers_at_window k f stays ls)

pub handlers_in_all : (f : WindowState → WindowState) → StaysAt f → (ls : List WindowState) → handlers_at (map f ls) ≡ handlers_at ls
handlers_in_all f stays [] = refl
handlers_in_all f stays (l ∷ ls) = λ i. stays l i ∷ handlers_in_all f stays ls i

pub handlers_fresh_windows : (hs : List HandlerId) → handlers_at (map fresh_window hs) ≡ hs
handlers_fresh_windows [] = refl
handlers_fresh_windows (h ∷ hs) = ap (λ ks. h ∷ ks) (handlers_fresh_windows hs)

pub fresh_found : (hs : List HandlerId) (h : HandlerId) (l : WindowState) → window_of h (map fresh_window hs) ≡ Some l → fresh_window h ≡ l
fresh_found [] h l e = absurd (cc)
fresh_found (k ∷ ks) h l e = grind (arith, handler_decides, fresh_found ks h l)

-- where the items of two lists are of the same handlers, a handler that has one has the other
pub same_found : {A B : Type 0} (a_of : A → HandlerId) (b_of : B → HandlerId) (h : HandlerId) (xs : List A) (ys : List B) (x : A) → map a_of xs ≡ map b_of ys
    → find (λ a. same_handler (a_of a) h) xs ≡ Some x → (y : B) × (find (λ b. same_handler (b_of b) h) ys ≡ Some y)
same_found a_of b_of h [] ys x same e = absurd (cc)
same_found a_of b_of h (a ∷ xs) [] x same e = absurd (cc)
same_found {A} {B} a_of b_of h (a ∷ xs) (b ∷ ys) x same e =
    let first : a_of a ≡ b_of b = cc in
    let rest : map a_of xs ≡ map b_of ys = cc in
    subst (λ j. (y : B) × ((if same_handler j h then Some b else find (λ z. same_handler (b_of z) h) ys) ≡ Some y)) first
    (by_test (λ t. (if t then Some a else find (λ z. same_handler (a_of z) h) xs) ≡ Some x → (y : B)
    × ((if t then Some b else find (λ z. same_handler (b_of z) h) ys) ≡ Some y)) (same_handler (a_of a) h)
    (λ here f. (b, refl))
    (λ there f. same_found a_of b_of h xs ys x rest f) e)

-- a handler that has an item is among the handlers
pub found_has : {A : Type 0} (handler : A → HandlerId) (h : HandlerId) (xs : List A) (x : A) → find (λ a. same_handler (handler a) h) xs ≡ Some x
    → has (map handler xs) h ≡ true
found_has handler h [] x e = absurd (cc)
found_has handler h (a ∷ xs) x e = grind (arith, found_has handler h xs x)

-- no window has ended
pub not_ended : (h : HandlerId) (ls : List WindowState) (l : WindowState) → is_ended ls ≡ false → window_of h ls ≡ Some l → l.ended ≡ false
not_ended h [] l none e = absurd (cc)
not_ended h (y ∷ ys) l none e = grind (arith, not_ended h ys l)

-- ---- a window beside its log

pub fits_fresh : (h : HandlerId) → WindowFits [] (fresh_window h)
fits_fresh h = record { acknowledged = []; all = refl; count = refl; ended = refl; numbers = record { last = omega arith; end = λ e. omega arith } }

room_left : (n : ℕ) → nat_le (2 ^ 32 - 2) n ≡ false → n + 2 < 2 ^ 32
room_left n e = let l : n < 2 ^ 32 - 2 = grind (arith, nat_tests) in omega (arith, l)

pub fits_logged :
    (log : List Entry) (l : WindowState) (e : Entry) → WindowFits log l → l.ended ≡ false → is_end e ≡ false → nat_le (2 ^ 32 - 2) (logged l) ≡ false
    → WindowFits (log ++ e ∷ []) (with_entry e l)
fits_logged log l e f more no_end free = grind (arith, append_assoc, ends-append, length-append, room_left)

pub fits_ended : (log : List Entry) (l : WindowState) → WindowFits log l → l.ended ≡ false → WindowFits (log ++ End ∷ []) (with_end l)
fits_ended log l f more = grind (arith, append_assoc, ends-append, length-append)

pub newly_within : (k : ℕ) (l : WindowState) → newly k l ≤ length l.unacked
newly_within k l = omega arith

-- acknowledging moves nothing in the log
pub acknowledged_logged : (k : ℕ) (l : WindowState) → logged (acknowledged k l) ≡ logged l
acknowledged_logged k l = grind (arith, length-drop, newly_within)

pub fits_acknowledged : (log : List Entry) (k : ℕ) (l : WindowState) → WindowFits log l → WindowFits log (acknowledged k l)
fits_acknowledged log k l f =
    let n = newly k l in
    let within = newly_within k l in
    let gone = f.acknowledged ++ take n l.unacked in
    let long : length gone ≡ length f.acknowledged + length (take n l.unacked) = length-append f.acknowledged (take n l.unacked) in
    let some : length (take n l.unacked) ≡ n = length-take-le n l.unacked within in
    let total = acknowledged_logged k l in
    let last = f.numbers.last in
    record {
      acknowledged = gone;
      all = append_assoc f.acknowledged (take n l.unacked) (drop n l.unacked) ∙ ap (λ xs. f.acknowledged ++ xs) (take-append-drop n l.unacked) ∙ f.all;
      count = omega (arith, long, some, f.count);
      ended = f.ended;
      numbers = record { last = omega (arith, total, last); end = λ e. (let end = f.numbers.end e in omega (arith, total, end)) };
    }

-- ---- a query that waits

pub query_logged : (log : List Entry) (l : WindowState) (r : _) → IsLastQuery (log ++ Query r ∷ []) (with_entry (Query r) l) (logged l + 1)
query_logged log l r = grind (arith, length-append)

-- a count stays below the query that waits
up_to_below : (h : HandlerId) (n q : ℕ) → 0 < q → up_to h n (Some (h, q)) < q
up_to_below h n q pos = grind (arith, nat_le, nat_tests, true≢false, handler_decides)

pub query_acknowledged : (log : List Entry) (h : HandlerId) (n q : ℕ) (l : WindowState) → nat_le (up_to h n (Some (h, q))) l.acked ≡ false → IsLastQuery log l q
    → IsLastQuery log (acknowledged (up_to h n (Some (h, q))) l) q
query_acknowledged log h n q l new is = grind (arith, up_to_below, nat_tests, acknowledged_logged)

-- ---- the entries of one Log

first_part : (es : List Entry) → (rest : List Entry) × (up_to_end es ++ rest ≡ es)
first_part [] = ([], refl)
first_part (Call r ∷ es) = let p = first_part es in (p.0, ap (λ xs. Call r ∷ xs) p.1)
first_part (Query r ∷ es) = let p = first_part es in (p.0, ap (λ xs. Query r ∷ xs) p.1)
first_part (End ∷ es) = (es, refl)

-- a Log carries the first entries that aren't acknowledged
pub first_of_all : (batch : ℕ) (es : List Entry) → (rest : List Entry) × (first_entries batch es ++ rest ≡ es)
first_of_all batch es =
    let p = first_part (take batch es) in
    (p.0 ++ drop batch es, sym (append_assoc (first_entries batch es) p.0 (drop batch es)) ∙ ap (λ xs. xs ++ drop batch es) p.1 ∙ take-append-drop batch es)
