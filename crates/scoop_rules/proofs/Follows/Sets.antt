-- Whatever happens, a block names each of its handlers once.
use Rattle.scoop_rules.proofs.Names.{◌≡◌, List, [], ◌∷◌, ◌++◌, Some, None, refl, sym, ap, ◌∙◌, subst, Ok, Option, true, if◌then◌else◌, false, true≢false, ◌||◌}
use Rattle.scoop_rules.proofs.Names.{length, ◌==◌, Err, nat_lt, ⊎_elim, list_any-append, same_Some, handler_decides, same_handler, Block, HandlerId, CallEntry}
use Rattle.scoop_rules.proofs.Names.{QueryEntry, EndEntry, all_found, by_test, has, first_repeated, first_unknown, fresh, started, unless_repeated}
use Rattle.scoop_rules.proofs.Names.{ReservationState, ClientState, Command, newest_block, commanded_world, Placement, Newcomer, opening, with_entry_at, World}
use Rattle.scoop_rules.proofs.Names.{Party, is_party, handlers_of, or-true, first_repeated_after, Changes, Takes, takes_reserve, takes_call, takes_query}
use Rattle.scoop_rules.proofs.Names.{takes_end, takes_give_up, takes, next_is_new, PartyFits, Ordered, leaves_at, found_changed, handlers_before}
use Rattle.scoop_rules.proofs.Names.{handlers_fresh, with_entry}
use Rattle.scoop_model.proofs.Names.{MAX_BLOCK_HANDLERS}
use Rattle.scoop_rules.proofs.Follows.Facts.{AreDistinct}
use Rattle.scoop_reserve.specs.declared.error.ReserveError.TheVariants as refusal
use Rattle.scoop_client.specs.Commands as client

-- ---- handlers of which none is repeated

-- none of the list was seen before
abbrev AreNew : List HandlerId → List HandlerId → Type 0
AreNew before hs = (x : HandlerId) → has before x ≡ true → has hs x ≡ false

module _ (before : List HandlerId) (h : HandlerId) where
  in_before : (x : HandlerId) → has before x ≡ true → has (before ++ h ∷ []) x ≡ true
  in_before x m = list_any-append (λ y. same_handler y x) before (h ∷ []) ∙ ap (λ t. t || has (h ∷ []) x) m

  in_end : has (before ++ h ∷ []) h ≡ true
  in_end = list_any-append (λ y. same_handler y h) before (h ∷ []) ∙ ap (λ t. has before h || (t || false)) ((handler_decides h h).1 refl)
      ∙ or-true (has before h)

none_repeated : (before hs : List HandlerId) → first_repeated_after before hs ≡ None → AreDistinct hs × AreNew before hs
none_repeated before [] e = (tt, λ x m. refl)
none_repeated before (h ∷ hs) e =
    by_test (λ t. (if t then Some h else first_repeated_after (before ++ h ∷ []) hs) ≡ None → AreDistinct (h ∷ hs) × AreNew before (h ∷ hs))
    (has before h)
    (λ is f. absurd (cc))
    (λ is f.
    let later = none_repeated (before ++ h ∷ []) hs f in
    ((later.1 h (in_end before h), later.0), λ x m. both_new x m is (later.1 x (in_before before h x m)))) e
  where
    both_new : (x : HandlerId) → has before x ≡ true → has before h ≡ false → has hs x ≡ false → (same_handler h x || has hs x) ≡ false
    both_new x m is rest =
        by_test (λ t. (t || has hs x) ≡ false) (same_handler h x)
        (λ so. absurd (true≢false (sym m ∙ ap (has before) (sym ((handler_decides h x).0 so)) ∙ is)))
        (λ so. rest)

distinct_unless : (b : Block) (hs known : List HandlerId) (s : ReservationState) (o : Option HandlerId) → first_repeated hs ≡ o
    → unless_repeated (fresh b hs) o (first_unknown known hs) ≡ Ok s → AreDistinct hs
distinct_unless b hs known s None is e = (none_repeated [] hs is).0
distinct_unless b hs known s (Some h) is e = absurd (cc)

-- a reservation starts with handlers of which none is repeated
started_distinct : (b : Block) (hs known : List HandlerId) (s : ReservationState) → started b hs known ≡ Ok s → AreDistinct hs
started_distinct b hs known s e =
    by_test (λ t. (if t then Err refusal.Empty else if nat_lt MAX_BLOCK_HANDLERS (length hs) then Err refusal.TooMany
    else unless_repeated (fresh b hs) (first_repeated hs) (first_unknown known hs)) ≡ Ok s → AreDistinct hs) (length hs == 0)
    (λ none f. absurd (cc))
    (λ some f.
    by_test (λ t. (if t then Err refusal.TooMany else unless_repeated (fresh b hs) (first_repeated hs) (first_unknown known hs)) ≡ Ok s → AreDistinct hs)
    (nat_lt MAX_BLOCK_HANDLERS (length hs))
    (λ many g. absurd (cc))
    (λ few g. distinct_unless b hs known s (first_repeated hs) refl g) f) e

-- ---- the sets of a world

abbrev pub Sets : World → Type 0
Sets w = (b : Block) (hs : List HandlerId) → handlers_of b w ≡ Some hs → AreDistinct hs

takes_sets : (w : World) → Sets w → (p : Party) → PartyFits w p → (x : Command) (d : ClientState) → Takes p.client x d → Sets (commanded_world w p x d)
takes_sets w i p fits x d (takes_reserve ks at_idle begins) b hs e =
    let n : Block = client.next_block p.client in
    let none = next_is_new w p fits (handlers_of n w) refl in
    ⊎_elim
    (λ (old : handlers_of b w ≡ Some hs). i b hs old)
    (λ (own : n ≡ b).
    let named : Some ks ≡ Some hs = sym (handlers_fresh n ks w.logs none) ∙ ap (λ y. handlers_of y (commanded_world w p x d)) own ∙ e in
    subst AreDistinct (same_Some ks hs named) (started_distinct n ks p.client.handlers (fresh n ks) begins))
    (handlers_before x n b w.logs hs e)
takes_sets w i p fits x d (takes_call h r l running free window room) b hs e =
    i b hs (sym (found_changed b (newest_block d) (with_entry_at h (CallEntry r)) (leaves_at h (CallEntry r)) w.logs) ∙ e)
takes_sets w i p fits x d (takes_query h r l running free window room) b hs e =
    i b hs (sym (found_changed b (newest_block d) (with_entry_at h (QueryEntry r)) (leaves_at h (QueryEntry r)) w.logs) ∙ e)
takes_sets w i p fits x d (takes_end running free) b hs e = i b hs (sym (found_changed b (newest_block d) (with_entry EndEntry) (λ l. refl) w.logs) ∙ e)
takes_sets w i p fits x d (takes_give_up r held at) b hs e = i b hs e

pub sets_kept : (w : World) → Ordered w → Sets w → Changes Sets w
sets_kept w o i = record {
  commands = λ c p x d at is. takes_sets w i p (all_found (PartyFits w) (is_party c) w.parties p o.parties at) x d (takes p.client d x is);
  sends = λ c p h s at here. i;
  hears = λ k m s was goes here. i;
  notices = λ k m p was goes at. i;
  begins = λ h s t here is. i;
  finishes = λ h s t here is. i;
  restarts = λ c p at room. i;
  reopens = λ n. i;
}

pub opens_sets : (ps : List Placement) (ns : List Newcomer) → Sets (opening ps ns)
opens_sets ps ns = λ b hs e. absurd (cc)
