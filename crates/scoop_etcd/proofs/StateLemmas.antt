-- The states of handlers in an etcd: each value is that of one state at most, and what a put changes.
use Rattle.std.proofs.Common.{◌≡◌, ◌≢◌, ◌↔◌, ℕ, ◌==◌, ◌^◌, ◌<◌, nat_lt, true, List, [], ◌∷◌, ◌++◌, map, length, take, drop, Option, Some, None, refl, sym, ap, ◌∙◌, subst}
use Rattle.std.specs.Prelude.{if◌then◌else◌}
use Rattle.std.specs.Option.{option_or}
use Rattle.std.specs.List.{AllByRecursion}
use Rattle.std.proofs.lemmas.Bool.{lt-ltb, ltb-true}
use Rattle.std.proofs.lemmas.Bool.Decides.{Decides-eqb}
use Rattle.std.proofs.lemmas.List.{take_at, drop_at}
use Rattle.scoop_etcd_calls.specs.declared.calls.Txn.{Txn}
use Rattle.scoop_etcd_calls.specs.declared.calls.Outcome.{Outcome}
use Rattle.scoop_message.specs.declared.name.HandlerId.{HandlerId}
use Rattle.scoop_handler.specs.State.{HandlerState}
use Rattle.scoop_handler.proofs.Basics.{all_both, by_test}
use Rattle.scoop_keeper.specs.Keeper.{Stored, Missing, Holds, Damaged, IsTheOne, Stays, IsSame}
use Rattle.scoop_record.specs.Gathering.{last_of, Over, OverOne}
use Rattle.scoop_record.specs.Reading.{IsStored}
use Rattle.scoop_record.proofs.Firsts.{word_apart}
use Rattle.scoop_record.proofs.Stored.{same_state}
use Rattle.scoop_record.proofs.StoredLemmas.{same_id}
use Rattle.scoop_etcd.specs.Etcd.{Answers, Bytes, Contents, HasValue, Holds as HoldsIn, Puts, SameKeys, TransactsAs, conditions_of, entries_of, kept, value_of}
use Rattle.scoop_etcd.specs.Keys.{handler_key, client_key, owner_key}
use Rattle.scoop_etcd.specs.declared.keys.Owner.{Owner}
use Rattle.scoop_etcd.specs.Packed.{IsPacked, packed}
use Rattle.scoop_etcd.specs.Owning.{StoreKeys, value_under}
use Rattle.scoop_etcd.specs.Incarnation.{incs_in}
use Rattle.scoop_etcd.specs.States.{Commits, Has, IsStateOf, IsWritable, handlers_in, state_bytes, state_condition, state_entry, state_value}
use Rattle.scoop_etcd.proofs.KeyLemmas.{handler_same, handler_no_client, owner_no_handler, owner_no_client}
use Rattle.scoop_etcd.proofs.IncarnationLemmas.{same_incs}

-- ---- a value is that of one state

pub packed_same : (value a b c d : Bytes) → IsPacked value a b → IsPacked value c d → (a ≡ c) × (b ≡ d)
packed_same value a b c d p q =
    let apart = word_apart (length a) (length c) (a ++ b) (c ++ d) p.fits q.fits (sym p.is ∙ q.is) in (
      sym (take_at a b (length a) refl) ∙ ap (take (length a)) apart.1 ∙ take_at c d (length a) (sym apart.0),
      sym (drop_at a b (length a) refl) ∙ ap (drop (length a)) apart.1 ∙ drop_at c d (length a) (sym apart.0),
    )

-- a state that has the value has any image and entries that the value is packed of
pub its_parts : (handler : HandlerId) (value image entries : Bytes) (s : HandlerState) → IsPacked value image entries → IsStateOf handler.0 value s
    → IsStored handler image entries s
its_parts handler value image entries s packed is =
    let same = packed_same value is.image is.entries image entries is.packed packed in
    subst (λ n. IsStored n image entries s) (same_id s.number handler is.number)
    (subst (λ row. IsStored s.number image row s) same.1 (subst (λ bytes. IsStored s.number bytes is.entries s) same.0 is.stored))

pub one_state : (handler : ℕ) (value : Bytes) (s t : HandlerState) → IsStateOf handler value s → IsStateOf handler value t → t ≡ s
one_state handler value s t p q =
    same_state t.number q.image q.entries t s q.stored
    (its_parts t.number value q.image q.entries s q.packed (subst (λ n. IsStateOf n value s) (sym q.number) p))

pub missing_one : (handler : ℕ) → IsTheOne (Has handler None) Missing
unfolding Has
missing_one handler = record { there = refl; only = λ other is. is }

pub holds_one : (handler : ℕ) (value : Bytes) (s : HandlerState) → IsStateOf handler value s → IsTheOne (Has handler (Some value)) (Holds s)
unfolding Has
holds_one handler value s is = record { there = is; only = only }
  where
    only : (other : Stored) → Has handler (Some value) other → other ≡ Holds s
    only Missing h = absurd h
    only (Holds t) h = ap Holds (one_state handler value s t is h)
    only Damaged h = absurd (h s is)

pub damaged_one : (handler : ℕ) (value : Bytes) → ((s : HandlerState) → IsStateOf handler value s → ⊥) → IsTheOne (Has handler (Some value)) Damaged
unfolding Has
damaged_one handler value none = record { there = none; only = only }
  where
    only : (other : Stored) → Has handler (Some value) other → other ≡ Damaged
    only Missing h = absurd h
    only (Holds t) h = absurd (none t h)
    only Damaged h = refl

-- the image and the entries of a state, packed, are its bytes
pub packed_state : (s : HandlerState) (image entries value : Bytes) → IsStored s.number image entries s → IsPacked value image entries
    → (value ≡ state_bytes s) × IsWritable s
packed_state s image entries value stored packed_is =
    let bytes : value ≡ state_bytes s = packed_is.is ∙ (λ i. packed (stored.image i) (stored.pending i)) in (
      bytes,
      subst (λ v. IsStateOf s.number.0 v s) bytes
          (record { number = refl; image = image; entries = entries; packed = packed_is; stored = stored }),
    )

-- ---- the last state of a handler

all_mapped : {A B : Type 0} (P : B → Type 0) (f : A → B) (xs : List A) → AllByRecursion P (map f xs) → AllByRecursion (λ x. P (f x)) xs
all_mapped P f [] all = tt
all_mapped P f (x ∷ xs) all = (all.0, all_mapped P f xs all.1)

-- a transaction that stores states, once it has succeeded
pub commits_by : {IsAlone : Type 0} (old new : Contents) (keys : StoreKeys) (known : List (ℕ × ℕ)) (states : List HandlerState) (txn : Txn) (outcome : Outcome)
    → conditions_of txn ≡ HasValue keys.owner keys.token ∷ map (state_condition keys.name known) states
    → entries_of txn ≡ map (state_entry keys.name) states → AllByRecursion IsWritable states → Answers IsAlone old new txn outcome
    → outcome.succeeded ≡ true → Commits IsAlone old new keys known states
commits_by old new keys known states txn outcome conditions entries writable answers succeeded =
    let made = subst (λ b. TransactsAs b answers.met new (conditions_of txn) (entries_of txn)) succeeded answers.transacts.result in
    let held = subst (AllByRecursion (HoldsIn answers.met)) conditions made.0 in
    record {
      met = answers.met;
      own = answers.own;
      owns = held.0;
      stood = all_mapped (HoldsIn answers.met) (state_condition keys.name known) states held.1;
      writable = writable;
      puts = subst (Puts answers.met new) entries made.1;
    }

-- a commit, seen from contents before it, if nothing has changed in between
pub commits_after : {IsAlone : Type 0} (old mid new : Contents) (keys : StoreKeys) (known : List (ℕ × ℕ)) (states : List HandlerState)
    → Commits IsAlone mid new keys known states → (IsAlone → SameKeys old mid) → Commits IsAlone old new keys known states
commits_after old mid new keys known states commits same = record {
  met = commits.met;
  own = λ alone. commits.own alone ∙ same alone;
  owns = commits.owns;
  stood = commits.stood;
  writable = commits.writable;
  puts = commits.puts;
}

-- it is the handler's, and among the states
record IsLast (P : HandlerState → Type 0) (handler : ℕ) (s : HandlerState) : Type 0 where
  number : s.number.0 ≡ handler
  holds : P s

last_is : (P : HandlerState → Type 0) (handler : ℕ) (xs : List HandlerState) (s : HandlerState) → AllByRecursion P xs → last_of handler xs ≡ Some s
    → IsLast P handler s
last_is P handler [] s all is = absurd cc
last_is P handler (x ∷ xs) s all is = go (last_of handler xs) refl (last_is P handler xs s all.1) is
  where
    here : x.number.0 ≡ handler → Some x ≡ Some s → IsLast P handler s
    here own e = let same : x ≡ s = cc in subst (IsLast P handler) same (record { number = own; holds = all.0 })

    go : (o : Option HandlerState) → last_of handler xs ≡ o → (last_of handler xs ≡ Some s → IsLast P handler s)
        → option_or o (if x.number.0 == handler then Some x else None) ≡ Some s → IsLast P handler s
    go (Some y) later more e = more (later ∙ e)
    go None later more e =
        by_test (λ t. x.number.0 == handler ≡ t → (if t then Some x else None) ≡ Some s → IsLast P handler s) (x.number.0 == handler)
        (λ _ own f. here ((Decides-eqb x.number.0 handler).0 own) f) (λ _ own f. absurd cc) refl e

last_none : (handler : ℕ) (xs : List HandlerState) → last_of handler xs ≡ None → AllByRecursion (λ x. x.number.0 ≢ handler) xs
last_none handler [] none = tt
last_none handler (x ∷ xs) none = go (last_of handler xs) refl (last_none handler xs) none
  where
    go : (o : Option HandlerState) → last_of handler xs ≡ o → (last_of handler xs ≡ None → AllByRecursion (λ y. y.number.0 ≢ handler) xs)
        → option_or o (if x.number.0 == handler then Some x else None) ≡ None → AllByRecursion (λ y. y.number.0 ≢ handler) (x ∷ xs)
    go (Some y) later more e = absurd cc
    go None later more e = (
      λ own. let is : x.number.0 == handler ≡ true = (Decides-eqb x.number.0 handler).1 own in let f = rw is at e in cc,
      more later,
    )

-- ---- the changes by a put

-- handlers whose keys stay keep their states
pub same_states : (name : Bytes) (old new : Contents) → ((handler : ℕ) → new.under (handler_key name handler) ≡ old.under (handler_key name handler))
    → Stays (handlers_in name old) (handlers_in name new)
same_states name old new same = record {
  each = λ handler v. let e : state_value name new handler ≡ state_value name old handler =
      ap (λ found. if nat_lt handler (2 ^ 32) then value_of found else None) (same handler) in
      (subst (λ o. Has handler o v) (sym e), subst (λ o. Has handler o v) e);
}

apart_from : (name : Bytes) (handler : ℕ) (xs : List HandlerState) → handler < 2 ^ 32 → AllByRecursion IsWritable xs
    → AllByRecursion (λ x. x.number.0 ≢ handler) xs → AllByRecursion (λ e. e.0 ≢ handler_key name handler) (map (state_entry name) xs)
apart_from name handler [] lt writable others = tt
apart_from name handler (x ∷ xs) lt writable others = (
  λ e. others.0 (handler_same name x.number.0 handler writable.0.stored.range.parts.number lt e),
  apart_from name handler xs lt writable.1 others.1,
)

no_client : (name : Bytes) (client : ℕ) (xs : List HandlerState) → AllByRecursion (λ e. e.0 ≢ client_key name client) (map (state_entry name) xs)
no_client name client [] = tt
no_client name client (x ∷ xs) = (handler_no_client name x.number.0 client, no_client name client xs)

-- the states of a commit
module _ (name : Bytes) (old new : Contents) (states : List HandlerState) (writable : AllByRecursion IsWritable states)
    (puts : Puts old new (map (state_entry name) states)) where
  abbrev IsThere : HandlerState → Type 0
  IsThere s = new.under (handler_key name s.number.0) ≡ Some (kept (state_bytes s) new.revision)

  both : AllByRecursion (λ s. IsWritable s × IsThere s) states
  both =
      all_both IsWritable IsThere (λ s. IsWritable s × IsThere s) (λ s w t. (w, t)) states writable
      (all_mapped (λ e. new.under e.0 ≡ Some (kept e.1 new.revision)) (state_entry name) states puts.there)

  put_one : (handler : ℕ) (v : Stored) (o : Option HandlerState) → last_of handler states ≡ o
      → OverOne o (handlers_in name old handler v) v ↔ handlers_in name new handler v
  put_one handler v (Some s) is =
      let last = last_is (λ x. IsWritable x × IsThere x) handler states s both is in
      let lt : handler < 2 ^ 32 = subst (λ n. n < 2 ^ 32) last.number last.holds.0.stored.range.parts.number in
      let value : state_value name new handler ≡ Some (state_bytes s) =
      rw (lt-ltb handler (2 ^ 32) lt) (ap (λ n. value_under new (handler_key name n)) (sym last.number) ∙ ap value_of last.holds.1) in
      let one = holds_one handler (state_bytes s) s (subst (λ n. IsStateOf n (state_bytes s) s) last.number last.holds.0) in (
        λ e. subst (λ w. Has handler w v) (sym value) (subst (Has handler (Some (state_bytes s))) (sym e) one.there),
        λ h. one.only v (subst (λ w. Has handler w v) value h),
      )
  put_one handler v None none =
      let same : state_value name new handler ≡ state_value name old handler =
      by_test (λ t. nat_lt handler (2 ^ 32) ≡ t → (if t then value_under new (handler_key name handler) else None)
      ≡ (if t then value_under old (handler_key name handler) else None)) (nat_lt handler (2 ^ 32))
      (λ _ is. ap value_of (puts.others (handler_key name handler)
      (apart_from name handler states (ltb-true handler (2 ^ 32) is) writable (last_none handler states none))))
      (λ _ _. refl) refl in
      (subst (λ o. Has handler o v) (sym same), subst (λ o. Has handler o v) same)

  pub put_states : Stays (Over states (handlers_in name old)) (handlers_in name new)
  put_states = record { each = λ handler v. put_one handler v (last_of handler states) refl }

  pub put_states_incs : IsSame (incs_in name old) (incs_in name new)
  put_states_incs = same_incs name old new (λ client. puts.others (client_key name client) (no_client name client states))

-- an incarnation
pub put_inc_states : (name : Bytes) (old new : Contents) (client : ℕ) (digits : Bytes) → Puts old new ((client_key name client, digits) ∷ [])
    → Stays (handlers_in name old) (handlers_in name new)
put_inc_states name old new client digits puts =
    same_states name old new (λ handler. puts.others (handler_key name handler) ((λ e. handler_no_client name handler client (sym e)), tt))

-- a token
pub put_token_states : (name : Bytes) (owner : Owner) (old new : Contents) (token : Bytes) → Puts old new ((owner_key name owner, token) ∷ [])
    → Stays (handlers_in name old) (handlers_in name new)
put_token_states name owner old new token puts =
    same_states name old new (λ handler. puts.others (handler_key name handler) (owner_no_handler name owner handler, tt))

pub put_token_incs : (name : Bytes) (owner : Owner) (old new : Contents) (token : Bytes) → Puts old new ((owner_key name owner, token) ∷ [])
    → IsSame (incs_in name old) (incs_in name new)
put_token_incs name owner old new token puts =
    same_incs name old new (λ client. puts.others (client_key name client) (owner_no_client name owner client, tt))
