-- Changes of the tables, as changes of a record's contents.
use Rattle.std.proofs.Common.{Result, Ok, Err, OnOk, OnErr, IfOk, List, [], ◌∷◌, ◌≡◌, ◌↔◌, ℕ, ◌≤◌, Option, Some, option_map, refl, sym, subst, ap, ◌∙◌, arith}
use Rattle.sqlite_value.specs.declared.value.Value.{Value}
use Rattle.sqlite_value.specs.declared.value.Value.TheVariants.{Blob}
use Rattle.sqlite.specs.Effect.{Database}
use Rattle.sqlite.specs.State.{State}
use Rattle.scoop_handler.specs.State.{HandlerState}
use Rattle.scoop_record.specs.Reading.{IsStored}
use Rattle.scoop_keeper.specs.Keeper.{Stored, Stays, Keeps, IsSame, Sets, next_of, last_incarnation}
use Rattle.scoop_record.specs.Tables.{handlers, clients, pending, value_at}
use Rattle.scoop_record.specs.Among.{HasTable, HasRecordTables, PutsAmong, KeepsOthers, handlers_tree, clients_tree, pending_tree}
use Rattle.scoop_record.specs.Store.{inc_in, incs_in, Has, handlers_in, IsRecord, IsSound, IsReady, PutsBoth, Saves, Advances}
use Rattle.scoop_record.proofs.among.Apart.{kept_at, handlers_clients, handlers_pending, clients_pending}
use Rattle.scoop_record.proofs.among.Others.{both_others, put_others}

-- a handler's contents rest on its two rows alone
same_has : (handler : ℕ) (a b c d : Option Value) (v : Stored) → c ≡ a → d ≡ b → Has handler a b v ↔ Has handler c d v
same_has handler a b c d v one two = rw (one, two) ((λ h. h), (λ h. h))

-- two puts into a record, for a handler, leave this
module _ (old mid new : Database) (handler : ℕ) (bytes row : List ℕ) (has : IsRecord old)
    (first : PutsAmong old mid (handlers_tree old.schema) handler (Blob bytes)) (second : PutsAmong mid new (pending_tree old.schema) handler (Blob row)) where
  pub schema_after : new.schema ≡ old.schema
  schema_after = second.schema ∙ first.schema

  pub images_after : new.trees (handlers_tree new.schema) ≡ mid.trees (handlers_tree old.schema)
  images_after = ap (λ s. new.trees (handlers_tree s)) schema_after
      ∙ kept_at mid new (pending_tree old.schema) handler (Blob row) second (handlers (handlers_tree old.schema))
      (subst (λ s. HasTable s (handlers (handlers_tree old.schema))) (sym first.schema) has.first.has_handlers) (handlers_pending old.schema has)

  pub entries_before : mid.trees (pending_tree old.schema) ≡ old.trees (pending_tree old.schema)
  entries_before = kept_at old mid (handlers_tree old.schema) handler (Blob bytes) first (pending (pending_tree old.schema)) has.has_pending
      (λ same. handlers_pending old.schema has (sym same))

  pub clients_after : new.trees (clients_tree new.schema) ≡ old.trees (clients_tree old.schema)
  clients_after = ap (λ s. new.trees (clients_tree s)) schema_after
      ∙ kept_at mid new (pending_tree old.schema) handler (Blob row) second (clients (clients_tree old.schema))
      (subst (λ s. HasTable s (clients (clients_tree old.schema))) (sym first.schema) has.first.has_clients) (clients_pending old.schema has)
      ∙ kept_at old mid (handlers_tree old.schema) handler (Blob bytes) first (clients (clients_tree old.schema)) has.first.has_clients
      (λ same. handlers_clients old.schema has.first (sym same))

  pub entries_after : new.trees (pending_tree new.schema) ≡ new.trees (pending_tree old.schema)
  entries_after = ap (λ s. new.trees (pending_tree s)) schema_after

-- a record stays one
pub record_saved : (old new : Database) (s : HandlerState) → IsRecord old → Saves old new s → IsRecord new
record_saved old new s has (mid, first, second) = subst HasRecordTables (sym (second.schema ∙ first.schema)) has

-- the state whose rows were put is there
pub saved : (old new : Database) (s : HandlerState) (bytes row : List ℕ) → IsRecord old → IsStored s.number bytes row s
    → PutsBoth old new s.number.0 bytes row → Keeps (handlers_in old) (handlers_in new) s
unfolding Has handlers_in
saved old new s bytes row has stored (mid, first, second) =
    let images = images_after old mid new s.number.0 bytes row has first second in
    let entries = entries_after old mid new s.number.0 bytes row has first second in
    let before = entries_before old mid new s.number.0 bytes row has first second in
    record {
      there = record {
        number = refl;
        bytes = bytes;
        row = row;
        there = ap (λ rows. value_at rows s.number.0) images ∙ first.there;
        beside = ap (λ rows. value_at rows s.number.0) entries ∙ second.there;
        stored = stored;
      };
      others = λ other apart v. same_has other _ _ _ _ v (ap (λ rows. value_at rows other) images ∙ first.others other apart)
          (ap (λ rows. value_at rows other) entries ∙ second.others other apart ∙ ap (λ rows. value_at rows other) before);
    }

pub saved_incs : (old new : Database) (handler : ℕ) (bytes row : List ℕ) → IsRecord old → PutsBoth old new handler bytes row
    → IsSame (incs_in old) (incs_in new)
unfolding incs_in
saved_incs old new handler bytes row has (mid, first, second) = record {
  each = λ client. ap (λ rows. option_map inc_in (value_at rows client)) (clients_after old mid new handler bytes row has first second);
}

-- the incarnation that was put is there
pub advanced : (old new : Database) (client inc : ℕ) → inc ≤ last_incarnation → inc ≡ next_of (incs_in old client) → Advances old new client
    → Sets (incs_in old) (incs_in new) client inc
unfolding incs_in
advanced old new client inc low is put =
    let same : new.trees (clients_tree new.schema) ≡ new.trees (clients_tree old.schema) = ap (λ s. new.trees (clients_tree s)) put.schema in
    record {
      there = rw (same, put.there, ← is) (ap Some (omega (arith, low)));
      others = λ other apart. ap (option_map inc_in) (ap (λ rows. value_at rows other) same ∙ put.others other apart);
    }

pub advanced_handlers : (old new : Database) (client : ℕ) → IsRecord old → Advances old new client → Stays (handlers_in old) (handlers_in new)
unfolding handlers_in
advanced_handlers old new client has put =
    let images : new.trees (handlers_tree new.schema) ≡ old.trees (handlers_tree old.schema) = ap (λ s. new.trees (handlers_tree s)) put.schema
    ∙ kept_at old new (clients_tree old.schema) client _ put (handlers (handlers_tree old.schema)) has.first.has_handlers
    (handlers_clients old.schema has.first) in
    let entries : new.trees (pending_tree new.schema) ≡ old.trees (pending_tree old.schema) = ap (λ s. new.trees (pending_tree s)) put.schema
    ∙ kept_at old new (clients_tree old.schema) client _ put (pending (pending_tree old.schema)) has.has_pending
    (λ same. clients_pending old.schema has (sym same)) in
    record {
      each = λ handler v. same_has handler _ _ _ _ v (ap (λ rows. value_at rows handler) images) (ap (λ rows. value_at rows handler) entries);
    }

-- where the database is the same, so is what it has
pub stays : (old new : Database) → new ≡ old → Stays (handlers_in old) (handlers_in new)
stays old new same = record { each = λ handler v. rw same ((λ h. h), (λ h. h)) }

pub incs_stay : (old new : Database) → new ≡ old → IsSame (incs_in old) (incs_in new)
incs_stay old new same = record { each = λ client. ap (λ (d : Database). incs_in d client) same }

pub saved_if : {E : Type 0} (r : Result (Unit {0}) E) (old new : Database) (s : HandlerState) (handler : ℕ) (bytes row b w : List ℕ) → handler ≡ s.number.0
    → bytes ≡ b → row ≡ w → IsRecord old → IsStored s.number b w s
    → OnOk r (PutsBoth old new handler bytes row) → OnOk r (Keeps (handlers_in old) (handlers_in new) s)
saved_if (Ok _) old new s handler bytes row b w here are also has stored put = saved old new s b w has stored (rw (here, are, also) at put)
saved_if (Err e) old new s handler bytes row b w here are also has stored put = tt

-- a call that left the database leaves a record
pub ready_again : (old new : State) → IsReady old → (IsSound new → IsSound old) → (IsSound new → new.now ≡ old.now)
    → (IsSound new → new.now ≡ new.committed) → IsReady new
ready_again old new ready honest same settled sound =
    (subst IsRecord (sym (same sound)) (ready (honest sound)).0, settled sound)

pub saved_incs_if : {E : Type 0} (r : Result (Unit {0}) E) (old new : Database) (handler : ℕ) (bytes row : List ℕ) → IsRecord old
    → OnOk r (PutsBoth old new handler bytes row) → OnErr r (new ≡ old) → IsSame (incs_in old) (incs_in new)
saved_incs_if (Ok _) old new handler bytes row has put same = saved_incs old new handler bytes row has put
saved_incs_if (Err e) old new handler bytes row has put same = incs_stay old new same

pub saved_others_if : {E : Type 0} (r : Result (Unit {0}) E) (old new : Database) (handler : ℕ) (bytes row : List ℕ)
    → OnOk r (PutsBoth old new handler bytes row) → OnOk r (KeepsOthers (handlers_tree old.schema ∷ pending_tree old.schema ∷ []) old new)
saved_others_if (Ok _) old new handler bytes row put = both_others old new handler bytes row put
saved_others_if (Err e) old new handler bytes row put = tt

pub advanced_stay_if : {E : Type 0} (r : Result ℕ E) (old new : Database) (client : ℕ) (Is : ℕ → Type 0) → IsRecord old
    → IfOk r (λ inc. Is inc × Advances old new client) → OnErr r (new ≡ old) → Stays (handlers_in old) (handlers_in new)
advanced_stay_if (Ok inc) old new client Is has put same = advanced_handlers old new client has put.1
advanced_stay_if (Err e) old new client Is has put same = stays old new same

pub advanced_others_if : {E : Type 0} (r : Result ℕ E) (old new : Database) (client : ℕ) (Is : ℕ → Type 0)
    → IfOk r (λ inc. Is inc × Advances old new client) → OnOk r (KeepsOthers (clients_tree old.schema ∷ []) old new)
advanced_others_if (Ok inc) old new client Is put =
    put_others (clients_tree old.schema ∷ []) old new (clients_tree old.schema) client _ put.1 (λ t none. none.0)
advanced_others_if (Err e) old new client Is put = tt
