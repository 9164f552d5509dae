-- States that were stored in turn, as contents for each handler.
use Rattle.std.proofs.Common.{◌≡◌, ◌↔◌, ◌==◌, ℕ, List, [], ◌∷◌, Option, Some, None, Result, Ok, Err, OnOk, OnErr, refl, sym, ap, ◌∙◌}
use Rattle.std.specs.Prelude.{if◌then◌else◌}
use Rattle.std.specs.Option.{option_or}
use Rattle.std.proofs.lemmas.Bool.Decides.{Decides-eqb}
use Rattle.sqlite.specs.Effect.{Database}
use Rattle.scoop_handler.specs.State.{HandlerState, IsState}
use Rattle.scoop_handler.proofs.Basics.{by_test}
use Rattle.scoop_record.specs.Range.{InRange}
use Rattle.scoop_record.specs.Image.{image, pending_row}
use Rattle.scoop_record.specs.Tables.{value_at}
use Rattle.scoop_record.specs.Store.{handlers_in, incs_in, IsRecord, Saves, SavesAll}
use Rattle.scoop_record.specs.Among.{KeepsOthers, handlers_tree, pending_tree}
use Rattle.scoop_keeper.specs.Keeper.{Stored, Holds, IsTheOne, Stays, IsSame}
use Rattle.scoop_record.specs.Gathering.{last_of, Over, OverOne}
use Rattle.scoop_record.proofs.MapLemmas.{saved, saved_incs, stays, incs_stay, images_after, entries_after, record_saved}
use Rattle.scoop_record.proofs.among.Others.{all_others}
use Rattle.scoop_record.proofs.MigrateLemmas.{own_rows}
use Rattle.scoop_record.proofs.Stored.{same_state}
use Rattle.scoop_record.proofs.StoredLemmas.{held_one}

-- the state that was saved is all that its handler has
saved_one : (old new : Database) (s : HandlerState) → IsRecord old → IsState s → InRange s → Saves old new s
    → IsTheOne (handlers_in new s.number.0) (Holds s)
unfolding handlers_in
saved_one old new s has state range (mid, first, second) =
    let own = own_rows s state range in
    let bytes = image s in
    let row = pending_row s in
    held_one s.number bytes row s own (λ t is. same_state s.number _ _ t s is own) _ _
    (ap (λ rows. value_at rows s.number.0) (images_after old mid new s.number.0 bytes row has first second) ∙ first.there)
    (ap (λ rows. value_at rows s.number.0) (entries_after old mid new s.number.0 bytes row has first second) ∙ second.there)

-- the contents after one state, beside those under the others
saved_over : (old mid : Database) (s : HandlerState) → IsRecord old → IsState s → InRange s → Saves old mid s
    → (handler : ℕ) (more : Option HandlerState) (v : Stored)
    → OverOne (option_or more (if s.number.0 == handler then Some s else None)) (handlers_in old handler v) v
    ↔ OverOne more (handlers_in mid handler v) v
saved_over old mid s has state range saves handler (Some t) v = ((λ h. h), (λ h. h))
saved_over old mid s has state range saves handler None v =
    by_test (λ t. s.number.0 == handler ≡ t → OverOne (if t then Some s else None) (handlers_in old handler v) v ↔ handlers_in mid handler v)
    (s.number.0 == handler)
    (λ _ is. let one = saved_one old mid s has state range saves in let same : s.number.0 ≡ handler = (Decides-eqb s.number.0 handler).0 is in
    rw (← same) ((λ e. rw e one.there), (λ h. one.only v h)))
    (λ _ is. (saved old mid s (image s) (pending_row s) has (own_rows s state range) saves).others handler (λ e. absurd
    (let t = sym ((Decides-eqb s.number.0 handler).1 (sym e)) ∙ is in cc)) v) refl

pub all_saved : (old new : Database) (all : List HandlerState) → IsRecord old → SavesAll old new all → Stays (Over all (handlers_in old)) (handlers_in new)
all_saved old new [] has same = stays old new same
all_saved old new (s ∷ more) has (state, range, mid, first, rest) = record {
  each = λ handler v. let one = saved_over old mid s has state range first handler (last_of handler more) v in
      let after = (all_saved mid new more (record_saved old mid s has first) rest).each handler v in ((λ h. after.0 (one.0 h)), (λ h. one.1 (after.1 h)));
}

pub all_saved_incs : (old new : Database) (all : List HandlerState) → IsRecord old → SavesAll old new all → IsSame (incs_in old) (incs_in new)
all_saved_incs old new [] has same = incs_stay old new same
all_saved_incs old new (s ∷ more) has (state, range, mid, first, rest) = record {
  each = λ client. (all_saved_incs mid new more (record_saved old mid s has first) rest).each client
      ∙ (saved_incs old mid s.number.0 (image s) (pending_row s) has first).each client;
}

on_ok : {E P Q : Type 0} (r : Result (Unit {0}) E) → (P → Q) → OnOk r P → OnOk r Q
on_ok (Ok _) f p = f p
on_ok (Err _) f p = tt

either : {E P Q R : Type 0} (r : Result (Unit {0}) E) → (P → R) → (Q → R) → OnOk r P → OnErr r Q → R
either (Ok _) f h p q = f p
either (Err _) f h p q = h q

-- a put of all of them that may be refused, which leaves the database
module _ {E : Type 0} (r : Result (Unit {0}) E) (old new : Database) (all : List HandlerState) where
  pub all_others_if : OnOk r (SavesAll old new all) → OnOk r (KeepsOthers (handlers_tree old.schema ∷ pending_tree old.schema ∷ []) old new)
  all_others_if = on_ok r (all_others old new all)

  module _ (has : IsRecord old) (put : OnOk r (SavesAll old new all)) where
    pub all_saved_if : OnOk r (Stays (Over all (handlers_in old)) (handlers_in new))
    all_saved_if = on_ok r (all_saved old new all has) put

    pub all_incs_if : OnErr r (new ≡ old) → IsSame (incs_in old) (incs_in new)
    all_incs_if same = either r (all_saved_incs old new all has) (incs_stay old new) put same
