-- The entries of one Log.
use Rattle.std.proofs.Common.{◌≡◌, ℕ, ◌<◌, ◌≤◌, false, List, [], ◌∷◌, length, take, refl, arith}
use Rattle.std.proofs.lemmas.List.{length-take}
use Rattle.scoop_message.specs.declared.request.Entry.{Entry}
use Rattle.scoop_message.specs.declared.request.Entry.TheVariants.{Call, Query, End}
use Rattle.scoop_message.specs.Entry.{is_end}
use Rattle.scoop_message.specs.Entries.{EndOnlyLast}
use Rattle.scoop_client.specs.Window.{up_to_end, first_entries}

call_first : (e : Entry) (es : List Entry) → is_end e ≡ false → EndOnlyLast es → EndOnlyLast (e ∷ es)
call_first e [] no_end last = refl
call_first e (f ∷ es) no_end last = rw no_end last

only_last : (es : List Entry) → EndOnlyLast (up_to_end es)
only_last [] = refl
only_last (Call r ∷ es) = call_first (Call r) (up_to_end es) refl (only_last es)
only_last (Query r ∷ es) = call_first (Query r) (up_to_end es) refl (only_last es)
only_last (End ∷ es) = refl

no_longer : (es : List Entry) → length (up_to_end es) ≤ length es
no_longer [] = omega arith
no_longer (Call r ∷ es) = omega (arith, no_longer es)
no_longer (Query r ∷ es) = omega (arith, no_longer es)
no_longer (End ∷ es) = omega arith

some_left : (es : List Entry) → 0 < length es → 0 < length (up_to_end es)
some_left [] some = some
some_left (Call r ∷ es) some = omega arith
some_left (Query r ∷ es) some = omega arith
some_left (End ∷ es) some = omega arith

-- a batch of one to four entries is one Log, of no more entries than there are
pub record IsBatch (batch : ℕ) (es : List Entry) : Type 0 where
  pub some : 0 < length (first_entries batch es)
  pub limit : length (first_entries batch es) ≤ batch
  pub all : length (first_entries batch es) ≤ length es
  pub end : EndOnlyLast (first_entries batch es)

pub is_batch : (batch : ℕ) (es : List Entry) → 1 ≤ batch → 0 < length es → IsBatch batch es
is_batch batch es one some =
    let taken = length-take batch es in
    let within = no_longer (take batch es) in
    record {
      some = some_left (take batch es) (omega arith);
      limit = omega arith;
      all = omega arith;
      end = only_last (take batch es);
    }
