-- A record of version 1 that was migrated holds what it held. The rows that were listed are those of the table, each of them
-- has one state, and the numbers rise. So a handler among the states has its own, saved once and not overwritten. Any other
-- handler has nothing before and after, and the other tables stay.
use Rattle.std.proofs.Common.{◌≡◌, ◌≢◌, inl, inr, ◌<◌, ℕ, codes, pos, List, [], ◌∷◌, ◌++◌, map, Bool, true, false, find, Option, Some, None, option_map}
use Rattle.std.proofs.Common.{refl, sym, ap, ◌∙◌, subst, arith, IsPermutation}
use Rattle.std.specs.List.{AllByRecursion, AllZip}
use Rattle.std.proofs.lemmas.List.Sorted.{All-permutation, IsPermutation-sym}
use Rattle.std.proofs.lemmas.List.Elements.{All-from_recursion, recursion_from_All}
use Rattle.sqlite_value.specs.declared.value.Value.{Value}
use Rattle.sqlite_value.specs.declared.value.Value.TheVariants.{Int, Blob}
use Rattle.sqlite_value.specs.Order.{Row, column}
use Rattle.sqlite_trees.specs.Tree.{rowid, has_rowid}
use Rattle.sqlite_rules.specs.Lists.{Has}
use Rattle.sqlite_rules.proofs.ListLemmas.{all_from, all_has, has_found}
use Rattle.sqlite_catalog.specs.Change.{created}
use Rattle.sqlite.specs.Effect.{Database, IsDatabase}
use Rattle.scoop_handler.specs.State.{HandlerState, IsState}
use Rattle.scoop_record.specs.Range.{InRange}
use Rattle.scoop_record.specs.Image.{image, pending_row}
use Rattle.scoop_record.specs.Reading.{IsStored, IsStoredWithEntries}
use Rattle.scoop_keeper.specs.Keeper.{Stored, Missing, Holds, Damaged, IsTheOne}
use Rattle.scoop_record.specs.Tables.{pending, value_at, Makes}
use Rattle.scoop_record.specs.Among.{HasRoom, HasRecordTables, PutsAmong, meta_tree, handlers_tree, pending_tree}
use Rattle.scoop_record.specs.Store.{Has as HoldsThere, handlers_in, IsRecord, IsOfVersionOne, Saves, SavesAll}
use Rattle.scoop_record.specs.Migrate.{FirstHas, first_handlers_in, IsFirstRow, IsRising, keyed_value, IsNumber, AreHandlers, IsCarried, Migrates}
use Rattle.scoop_record.proofs.RowLemmas.{find_own}
use Rattle.scoop_record.proofs.TableLemmas.{int_key}
use Rattle.scoop_record.proofs.MapLemmas.{saved, stays, record_saved}
use Rattle.scoop_record.proofs.StoredLemmas.{same_id, missing_there}
use Rattle.scoop_record.proofs.among.MigratedRows.{is_second, versions_kept, images_kept, incs_kept, schema_stays, versions_stay, incs_stay}
use Rattle.scoop_record.proofs.among.MigratedRows.{raised, images_last, entries_last, incs_last, others_kept}

-- a state has its own rows
pub own_rows : (s : HandlerState) → IsState s → InRange s → IsStored s.number (image s) (pending_row s) s
own_rows s state range = record { state = state; range = range; number = refl; image = refl; pending = refl }

-- a handler that is not among the states keeps what it has
others_stay : (old new : Database) → IsRecord old → (all : List HandlerState) (handler : ℕ)
    → AllByRecursion (λ (s : HandlerState). s.number.0 ≢ handler) all → SavesAll old new all
    → (v : Stored) → handlers_in old handler v → handlers_in new handler v
others_stay old new has [] handler apart same v h = ((stays old new same).each handler v).0 h
others_stay old new has (s ∷ more) handler apart (state, range, mid, first, rest) v h =
    let step = saved old mid s (image s) (pending_row s) has (own_rows s state range) first in
    others_stay mid new (record_saved old mid s has first) more handler apart.1 rest v ((step.others handler (λ e. apart.0 (sym e)) v).0 h)

pub saves_push : (old mid new : Database) (all : List HandlerState) (it : HandlerState) → SavesAll old mid all → IsState it → InRange it → Saves mid new it
    → SavesAll old new (all ++ it ∷ [])
saves_push old mid new [] it same state range saves = (state, range, new, subst (λ (d : Database). Saves d new it) same saves, refl)
saves_push old mid new (s ∷ more) it (state, range, half, first, rest) own_state own_range saves =
    (state, range, half, first, saves_push half mid new more it rest own_state own_range saves)

above_apart : (it : HandlerState) (more : List HandlerState) → AllByRecursion (λ (b : HandlerState). it.number.0 < b.number.0) more
    → AllByRecursion (λ (b : HandlerState). b.number.0 ≢ it.number.0) more
above_apart it [] all = tt
above_apart it (b ∷ more) all = (λ e. omega (arith, e, all.0), above_apart it more all.1)

-- a handler among the states has its own
own_stands : (old new : Database) → IsRecord old → (all : List HandlerState) (it : HandlerState) → IsRising all → Has all it → SavesAll old new all
    → handlers_in new it.number.0 (Holds it)
own_stands old new has [] it rising here saves = absurd here
own_stands old new has (s ∷ more) it rising here (state, range, mid, first, rest) = elim here [
  | inl same ↦
      let apart : AllByRecursion (λ (b : HandlerState). b.number.0 ≢ s.number.0) more = above_apart s more rising.0 in
      let there = others_stay mid new (record_saved old mid s has first) more s.number.0 apart rest (Holds s)
      (saved old mid s (image s) (pending_row s) has (own_rows s state range) first).there in
      subst (λ (x : HandlerState). handlers_in new x.number.0 (Holds x)) (sym same) there
  | inr later ↦ own_stands mid new (record_saved old mid s has first) more it rising.1 later rest
]

-- the state of a row that is there
pub state_of_row : (rows : List Row) (all : List HandlerState) → AllZip IsFirstRow rows all → (row : Row) → Has rows row → (it : HandlerState) × Has all it
    × IsFirstRow row it
state_of_row [] all zip row here = absurd here
state_of_row (r ∷ rows) [] zip row here = absurd zip
state_of_row (r ∷ rows) (it ∷ all) zip row here = elim here [
  | inl same ↦ (it, inl refl, rw same zip.0)
  | inr later ↦ let found = state_of_row rows all zip.1 row later in (found.0, inr found.1, found.2)
]

-- the row of a state
row_of_state : (rows : List Row) (all : List HandlerState) → AllZip IsFirstRow rows all → (P : HandlerState → Type 0)
    → ((row : Row) (it : HandlerState) → Has rows row → IsFirstRow row it → P it) → AllByRecursion P all
row_of_state [] [] zip P f = tt
row_of_state [] (it ∷ all) zip P f = absurd zip
row_of_state (r ∷ rows) [] zip P f = absurd zip
row_of_state (r ∷ rows) (it ∷ all) zip P f = (f r it (inl refl) zip.0, row_of_state rows all zip.1 P (λ row s here is. f row s (inr here) is))

pub has_mapped : {A B : Type 0} (f : A → B) (xs : List A) (x : A) → Has xs x → Has (map f xs) (f x)
has_mapped f [] x here = absurd here
has_mapped f (y ∷ xs) x (inl same) = inl (ap f same)
has_mapped f (y ∷ xs) x (inr later) = inr (has_mapped f xs x later)

pub has_source : {A B : Type 0} (f : A → B) (xs : List A) (y : B) → Has (map f xs) y → (x : A) × Has xs x × (y ≡ f x)
has_source f [] y here = absurd here
has_source f (x ∷ xs) y (inl same) = (x, inl refl, same)
has_source f (x ∷ xs) y (inr later) = let found = has_source f xs y later in (found.0, inr found.1, found.2)

pub has_permuted : {X : Type 0} (xs ys : List X) (x : X) → IsPermutation xs ys → Has xs x → Has ys x
has_permuted xs ys x same here = all_has (Has ys) xs x (recursion_from_All (Has ys) xs
    (All-permutation (Has ys) ys xs (IsPermutation-sym xs ys same) (All-from_recursion (Has ys) ys (all_from (Has ys) ys (λ y at. at))))) here

pub none_has : (p : Row → Bool) (rows : List Row) (r : Row) → find p rows ≡ None → Has rows r → p r ≡ true → ⊥
none_has p [] r none here is = here
none_has p (x ∷ rows) r none here is = go (p x) refl none here (λ n later. none_has p rows r n later is)
  where
    go : (b : Bool) → p x ≡ b → find p (x ∷ rows) ≡ None → Has (x ∷ rows) r → (find p rows ≡ None → Has rows r → ⊥) → ⊥
    go true hits none here deeper = absurd (let e = rw hits at none in cc)
    go false fails none (inl same) deeper = absurd (let e : p x ≡ true = rw (← same) is in cc)
    go false fails none (inr later) deeper = deeper (rw fails at none) later

-- nothing is the one thing that a record of version 1 has for a handler without an image
pub missing_one : (handler : ℕ) (value : Option Value) → value ≡ None → IsTheOne (FirstHas handler value) Missing
missing_one handler value is = record { there = is; only = only }
  where
    only : (other : Stored) → FirstHas handler value other → other ≡ Missing
    only Missing h = refl
    only (Holds s) h = absurd (let e = sym is ∙ h.there in cc)
    only Damaged h = absurd (h.some is)

-- the state whose image is there is the one thing that it has
held_one : (handler : ℕ) (value : Option Value) (bytes : List ℕ) (it : HandlerState) → value ≡ Some (Blob bytes) → it.number.0 ≡ handler
    → IsStoredWithEntries it.number bytes it
    → ((t : HandlerState) → IsStoredWithEntries it.number bytes t → t ≡ it) → IsTheOne (FirstHas handler value) (Holds it)
held_one handler value bytes it is own stored unique = record { there = record { number = own; bytes = bytes; there = is; stored = stored }; only = only }
  where
    only : (other : Stored) → FirstHas handler value other → other ≡ Holds it
    only Missing h = absurd (let e = sym h ∙ is in cc)
    only (Holds s) h =
        let e = sym h.there ∙ is in
        let same : h.bytes ≡ bytes = cc in
        let id : s.number ≡ it.number = same_id s.number it.number (h.number ∙ sym own) in
        ap Holds (unique s (subst (λ b. IsStoredWithEntries it.number b s) same (subst (λ n. IsStoredWithEntries n h.bytes s) id h.stored)))
    only Damaged h = absurd (h.none it (record { number = own; bytes = bytes; there = is; stored = stored }))

pub pos_same : (m n : ℕ) → Int (pos m) ≡ Int (pos n) → m ≡ n
pos_same m n e = cc

-- the state in the row that is found for a handler is the one thing that it has
pub held_found : (handler : ℕ) (rows : List Row) (r : Row) (it : HandlerState) → find (has_rowid (pos handler)) rows ≡ Some r → IsFirstRow (keyed_value r) it
    → (it.number.0 ≡ handler) × IsTheOne (FirstHas handler (value_at rows handler)) (Holds it)
held_found handler rows r it some is =
    let key : rowid r ≡ Int (pos it.number.0) = is.key in
    let own : it.number.0 ≡ handler = pos_same it.number.0 handler
    (int_key handler (pos it.number.0) (rw key at (has_found (has_rowid (pos handler)) rows r some).1)) in
    let value : value_at rows handler ≡ Some (Blob is.bytes) = ap (option_map (λ (x : Row). column x 2)) some ∙ ap Some is.there in
    (own, held_one handler (value_at rows handler) is.bytes it value own is.stored is.only)

-- the migration writes the states that were read
module _ (images rows : List Row) (all : List HandlerState) (same : IsPermutation (map keyed_value images) rows) (zip : AllZip IsFirstRow rows all) where
  -- a handler with no image is none of the states'
  none_among : (handler : ℕ) → find (has_rowid (pos handler)) images ≡ None → AllByRecursion (λ (it : HandlerState). it.number.0 ≢ handler) all
  none_among handler none = row_of_state rows all zip (λ it. it.number.0 ≢ handler) (λ row it here is own.
      let source = has_source keyed_value images row (has_permuted rows (map keyed_value images) row
      (IsPermutation-sym (map keyed_value images) rows same) here) in
      let key : rowid source.0 ≡ Int (pos handler) = ap (λ (r : Row). column r 0) (sym source.2) ∙ is.key ∙ ap (λ n. Int (pos n)) own in
      none_has (has_rowid (pos handler)) images source.0 none source.1 (rw key (find_own handler)))

  state_listed : (r : Row) → Has images r → (it : HandlerState) × Has all it × IsFirstRow (keyed_value r) it
  state_listed r here = state_of_row rows all zip (keyed_value r)
      (has_permuted (map keyed_value images) rows (keyed_value r) same (has_mapped keyed_value images r here))

  -- each number in the table is that of a state
  pub numbers_known : AreHandlers images
  numbers_known = all_from (λ (r : Row). IsNumber (rowid r)) images (λ r here.
      let it = state_listed r here in record { number = it.0.number.0; small = it.2.stored.range.parts.number; is = it.2.key })

module _ (db new : Database) (has : IsRecord db) (rows : List Row) (all : List HandlerState)
    (same : IsPermutation (map keyed_value (db.trees (handlers_tree db.schema))) rows) (zip : AllZip IsFirstRow rows all) (rising : IsRising all)
    (saves : SavesAll db new all) where
  abbrev images : List Row
  images = db.trees (handlers_tree db.schema)

  pub states_kept : (handler : ℕ) → IsCarried (first_handlers_in db handler) (handlers_in new handler)
  unfolding handlers_in
  states_kept handler = go (find (has_rowid (pos handler)) images) refl
    where
      go : (found : Option Row) → find (has_rowid (pos handler)) images ≡ found → IsCarried (first_handlers_in db handler) (handlers_in new handler)
      go None none =
          let empty : value_at images handler ≡ None = ap (option_map (λ (r : Row). column r 2)) none in
          record {
            found = None;
            before = missing_one handler (value_at images handler) empty;
            after = others_stay db new has all handler (none_among images rows all same zip handler none) saves Missing
                (missing_there handler (value_at images handler) (value_at (db.trees (pending_tree db.schema)) handler) empty);
          }
      go (Some r) some =
          let it = state_listed images rows all same zip r (has_found (has_rowid (pos handler)) images r some).0 in
          let held = held_found handler images r it.0 some it.2 in
          record {
            found = Some it.0;
            before = held.1;
            after = subst (λ n. handlers_in new n (Holds it.0)) held.0 (own_stands db new has all it.0 rising it.1 saves);
          }

-- a handler's contents in each version rest on the rows of these tables alone
carried_on : (handler : ℕ) (a b c d e f : List Row) → a ≡ b → c ≡ d → e ≡ f
    → IsCarried (FirstHas handler (value_at b handler)) (HoldsThere handler (value_at d handler) (value_at f handler))
    → IsCarried (FirstHas handler (value_at a handler)) (HoldsThere handler (value_at c handler) (value_at e handler))
carried_on handler a b c d e f one two three h = rw (one, two, three) h

-- the whole migration
module _ (old db mid new : Database) (all : List HandlerState) (first : IsOfVersionOne old) (room : HasRoom old.schema (codes "pending" ∷ []))
    (makes : Makes old db (pending 0)) (saves : SavesAll db mid all) where
  second : IsRecord db
  second = is_second old db first room makes

  second_stays : IsRecord mid
  second_stays = subst HasRecordTables (sym (schema_stays db mid all saves)) second

  -- the version stands while the states are stored
  pub version_before : IsRecord mid × (value_at (mid.trees (meta_tree mid.schema)) 1 ≡ Some (Int (pos 1)))
  version_before = (
    second_stays,
    ap (λ rows. value_at rows 1) (versions_stay db mid all second saves ∙ versions_kept old db first room makes) ∙ first.1,
  )

  pub migrated : (rows : List Row) → IsPermutation (map keyed_value (db.trees (handlers_tree db.schema))) rows → AllZip IsFirstRow rows all → IsRising all
      → PutsAmong mid new (meta_tree mid.schema) 1 (Int (pos 2)) → IsDatabase new → Migrates old new
  unfolding handlers_in
  migrated rows same zip rising put whole =
      let before = images_kept old db first room makes in
      let schema : new.schema ≡ created old.schema (pending 0) = put.schema ∙ schema_stays db mid all saves ∙ makes.schema in
      record {
        was = first;
        numbers = subst AreHandlers before (numbers_known (db.trees (handlers_tree db.schema)) rows all same zip);
        schema = schema;
        sound = subst HasRecordTables (sym put.schema) second_stays;
        whole = whole;
        version = raised mid new second_stays put;
        handlers = λ handler. carried_on handler _ _ _ _ _ _ (sym before) (images_last mid new second_stays put) (entries_last mid new second_stays put)
            (states_kept db mid second rows all same zip rising saves handler);
        clients = incs_last mid new second_stays put ∙ incs_stay db mid all second saves ∙ incs_kept old db first room makes;
        others = others_kept old db mid new all first room makes saves put;
      }

pub zip_push : (rows : List Row) (all : List HandlerState) (row : Row) (it : HandlerState) → AllZip IsFirstRow rows all → IsFirstRow row it
    → AllZip IsFirstRow (rows ++ row ∷ []) (all ++ it ∷ [])
zip_push [] [] row it zip is = (is, tt)
zip_push [] (s ∷ all) row it zip is = absurd zip
zip_push (r ∷ rows) [] row it zip is = absurd zip
zip_push (r ∷ rows) (s ∷ all) row it zip is = (zip.0, zip_push rows all row it zip.1 is)
