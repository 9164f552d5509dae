-- The effect of an upsert on a table among others.
use Rattle.std.proofs.Common.{◌≢◌, pos, map, ◌&&◌, ◌||◌, cond, filter, subst₂, not, inl, inr, arith, int_cmp, ℤ, IsPermutation, ◌≡◌, ◌∙◌, ap, sym, subst}
use Rattle.std.proofs.Common.{length, ◌++◌, List, [], ◌∷◌, false, true, ℕ, Ok, Some, None, Option, refl, find, Bool, ◌==◌, ◌^◌, nat_le}
use Rattle.std.specs.List.{AllByRecursion, list_any, list_all, flat_map, filter_map}
use Rattle.std.proofs.lemmas.Bool.{cases_Bool, and_parts}
use Rattle.sqlite_value.specs.declared.value.Value.{Value}
use Rattle.sqlite_value.specs.Keys.{first_key}
use Rattle.sqlite_value.specs.Order.{Row, value_cmp}
use Rattle.std.specs.Ordering.{is_eq}
use Rattle.std.proofs.lemmas.Bool.Decides.{nat_tests}
use Rattle.std.proofs.lemmas.Int.{ints}
use Rattle.std.proofs.lemmas.List.Sorted.{length_permutation, All-permutation}
use Rattle.std.proofs.lemmas.List.Elements.{All-from_recursion, recursion_from_All}
use Rattle.sqlite_trees.specs.Tree.{Trees, rowid, has_rowid, put_row, without_rowid}
use Rattle.sqlite_trees.specs.View.{is_int}
use Rattle.sqlite_sql.specs.Ops.{unary}
use Rattle.sqlite_schema.specs.declared.schema.Kind.{Kind}
use Rattle.sqlite_schema.specs.declared.schema.Kind.TheVariants.{Integer}
use Rattle.sqlite_schema.specs.declared.schema.Index.{Index}
use Rattle.sqlite_schema.specs.declared.schema.Reference.{Reference}
use Rattle.sqlite_schema.specs.declared.schema.Keys.{Keys}
use Rattle.sqlite_schema.specs.Rules.{ParentKey, parent_key, agree}
use Rattle.sqlite_rules.specs.Action.{works, work_by, work_for, pairs, deed_for}
use Rattle.sqlite_rules.specs.declared.action.Deed.{Deed}
use Rattle.sqlite_rules.specs.declared.error.Refusal.{Refusal}
use Rattle.sqlite_rules.specs.Cast.{cast, cast_row}
use Rattle.sqlite_rules.specs.Edit.{Edit, edit_of, Applies, id_in, is_taken, are_fresh, without_all, IsNoIndex, taken_by}
use Rattle.sqlite_rules.specs.declared.error.Rowids.TheVariants.{Given}
use Rattle.sqlite_rules.specs.Calls.{ids_of}
use Rattle.sqlite_rules.specs.Lists.{Has}
use Rattle.sqlite_rules.specs.Keys.{AreConflicts, conflicts, shares, aims}
use Rattle.sqlite_rules.proofs.ListLemmas.{has_found, has_kept, has_filtered, some_from}
use Rattle.sqlite.specs.declared.run.Mode.{Mode}
use Rattle.sqlite.specs.Effect.{Database}
use Rattle.sqlite.specs.Rows.{Then, TriesEach, Counts, Gives, nothing as no_written, count_of, Clears, Meets, Judged, Written, Task, Puts as PutsRow, Upserts}
use Rattle.sqlite.specs.Rows.{Updates, Tries, InsertsOr}
use Rattle.sqlite.specs.Does.{Tally, Does, OnRows, AtPlace}
use Rattle.sqlite.proofs.Callers.{one_step}
use Rattle.scoop_record.specs.Tables.{value_at, row_of, keyed_table}
use Rattle.scoop_record.proofs.RowLemmas.{find_put, find_other, find_without, has_own, find_own}
use Rattle.scoop_record.proofs.TableLemmas.{tests_key, cast_key, answered, query_of, key_is}
use Rattle.scoop_record.proofs.UpsertLemmas.{went, same_value, cast_int, given_row, overwrites}
use Rattle.sqlite_value.specs.declared.value.Value.TheVariants.{Null, Int}
use Rattle.sqlite.specs.Command.TheVariants.{InsertOr}
use Rattle.sqlite.specs.Table.{Table}
use Rattle.sqlite.specs.Schema.{Schema}
use Rattle.sqlite.specs.Term.{col, lit}
use Rattle.sqlite_resolve.specs.Lowering.{fresh}
use Rattle.sqlite_resolve.specs.Body.{all}
use Rattle.sqlite_resolve.specs.Order.{keys}
use Rattle.sqlite_schema.specs.declared.command.Command.{Command}
use Rattle.sqlite_resolve.specs.Write.{row}
use Rattle.sqlite_schema.specs.declared.command.Conflict.TheVariants.{Abort}
use Rattle.scoop_record.specs.Among.{Stands, is_apart, IsAlone, PutsAmong}
use Rattle.scoop_record.proofs.among.Lowering.{stored}

pub unshared : (indexes : List Index) (table : Table) (target : Option (List ℕ)) (new r : Row) → list_any (λ (i : Index). i.table == table.tree) indexes ≡ false
    → list_any (shares target table new r) indexes ≡ false
unshared [] table target new r h = refl
unshared (i ∷ indexes) table target new r h = go (i.table == table.tree) refl h (unshared indexes table target new r)
  where
    go : (b : Bool) → (i.table == table.tree) ≡ b → (b || list_any (λ (i : Index). i.table == table.tree) indexes) ≡ false
        → (list_any (λ (i : Index). i.table == table.tree) indexes ≡ false → list_any (shares target table new r) indexes ≡ false)
        → list_any (shares target table new r) (i ∷ indexes) ≡ false
    go true is h again = absurd (let e = h in cc)
    go false is h again = rw (is, again h) (never i.is_unique)
      where
        never : (b : Bool) → ((((b && false) && aims target i.columns) && agree i.order i.columns r i.columns new) || false) ≡ false
        never true = refl
        never false = refl

pub no_work : (depth tree : ℕ) (moves : List (Row × Row)) (child : Table) (ref : Reference) (deed : Option Deed) (key : Option ParentKey)
    → is_apart tree key ≡ true
    → work_by depth tree moves child ref deed key ≡ None
no_work depth tree moves child ref None key h = refl
no_work depth tree moves child ref (Some deed) None h = refl
no_work depth tree moves child ref (Some deed) (Some key) h = go (key.0 == tree) refl h
  where
    go : (b : Bool) → (key.0 == tree) ≡ b → not b ≡ true → work_by depth tree moves child ref (Some deed) (Some key) ≡ None
    go true is h = absurd (let e = h in cc)
    go false is h = rw is refl

pub no_work_in : (s : Schema) (keys : Keys) (depth tree : ℕ) (olds news : List Row) (child : Table) (refs : List Reference)
    → list_all (λ ref. is_apart tree (parent_key s.tables ref)) refs ≡ true → filter_map (work_for s keys depth tree olds news child) refs ≡ []
no_work_in s keys depth tree olds news child [] h = refl
no_work_in s keys depth tree olds news child (ref ∷ refs) h =
    let both = and_parts _ _ h in
    rw (no_work depth tree (pairs olds news) child ref (deed_for keys (length news == 0) ref) (parent_key s.tables ref) both.0)
    (no_work_in s keys depth tree olds news child refs both.1)

pub works_none : (s : Schema) (keys : Keys) (depth tree : ℕ) (olds news : List Row) (children : List Table)
    → list_all (λ (child : Table). list_all (λ ref. is_apart tree (parent_key s.tables ref)) child.references) children ≡ true
    → flat_map (λ (child : Table). filter_map (work_for s keys depth tree olds news child) child.references) children ≡ []
works_none s keys depth tree olds news [] h = refl
works_none s keys depth tree olds news (child ∷ children) h =
    let both = and_parts _ _ h in
    rw (no_work_in s keys depth tree olds news child child.references both.0) (works_none s keys depth tree olds news children both.1)

pub either : (b : Bool) (x : Value) → cond b x x ≡ x
either true x = refl
either false x = refl

pub cast_null : cast Integer Null ≡ Null
unfolding unary
cast_null = either _ Null

pub second_fresh : (rows : List Row) (a b : Row) (more : List Row) → are_fresh rows (a ∷ b ∷ more) ≡ true → not (is_taken (put_row a rows) b) ≡ true
second_fresh rows a b more fresh = (and_parts (not (is_taken (put_row a rows) b)) (are_fresh (put_row b (put_row a rows)) more)
    (and_parts (not (is_taken rows a)) (not (is_taken (put_row a rows) b) && are_fresh (put_row b (put_row a rows)) more) fresh).1).0

module _ (name key_name column_name : List ℕ) (kind : Kind) (tree : ℕ) (low : nat_le (2 ^ 31) tree ≡ false) (limit : Option ℕ) (mode : Mode) (key : ℕ)
    (value : Value) (kept : cast kind value ≡ value)
    (db : Trees) (schema : Schema) (stands_alone : IsAlone schema (keyed_table name tree key_name column_name kind)) where
  abbrev table : Table
  table = keyed_table name tree key_name column_name kind

  no_works : (olds news : List Row) → works schema mode.keys 0 tree olds news ≡ []
  no_works olds news = works_none schema mode.keys 0 tree olds news schema.tables stands_alone.unreferred

  abbrev params : Row
  params = Int (pos key) ∷ value ∷ []

  abbrev task : Task
  task = record { limit = limit; keys = mode.keys; schema = schema; table = table; params = params }

  abbrev new : Row
  new = row_of key value

  cast_new : cast_row table new ≡ new
  cast_new = rw (cast_int (pos key), cast_null, kept) refl

  -- the table has the value at the key, and each other tree is as it was
  pub record IsPut (next : Trees) : Type 0 where
    pub there : value_at (next tree) key ≡ Some value
    pub others : (other : ℕ) → other ≢ key → value_at (next tree) other ≡ value_at (db tree) other
    pub trees : (t : ℕ) → t ≢ tree → IsNoIndex schema t → next t ≡ db t
    pub tables : AllByRecursion (λ (t : Table). t.tree ≢ tree → next t.tree ≡ db t.tree) schema.tables

  pub put_over : (next : Trees) (rows : List Row) → next tree ≡ put_row new rows
      → ((other : ℕ) → other ≢ key → find (has_rowid (pos other)) rows ≡ find (has_rowid (pos other)) (db tree))
      → ((t : ℕ) → t ≢ tree → IsNoIndex schema t → next t ≡ db t)
      → AllByRecursion (λ (t : Table). t.tree ≢ tree → next t.tree ≡ db t.tree) schema.tables → IsPut next
  put_over next rows is same trees tables = record {
    there = rw (is, find_put key new refl rows) refl;
    others = λ other apart. rw (is, find_other key new refl other rows apart, same other apart) refl;
    trees = trees;
    tables = tables;
  }

  put_fresh : (one : Written) → PutsRow task new db (Ok one) → IsPut one.trees
  put_fresh one h =
      let done = went h in
      let step = one_step schema mode.keys db done.0 (edit_of db table [] Given 0 (new ∷ []))
      (no_works (taken_by db (edit_of db table [] Given 0 (new ∷ []))) (edit_of db table [] Given 0 (new ∷ [])).news) done.1 in
      let rows : done.0 tree ≡ put_row new (db tree) = step.rows ∙ rw cast_new refl in
      let trees : one.trees ≡ done.0 = ap (λ (w : Written). w.trees) (same_value done.2) in
      rw trees (put_over done.0 (db tree) rows (λ other apart. refl) (λ t apart free. step.others t apart free) step.tables)

  -- the row that the update makes of one that has the key
  abbrev pub renewed : Row → Row
  renewed x = rowid x ∷ rowid x ∷ Null ∷ value ∷ []

  renews : (x : Row) → has_rowid (pos key) x ≡ true → is_int (cast Integer (rowid x)) ≡ true → cast_row table (rowid x ∷ Null ∷ value ∷ []) ≡ new
  renews x has int = rw (cast_key key (rowid x) has int, cast_null, kept) refl

  is_there : (rows : List Row) (x : Row) → Has rows x → has_rowid (pos key) x ≡ true → is_taken rows new ≡ true
  is_there rows x here has = some_from (has_rowid (pos key)) rows x here has

  abbrev pub edit : List Row → Edit
  edit rows = edit_of db table (ids_of rows) Given 1 rows

  -- one row had the key
  put_one : (x : Row) → Has (db tree) x → has_rowid (pos key) x ≡ true → (next : Trees) → Applies schema mode.keys db (edit (renewed x ∷ [])) next
      → IsPut next
  put_one x here has next step =
      let made = renews x has (and_parts _ _ step.keyed).0 in
      let left = without_rowid (id_in (rowid x)) (db tree) in
      let rows : next tree ≡ put_row new left = step.rows ∙ rw made refl in
      let fresh : not (is_taken left new) ≡ true = (and_parts _ _ (subst (λ n. (not (is_taken left n) && true) ≡ true) made step.fresh)).0 in
      elim (cases_Bool (is_eq (int_cmp (pos key) (id_in (rowid x))))) [
        | inl same ↦
            let own : id_in (rowid x) ≡ pos key = grind (arith, ints, nat_tests) in
            put_over next left rows (λ other apart. rw own (find_without key other (db tree) apart)) (λ t apart free. step.others t apart free) step.tables
        | inr differ ↦
            let stays : has_rowid (id_in (rowid x)) x ≡ false = has_own key (id_in (rowid x)) x has ∙ differ in
            let there = is_there left x (has_kept (λ r. not (has_rowid (id_in (rowid x)) r)) (db tree) x here (rw stays refl)) has in
            absurd (let e = rw there at fresh in cc)
      ]

  -- two rows cannot have had it
  put_two : (x y : Row) (more : List Row) → has_rowid (pos key) x ≡ true → has_rowid (pos key) y ≡ true → (next : Trees)
      → ¬ Applies schema mode.keys db (edit (renewed x ∷ renewed y ∷ more)) next
  put_two x y more hasx hasy next step =
      let ints = and_parts _ _ step.keyed in
      let first = renews x hasx ints.0 in
      let second = renews y hasy (and_parts _ _ ints.1).0 in
      let left = without_all (db tree) (ids_of (renewed x ∷ renewed y ∷ more)) in
      let fresh = second_fresh left (cast_row table (rowid x ∷ Null ∷ value ∷ [])) (cast_row table (rowid y ∷ Null ∷ value ∷ [])) _ step.fresh in
      let fresh2 : not (is_taken (put_row new left) new) ≡ true = subst₂ (λ a b. not (is_taken (put_row a left) b) ≡ true) first second fresh in
      let found = has_found (has_rowid (pos key)) (put_row new left) new (find_put key new refl left) in
      absurd (let e = rw (is_there (put_row new left) new found.0 found.1) at fresh2 in cc)

  abbrev Renewed : Row → Type 0
  Renewed row = (x : Row) × Has (db tree) x × (has_rowid (pos key) x ≡ true) × (row ≡ renewed x)

  are_renewed : (found : List Row) → ((x : Row) → Has found x → Has (db tree) x × (has_rowid (pos key) x ≡ true)) → AllByRecursion Renewed (map renewed found)
  are_renewed [] all = tt
  are_renewed (x ∷ found) all = ((x, (all x (inl refl)).0, (all x (inl refl)).1, refl), are_renewed found (λ y later. all y (inr later)))

  none_kept : (r : Row) → Has (db tree) r → has_rowid (pos key) r ≡ true → ¬ (length (map renewed (filter (has_rowid (pos key)) (db tree))) ≡ 0)
  none_kept r here has none = go (filter (has_rowid (pos key)) (db tree)) (has_kept (has_rowid (pos key)) (db tree) r here has) none
    where
      go : (found : List Row) → Has found r → ¬ (length (map renewed found) ≡ 0)
      go [] here none = here
      go (x ∷ found) here none = absurd (omega (arith, none))

  put_all_of : (rows : List Row) → AllByRecursion Renewed rows → ¬ (length rows ≡ 0) → (next : Trees) → Applies schema mode.keys db (edit rows) next
      → IsPut next
  put_all_of [] all some next step = absurd (some refl)
  put_all_of (a ∷ []) all some next step = put_one all.0.0 all.0.1 all.0.2 next
      (subst (λ r. Applies schema mode.keys db (edit (r ∷ [])) next) all.0.3 step)
  put_all_of (a ∷ b ∷ more) all some next step =
      absurd (put_two all.0.0 all.1.0.0 more all.0.2 all.1.0.2 next
      (subst₂ (λ r s. Applies schema mode.keys db (edit (r ∷ s ∷ more)) next) all.0.3 all.1.0.3 step))

  pub put_matches : (rows : List Row) → IsPermutation (map renewed (filter (has_rowid (pos key)) (db tree))) rows → (r : Row) × Has (db tree) r
      × (has_rowid (pos key) r ≡ true)
      → (next : Trees) → Applies schema mode.keys db (edit rows) next → IsPut next
  put_matches rows same (r, here, has) next step =
      let all = are_renewed (filter (has_rowid (pos key)) (db tree)) (λ x kept. has_filtered (has_rowid (pos key)) (db tree) x kept) in
      let each = recursion_from_All Renewed rows (All-permutation Renewed _ rows same (All-from_recursion Renewed _ all)) in
      let some : ¬ (length rows ≡ 0) = λ none. none_kept r here has (sym (length_permutation _ rows same) ∙ none) in
      put_all_of rows each some next step

  put_again : (there : Row) → (r : Row) → Has (db tree) r → has_rowid (pos key) r ≡ true → there ≡ rowid r ∷ [] → (one : Written)
      → Updates task (record { lets = []; body = query_of tree (key_is 2) (col 1 0 ∷ col 1 0 ∷ lit Null ∷ col 0 5 ∷ []) })
      (params ++ rowid there ∷ (Int (pos key) ∷ Int (pos key) ∷ value ∷ [])) db (Ok one) → IsPut one.trees
  put_again there r here has is one h =
      let own : is_eq (value_cmp (rowid there) (Int (pos key))) ≡ true = ap (λ (x : Row). is_eq (value_cmp (rowid x) (Int (pos key)))) is ∙ has in
      let asked = went h in
      let done = went asked.2 in
      let given : Row = params ++ rowid there ∷ (Int (pos key) ∷ Int (pos key) ∷ value ∷ []) in
      let same : IsPermutation (map renewed (filter (has_rowid (pos key)) (db tree))) asked.0 =
      answered db tree key (key_is 2) low given (λ x. tests_key key (rowid x) (rowid there) own) (col 1 0 ∷ col 1 0 ∷ lit Null ∷ col 0 5 ∷ []) asked.0
      (asked.1.answer Null) in
      let step = one_step schema mode.keys db done.0 (edit asked.0) (no_works (taken_by db (edit asked.0)) (edit asked.0).news) done.1 in
      let trees : one.trees ≡ done.0 = ap (λ (w : Written). w.trees) (same_value done.2) in
      rw trees (put_matches asked.0 same (r, here, has) done.0 step)

  conflict_key : (r : Row) → conflicts (Some (0 ∷ [])) schema.indexes table new r ≡ true → has_rowid (pos key) r ≡ true
  unfolding first_key
  conflict_key r h = sym (tests_key key (rowid r) (Int (pos key)) (find_own key)) ∙ only _ (list_any (shares (Some (0 ∷ [])) table new r) schema.indexes)
      (unshared schema.indexes table (Some (0 ∷ [])) new r stands_alone.unindexed) h
    where
      only : (b c : Bool) → c ≡ false → ((b && true) || c) ≡ true → b ≡ true
      only true c none h = refl
      only false c none h = absurd (let e = h in cc)

  upserted : (one : Written) → Upserts task Abort new db (overwrites tree ∷ []) (Ok one) → IsPut one.trees
  upserted one h = go h.0 h.1 h.2
    where
      put : (found : List Row) → AreConflicts None schema.indexes table (db tree) new found → Clears task Abort new db found (Ok one) → IsPut one.trees
      put [] are h = put_fresh one h
      put (x ∷ found) are h = put_fresh one h

      go : (found : List Row) → AreConflicts (Some (0 ∷ [])) schema.indexes table (db tree) new found
          → Meets task (Upserts task Abort new db []) new db (overwrites tree) found (Ok one) → IsPut one.trees
      go [] are h = put h.0 h.1 h.2
      go (there ∷ found) are h =
          let hit = are.sound there (inl refl) in
          put_again there hit.0 hit.1 (conflict_key hit.0 hit.2) hit.3 one h

  tried : (one : Written) → Tries task Abort (overwrites tree ∷ []) new db (Ok one) → IsPut one.trees
  tried one (inl h) = absurd (let e = h.1 in cc)
  tried one (inr h) = go h.0 h.2
    where
      go : (verdict : Option Refusal) → Judged task Abort (overwrites tree ∷ []) new db verdict (Ok one) → IsPut one.trees
      go None h = upserted one h
      go (Some why) h = absurd (let e = h in cc)

  inserted_one : (one : Written) → InsertsOr task Abort (overwrites tree ∷ []) given_row db (Ok one) → IsPut one.trees
  inserted_one one h =
      let sourced = went h in
      let counter = went sourced.2 in
      let each = went (subst (λ rows. Then (TriesEach task Abort (overwrites tree ∷ []) rows (count_of counter.0) (no_written db))
      (λ done. Then (Counts task done.0.trees counter.0 done.1) (λ next. Gives (record done.0 { trees = next }))) (Ok one)) sourced.1.1 counter.2) in
      let row = went each.1 in
      let next = went each.2 in
      let first : IsPut row.0.trees = tried row.0 (subst (λ r. Tries task Abort (overwrites tree ∷ []) r db (Ok row.0))
      (rw (cast_int (pos key), cast_null, kept) refl) row.1) in
      let mid : each.0.0.trees ≡ row.0.trees = ap (λ (d : Written × ℤ). d.0.trees) (same_value row.2) in
      let last : one.trees ≡ each.0.0.trees = ap (λ (w : Written). w.trees) (same_value next.2) ∙ same_value next.1 in
      rw (last, mid) first

-- 2. the effect of the upsert beside other tables
pub does_put_among : (name key_name column_name : List ℕ) (kind : Kind) (at tree : ℕ) (s : Schema)
    → Stands s at (keyed_table name tree key_name column_name kind)
    → IsAlone s (keyed_table name tree key_name column_name kind)
    → (limit : Option ℕ) (mode : Mode) (key : ℕ) (value : Value) → cast kind value ≡ value → (db after : Database) → db.schema ≡ s
    → (text : List ℕ) (tally : Tally)
    → Does limit mode (Int (pos key) ∷ value ∷ []) db text None (InsertOr at Abort given_row (overwrites tree ∷ [])) (Ok (tally, after))
    → PutsAmong db after tree key value
does_put_among name key_name column_name kind at tree s stands alone limit mode key value kept db after has text tally h =
    let given : Row = Int (pos key) ∷ value ∷ [] in
    let command : Command = InsertOr at Abort given_row (overwrites tree ∷ []) in
    let under = subst (λ s. Does limit mode given (record db { schema = s }) text None command (Ok (tally, after))) has h in
    let done = went (subst (λ o. AtPlace (λ t. OnRows (record { limit = limit; keys = mode.keys; schema = s; table = t; params = given }) mode None
    command db.trees) o (Ok (tally, after))) stands.there under) in
    let now : after ≡ record { schema = s; trees = done.0.trees } = ap (λ (p : Tally × Database). p.1) (same_value (went (went done.2).2).2) in
    let put = inserted_one name key_name column_name kind tree
    (stored s at (keyed_table name tree key_name column_name kind) stands) limit mode key value kept db.trees s alone done.0 done.1 in
    rw now (record {
      schema = sym has;
      there = put.there;
      others = put.others;
      trees = λ t apart free. put.trees t apart (subst (λ s. IsNoIndex s t) has free);
      tables = subst (λ (s : Schema). AllByRecursion (λ (t : Table). t.tree ≢ tree → done.0.trees t.tree ≡ db.trees t.tree) s.tables) (sym has) put.tables;
    })
