-- A new record beside the tables of a database: its four tables are made in turn, and the version is put.
use Rattle.std.proofs.Common.{◌≡◌, ◌≢◌, ap, sym, subst, ◌∙◌, arith, List, [], ◌∷◌, codes, pos, ℕ, true, false, inl, refl}
use Rattle.sqlite_value.specs.declared.value.Value.TheVariants.{Int}
use Rattle.sqlite_rules.specs.Lists.{Has}
use Rattle.sqlite_rules.proofs.ListLemmas.{all_has, all_from, has_right}
use Rattle.sqlite_catalog.specs.Change.{created, next_tree}
use Rattle.sqlite_catalog.proofs.StepLemmas.{table_below}
use Rattle.sqlite.specs.Does.{lacks_sequence}
use Rattle.sqlite.specs.Effect.{Database, IsDatabase}
use Rattle.sqlite.specs.State.{State, HasCleanDisk, Shows, Survives}
use Rattle.sqlite.specs.Table.{Table}
use Rattle.sqlite.specs.Schema.{Schema}
use Rattle.scoop_record.specs.Tables.{meta, handlers, clients, pending, row_of, value_at, Makes}
use Rattle.scoop_record.specs.Among.{IsFree, HasTable, HasRoom, HasRecordTables, PutsAmong, meta_tree, handlers_tree, clients_tree, pending_tree}
use Rattle.scoop_record.specs.Among.{record_names, with_record}
use Rattle.scoop_record.specs.Store.{IsSound, IsNewRecord}
use Rattle.scoop_record.proofs.StatementLemmas.{clean_before}
use Rattle.scoop_record.proofs.among.Apart.{kept_at, meta_handlers, meta_clients, meta_pending}
use Rattle.scoop_record.proofs.among.Making.{made_in_turn, record_made, own_meta, own_handlers, own_clients, own_pending}
use Rattle.scoop_record.proofs.among.Making.{room_after_meta, room_after_handlers, room_after_clients}
use Rattle.scoop_record.proofs.among.Standing.{placed_at, kept_beside}

stands : (old new : Database) (table : Table) → Makes old new table → Has new.schema.tables (placed_at table (next_tree old.schema))
stands old new table makes = subst (λ (s : Schema). Has s.tables (placed_at table (next_tree old.schema))) (sym makes.schema)
    (has_right old.schema.tables (placed_at table (next_tree old.schema) ∷ []) (placed_at table (next_tree old.schema)) (inl refl))

module _ (a b c d e new : Database) (version : ℕ) (room : HasRoom a.schema record_names) (first : Makes a b (meta 0)) (second : Makes b c (handlers 0))
    (third : Makes c d (clients 0)) (fourth : Makes d e (pending 0)) (put : PutsAmong e new (meta_tree e.schema) 1 (Int (pos version))) where
  schema_b : b.schema ≡ created a.schema (meta 0)
  schema_b = first.schema

  schema_c : c.schema ≡ created (created a.schema (meta 0)) (handlers 0)
  schema_c = second.schema ∙ ap (λ s. created s (handlers 0)) schema_b

  schema_d : d.schema ≡ created (created (created a.schema (meta 0)) (handlers 0)) (clients 0)
  schema_d = third.schema ∙ ap (λ s. created s (clients 0)) schema_c

  schema_e : e.schema ≡ with_record a.schema
  schema_e = fourth.schema ∙ ap (λ s. created s (pending 0)) schema_d

  meta_at : meta_tree e.schema ≡ next_tree a.schema
  meta_at = ap meta_tree schema_e ∙ own_meta (with_record a.schema) _ (made_in_turn a.schema room).has_meta

  handlers_at : handlers_tree e.schema ≡ next_tree b.schema
  handlers_at = ap handlers_tree schema_e ∙ own_handlers (with_record a.schema) _ (made_in_turn a.schema room).has_handlers ∙ ap next_tree (sym schema_b)

  clients_at : clients_tree e.schema ≡ next_tree c.schema
  clients_at = ap clients_tree schema_e ∙ own_clients (with_record a.schema) _ (made_in_turn a.schema room).has_clients ∙ ap next_tree (sym schema_c)

  pending_at : pending_tree e.schema ≡ next_tree d.schema
  pending_at = ap pending_tree schema_e ∙ own_pending (with_record a.schema) _ (made_in_turn a.schema room).has_pending ∙ ap next_tree (sym schema_d)

  record_e : HasRecordTables e.schema
  record_e = subst HasRecordTables (sym schema_e) (record_made a.schema room)

  meta_empty : e.trees (meta_tree e.schema) ≡ []
  meta_empty =
      let in_c = kept_beside b c (handlers 0) _ second (stands a b (meta 0) first) in
      let in_d = kept_beside c d (clients 0) _ third in_c.1 in
      let in_e = kept_beside d e (pending 0) _ fourth in_d.1 in
      ap e.trees meta_at ∙ in_e.0 ∙ in_d.0 ∙ in_c.0 ∙ first.empty

  handlers_empty : e.trees (handlers_tree e.schema) ≡ []
  handlers_empty =
      let in_d = kept_beside c d (clients 0) _ third (stands b c (handlers 0) second) in
      let in_e = kept_beside d e (pending 0) _ fourth in_d.1 in
      ap e.trees handlers_at ∙ in_e.0 ∙ in_d.0 ∙ second.empty

  clients_empty : e.trees (clients_tree e.schema) ≡ []
  clients_empty = ap e.trees clients_at ∙ (kept_beside d e (pending 0) _ fourth (stands c d (clients 0) third)).0 ∙ third.empty

  pending_empty : e.trees (pending_tree e.schema) ≡ []
  pending_empty = ap e.trees pending_at ∙ fourth.empty

  -- a table of others keeps its rows
  others_kept : (t : Table) → Has a.schema.tables t → new.trees t.tree ≡ a.trees t.tree
  others_kept t has =
      let in_b = kept_beside a b (meta 0) t first has in
      let in_c = kept_beside b c (handlers 0) t second in_b.1 in
      let in_d = kept_beside c d (clients 0) t third in_c.1 in
      let in_e = kept_beside d e (pending 0) t fourth in_d.1 in
      let low = table_below a.schema t has in
      let apart : t.tree ≢ meta_tree e.schema = (λ same. omega (arith, low, same, meta_at)) in
      all_has (λ (u : Table). u.tree ≢ meta_tree e.schema → new.trees u.tree ≡ e.trees u.tree) e.schema.tables t put.tables in_e.1 apart
      ∙ in_e.0 ∙ in_d.0 ∙ in_c.0 ∙ in_b.0

  pub new_record : IsDatabase new → (e.trees (meta_tree e.schema) ≡ [] → new.trees (meta_tree e.schema) ≡ row_of 1 (Int (pos version)) ∷ [])
      → IsNewRecord a new version
  new_record whole alone =
      let has = record_e in
      let same = put.schema in
      record {
        schema = same ∙ schema_e;
        sound = subst HasRecordTables (sym same) has;
        whole = whole;
        version_is = ap (λ s. value_at (new.trees (meta_tree s)) 1) same ∙ put.there;
        alone = ap (λ s. new.trees (meta_tree s)) same ∙ alone meta_empty;
        handlers = ap (λ s. new.trees (handlers_tree s)) same
            ∙ kept_at e new (meta_tree e.schema) 1 _ put (handlers (handlers_tree e.schema)) has.first.has_handlers
            (λ equal. meta_handlers e.schema has.first (sym equal)) ∙ handlers_empty;
        clients = ap (λ s. new.trees (clients_tree s)) same
            ∙ kept_at e new (meta_tree e.schema) 1 _ put (clients (clients_tree e.schema)) has.first.has_clients
            (λ equal. meta_clients e.schema has.first (sym equal)) ∙ clients_empty;
        pending = ap (λ s. new.trees (pending_tree s)) same
            ∙ kept_at e new (meta_tree e.schema) 1 _ put (pending (pending_tree e.schema)) has.has_pending
            (λ equal. meta_pending e.schema has (sym equal)) ∙ pending_empty;
        others = all_from (λ (t : Table). new.trees t.tree ≡ a.trees t.tree) a.schema.tables others_kept;
      }

abbrev OneMade : State → State → Table → Type 0
OneMade old new table = Makes old.now new.now table × Shows old new new.now old.committed true

-- the call that made a table
pub record HasMade (old new : State) (table : Table) : Type 0 where
  pub made : HasCleanDisk new → OneMade old new table
  pub survives : Survives old new (λ _. ⊥)

shows_then : (old mid new : State) → Shows old mid mid.now old.committed true → Shows mid new new.now mid.committed true
    → Shows old new new.now old.committed true
shows_then old mid new one two = record {
  was_open = one.was_open;
  is_open = two.is_open;
  now_is = refl;
  committed_is = two.committed_is ∙ one.committed_is;
  mode = two.mode;
}

-- there was room at the start, and the schema is this one of the schema then
abbrev IsFrom : State → (Schema → Schema) → State → Type 0
IsFrom start made s = HasRoom start.now.schema record_names × (s.now.schema ≡ made start.now.schema)

then_made : (start old new : State) (table : Table) (made : Schema → Schema) → HasMade old new table → (IsSound old → IsFrom start made old)
    → IsSound new → IsFrom start (λ s. created (made s) table) new
then_made start old new table made has was sound =
    let makes = has.made sound.0 in
    let before = was (clean_before old new _ has.survives sound.0, makes.1.was_open) in
    (before.0, makes.0.schema ∙ ap (λ s. created s table) before.1)

abbrev with_meta : Schema → Schema
with_meta s = created s (meta 0)

abbrev with_handlers : Schema → Schema
with_handlers s = created (with_meta s) (handlers 0)

abbrev with_clients : Schema → Schema
with_clients s = created (with_handlers s) (clients 0)

-- the premises of the next call, which makes a table: its name is free, and no sequence is missing
abbrev Leaves : State → List ℕ → Type 0
Leaves s name = IsFree s.now.schema name × (lacks_sequence s.now.schema ≡ false)

module _ (a b : State) (room : IsSound a → HasRoom a.now.schema record_names) (first : HasMade a b (meta 0)) where
  from_meta : IsSound b → IsFrom a with_meta b
  from_meta = then_made a a b (meta 0) (λ s. s) first (λ sound. (room sound, refl))

  pub for_handlers : IsSound b → Leaves b (codes "handlers")
  for_handlers sound =
      let at = from_meta sound in
      let left = room_after_meta a.now.schema at.0 in
      subst (λ s. IsFree s (codes "handlers") × (lacks_sequence s ≡ false)) (sym at.1) (left.free.0, left.uncounted)

  module _ (c : State) (second : HasMade b c (handlers 0)) where
    from_handlers : IsSound c → IsFrom a with_handlers c
    from_handlers = then_made a b c (handlers 0) with_meta second from_meta

    pub for_clients : IsSound c → Leaves c (codes "clients")
    for_clients sound =
        let at = from_handlers sound in
        let left = room_after_handlers (with_meta a.now.schema) (room_after_meta a.now.schema at.0) in
        subst (λ s. IsFree s (codes "clients") × (lacks_sequence s ≡ false)) (sym at.1) (left.free.0, left.uncounted)

    module _ (d : State) (third : HasMade c d (clients 0)) where
      from_clients : IsSound d → IsFrom a with_clients d
      from_clients = then_made a c d (clients 0) with_handlers third from_handlers

      pub for_pending : IsSound d → Leaves d (codes "pending")
      for_pending sound =
          let at = from_clients sound in
          let left = room_after_clients (with_handlers a.now.schema)
          (room_after_handlers (with_meta a.now.schema) (room_after_meta a.now.schema at.0)) in
          subst (λ s. IsFree s (codes "pending") × (lacks_sequence s ≡ false)) (sym at.1) (left.free.0, left.uncounted)

      module _ (e : State) (fourth : HasMade d e (pending 0)) where
        pub for_version : IsSound e → HasTable e.now.schema (meta (meta_tree e.now.schema))
        for_version sound =
            let at = then_made a d e (pending 0) with_clients fourth from_clients sound in
            subst (λ s. HasTable s (meta (meta_tree s))) (sym at.1) (record_made a.now.schema at.0).first.has_meta

        -- the version is put last
        pub all_made : (new : State) (version : ℕ) → Survives e new (λ _. ⊥) → HasCleanDisk new
            → (PutsAmong e.now new.now (meta_tree e.now.schema) 1 (Int (pos version)) × IsDatabase new.now
            × (e.now.trees (meta_tree e.now.schema) ≡ [] → new.now.trees (meta_tree e.now.schema) ≡ row_of 1 (Int (pos version)) ∷ []))
            × Shows e new new.now e.committed true → IsNewRecord a.now new.now version × Shows a new new.now a.committed true
        all_made new version survives clean put =
            let clean_e = clean_before e new _ survives clean in
            let clean_d = clean_before d e _ fourth.survives clean_e in
            let clean_c = clean_before c d _ third.survives clean_d in
            let clean_b = clean_before b c _ second.survives clean_c in
            let clean_a = clean_before a b _ first.survives clean_b in
            let one = first.made clean_b in
            let two = second.made clean_c in
            let three = third.made clean_d in
            let four = fourth.made clean_e in (
              new_record a.now b.now c.now d.now e.now new.now version (room (clean_a, one.1.was_open)) one.0 two.0 three.0 four.0 put.0.0 put.0.1 put.0.2,
              shows_then a b new one.1 (shows_then b c new two.1 (shows_then c d new three.1 (shows_then d e new four.1 put.1))),
            )
