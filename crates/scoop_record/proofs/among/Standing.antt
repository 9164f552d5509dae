-- The places of the tables after a table is created: it stands last, and those before it stay.
use Rattle.std.proofs.Common.{option_and_then, ◌<◌, ◌&&◌, not, arith, ◌≡◌, ◌∙◌, ap, sym, subst, is_some, length, [], ◌∷◌, codes, false, true, ℕ, Some, None, Option, refl}
use Rattle.std.proofs.Common.{slice_get, Bool, ◌==◌, ◌^◌}
use Rattle.std.specs.List.{list_any}
use Rattle.std.proofs.lemmas.Bool.Decides.{nat_tests}
use Rattle.sqlite_rules.specs.Lists.{Has}
use Rattle.sqlite_rules.proofs.ListLemmas.{all_has, has_left}
use Rattle.sqlite.specs.Rows.{sequence}
use Rattle.sqlite.specs.Does.{lacks_sequence}
use Rattle.sqlite_catalog.specs.Change.{created, next_tree}
use Rattle.sqlite_catalog.proofs.StepLemmas.{table_below}
use Rattle.sqlite.specs.Effect.{Database}
use Rattle.sqlite.specs.Table.{Table}
use Rattle.sqlite.specs.Schema.{Schema}
use Rattle.sqlite_schema.specs.Names.{table_named, same_name}
use Rattle.scoop_record.proofs.among.Lists.{slice_get_front, slice_get_last, position_front, position_last, find_front, find_last, any_last, some_of}
use Rattle.scoop_record.specs.Tables.{Makes}
use Rattle.scoop_record.specs.Among.{Stands, IsFree}

pub stands_kept : (s : Schema) (at : ℕ) (t u : Table) → Stands s at t → Stands (created s u) at t
stands_kept s at t u h = record {
  named = position_front _ 0 s.tables _ at h.named;
  there = slice_get_front s.tables _ at t h.there;
  found = find_front _ s.tables _ t h.found;
  low = h.low;
}

abbrev pub placed_at : Table → ℕ → Table
placed_at table tree = record table { tree = tree }

-- a table that stood before another was made keeps its rows, and is listed still
pub kept_beside : (old new : Database) (table t : Table) → Makes old new table → Has old.schema.tables t
    → (new.trees t.tree ≡ old.trees t.tree) × Has new.schema.tables t
kept_beside old new table t makes has = (
  all_has (λ (u : Table). new.trees u.tree ≡ old.trees u.tree) old.schema.tables t makes.others has,
  subst (λ (s : Schema). Has s.tables t) (sym makes.schema) (has_left old.schema.tables (placed_at table (next_tree old.schema) ∷ []) t has),
)

pub nat_eq_self : (n : ℕ) → (n == n) ≡ true
nat_eq_self n = grind (arith, nat_tests)

pub stands_created : (s : Schema) (t : Table) → IsFree s t.name → same_name t.name t.name ≡ true → next_tree s < 2 ^ 31
    → Stands (created s t) (length s.tables) (placed_at t (next_tree s))
stands_created s t free own low = record {
  named = position_last (λ (u : Table). same_name u.name t.name) 0 s.tables (placed_at t (next_tree s)) free.table own ∙ ap Some (omega arith);
  there = slice_get_last s.tables (placed_at t (next_tree s));
  found = find_last (λ (u : Table). u.tree == next_tree s) s.tables (placed_at t (next_tree s))
      (λ u has. let below = table_below s u has in grind (arith, nat_tests)) (nat_eq_self (next_tree s));
  low = low;
}

pub sequence_kept : (s : Schema) (t : Table) → is_some (sequence s) ≡ true → is_some (sequence (created s t)) ≡ true
sequence_kept s t h = go (table_named s (codes "sqlite_sequence")) refl h
  where
    go : (o : Option ℕ) → table_named s (codes "sqlite_sequence") ≡ o → is_some (option_and_then (slice_get s.tables) o) ≡ true
        → is_some (sequence (created s t)) ≡ true
    go None is h = absurd (let e = h in cc)
    go (Some k) is h =
        let u = some_of (slice_get s.tables k) h in
        rw (position_front _ 0 s.tables (placed_at t (next_tree s) ∷ []) k is, slice_get_front s.tables (placed_at t (next_tree s) ∷ []) k u.0 u.1) refl

pub lacks_kept : (s : Schema) (t : Table) → t.is_counted ≡ false → lacks_sequence s ≡ false → lacks_sequence (created s t) ≡ false
lacks_kept s t bare h =
    rw (any_last (λ (u : Table). u.is_counted) s.tables (placed_at t (next_tree s)) bare)
    (go (list_any (λ (u : Table). u.is_counted) s.tables) (is_some (sequence s)) refl h)
  where
    go : (a c : Bool) → is_some (sequence s) ≡ c → (a && not c) ≡ false → (a && not (is_some (sequence (created s t)))) ≡ false
    go false c is h = refl
    go true false is h = absurd (let e = h in cc)
    go true true is h = rw (sequence_kept s t is) refl
