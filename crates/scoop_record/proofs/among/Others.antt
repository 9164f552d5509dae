-- The tables of others after a record's tables were written.
use Rattle.std.proofs.Common.{◌≡◌, ◌≢◌, ap, sym, subst, ◌∙◌, List, [], ◌∷◌, ℕ}
use Rattle.sqlite_value.specs.declared.value.Value.{Value}
use Rattle.sqlite_rules.specs.Lists.{Has}
use Rattle.sqlite_rules.proofs.ListLemmas.{all_has, all_from}
use Rattle.sqlite.specs.Effect.{Database}
use Rattle.sqlite.specs.Table.{Table}
use Rattle.sqlite.specs.Schema.{Schema}
use Rattle.scoop_handler.specs.State.{HandlerState}
use Rattle.scoop_record.specs.Store.{PutsBoth, SavesAll}
use Rattle.scoop_record.specs.Among.{PutsAmong, KeepsOthers, IsNoneOf, handlers_tree, pending_tree}

-- a table of others keeps its rows
pub other_kept : (own : List ℕ) (old new : Database) → KeepsOthers own old new → (t : Table) → Has old.schema.tables t → IsNoneOf own t.tree
    → new.trees t.tree ≡ old.trees t.tree
other_kept own old new keeps t has none = all_has (λ (u : Table). IsNoneOf own u.tree → new.trees u.tree ≡ old.trees u.tree) old.schema.tables t keeps has none

pub others_stay : (own : List ℕ) (old new : Database) → new ≡ old → KeepsOthers own old new
others_stay own old new same = all_from (λ (t : Table). IsNoneOf own t.tree → new.trees t.tree ≡ old.trees t.tree) old.schema.tables
    (λ t has none. ap (λ (d : Database). d.trees t.tree) same)

-- after two changes under one schema
pub others_then : (own : List ℕ) (old mid new : Database) → mid.schema ≡ old.schema → KeepsOthers own old mid → KeepsOthers own mid new
    → KeepsOthers own old new
others_then own old mid new same first second = all_from (λ (t : Table). IsNoneOf own t.tree → new.trees t.tree ≡ old.trees t.tree) old.schema.tables
    (λ t has none. other_kept own mid new second t (subst (λ (s : Schema). Has s.tables t) (sym same) has) none ∙ other_kept own old mid first t has none)

-- a value that was put in one of the trees
pub put_others : (own : List ℕ) (old new : Database) (tree key : ℕ) (value : Value) → PutsAmong old new tree key value
    → ((t : ℕ) → IsNoneOf own t → t ≢ tree) → KeepsOthers own old new
put_others own old new tree key value put apart = all_from (λ (t : Table). IsNoneOf own t.tree → new.trees t.tree ≡ old.trees t.tree) old.schema.tables
    (λ t has none. all_has (λ (u : Table). u.tree ≢ tree → new.trees u.tree ≡ old.trees u.tree) old.schema.tables t put.tables has (apart t.tree none))

pub both_others : (old new : Database) (handler : ℕ) (bytes row : List ℕ) → PutsBoth old new handler bytes row
    → KeepsOthers (handlers_tree old.schema ∷ pending_tree old.schema ∷ []) old new
both_others old new handler bytes row (mid, first, second) =
    let own : List ℕ = handlers_tree old.schema ∷ pending_tree old.schema ∷ [] in
    others_then own old mid new first.schema (put_others own old mid _ _ _ first (λ t none. none.0)) (put_others own mid new _ _ _ second (λ t none. none.1.0))

abbrev pub KeepsBeside : Schema → Database → Database → Type 0
KeepsBeside s old new = KeepsOthers (handlers_tree s ∷ pending_tree s ∷ []) old new

pub all_others : (old new : Database) (all : List HandlerState) → SavesAll old new all → KeepsBeside old.schema old new
all_others old new [] same = others_stay (handlers_tree old.schema ∷ pending_tree old.schema ∷ []) old new same
all_others old new (s ∷ more) (state, range, mid, (half, first, second), rest) =
    let same : mid.schema ≡ old.schema = second.schema ∙ first.schema in
    others_then (handlers_tree old.schema ∷ pending_tree old.schema ∷ []) old mid new same (both_others old mid _ _ _ (half, first, second))
    (subst (λ s. KeepsBeside s mid new) same (all_others mid new more rest))
