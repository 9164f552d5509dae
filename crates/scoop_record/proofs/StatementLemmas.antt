-- Queries on a connection: what a look up by key shows, and that a statement in a transaction commits nothing.
use Rattle.std.proofs.lemmas.Bool.{cases_Bool}
use Rattle.std.proofs.Common.{cond, IsTrue, IfOk, IfErr, arith, ◌≡◌, ◌≤◌, length, ◌⊎◌, inl, inr, ℕ, nat_le, ◌^◌, pos, List, []}
use Rattle.std.proofs.Common.{◌∷◌, map, false, find, Option, option_map, Some, None, Ok, Err, Result, OnOk, refl, ap, ◌∙◌}
use Rattle.std.specs.Option.{option_to_list}
use Rattle.sqlite_value.specs.declared.value.Value.TheVariants.{Null}
use Rattle.sqlite_value.specs.Order.{Row, column}
use Rattle.sqlite_trees.specs.Tree.{has_rowid}
use Rattle.sqlite_schema.specs.declared.command.Command.TheVariants.{Select}
use Rattle.sqlite_schema.specs.declared.schema.Schema.{Schema}
use Rattle.sqlite_sql.specs.Term.{Term, col, eval_all, holds}
use Rattle.sqlite.specs.declared.error.Error.{Error}
use Rattle.sqlite.specs.Listing.{understood, reads_listing}
use Rattle.sqlite.specs.Clock.{timed}
use Rattle.sqlite_trees.specs.Tree.{Trees}
use Rattle.sqlite_schema.specs.declared.command.Returning.{Returning}
use Rattle.sqlite_resolve.specs.declared.compiled.Compiled.{Compiled}
use Rattle.sqlite.specs.State.{State, HasCleanDisk, Survives, IsRolledBack, ShowsRows, FailsToShow, RunsCommand}
use Rattle.sqlite.specs.State.{Shown, FailsToQuery, IsTooLate, IsNotRun, IsUnchanged, KeepsCommit, ExecutesInside}
use Rattle.sqlite.proofs.InsideLemmas.{inside_keeps}
use Rattle.sqlite.proofs.Callers.{IsPlain, command_of, reads_as}
use Rattle.scoop_record.specs.Tables.{value_at}
use Rattle.scoop_record.proofs.TableLemmas.{query_of, looked_up}

as_rows : (params : Row) (found : Option Row) → map (λ r. eval_all (col 1 2 ∷ []) (params ∷ r ∷ [])) (option_to_list found)
    ≡ map (λ v. v ∷ []) (option_to_list (option_map (λ row. column row 2) found))
as_rows params None = refl
as_rows params (Some r) = refl

-- the result of a look up by key
pub shows_where : (schema : Schema) (sql : List ℕ) (tree key : ℕ) (filter_is : Term) (name : List ℕ) (params : Row)
    → ((r : Row) → holds (params ∷ r ∷ []) filter_is ≡ has_rowid (pos key) r)
    → (old new : State) (rows : List Row) → nat_le (2 ^ 31) tree ≡ false → old.now.schema ≡ schema → length rows ≤ 1
    → (command_of (understood schema sql) ≡ Select (record { lets = []; body = query_of tree filter_is (col 1 2 ∷ []) }) (name ∷ []))
    × (reads_listing schema sql ≡ false)
    → IsPlain (understood schema sql) → Shown sql params old new rows → rows ≡ map (λ v. v ∷ []) (option_to_list (value_at (old.now.trees tree) key))
shows_where schema sql tree key filter_is name params given old new rows low has few is plain h =
    let read = reads_as sql params old new schema has _ is.0 plain is.1 rows h in
    looked_up old.now.trees tree key filter_is low params given (col 1 2 ∷ []) rows few (read.answer Null)
    ∙ as_rows params (find (has_rowid (pos key)) (old.now.trees tree))

pub ok_then : {V E : Type 0} (r : Result V E) (P Q : V → Type 0) → ((v : V) → P v → Q v) → IfOk r P → IfOk r Q
ok_then (Ok v) P Q f h = f v h
ok_then (Err e) P Q f h = tt

pub ok_on : {V E : Type 0} (r : Result V E) (P : V → Type 0) (Q : Type 0) → ((v : V) → P v → Q) → IfOk r P → OnOk r Q
ok_on (Ok v) P Q f h = f v h
ok_on (Err e) P Q f h = tt

pub clean_before : (old new : State) (Commits : Trees → Type 0) → Survives old new Commits → HasCleanDisk new → HasCleanDisk old
clean_before old new Commits s clean = omega (arith, s.clean)

pub unchanged_keeps : (old new : State) → IsUnchanged old new → KeepsCommit old new
unchanged_keeps old new same = record { was_open = λ _. same.0.was_open; committed = λ _. same.0.committed_is }

pub undone_keeps : (old new : State) → IsRolledBack old new → KeepsCommit old new
undone_keeps old new back = record { was_open = back.was_open; committed = λ live. (back.undone live).1 }

pub keeps_then : (a b c : State) → KeepsCommit a b → KeepsCommit b c → KeepsCommit a c
keeps_then a b c one two = record {
  was_open = λ live. one.was_open (two.was_open live);
  committed = λ live. two.committed live
      ∙ one.committed (two.was_open live);
}

-- a query that showed rows ran on an open connection
pub was_open : (sql : List ℕ) (params : Row) (old new : State) (rows : List Row) → Shown sql params old new rows → IsTrue old.is_open
unfolding Shown
was_open sql params old new rows h = go h.0.returning h.2
  where
    go : (what : Option Returning) → ShowsRows old new sql h.0 (timed params h.0.formats h.1.now) rows what → IsTrue old.is_open
    go None it = it.3.0.was_open
    go (Some what) it = it.1.shown.was_open

runs_keep : (old new : State) (sql : List ℕ) (c : Compiled) (params : Row) (e : Error) → RunsCommand old new sql c params (Err e) → KeepsCommit old new
runs_keep old new sql c params e (inl it) = unchanged_keeps old new it.1
runs_keep old new sql c params e (inr it) = undone_keeps old new it.3

not_run_keeps : (old new : State) (sql : List ℕ) (params : Row) (e : Error) → IsNotRun old new sql params e → KeepsCommit old new
unfolding IsNotRun
not_run_keeps old new sql params e (inl it) = unchanged_keeps old new it.1
not_run_keeps old new sql params e (inr it) = undone_keeps old new it.3

-- a query that fails commits nothing
pub fails_keep : (sql : List ℕ) (params : Row) (old new : State) (e : Error) → FailsToQuery sql params old new e ⊎ IsTooLate sql params old new e
    → KeepsCommit old new
unfolding FailsToQuery
fails_keep sql params old new e (inl (inl it)) = not_run_keeps old new sql params e it
fails_keep sql params old new e (inl (inr it)) = go it.0.returning it.2
  where
    go : (what : Option Returning) → FailsToShow old new sql it.0 (timed params it.0.formats it.1.now) e what → KeepsCommit old new
    go None h = unchanged_keeps old new h.3
    go (Some what) h = runs_keep old new sql it.0 (timed params it.0.formats it.1.now) e h
fails_keep sql params old new e (inr it) = unchanged_keeps old new it.5

-- a query of any kind commits nothing
pub shown_keeps : (sql : List ℕ) (params : Row) (old new : State) (rows : List Row) → IsTrue old.in_transaction → Shown sql params old new rows
    → KeepsCommit old new
unfolding Shown
shown_keeps sql params old new rows inside h = go h.0.returning h.2
  where
    go : (what : Option Returning) → ShowsRows old new sql h.0 (timed params h.0.formats h.1.now) rows what → KeepsCommit old new
    go None it = unchanged_keeps old new it.3
    go (Some what) it = record { was_open = λ _. it.1.shown.was_open; committed = λ _. it.1.shown.committed_is ∙ ap (λ b. cond b old.committed new.now) inside }

pub any_query_keeps : {V : Type 0} (sql : List ℕ) (params : Row) (old new : State) (r : Result V Error) (rows_of : V → List Row) → IsTrue old.in_transaction
    → IfOk r (λ v. Shown sql params old new (rows_of v))
    → IfErr r (λ e. FailsToQuery sql params old new e ⊎ IsTooLate sql params old new e) → KeepsCommit old new
any_query_keeps sql params old new (Ok v) rows_of inside shown fails = shown_keeps sql params old new (rows_of v) inside shown
any_query_keeps sql params old new (Err e) rows_of inside shown fails = fails_keep sql params old new e fails

pub query_keeps : {V : Type 0} (sql : List ℕ) (params : Row) (old new : State) (r : Result V Error) → IfOk r (λ _. IsUnchanged old new)
    → IfErr r (λ e. FailsToQuery sql params old new e ⊎ IsTooLate sql params old new e) → KeepsCommit old new
query_keeps sql params old new (Ok v) same fails = unchanged_keeps old new same
query_keeps sql params old new (Err e) same fails = fails_keep sql params old new e fails

pub if_later : {V E : Type 0} (r : Result V E) (Given : Type 0) (P : V → Type 0) → (Given → IfOk r P) → IfOk r (λ v. Given → P v)
if_later (Ok v) Given P h = h
if_later (Err e) Given P h = tt

-- a text that runs in a transaction commits nothing
pub executes_keep : (sql : List ℕ) (params : Row) (old new : State) (r : Result ℕ Error) → (old.in_transaction ≡ false → new ≡ old)
    → (IsTrue old.in_transaction → ExecutesInside 0 sql params old new r) → KeepsCommit old new
executes_keep sql params old new r ended runs = elim (cases_Bool old.in_transaction) [
  | inl inside ↦ inside_keeps old new 0 false sql params r (runs inside)
  | inr outside ↦ rw (ended outside) (record { was_open = λ live. live; committed = λ live. refl })
]
