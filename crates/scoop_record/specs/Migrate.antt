-- A record of version 1, and the record of version 2 that it becomes.
use Rattle.std.specs.Prelude.{◌≡◌, ◌≢◌, ◌⊎◌, ◌<◌, ◌^◌, ℕ, ℤ, pos, List, [], ◌∷◌, ◌++◌, Option, Some, None}
use Rattle.std.specs.List.{AllByRecursion, AllZip}
use Rattle.sqlite_value.specs.declared.value.Value.{Value}
use Rattle.sqlite_value.specs.declared.value.Value.TheVariants.{Int, Blob}
use Rattle.sqlite_value.specs.Order.{Row, column}
use Rattle.sqlite_trees.specs.Tree.{IsAscending, rowid}
use Rattle.sqlite_catalog.specs.Change.{created}
use Rattle.sqlite.specs.Effect.{Database, IsDatabase}
use Rattle.scoop_handler.specs.State.{HandlerState}
use Rattle.scoop_record.specs.Reading.{IsStoredWithEntries}
use Rattle.scoop_keeper.specs.Keeper.{Stored, Missing, Holds, Damaged, stored_of, IsTheOne}
use Rattle.scoop_record.specs.Tables.{pending, value_at}
use Rattle.scoop_record.specs.Among.{KeepsOthers, meta_tree, handlers_tree, clients_tree}
use Rattle.scoop_record.specs.Store.{IsRecord, IsOfVersionOne, handlers_in, version_in}

-- in the handler's row stands the image of the state, with its entries
pub record IsFirstRowOf (handler : ℕ) (value : Option Value) (s : HandlerState) : Type 0 where
  pub number : s.number.0 ≡ handler
  pub bytes : List ℕ
  pub there : value ≡ Some (Blob bytes)
  pub stored : IsStoredWithEntries s.number bytes s

-- the handler has an image, and it is no state's
pub record IsNoFirstRow (handler : ℕ) (value : Option Value) : Type 0 where
  pub some : value ≢ None
  pub none : (s : HandlerState) → IsFirstRowOf handler value s → ⊥

abbrev pub FirstHas : ℕ → Option Value → Stored → Type 0
FirstHas handler value Missing = value ≡ None
FirstHas handler value (Holds s) = IsFirstRowOf handler value s
FirstHas handler value Damaged = IsNoFirstRow handler value

-- the contents of a record of version 1 for a handler
abbrev pub first_handlers_in : Database → ℕ → Stored → Type 0
first_handlers_in db handler = FirstHas handler (value_at (db.trees (handlers_tree db.schema)) handler)

-- a key and an image of version 1, which is that of the state and of no other
pub record IsFirstRow (row : Row) (s : HandlerState) : Type 0 where
  pub key : column row 0 ≡ Int (pos s.number.0)
  pub bytes : List ℕ
  pub there : column row 1 ≡ Blob bytes
  pub stored : IsStoredWithEntries s.number bytes s
  pub only : (t : HandlerState) → IsStoredWithEntries s.number bytes t → t ≡ s

-- the number of the first row is below that of the second
pub record IsKeyBelow (a b : Row) : Type 0 where
  pub below : (m n : ℕ) → column a 0 ≡ Int (pos m) → column b 0 ≡ Int (pos n) → m < n

-- the value is the number of a handler
pub record IsNumber (value : Value) : Type 0 where
  pub number : ℕ
  pub small : number < 2 ^ 32
  pub is : value ≡ Int (pos number)

-- the numbers that the rows begin with are those of handlers
abbrev pub AreNumbers : List Row → Type 0
AreNumbers rows = AllByRecursion (λ (row : Row). IsNumber (column row 0)) rows

-- the rows' numbers are those of handlers, and rise
pub record AreNumbered (rows : List Row) : Type 0 where
  pub known : AreNumbers rows
  pub rising : IsAscending IsKeyBelow rows

-- the image in the handler's row is no state's
pub record IsBadRow (handler : ℕ) (row : Row) : Type 0 where
  pub key : column row 0 ≡ Int (pos handler)
  pub none : (s : HandlerState) → IsFirstRowOf handler (Some (column row 1)) s → ⊥

-- the first row whose image is no state's is that of the handler
pub record IsFirstBad (rows : List Row) (handler : ℕ) : Type 0 where
  pub numbered : AreNumbered rows
  pub before : List Row
  pub row : Row
  pub after : List Row
  pub split : rows ≡ before ++ row ∷ after
  pub states : List HandlerState
  pub read : AllZip IsFirstRow before states
  pub bad : IsBadRow handler row

-- the handlers' numbers rise, so none comes twice
abbrev pub IsRising : List HandlerState → Type 0
IsRising = IsAscending (λ a b. a.number.0 < b.number.0)

abbrev pub keyed_value : Row → Row
keyed_value row = rowid row ∷ column row 2 ∷ []

-- the handler's stored state, or nothing, is the same in both
pub record IsCarried (old new : Stored → Type 0) : Type 0 where
  pub found : Option HandlerState
  pub before : IsTheOne old (stored_of found)
  pub after : new (stored_of found)

-- the numbers in the table of the images are those of handlers
abbrev pub AreHandlers : List Row → Type 0
AreHandlers rows = AllByRecursion (λ (row : Row). IsNumber (rowid row)) rows

-- In a record of version 1 each number is a handler's, and this is the lowest handler whose image is no
-- state's.
pub record IsLowestBad (db : Database) (handler : ℕ) : Type 0 where
  pub first : IsOfVersionOne db
  pub numbers : AreHandlers (db.trees (handlers_tree db.schema))
  pub bad : IsTheOne (first_handlers_in db handler) Damaged
  pub below : (lower : ℕ) → lower < handler → (found : Option HandlerState) × IsTheOne (first_handlers_in db lower) (stored_of found)

-- in a record of version 1, a number is no handler's
pub record HasOtherNumber (db : Database) : Type 0 where
  pub first : IsOfVersionOne db
  pub numbers : AreHandlers (db.trees (handlers_tree db.schema)) → ⊥

-- there is no version, or one that is neither 1 nor 2
abbrev pub IsOtherVersion : Option ℤ → Type 0
IsOtherVersion found = (found ≢ Some (pos 1)) × (found ≢ Some (pos 2))

-- why the tables of a record are not taken: they have no version or an unknown one, or in version 1 a number is
-- no handler's
abbrev pub IsWrongSchema : Database → Type 0
IsWrongSchema db = IsOtherVersion (version_in db) ⊎ HasOtherNumber db

-- A record of version 1, whose numbers are those of handlers, became one of version 2. Each state and the table of the
-- incarnations are as they were, and so are the tables of others. An open of the new trees finds all tables.
pub record Migrates (old new : Database) : Type 0 where
  pub was : IsOfVersionOne old
  pub numbers : AreHandlers (old.trees (handlers_tree old.schema))
  pub schema : new.schema ≡ created old.schema (pending 0)
  pub sound : IsRecord new
  pub whole : IsDatabase new
  pub version : value_at (new.trees (meta_tree new.schema)) 1 ≡ Some (Int (pos 2))
  pub handlers : (handler : ℕ) → IsCarried (first_handlers_in old handler) (handlers_in new handler)
  pub clients : new.trees (clients_tree new.schema) ≡ old.trees (clients_tree old.schema)
  pub others : KeepsOthers (meta_tree old.schema ∷ handlers_tree old.schema ∷ []) old new

-- a record of version 2 stays, and one of version 1 becomes one
pub record Adopts (old new : Database) : Type 0 where
  pub sound : IsRecord new
  pub version : value_at (new.trees (meta_tree new.schema)) 1 ≡ Some (Int (pos 2))
  pub kept : (new ≡ old) ⊎ Migrates old new
