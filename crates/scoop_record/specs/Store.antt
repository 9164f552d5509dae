-- The contents of a record over a database.
use Rattle.std.specs.Prelude.{◌≡◌, ◌≢◌, codes, ℕ, ℤ, min, pos, negsuc, false, List, [], ◌∷◌, Option, Some, None, option_map, Result, OnOk, IsTrue, ⊤}
use Rattle.sqlite_value.specs.declared.value.Value.{Value}
use Rattle.sqlite_value.specs.declared.value.Value.TheVariants.{Null, Int, Real, Text, Blob}
use Rattle.sqlite_catalog.specs.Change.{KeepsRows}
use Rattle.sqlite.specs.Effect.{Database, IsDatabase}
use Rattle.sqlite.specs.Store.{Ghosts}
use Rattle.sqlite.specs.Held.{Held, state}
use Rattle.sqlite.specs.State.{State, HasCleanDisk}
use Rattle.scoop_handler.specs.State.{HandlerState, IsState}
use Rattle.scoop_record.specs.Range.{InRange}
use Rattle.scoop_record.specs.Image.{image, pending_row}
use Rattle.scoop_record.specs.Reading.{IsStored}
use Rattle.scoop_keeper.specs.Keeper.{Stored, Missing, Holds, Damaged, last_incarnation, next_of}
use Rattle.scoop_record.specs.Tables.{row_of, value_at}
use Rattle.scoop_record.specs.Among.{IsFree, HasFirstTables, HasRecordTables, PutsAmong, meta_tree, handlers_tree, clients_tree, pending_tree, with_record}

-- a value that is no incarnation counts as the last one, after which none comes
abbrev pub inc_in : Value → ℕ
inc_in Null = last_incarnation
inc_in (Int (pos n)) = min n last_incarnation
inc_in (Int (negsuc n)) = last_incarnation
inc_in (Real x) = last_incarnation
inc_in (Text t) = last_incarnation
inc_in (Blob b) = last_incarnation

unfoldable pub incs_in : Database → ℕ → Option ℕ
incs_in db client = option_map inc_in (value_at (db.trees (clients_tree db.schema)) client)

-- in the handler's two rows stand the image and the pending entries of the state
pub record AreRowsOf (handler : ℕ) (first second : Option Value) (s : HandlerState) : Type 0 where
  pub number : s.number.0 ≡ handler
  pub bytes : List ℕ
  pub row : List ℕ
  pub there : first ≡ Some (Blob bytes)
  pub beside : second ≡ Some (Blob row)
  pub stored : IsStored s.number bytes row s

-- the handler has an image, and no state has its two rows
pub record AreNoRows (handler : ℕ) (first second : Option Value) : Type 0 where
  pub some : first ≢ None
  pub none : (s : HandlerState) → AreRowsOf handler first second s → ⊥

-- the handler's contents in the row of its image and that of its pending entries
unfoldable pub Has : ℕ → Option Value → Option Value → Stored → Type 0
Has handler first second Missing = first ≡ None
Has handler first second (Holds s) = AreRowsOf handler first second s
Has handler first second Damaged = AreNoRows handler first second

unfoldable pub handlers_in : Database → ℕ → Stored → Type 0
handlers_in db handler = Has handler (value_at (db.trees (handlers_tree db.schema)) handler) (value_at (db.trees (pending_tree db.schema)) handler)

-- the tables of a record are there, with whatever rows and other tables
abbrev pub IsRecord : Database → Type 0
IsRecord db = HasRecordTables db.schema

-- the tables of version 1 are there, with whatever rows and other tables, and the name of the fourth is free
abbrev pub IsFirstRecord : Database → Type 0
IsFirstRecord db = HasFirstTables db.schema × IsFree db.schema (codes "pending")

-- a record of version 1, with whatever other rows
abbrev pub IsOfVersionOne : Database → Type 0
IsOfVersionOne db = IsFirstRecord db × (value_at (db.trees (meta_tree db.schema)) 1 ≡ Some (Int (pos 1)))

-- the tables that both versions have
abbrev pub IsLaidOut : Database → Type 0
IsLaidOut db = HasFirstTables db.schema

abbrev pub number_of : Option Value → Option ℤ
number_of (Some (Int n)) = Some n
number_of _ = None

abbrev pub version_in : Database → Option ℤ
version_in db = number_of (value_at (db.trees (meta_tree db.schema)) 1)

-- the result of the query of the version, over the tables of a record
unfoldable pub TellsVersion : Database → Option ℤ → Type 0
TellsVersion db found = IsLaidOut db → found ≡ version_in db

-- the disk has been honest, and no failure of it has shut the connection
abbrev pub IsSound : State → Type 0
IsSound s = HasCleanDisk s × IsTrue s.is_open

-- with a clean disk, Ok comes only if the connection was open at this moment, of which `after` is a later one
abbrev pub IsOpenOnOk : {V E : Type 0} → Result V E → (moment after : State) → Type 0
IsOpenOnOk result moment after = HasCleanDisk after → OnOk result (IsTrue moment.is_open)

-- if there were any states to store, the connection is open, in a transaction
abbrev pub IsInsideAfter : List HandlerState → State → Type 0
IsInsideAfter [] s = ⊤
IsInsideAfter (it ∷ more) s = IsTrue s.is_open × IsTrue s.in_transaction

-- between calls all is committed
abbrev pub IsReady : State → Type 0
IsReady s = IsSound s → IsRecord s.now × (s.now ≡ s.committed)

-- the database with the next incarnation of the client
abbrev pub Advances : Database → Database → ℕ → Type 0
Advances old new client = PutsAmong old new (clients_tree old.schema) client (Int (pos (next_of (incs_in old client))))

-- the database with these bytes for the handler, in two tables
abbrev pub PutsBoth : Database → Database → ℕ → List ℕ → List ℕ → Type 0
PutsBoth old new handler bytes row = (mid : Database) × PutsAmong old mid (handlers_tree old.schema) handler (Blob bytes)
    × PutsAmong mid new (pending_tree old.schema) handler (Blob row)

-- the database with the state
abbrev pub Saves : Database → Database → HandlerState → Type 0
Saves old new s = PutsBoth old new s.number.0 (image s) (pending_row s)

-- the database with these states, one after the other
abbrev pub SavesAll : Database → Database → List HandlerState → Type 0
SavesAll old new [] = new ≡ old
SavesAll old new (s ∷ more) = IsState s × InRange s × (mid : Database) × Saves old mid s × SavesAll mid new more

-- a record over a database, between calls
abbrev pub IsIdle : {S : Type 0} → Ghosts S → Held S → Type 0
IsIdle g h = (h.in_transaction ≡ false) × IsReady (state g h)

-- A record of this version that holds nothing yet stands beside the tables of the old database. These keep their rows,
-- and an open of the new trees finds all tables.
pub record IsNewRecord (old new : Database) (version : ℕ) : Type 0 where
  pub schema : new.schema ≡ with_record old.schema
  pub sound : IsRecord new
  pub whole : IsDatabase new
  pub version_is : value_at (new.trees (meta_tree new.schema)) 1 ≡ Some (Int (pos version))
  pub alone : new.trees (meta_tree new.schema) ≡ row_of 1 (Int (pos version)) ∷ []
  pub handlers : new.trees (handlers_tree new.schema) ≡ []
  pub clients : new.trees (clients_tree new.schema) ≡ []
  pub pending : new.trees (pending_tree new.schema) ≡ []
  pub others : KeepsRows old.schema.tables old.trees new.trees
