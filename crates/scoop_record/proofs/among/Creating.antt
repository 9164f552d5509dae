-- The texts that create the tables, under a schema that may have other tables.
use Rattle.std.proofs.Common.{◌≡◌, ◌∙◌, ap, sym, subst, List, [], codes, false, ℕ, Ok, None, refl}
use Rattle.sqlite.specs.Command.TheVariants.{CreateTable}
use Rattle.sqlite.specs.Compile.{table_defined_by, first}
use Rattle.sqlite.specs.Table.{Table}
use Rattle.sqlite.specs.Schema.{Schema}
use Rattle.sqlite.specs.Listing.{understood}
use Rattle.sqlite.proofs.Callers.{IsPlain, command_of, statement_of}
use Rattle.sqlite_resolve.specs.Compile.{command, compiled, planned, timed, meaning, returning, with_command, create_table, is_attached, creates, is_reserved}
use Rattle.sqlite_resolve.specs.Compile as compile
use Rattle.sqlite_resolve.specs.Define as define
use Rattle.sqlite_ast.specs.declared.CreateTable.{CreateTable as WrittenTable}
use Rattle.sqlite.specs.State.{text_of}
use Rattle.sqlite_tied.specs.Compute.{everything}
use Rattle.sqlite_ast.specs.declared.Statement.TheVariants as written
use Rattle.sqlite_syntax.specs.declared.statement.Parsed.{Parsed}
use Rattle.scoop_record.specs.Tables.{meta, handlers, clients, pending}
use Rattle.scoop_record.proofs.Texts.{create_meta, create_handlers, create_clients, create_pending}
use Rattle.scoop_record.proofs.among.Syntax.{understood_as, Reads, reads}
use Rattle.scoop_record.specs.Among.{IsFree}

pub record IsCreateText (text name : List ℕ) (made : Table) (p : Parsed) : Type 0 where
  pub def : WrittenTable
  pub is : p.statement ≡ written.CreateTable def
  pub name_is : def.name ≡ name
  pub formats : p.formats ≡ []
  pub defined : define.table [] def ≡ Ok made
  pub bare : made.computed ≡ []
  pub unstamped : made.stamps.places ≡ []
  pub resolves : def.resolves ≡ false
  pub free : is_reserved name ≡ false
  pub whole : text_of text (with_command p ([], (CreateTable, None))) ≡ text

pub create_compiled : (s : Schema) (text name : List ℕ) (made : Table) → IsFree s name → (p : Parsed) → first text ≡ Ok p → IsCreateText text name made p
    → compiled s text ≡ Ok (with_command p ([], (CreateTable, None)))
unfolding compiled planned timed meaning returning command create_table is_attached creates
create_compiled s text name made free p parsed it =
    let own = subst (IsFree s) (sym it.name_is) free in
    let allowed : is_reserved it.def.name ≡ false = ap is_reserved it.name_is ∙ it.free in
    rw (parsed, it.is, own.view, allowed, own.table, own.index, it.formats, it.defined, it.bare, it.unstamped, it.resolves) refl

pub defines : (text name : List ℕ) (made : Table) (p : Parsed) → first text ≡ Ok p → IsCreateText text name made p → table_defined_by text ≡ Ok made
unfolding table_defined_by compile.table_in
defines text name made p parsed it = rw (parsed, it.is, it.formats, it.defined) refl

abbrev pub Creates : Schema → List ℕ → Table → Type 0
Creates s text table = (command_of (understood s text) ≡ CreateTable) × (statement_of text (understood s text) ≡ text) × (table_defined_by text ≡ Ok table)

pub create_text : (s : Schema) (text name : List ℕ) (made : Table) → IsFree s name → Reads (first text) (IsCreateText text name made)
    → Creates s text made × IsPlain (understood s text)
create_text s text name made free form =
    let it = reads (first text) _ form in
    let known = understood_as s text _ (create_compiled s text name made free it.0 it.1 it.2) in
    ((rw known.0 refl, rw known.0 it.2.whole, defines text name made it.0 it.1 it.2), rw known.0 (refl, refl))

pub create_meta_reads : Reads (first create_meta) (IsCreateText create_meta (codes "meta") (meta 0))
unfolding everything
create_meta_reads = record {
  def = _;
  is = refl;
  name_is = refl;
  formats = refl;
  defined = refl;
  bare = refl;
  unstamped = refl;
  resolves = refl;
  free = refl;
  whole = refl;
}

-- the table meta is made, if its name is free
pub create_meta_is : (s : Schema) → IsFree s (codes "meta") → Creates s create_meta (meta 0) × IsPlain (understood s create_meta)
create_meta_is s free = create_text s create_meta (codes "meta") (meta 0) free create_meta_reads

pub create_handlers_reads : Reads (first create_handlers) (IsCreateText create_handlers (codes "handlers") (handlers 0))
unfolding everything
create_handlers_reads = record {
  def = _;
  is = refl;
  name_is = refl;
  formats = refl;
  defined = refl;
  bare = refl;
  unstamped = refl;
  resolves = refl;
  free = refl;
  whole = refl;
}

-- the table handlers is made, if its name is free
pub create_handlers_is : (s : Schema) → IsFree s (codes "handlers") → Creates s create_handlers (handlers 0) × IsPlain (understood s create_handlers)
create_handlers_is s free = create_text s create_handlers (codes "handlers") (handlers 0) free create_handlers_reads

pub create_clients_reads : Reads (first create_clients) (IsCreateText create_clients (codes "clients") (clients 0))
unfolding everything
create_clients_reads = record {
  def = _;
  is = refl;
  name_is = refl;
  formats = refl;
  defined = refl;
  bare = refl;
  unstamped = refl;
  resolves = refl;
  free = refl;
  whole = refl;
}

-- the table clients is made, if its name is free
pub create_clients_is : (s : Schema) → IsFree s (codes "clients") → Creates s create_clients (clients 0) × IsPlain (understood s create_clients)
create_clients_is s free = create_text s create_clients (codes "clients") (clients 0) free create_clients_reads

pub create_pending_reads : Reads (first create_pending) (IsCreateText create_pending (codes "pending") (pending 0))
unfolding everything
create_pending_reads = record {
  def = _;
  is = refl;
  name_is = refl;
  formats = refl;
  defined = refl;
  bare = refl;
  unstamped = refl;
  resolves = refl;
  free = refl;
  whole = refl;
}

-- the table pending is made, if its name is free
pub create_pending_is : (s : Schema) → IsFree s (codes "pending") → Creates s create_pending (pending 0) × IsPlain (understood s create_pending)
create_pending_is s free = create_text s create_pending (codes "pending") (pending 0) free create_pending_reads
