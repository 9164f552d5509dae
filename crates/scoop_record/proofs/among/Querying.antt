-- The query of a plain SELECT from one table, under a schema that may have other tables.
use Rattle.std.proofs.Common.{◌≡◌, ◌∙◌, ap, is_some, List, [], ◌∷◌, false, true, ℕ, suc, Ok, None, refl, slice_get, negsuc}
use Rattle.sqlite_value.specs.declared.value.Value.TheVariants.{Int}
use Rattle.sqlite.specs.Compile.{first}
use Rattle.sqlite.specs.Table.{Table}
use Rattle.sqlite.specs.Schema.{Schema}
use Rattle.sqlite.specs.Term.{Term, col, lit}
use Rattle.sqlite_schema.specs.Names.{place_of}
use Rattle.sqlite_schema.specs.declared.schema.Column.{Column}
use Rattle.sqlite_resolve.specs.Select.{named, ungrouped, paging, constant_or}
use Rattle.sqlite_resolve.specs.Terms.{number}
use Rattle.sqlite_resolve.specs.Body.{shown}
use Rattle.sqlite_draft.specs.declared.join.Step.TheVariants.{Inner}
use Rattle.sqlite_resolve.specs.Scope.{Name}
use Rattle.sqlite_resolve.specs.Program.{query, program}
use Rattle.sqlite_resolve.specs.Program as prog
use Rattle.sqlite_schema.specs.declared.program.Table.{Table as Let}
use Rattle.sqlite_schema.specs.declared.command.Command.{Command}
use Rattle.sqlite_ast.specs.declared.Sort.{Sort}
use Rattle.sqlite_typing.specs.Types.{row_classes, are_tests}
use Rattle.sqlite_resolve.specs.Compile.{command, read, compiled, planned, timed, meaning, returning, with_command}
use Rattle.sqlite_ast.specs.declared.Source.{Source}
use Rattle.sqlite_ast.specs.declared.Select as written_select
use Rattle.sqlite_ast.specs.declared.Statement.TheVariants as written
use Rattle.sqlite_ast.specs.declared.Core.{Core, out-Core}
use Rattle.sqlite_syntax.specs.declared.statement.Parsed.{Parsed}
use Rattle.scoop_record.proofs.TableLemmas.{query_of}
use Rattle.scoop_record.proofs.among.Lowering.{Names, output_of, stored}
use Rattle.scoop_record.specs.Among.{Stands}

pub viewing_is : (again : Schema → written_select.Select → prog.Building prog.Shown) (outer s : Schema) (core : Core) (order : List Sort)
    (page : Term × Term) (n : ℕ) (shown : prog.Shown)
    (lets : List Let) → named s core order page ≡ Ok shown → prog.viewing again outer core order page (suc n) s lets ≡ Ok ((shown, s), lets)
unfolding prog.viewing
viewing_is again outer s core order page n shown lets is = rw is refl

-- a SELECT with none of these parts
pub record IsPlainSelect (q : written_select.Select) (core : Core) : Type 0 where
  pub with : (written_select.out-Select q).with ≡ []
  pub first : (written_select.out-Select q).first ≡ core
  pub others : (written_select.out-Select q).others ≡ []
  pub limit : (written_select.out-Select q).limit ≡ None
  pub offset : (written_select.out-Select q).offset ≡ None

pub level_is : (again : Schema → written_select.Select → prog.Building prog.Shown) (s : Schema) (q : written_select.Select) (core : Core) (order : List Sort)
    (source : Source) (name : Name)
    (shown : prog.Shown) → IsPlainSelect q core → (written_select.out-Select q).order ≡ order → (out-Core core).from ≡ source ∷ [] → Names source name
    → named s core order (lit (Int (negsuc 0)), number 0) ≡ Ok shown → prog.level again s q [] ≡ Ok (shown, [])
unfolding prog.level prog.with prog.whole prog.alone prog.single prog.sources prog.source paging constant_or
level_is again s q core order source name shown plain sorted from n is =
    rw (
      plain.with,
      plain.limit,
      plain.offset,
      plain.others,
      plain.first,
      sorted,
      from,
      n.origin,
      viewing_is again s s core order (lit (Int (negsuc 0)), number 0) 63 shown [] is,
    ) refl

pub query_suc : (d : ℕ) (s : Schema) (q : written_select.Select) → prog.query_to (suc d) s q ≡ prog.level (prog.query_to d) s q
unfolding prog.query_to
query_suc d s q = refl

pub query_is : (s : Schema) (q : written_select.Select) (core : Core) (order : List Sort) (source : Source) (name : Name)
    (shown : prog.Shown) → IsPlainSelect q core → (written_select.out-Select q).order ≡ order → (out-Core core).from ≡ source ∷ [] → Names source name
    → named s core order (lit (Int (negsuc 0)), number 0) ≡ Ok shown → query s q ≡ Ok (shown, [])
unfolding query
query_is s q core order source name shown plain sorted from n is =
    ap (λ (f : prog.Building prog.Shown). f []) (query_suc 15 s q) ∙ level_is (prog.query_to 15) s q core order source name shown plain sorted from n is

pub program_is : (s : Schema) (at : ℕ) (t : Table) → Stands s at t → (wanted : Term) → are_tests [] (row_classes t ∷ []) (wanted ∷ []) ≡ true
    → (k : ℕ) (c : Column) → is_some (slice_get (row_classes t) (place_of t k)) ≡ true
    → program s [] (ungrouped (Inner t.tree ∷ []) (wanted ∷ []) (output_of t k c ∷ []) false [] (lit (Int (negsuc 0))) (number 0))
    ≡ Ok (record { lets = []; body = query_of t.tree wanted (col 1 (place_of t k) ∷ []) })
unfolding program ungrouped
program_is s at t stands wanted fit k c typed = rw (stored s at t stands, stands.found, fit, typed) refl

pub select_compiled : (s : Schema) (text : List ℕ) (p : Parsed) (q : written_select.Select) (is : Command) → first text ≡ Ok p
    → p.statement ≡ written.Select q → read s q ≡ Ok is
    → compiled s text ≡ Ok (with_command p (p.formats, (is, None)))
unfolding compiled planned timed meaning returning command
select_compiled s text p q is parsed select known = rw (parsed, select, known) refl
