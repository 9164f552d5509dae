-- The parse of a text, which computes, and the step from its compiled form to what the connection does with it.
use Rattle.std.proofs.Common.{◌≡◌, List, false, ℕ, Ok, Err, refl}
use Rattle.sqlite.specs.Schema.{Schema}
use Rattle.sqlite.specs.Listing.{understood, reads_listing}
use Rattle.sqlite_resolve.specs.Lowering.{Checked}
use Rattle.sqlite_resolve.specs.declared.compiled.Compiled.{Compiled}
use Rattle.sqlite_resolve.specs.Compile.{compiled}
use Rattle.sqlite_syntax.specs.declared.statement.Parsed.{Parsed}

unfoldable pub syntax : Unit {0}
unfolding
    Rattle.sqlite_syntax.specs.Expr.signed Rattle.sqlite_syntax.specs.Expr.alone Rattle.sqlite_syntax.specs.Expr.among
    Rattle.sqlite_syntax.specs.Expr.term Rattle.sqlite_syntax.specs.Expr.variable Rattle.sqlite_syntax.specs.Expr.bare
    Rattle.sqlite_syntax.specs.Expr.column Rattle.sqlite_syntax.specs.Expr.whole_table Rattle.sqlite_syntax.specs.Expr.subquery
    Rattle.sqlite_syntax.specs.Expr.arguments Rattle.sqlite_syntax.specs.Expr.parenthesized Rattle.sqlite_syntax.specs.Expr.call
    Rattle.sqlite_syntax.specs.Expr.named Rattle.sqlite_syntax.specs.Expr.arm Rattle.sqlite_syntax.specs.Expr.arms_from
    Rattle.sqlite_syntax.specs.Expr.arms Rattle.sqlite_syntax.specs.Expr.operand Rattle.sqlite_syntax.specs.Expr.case
    Rattle.sqlite_syntax.specs.Expr.cast Rattle.sqlite_syntax.specs.Expr.exists Rattle.sqlite_syntax.specs.Expr.prefix
    Rattle.sqlite_syntax.specs.Expr.is Rattle.sqlite_syntax.specs.Expr.between Rattle.sqlite_syntax.specs.Expr.listed
    Rattle.sqlite_syntax.specs.Expr.member Rattle.sqlite_syntax.specs.Expr.test Rattle.sqlite_syntax.specs.Expr.negated
    Rattle.sqlite_syntax.specs.Expr.operation Rattle.sqlite_syntax.specs.Expr.climb Rattle.sqlite_syntax.specs.Expr.operations
    Rattle.sqlite_syntax.specs.Expr.level Rattle.sqlite_syntax.specs.Expr.expr Rattle.sqlite_syntax.specs.Names.unquote
    Rattle.sqlite_syntax.specs.Names.opens_window Rattle.sqlite_syntax.specs.Names.name Rattle.sqlite_syntax.specs.Names.type_name
    Rattle.sqlite_syntax.specs.Names.words_from Rattle.sqlite_syntax.specs.Names.words Rattle.sqlite_syntax.specs.Names.signed_number
    Rattle.sqlite_syntax.specs.Names.size Rattle.sqlite_syntax.specs.Names.type_rest Rattle.sqlite_syntax.specs.Names.is_odd
    Rattle.sqlite_syntax.specs.Names.column_type Rattle.sqlite_syntax.specs.Names.alias Rattle.sqlite_syntax.specs.Names.names
    Rattle.sqlite_syntax.specs.Names.names_if_any Rattle.sqlite_syntax.specs.Names.collation Rattle.sqlite_syntax.specs.Clock.keyword_format
    Rattle.sqlite_syntax.specs.Clock.function_format Rattle.sqlite_syntax.specs.Clock.current Rattle.sqlite_syntax.specs.Clock.text_in
    Rattle.sqlite_syntax.specs.Clock.is_now Rattle.sqlite_syntax.specs.Clock.is_format Rattle.sqlite_syntax.specs.Clock.written_format
    Rattle.sqlite_syntax.specs.Clock.call_format Rattle.sqlite_syntax.specs.Clock.seconds Rattle.sqlite_syntax.specs.Clock.timed
    Rattle.sqlite_syntax.specs.Query.distinct Rattle.sqlite_syntax.specs.Query.direction Rattle.sqlite_syntax.specs.Query.first_or_last
    Rattle.sqlite_syntax.specs.Query.nulls Rattle.sqlite_syntax.specs.Query.using Rattle.sqlite_syntax.specs.Query.sees_query
    Rattle.sqlite_syntax.specs.Query.query_in Rattle.sqlite_syntax.specs.Query.not_over Rattle.sqlite_syntax.specs.Query.join
    Rattle.sqlite_syntax.specs.Query.compound Rattle.sqlite_syntax.specs.Query.sees_all_of Rattle.sqlite_syntax.specs.Query.all_of
    Rattle.sqlite_syntax.specs.Query.list Rattle.sqlite_syntax.specs.Query.after_word Rattle.sqlite_syntax.specs.Query.one
    Rattle.sqlite_syntax.specs.Query.shown Rattle.sqlite_syntax.specs.Query.nested Rattle.sqlite_syntax.specs.Query.origin
    Rattle.sqlite_syntax.specs.Query.condition Rattle.sqlite_syntax.specs.Query.source Rattle.sqlite_syntax.specs.Query.sources_from
    Rattle.sqlite_syntax.specs.Query.sources Rattle.sqlite_syntax.specs.Query.after_group Rattle.sqlite_syntax.specs.Query.tables
    Rattle.sqlite_syntax.specs.Query.from Rattle.sqlite_syntax.specs.Query.group Rattle.sqlite_syntax.specs.Query.columns
    Rattle.sqlite_syntax.specs.Query.core Rattle.sqlite_syntax.specs.Query.others_from Rattle.sqlite_syntax.specs.Query.others
    Rattle.sqlite_syntax.specs.Query.few_others Rattle.sqlite_syntax.specs.Query.sort Rattle.sqlite_syntax.specs.Query.sorts
    Rattle.sqlite_syntax.specs.Query.order Rattle.sqlite_syntax.specs.Query.page Rattle.sqlite_syntax.specs.Query.limit
    Rattle.sqlite_syntax.specs.Query.given Rattle.sqlite_syntax.specs.Query.all_named Rattle.sqlite_syntax.specs.Query.with
    Rattle.sqlite_syntax.specs.Query.ending Rattle.sqlite_syntax.specs.Query.after_first Rattle.sqlite_syntax.specs.Query.select
    Rattle.sqlite_syntax.specs.Table.sees_word Rattle.sqlite_syntax.specs.Table.eat_word Rattle.sqlite_syntax.specs.Table.expect_word
    Rattle.sqlite_syntax.specs.Table.resolution Rattle.sqlite_syntax.specs.Table.on_conflict Rattle.sqlite_syntax.specs.Table.set_to
    Rattle.sqlite_syntax.specs.Table.named_action Rattle.sqlite_syntax.specs.Table.any_action Rattle.sqlite_syntax.specs.Table.action
    Rattle.sqlite_syntax.specs.Table.reference_word Rattle.sqlite_syntax.specs.Table.reference_words_from Rattle.sqlite_syntax.specs.Table.reference_words
    Rattle.sqlite_syntax.specs.Table.initially Rattle.sqlite_syntax.specs.Table.deferrable Rattle.sqlite_syntax.specs.Table.if_missing
    Rattle.sqlite_syntax.specs.Table.in_parentheses Rattle.sqlite_syntax.specs.Table.truth Rattle.sqlite_syntax.specs.Table.default_value
    Rattle.sqlite_syntax.specs.Table.collated Rattle.sqlite_syntax.specs.Table.sorted_name Rattle.sqlite_syntax.specs.Table.sorted_names
    Rattle.sqlite_syntax.specs.Table.parent Rattle.sqlite_syntax.specs.Table.negated_rule Rattle.sqlite_syntax.specs.Table.column_key
    Rattle.sqlite_syntax.specs.Table.reserved_rule Rattle.sqlite_syntax.specs.Table.column_rule Rattle.sqlite_syntax.specs.Table.column_rules_from
    Rattle.sqlite_syntax.specs.Table.column_rules Rattle.sqlite_syntax.specs.Table.column Rattle.sqlite_syntax.specs.Table.table_key
    Rattle.sqlite_syntax.specs.Table.foreign_key Rattle.sqlite_syntax.specs.Table.table_rule Rattle.sqlite_syntax.specs.Table.table_rules
    Rattle.sqlite_syntax.specs.Table.body_from Rattle.sqlite_syntax.specs.Table.table_body Rattle.sqlite_syntax.specs.Table.is_strict
    Rattle.sqlite_syntax.specs.Table.resolves_from Rattle.sqlite_syntax.specs.Table.resolves Rattle.sqlite_syntax.specs.Table.create_table
    Rattle.sqlite_syntax.specs.Table.create_index Rattle.sqlite_syntax.specs.Input.kind Rattle.sqlite_syntax.specs.Input.spelling
    Rattle.sqlite_syntax.specs.Input.next Rattle.sqlite_syntax.specs.Input.left Rattle.sqlite_syntax.specs.Input.refusal
    Rattle.sqlite_syntax.specs.Input.ahead Rattle.sqlite_syntax.specs.Input.read_since Rattle.sqlite_syntax.specs.Input.sees
    Rattle.sqlite_syntax.specs.Input.after Rattle.sqlite_syntax.specs.Input.expect Rattle.sqlite_syntax.specs.Input.separated_from
    Rattle.sqlite_syntax.specs.Input.at_most Rattle.sqlite_syntax.specs.Input.rise Rattle.sqlite_syntax.specs.Input.rise_by
    Rattle.sqlite_syntax.specs.Input.padded Rattle.sqlite_syntax.specs.Input.named_once Rattle.sqlite_syntax.specs.Input.parameter
    Rattle.sqlite_syntax.specs.Input.moment Rattle.sqlite_syntax.specs.Statement.row Rattle.sqlite_syntax.specs.Statement.values
    Rattle.sqlite_syntax.specs.Statement.inserted Rattle.sqlite_syntax.specs.Statement.or_conflict Rattle.sqlite_syntax.specs.Statement.assignment
    Rattle.sqlite_syntax.specs.Statement.assignments Rattle.sqlite_syntax.specs.Statement.returning Rattle.sqlite_syntax.specs.Statement.do_update
    Rattle.sqlite_syntax.specs.Statement.upsert Rattle.sqlite_syntax.specs.Statement.upserts_from Rattle.sqlite_syntax.specs.Statement.upserts
    Rattle.sqlite_syntax.specs.Statement.insert Rattle.sqlite_syntax.specs.Statement.update Rattle.sqlite_syntax.specs.Statement.delete
    Rattle.sqlite_syntax.specs.Statement.signed_text Rattle.sqlite_syntax.specs.Statement.setting Rattle.sqlite_syntax.specs.Statement.argument
    Rattle.sqlite_syntax.specs.Statement.in_main Rattle.sqlite_syntax.specs.Statement.pragma Rattle.sqlite_syntax.specs.Statement.create_view
    Rattle.sqlite_syntax.specs.Statement.create Rattle.sqlite_syntax.specs.Statement.if_exists Rattle.sqlite_syntax.specs.Statement.drop
    Rattle.sqlite_syntax.specs.Statement.begin Rattle.sqlite_syntax.specs.Statement.savepoint_name Rattle.sqlite_syntax.specs.Statement.rollback
    Rattle.sqlite_syntax.specs.Statement.by_word Rattle.sqlite_syntax.specs.Statement.statement Rattle.sqlite_syntax.specs.Statement.semis_from
    Rattle.sqlite_syntax.specs.Statement.semis Rattle.sqlite_syntax.specs.Statement.tail Rattle.sqlite_syntax.specs.Statement.parse_at
    Rattle.sqlite_syntax.specs.Statement.parse Rattle.sqlite_syntax.specs.Header.is_unclosed Rattle.sqlite_syntax.specs.Header.lexes_from
    Rattle.sqlite_syntax.specs.Header.lexes Rattle.sqlite_syntax.specs.Header.full_name Rattle.sqlite_syntax.specs.Header.header
    Rattle.sqlite_syntax.specs.Header.names_object Rattle.sqlite_syntax.specs.Lex.keyword Rattle.sqlite_syntax.specs.Lex.operator
    Rattle.sqlite_syntax.specs.Lex.token Rattle.sqlite_syntax.specs.Lex.same_kind Rattle.sqlite_syntax.specs.Lex.skip
    Rattle.sqlite_syntax.specs.Lex.past_semi Rattle.sqlite_schema.specs.Names.same_name Rattle.sqlite_value.specs.Keys.joined
    Rattle.sqlite_value.specs.Keys.first_key Rattle.sqlite_ast.specs.declared.Expr.TheBlock.hidden-the_row-Expr-0
    Rattle.sqlite_ast.specs.declared.Expr.TheBlock.shown-the_row-Expr-0
    Rattle.sqlite_ast.specs.declared.Expr.TheBlock.hidden-the_row-Expr-1 Rattle.sqlite_ast.specs.declared.Expr.TheBlock.shown-the_row-Expr-1
    Rattle.sqlite_ast.specs.declared.Expr.TheBlock.hidden-the_row-Select-2
    Rattle.sqlite_ast.specs.declared.Expr.TheBlock.shown-the_row-Select-2 Rattle.sqlite_ast.specs.declared.Expr.TheBlock.hidden-the_row-Arm-3
    Rattle.sqlite_ast.specs.declared.Expr.TheBlock.shown-the_row-Arm-3
    Rattle.sqlite_ast.specs.declared.Expr.TheBlock.hidden-the_row-Shown-4 Rattle.sqlite_ast.specs.declared.Expr.TheBlock.shown-the_row-Shown-4
    Rattle.sqlite_ast.specs.declared.Expr.TheBlock.hidden-the_row-Source-5
    Rattle.sqlite_ast.specs.declared.Expr.TheBlock.shown-the_row-Source-5
    Rattle.sqlite_ast.specs.declared.Expr.TheBlock.hidden-the_row-Select-with-4-6
    Rattle.sqlite_ast.specs.declared.Expr.TheBlock.shown-the_row-Select-with-4-6
    Rattle.sqlite_ast.specs.declared.Expr.TheBlock.hidden-the_row-Select-others-2-7
    Rattle.sqlite_ast.specs.declared.Expr.TheBlock.shown-the_row-Select-others-2-7
    Rattle.sqlite_ast.specs.declared.Expr.TheBlock.hidden-the_row-Sort-8
    Rattle.sqlite_ast.specs.declared.Expr.TheBlock.shown-the_row-Sort-8 Rattle.sqlite_ast.specs.declared.Expr.TheViews.out-Expr
    Rattle.sqlite_ast.specs.declared.Expr.TheViews.roll-Expr
    Rattle.sqlite_ast.specs.declared.Expr.TheViews.out-Shown Rattle.sqlite_ast.specs.declared.Expr.TheViews.roll-Shown
    Rattle.sqlite_ast.specs.declared.Expr.TheViews.out-Core
    Rattle.sqlite_ast.specs.declared.Expr.TheViews.roll-Core Rattle.sqlite_ast.specs.declared.Expr.TheViews.out-Select
    Rattle.sqlite_ast.specs.declared.Expr.TheViews.roll-Select
    Rattle.sqlite_ast.specs.declared.Expr.TheViews.out-Source Rattle.sqlite_ast.specs.declared.Expr.TheViews.roll-Source denote.Hole.Carrier.out
    denote.Hole.Carrier.roll denote.Hole.Carrier.shown denote.Hole.Carrier.hidden
    Rattle.std.specs.Fmt.digits Rattle.sqlite_resolve.specs.Compile.first Rattle.sqlite_resolve.specs.Compile.is_stored
syntax = tt

pub understood_as : (s : Schema) (text : List ℕ) (c : Compiled) → compiled s text ≡ Ok c → (understood s text ≡ Ok c) × (reads_listing s text ≡ false)
unfolding understood
understood_as s text c is = (rw is refl, rw is refl)

abbrev pub Reads : Checked Parsed → (Parsed → Type 0) → Type 0
Reads (Ok p) P = P p
Reads (Err e) P = ⊥

pub reads : (r : Checked Parsed) (P : Parsed → Type 0) → Reads r P → (p : Parsed) × (r ≡ Ok p) × P p
reads (Ok p) P h = (p, refl, h)
reads (Err e) P h = absurd h
