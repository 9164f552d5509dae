use Rattle.std.proofs.Common.{◌∙◌, sym}
use Rattle.scoop_lines.proofs.NumberLemmas.{decimal-utf8, too_large}
use Rattle.scoop_lines.proofs.number.decimal.Goals as goal

pub unreachable-requires : goal.unreachable-requires
unreachable-requires c = c.in_default.ensures.cases.0 (decimal-utf8 c.args.word.now (sym c.is_decimal.ensures ∙ c.if-not-is_decimal.false))

pub returns-in-Err : goal.returns-in-Err
returns-in-Err c =
    let told = rw (c.in-Ok.ensures.cases.0) at c.parse.ensures.value.0 in
    too_large c.args.word.now c.in-Err.field-0 (rw c.in-Err.is at told) (sym c.is_decimal.ensures ∙ c.if-not-is_decimal.false)
