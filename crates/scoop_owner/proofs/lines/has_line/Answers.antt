use Rattle.std.proofs.Common.{rules}
use Rattle.std.specs.Prelude.{bytes_eq}
use Rattle.std.proofs.lemmas.Iterator.Search.{any_from_yields_List}
use Rattle.std.proofs.lemmas.Iterator.Splits.{YieldsList-from_lines}
use borrow.Author.Tests.{tests}
use Rattle.scoop_owner.proofs.lines.has_line.Goals as goal

pub returns : goal.returns
returns c =
    any_from_yields_List (λ l. bytes_eq l c.args.line.now) _ _ _ c.any.ensures.ran (YieldsList-from_lines c.args.found.now c.lines.ensures.rest) (λ x b q k. search (rules, tests))
