use Rattle.std.proofs.Common.{rules, not}
use Rattle.std.proofs.lemmas.Iterator.Search.{find_from_yields_List}
use Rattle.std.proofs.lemmas.Iterator.Splits.{YieldsList-from_lines}
use borrow.Author.Tests.{tests}
use Rattle.scoop_owner.specs.Owner.{has_line}
use Rattle.scoop_owner.proofs.lines.first_missing.Goals as goal

pub returns : goal.returns
returns c =
    find_from_yields_List (λ l. not (has_line c.args.found.now l)) _ _ _ c.find.ensures.ran (YieldsList-from_lines c.args.wanted.now c.lines.ensures.rest) (λ x b q k. search (rules, tests))
