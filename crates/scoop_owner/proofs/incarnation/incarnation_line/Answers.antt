use Rattle.std.proofs.Common.{rules}
use Rattle.std.proofs.lemmas.Iterator.Search.{find_from_yields_List}
use Rattle.std.proofs.lemmas.Iterator.Splits.{YieldsList-from_lines}
use borrow.Author.Tests.{tests}
use Rattle.scoop_owner.specs.Incarnation.{says_incarnation}
use Rattle.scoop_owner.proofs.incarnation.incarnation_line.Goals as goal

pub returns : goal.returns
returns c =
    find_from_yields_List says_incarnation _ _ _ c.find.ensures.ran (YieldsList-from_lines c.args.text.now c.lines.ensures.rest) (λ x b q k. search (rules, tests))
