use Rattle.std.proofs.Common.{rules}
use Rattle.std.proofs.lemmas.Iterator.Search.{find_from_yields_List}
use Rattle.std.proofs.lemmas.Iterator.Splits.{YieldsList-from_lines}
use borrow.Author.Tests.{tests}
use Rattle.scoop_owner.specs.Newest.{is_ahead}
use Rattle.scoop_owner.proofs.newest.first_older.Goals as goal

pub returns : goal.returns
returns c =
    find_from_yields_List (is_ahead c.args.marks.now) _ _ _ c.find.ensures.ran (YieldsList-from_lines c.args.text.now c.lines.ensures.rest) (λ x b q k. search (rules, tests))
