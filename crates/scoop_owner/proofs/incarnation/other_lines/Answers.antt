use Rattle.std.proofs.Common.{rules}
use Rattle.std.proofs.lemmas.Iterator.Consumers.{map_from_collect, YieldsList-from_filter, YieldsList-at}
use Rattle.std.proofs.lemmas.Iterator.Splits.{YieldsList-from_lines}
use borrow.Author.Tests.{tests}
use Rattle.scoop_owner.specs.Incarnation.{is_other_line}
use Rattle.scoop_owner.proofs.incarnation.other_lines.Goals as goal

pub returns : goal.returns
returns c =
    rw c.in_ok-collect.was at (map_from_collect c.collect.result c.collect.ensures.ran
    (YieldsList-from_filter _ is_other_line (YieldsList-at c.filter.ensures.source (YieldsList-from_lines c.args.text.now c.lines.ensures.rest)) c.filter.ensures.closure
    (λ x b q k. search (rules, tests))))
