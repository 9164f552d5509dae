use Rattle.std.proofs.Common.{refl}
use Rattle.scoop_lines.specs.Words.{words_of}
use Rattle.scoop_system.proofs.ConditionLemmas.{tries_first, tries_none, some_left}
use Rattle.scoop_system.proofs.line.when.+find_tries.Goals as goal

pub returns-then-left-eq0 : goal.returns-then-left-eq0
returns-then-left-eq0 g c = tries_none c.args.left (words_of c.args.line.now) c.if-left-eq0.true

pub returns-in-Err : goal.returns-in-Err
returns-in-Err g c =
    rw (tries_first c.args.left (words_of c.args.line.now) (some_left c.args.left c.if-left-eq0.false), c.in-Err.ensures) refl

pub returns-in-Some : goal.returns-in-Some
returns-in-Some g c =
    rw (tries_first c.args.left (words_of c.args.line.now) (some_left c.args.left c.if-left-eq0.false), c.in-Ok.ensures, c.in-Some.ensures)
    c.find_tries.ensures

pub returns-in-None : goal.returns-in-None
returns-in-None g c =
    rw (tries_first c.args.left (words_of c.args.line.now) (some_left c.args.left c.if-left-eq0.false), c.in-Ok.ensures, c.in-None.ensures)
    c.tries_in.ensures
