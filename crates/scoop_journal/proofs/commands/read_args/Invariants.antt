use Rattle.std.proofs.Common.{◌≡◌, ◌≤◌, ◌++◌, length}
use Rattle.std.specs.Prelude.{map, option_copied}
use Rattle.std.specs.Fmt.{decimal}
use Rattle.scoop_journal.specs.Line.{spaced}
use Rattle.scoop_journal.specs.Reading.{following}
use Rattle.scoop_journal.proofs.commands.read_args.Given as goal

abbrev pub invariant-loop-rest : goal.invariant-loop-rest
invariant-loop-rest l = following (option_copied l.fn.rest) ≡ spaced (map decimal l.args.items) ++ following (option_copied l.rest)

abbrev pub decreases-loop-rest : goal.decreases-loop-rest
decreases-loop-rest l = length (following (option_copied l.rest))
